use Rattle.std.proofs.Common.{◌≡◌, ◌∙◌, List, map, ap, sym, subst}
use Rattle.pks_terms.specs.Sets.{Each}
use Rattle.pks_terms.specs.Actions.{SeenAll, seen}
use Rattle.pks_terms.specs.declared.literal.PredAtom.{PredAtom}
use Rattle.pks_terms.specs.declared.schema.Sense as sense
use Rattle.pks_terms.specs.Views.{atom_of, pattern_of, sense_of, signature_of}
use Rattle.pks_world.specs.Contents.{ground, world_of}
use Rattle.pks_world.specs.Observed.{objects_in}
use Rattle.pks_world.proofs.Instances.{objects_found, ground_found}
use Rattle.pks_world.proofs.worlds.World.find_by.Goals as goal

pub returns-in_ok-found-in-All-clause-seen : goal.returns-in_ok-found-in-All-clause-seen
returns-in_ok-found-in-All-clause-seen c =
    let s = signature_of c.args.s.now in let w = world_of c.args.self.now in
    ap (λ (atoms : List PredAtom). SeenAll (pattern_of c.in-All.x) (map objects_in atoms)) c.of.ensures
    ∙ ap (SeenAll (pattern_of c.in-All.x)) (objects_found c.in-All.x.pred.0 c.in_ok-found-in-All.found.items _ c.in_ok-found-in-All.ensures.says)
    ∙ ap (λ (x : sense.Sense). seen s w (sense_of x)) (sym c.in-All.is)

pub returns-in_ok-found-in-All-clause-ground : goal.returns-in_ok-found-in-All-clause-ground
returns-in_ok-found-in-All-clause-ground c =
    subst (λ (atoms : List PredAtom). Each (λ a. atom_of a ≡ ground c.in-All.x.pred.0 (objects_in a)) atoms) (sym c.of.ensures) (ground_found c.in-All.x.pred.0 c.in_ok-found-in-All.found.items _ c.in_ok-found-in-All.ensures.says)
