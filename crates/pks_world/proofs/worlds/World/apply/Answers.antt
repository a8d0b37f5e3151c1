use Rattle.std.proofs.Common.{ap, ◌∙◌, sym, subst, map}
use Rattle.pks_terms.specs.Actions.{effect_at}
use Rattle.pks_terms.specs.Worlds.{World}
use Rattle.pks_terms.specs.Meaning.{IsWorld}
use Rattle.pks_terms.specs.Views.{given_of, instance_of, effect_of, problem_of}
use Rattle.pks_world.specs.Contents.{world_of, places_of}
use Rattle.pks_world.specs.First.{AreAllPlaces}
use Rattle.pks_world.specs.Applied.{written_by}
use Rattle.pks_world.proofs.Effects.{valid_numbered, applied_is, applied_typed, all_listed}
use Rattle.pks_world.proofs.worlds.World.apply.Goals as goal

pub returns-clause-world : goal.returns-clause-world
returns-clause-world c = λ v.
    let p = problem_of c.args.p.now in
    let w = world_of c.args.self.now in
    let es = c.effects_of.result.now in
    c.in_ok-write_all.ensures.world (valid_numbered p c.args.i.now.act.0 es v c.effects_of.ensures.says)
    ∙ ap (λ (x : World). written_by w (map (effect_at (given_of c.args.i.now)) (map effect_of es)) x) c.in_ok-next.ensures.world
    ∙ applied_is p w (instance_of c.args.i.now) es c.effects_of.ensures.says

pub returns-clause-of_signature : goal.returns-clause-of_signature
returns-clause-of_signature c = λ v a i.
    let p = problem_of c.args.p.now in
    record {
      typed = subst (IsWorld p.signature) (sym (returns-clause-world c v)) (applied_typed p (world_of c.args.self.now) (instance_of c.args.i.now) v a i.typed);
      places = all_listed p.signature (places_of c.in_ok-next.next) (places_of c.write_all.new.self) c.in_ok-write_all.ensures.places (subst (AreAllPlaces p.signature) (sym c.in_ok-next.ensures.places) i.places);
    }
