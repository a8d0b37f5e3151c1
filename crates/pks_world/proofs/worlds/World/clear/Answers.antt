use Rattle.std.proofs.Common.{refl, not, rules, sym, subst}
use Rattle.std.proofs.lemmas.Fn.{filter_same}
use Rattle.pks_terms.specs.declared.literal.PredAtom.{PredAtom}
use Rattle.pks_terms.specs.Counts.{AtomCounts}
use Rattle.pks_terms.specs.Sets.{Each}
use Rattle.pks_terms.specs.Views.{atom_of, pattern_of}
use Rattle.pks_terms.proofs.ListLaws.{each_kept}
use Rattle.pks_world.specs.Contents.{world_of, places_of}
use Rattle.pks_world.specs.Applied.{is_of_pattern}
use Rattle.pks_world.proofs.Clearing.{cleared}
use Rattle.pks_world.proofs.worlds.World.clear.Goals as goal

pub returns-clause-places : goal.returns-clause-places
unfolding places_of
returns-clause-places c = refl

pub returns-clause-world : goal.returns-clause-world
returns-clause-world c =
    let test = λ (a : PredAtom). not (is_of_pattern (world_of c.args.old.now) (pattern_of c.args.x.now) (atom_of a)) in
    cleared (world_of c.args.old.now) c.args.self.now c.retain.new.self (pattern_of c.args.x.now)
    (filter_same _ test _ (λ x b f r. search rules) _ _ c.retain.ensures.filtered)

pub returns-clause-counts : goal.returns-clause-counts
returns-clause-counts c = λ each.
    let test = λ (a : PredAtom). not (is_of_pattern (world_of c.args.old.now) (pattern_of c.args.x.now) (atom_of a)) in
    record {
      atoms = subst (Each AtomCounts) (sym (filter_same _ test _ (λ x b f r. search rules) _ _ c.retain.ensures.filtered)) (each_kept AtomCounts test c.args.self.now.atoms.keys each.atoms);
      places = each.places;
    }
