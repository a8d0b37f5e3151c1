use Rattle.std.proofs.Common.{true, refl, sym, subst}
use Rattle.pks_terms.specs.Counts.{AtomCounts}
use Rattle.pks_terms.specs.Meaning.{IsWorld}
use Rattle.pks_terms.specs.Sets.{Each}
use Rattle.pks_terms.specs.Views.{atom_of}
use Rattle.pks_world.specs.Contents.{world_of, places_of}
use Rattle.pks_world.proofs.Counted.{each_key}
use Rattle.pks_world.proofs.Keeping.{told, same_told}
use Rattle.pks_world.proofs.Typing.{atom_typed, of_signature}
use Rattle.pks_world.proofs.worlds.World.put_atom.Goals as goal

pub returns-clause-ok : goal.returns-clause-ok
returns-clause-ok c = told c.args.self.now c.insert.new.self c.args.a.now true c.in_ok-insert.ensures.updates.0

pub returns-clause-places : goal.returns-clause-places
unfolding places_of
returns-clause-places c = refl

pub returns-clause-of_signature : goal.returns-clause-of_signature
returns-clause-of_signature c = λ s m i. of_signature s c.args.self.now _ (subst (IsWorld s) (sym (returns-clause-ok c)) (atom_typed s (world_of c.args.self.now) i.typed (atom_of c.args.a.now) m)) (returns-clause-places c) i

pub returns-in_err-insert-clause-of_signature : goal.returns-in_err-insert-clause-of_signature
unfolding places_of
returns-in_err-insert-clause-of_signature c = λ s m i. of_signature s c.args.self.now _ (subst (IsWorld s) (sym (same_told c.args.self.now c.insert.new.self c.in_err-insert.ensures.err)) i.typed) refl i

pub returns-clause-counts : goal.returns-clause-counts
returns-clause-counts c = λ here each. record {
  atoms = subst (Each AtomCounts) (sym c.in_ok-insert.ensures.keys) (each_key AtomCounts _ c.args.self.now.atoms.keys c.args.a.now here each.atoms);
  places = each.places;
}
