use Rattle.std.proofs.Common.{false, refl, sym, subst}
use Rattle.pks_terms.specs.Counts.{AtomCounts}
use Rattle.pks_terms.specs.Sets.{Each}
use Rattle.pks_world.specs.Contents.{places_of}
use Rattle.pks_world.proofs.Counted.{each_left}
use Rattle.pks_world.proofs.Keeping.{told}
use Rattle.pks_world.proofs.worlds.World.remove_atom.Goals as goal

pub returns-clause-world : goal.returns-clause-world
returns-clause-world c = told c.args.self.now c.remove.new.self c.args.a.now false c.remove.ensures.updates.0

pub returns-clause-places : goal.returns-clause-places
unfolding places_of
returns-clause-places c = refl

pub returns-clause-counts : goal.returns-clause-counts
returns-clause-counts c = λ each. record {
  atoms = subst (Each AtomCounts) (sym c.remove.ensures.keys) (each_left AtomCounts _ c.args.self.now.atoms.keys each.atoms);
  places = each.places;
}
