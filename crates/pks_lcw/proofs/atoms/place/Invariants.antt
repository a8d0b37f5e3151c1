use Rattle.std.proofs.Common.{length, ◌-◌, ◌≡◌, ◌+◌, drop}
use Rattle.std.specs.Ordering.{on}
use Rattle.pks_terms.specs.Orders.{atom_cmp}
use Rattle.pks_terms.specs.Views.{atom_of}
use Rattle.pks_terms.specs.Placing.{count_below}
use Rattle.pks_lcw.proofs.atoms.place.Given as goal

abbrev pub invariant-loop-below : goal.invariant-loop-below
invariant-loop-below l = count_below (on atom_of atom_cmp) l.a l.atoms ≡ l.below + count_below (on atom_of atom_cmp) l.a (drop l.below l.atoms)

abbrev pub decreases-loop-below : goal.decreases-loop-below
decreases-loop-below l = length l.atoms - l.below
