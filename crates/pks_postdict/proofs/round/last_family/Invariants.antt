use Rattle.std.proofs.Common.{◌≡◌, ℕ}
use Rattle.pks_terms.specs.Settling.{settle_rounds}
use Rattle.pks_terms.specs.Views.{problem_of}
use Rattle.pks_postdict.specs.Families.{family_of}
use Rattle.pks_postdict.specs.Growing.{AreSpared}
use Rattle.pks_postdict.proofs.Rooms.{room}
use Rattle.pks_postdict.proofs.round.last_family.Given as goal

abbrev pub invariant-rounds : goal.invariant-rounds
invariant-rounds l = record {
  count : ℕ;
  reached : family_of l.now ≡ settle_rounds (problem_of l.p) count (family_of l.fn.family);
  spared : AreSpared (problem_of l.p) l.now.start l.now.later.items;
}

abbrev pub decreases-rounds : goal.decreases-rounds
decreases-rounds l = room l.now
