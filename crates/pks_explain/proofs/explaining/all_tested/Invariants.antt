use Rattle.std.proofs.Common.{◌≡◌, map, length}
use Rattle.std.specs.Vec.Iter.{into_iter_items, into_iter_len}
use Rattle.pks_terms.specs.Views.{problem_of}
use Rattle.pks_explain.specs.EntryViews.{entries_of, owed_of}
use Rattle.pks_explain.proofs.Accepted.{AreSoFar}
use Rattle.pks_explain.proofs.explaining.all_tested.Given as goal

abbrev pub invariant-loop-one : goal.invariant-loop-one
invariant-loop-one l = AreSoFar (problem_of l.p) (entries_of l.entries.items) (map owed_of (into_iter_items l.one-iterator)) (map owed_of l.fn.all.items)
    × (into_iter_len l.one-iterator ≡ length (into_iter_items l.one-iterator))
