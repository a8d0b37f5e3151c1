use Rattle.std.proofs.Common.{◌≡◌}
use Rattle.std.specs.Ordering.{eq_by_cmp}
use Rattle.std.specs.Cmp.Lexicographic.{pointwise}
use Rattle.pks_query.proofs.same.same_items.Given as goal

abbrev pub invariant-loop-item : goal.invariant-loop-item
invariant-loop-item g l =
    pointwise (eq_by_cmp g.T.Ord.cmp) l.item-iterator l.right
    ≡ pointwise (eq_by_cmp g.T.Ord.cmp) l.fn.left l.fn.right
