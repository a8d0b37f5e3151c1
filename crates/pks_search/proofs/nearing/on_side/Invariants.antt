use Rattle.pks_terms.specs.ChoiceViews.{choice_of, side_of}
use Rattle.pks_search.specs.Near.{ComeFrom, IsKept}
use Rattle.pks_search.proofs.nearing.on_side.Given as goal

abbrev pub invariant-loop-x : goal.invariant-loop-x
invariant-loop-x l = ComeFrom (IsKept (choice_of l.c) (side_of l.side)) l.fn.near l.on.items
