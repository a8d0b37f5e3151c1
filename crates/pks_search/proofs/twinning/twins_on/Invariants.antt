use Rattle.pks_terms.specs.ChoiceViews.{choice_of, side_of}
use Rattle.pks_search.specs.Near.{ComeFrom}
use Rattle.pks_search.specs.Twins.{AreKept}
use Rattle.pks_search.proofs.twinning.twins_on.Given as goal

abbrev pub invariant-loop-x : goal.invariant-loop-x
invariant-loop-x l = ComeFrom (AreKept (choice_of l.c) (side_of l.side)) l.fn.twins l.on.items
