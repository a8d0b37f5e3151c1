use Rattle.pks_terms.specs.Views.{instance_of, problem_of}
use Rattle.pks_search.specs.Near.{ComeFrom}
use Rattle.pks_search_witness.specs.Apart.{AreAfter}
use Rattle.pks_search.proofs.twinning.twins_after.Given as goal

abbrev pub invariant-loop-x : goal.invariant-loop-x
invariant-loop-x l = ComeFrom (AreAfter (problem_of l.p) (instance_of l.step)) l.fn.twins l.next.items
