use Rattle.pks_terms.specs.Views.{instance_of, problem_of}
use Rattle.pks_search_distance.specs.Remembered.{AreItsGroundActions}
use Rattle.pks_search.specs.Near.{ComeFrom, Becomes}
use Rattle.pks_search.proofs.nearing.all_after.Given as goal

abbrev pub invariant-loop-x : goal.invariant-loop-x
invariant-loop-x l = ComeFrom (Becomes (problem_of l.p) (instance_of l.step)) l.fn.near l.next.items × AreItsGroundActions (problem_of l.p) l.ground_actions
