-- The measure: 32 steps for each further moment.
use Rattle.std.proofs.Common.{◌+◌, ◌*◌, length, option_map}
use Rattle.pks_terms.specs.Settling.{last_moment}
use Rattle.pks_terms.specs.Views.{problem_of}
use Rattle.pks_plan.specs.TreeViews.{tree_of}
use Rattle.pks_branch.specs.WalkViews.{left_in}
use Rattle.pks_search.specs.Limits.{IsFoundBefore}
use Rattle.pks_search.specs.Spots.{AreSo}
use Rattle.pks_search.proofs.within.+searching.Given as goal

abbrev pub decreases-best_within : goal.decreases-best_within
decreases-best_within l = l.n * 32 + 4

abbrev pub decreases-best_unmet : goal.decreases-best_unmet
decreases-best_unmet l = l.n * 32 + 3

abbrev pub decreases-best_of_fewer : goal.decreases-best_of_fewer
decreases-best_of_fewer l = l.n * 32 + 2

abbrev pub decreases-best_of_left : goal.decreases-best_of_left
decreases-best_of_left l = l.n * 32 + 1

abbrev pub decreases-best_of_rest : goal.decreases-best_of_rest
decreases-best_of_rest l = l.n * 32

abbrev pub decreases-best_of_choices : goal.decreases-best_of_choices
decreases-best_of_choices l = l.n * 32 + 31

abbrev pub decreases-best_by_choice : goal.decreases-best_by_choice
decreases-best_by_choice l = l.n * 32 + 30

abbrev pub decreases-best_by_action : goal.decreases-best_by_action
decreases-best_by_action l = l.n * 32 + 29

abbrev pub decreases-best_after : goal.decreases-best_after
decreases-best_after l = l.n * 32 + 5

abbrev pub decreases-best_by_branch : goal.decreases-best_by_branch
decreases-best_by_branch l = l.n * 32 + 29

abbrev pub decreases-best_by_cases : goal.decreases-best_by_cases
decreases-best_by_cases l = l.n * 32 + 29

abbrev pub decreases-best_chain : goal.decreases-best_chain
decreases-best_chain l = l.n * 32 + 6 + length l.objects.now

abbrev pub decreases-best_taking : goal.decreases-best_taking
decreases-best_taking l = l.n * 32 + 5

abbrev pub invariant-best_of_choices-each : goal.invariant-best_of_choices-each
invariant-best_of_choices-each l = IsFoundBefore (problem_of l.fn.spot.problem.now) l.fn.spot.history.now (l.n + 1) l.limit (left_in (problem_of l.fn.spot.problem.now) (last_moment l.fn.spot.history.now) l.walk) (option_map tree_of l.best) l.below × AreSo (problem_of l.fn.spot.problem.now) l.notes

abbrev pub decreases-best_of_choices-each : goal.decreases-best_of_choices-each
decreases-best_of_choices-each l = length (left_in (problem_of l.fn.spot.problem.now) (last_moment l.fn.spot.history.now) l.walk)
