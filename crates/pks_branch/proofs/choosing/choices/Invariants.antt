use Rattle.std.proofs.Common.{◌≡◌, ◌++◌, length}
use Rattle.pks_terms.specs.Branching.{choices}
use Rattle.pks_terms.specs.Views.{problem_of}
use Rattle.pks_query_lookup.specs.Fives.{five_of}
use Rattle.pks_terms.specs.ChoiceViews.{choices_of}
use Rattle.pks_branch.specs.WalkViews.{left_in}
use Rattle.pks_branch.proofs.choosing.choices.Given as goal

abbrev pub invariant-each : goal.invariant-each
invariant-each l = choices_of l.all.items ++ left_in (problem_of l.fn.p) (five_of l.fn.d) l.walk ≡ choices (problem_of l.fn.p) (five_of l.fn.d)

abbrev pub decreases-each : goal.decreases-each
decreases-each l = length (left_in (problem_of l.fn.p) (five_of l.fn.d) l.walk)
