use Rattle.std.proofs.Common.{◌≡◌}
use Rattle.std.specs.List.{flat_map}
use Rattle.pks_terms.specs.Views.{problem_of}
use Rattle.pks_query_lookup.specs.Fives.{five_of}
use Rattle.pks_branch.specs.WalkViews.{beginnings_of}
use Rattle.pks_branch.specs.Walks.{begun, steps_in}
use Rattle.pks_branch.proofs.walking.next_instance.Given as goal

abbrev pub invariant-each : goal.invariant-each
invariant-each l =
    let left = flat_map (begun (problem_of l.fn.p) (five_of l.fn.d)) in
    left (beginnings_of l.beginnings.items) ≡ left (beginnings_of l.fn.beginnings.items)

abbrev pub decreases-each : goal.decreases-each
decreases-each l = steps_in (problem_of l.fn.p) (five_of l.fn.d) (beginnings_of l.beginnings.items)
