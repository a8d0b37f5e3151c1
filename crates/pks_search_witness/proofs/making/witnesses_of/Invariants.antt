use Rattle.std.proofs.Common.{◌≤◌, length}
use Rattle.pks_terms.specs.Sets.{Each}
use Rattle.pks_terms.specs.Problems.{IsCompatible}
use Rattle.pks_terms.specs.Views.{problem_of}
use Rattle.pks_world.specs.Contents.{world_of}
use Rattle.pks_search_witness.proofs.making.witnesses_of.Given as goal

abbrev pub invariant-loop-turn : goal.invariant-loop-turn
invariant-loop-turn l = Each (λ w. IsCompatible (problem_of l.p) (world_of w)) l.worlds.items × (length l.worlds.items ≤ l.turn)
