use Rattle.std.proofs.Common.{◌≡◌, ◌∷◌, ◌++◌, map}
use Rattle.pks_terms.specs.Knowledge.{Did, Saw, grounded, observations}
use Rattle.pks_terms.specs.Views.{instance_of, problem_of}
use Rattle.pks_world.specs.Contents.{world_of}
use Rattle.pks_world.specs.Observed.{seen_of}
use Rattle.pks_exec.specs.Runs.{event_of}
use Rattle.pks_exec.proofs.running.add_action.Given as goal

abbrev pub invariant-loop-found : goal.invariant-loop-found
invariant-loop-found l =
    map event_of l.to.items ++ map Saw (map seen_of l.found-iterator.rest.items)
    ≡ map event_of l.fn.to.items ++ Did (grounded (world_of l.w) (instance_of l.i)) ∷ map Saw (observations (problem_of l.p) (world_of l.after) (grounded (world_of l.w) (instance_of l.i)))
