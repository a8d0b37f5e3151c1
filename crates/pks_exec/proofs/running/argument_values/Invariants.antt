use Rattle.std.proofs.Common.{◌≡◌, ◌++◌, map, drop}
use Rattle.pks_terms.specs.Syntax.{Object}
use Rattle.pks_terms.specs.Worlds.{inner_value}
use Rattle.pks_terms.specs.Knowledge.{grounded}
use Rattle.pks_terms.specs.Views.{inner_of, instance_of}
use Rattle.pks_world.specs.Contents.{world_of}
use Rattle.pks_exec.specs.Runs.{argument_of}
use Rattle.pks_exec.proofs.running.argument_values.Given as goal

abbrev pub invariant-loop-t : goal.invariant-loop-t
invariant-loop-t l =
    map argument_of l.values.items ++ map (λ t. Object (inner_value (world_of l.w) t)) (map inner_of (drop l.t-index l.t-items)) ≡ (grounded (world_of l.w) (instance_of l.i)).arguments
