use Rattle.std.proofs.Common.{◌≡◌, map, drop}
use Rattle.std.specs.List.{list_any}
use Rattle.pks_world.specs.Contents.{world_of}
use Rattle.pks_world.specs.Few.{few_of}
use Rattle.pks_search_distance.specs.Gained.{chances_of}
use Rattle.pks_search_distance.proofs.gains.RelaxedFacts.some_may_be.Given as goal

abbrev pub invariant-loop-ds : goal.invariant-loop-ds
invariant-loop-ds l =
    list_any ((chances_of (world_of l.w) l.self).truth l.positive l.pred.0) (map few_of (drop l.ds-index l.lists))
    ≡ list_any ((chances_of (world_of l.w) l.self).truth l.positive l.pred.0) (map few_of l.lists)
