use Rattle.std.proofs.Common.{◌≡◌, ◌++◌, map, take}
use Rattle.pks_world.specs.Contents.{ground}
use Rattle.pks_search_distance.specs.Relaxed.{NewTruth}
use Rattle.pks_world.specs.Few.{few_of}
use Rattle.pks_search_distance.specs.Gained.{new_of}
use Rattle.pks_search_distance.proofs.news.add_truths.Given as goal

abbrev pub invariant-loop-ds : goal.invariant-loop-ds
invariant-loop-ds l = map new_of l.to.items ≡ map new_of l.fn.to.items ++ map (λ ds. NewTruth l.positive (ground l.pred.0 ds)) (map few_of (take l.ds-index l.lists))
