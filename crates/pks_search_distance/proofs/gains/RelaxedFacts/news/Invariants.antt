use Rattle.std.proofs.Common.{[], map}
use Rattle.pks_world.specs.Contents.{world_of}
use Rattle.pks_search_distance.specs.Relaxed.{ground_action_news}
use Rattle.pks_search_distance.specs.Gained.{chances_of, new_of, ground_action_of}
use Rattle.pks_search_distance.proofs.Lists.{AddedFrom}
use Rattle.pks_search_distance.proofs.gains.RelaxedFacts.news.Given as goal

abbrev pub invariant-loop-ground_action : goal.invariant-loop-ground_action
invariant-loop-ground_action l = AddedFrom ground_action_of (ground_action_news (chances_of (world_of l.w) l.self)) l.ground_actions [] l.ground_action-index (map new_of l.found.items)
