use Rattle.std.proofs.Common.{◌++◌, [], map, ap, ◌∙◌}
use Rattle.pks_world.specs.Contents.{world_of}
use Rattle.pks_search_distance.specs.declared.ground_actions.GroundAction.{GroundAction}
use Rattle.pks_search_distance.specs.Relaxed.{ground_action_news}
use Rattle.pks_search_distance.specs.Gained.{chances_of, new_of, ground_action_of}
use Rattle.pks_search_distance.proofs.Lists.{added_more, added_all}
use Rattle.pks_search_distance.proofs.gains.RelaxedFacts.news.Goals as goal

pub loop-ground_action-preserved : goal.loop-ground_action-preserved
loop-ground_action-preserved c =
    let m = chances_of (world_of c.args.w.now) c.args.self.now in
    added_more ground_action_of (ground_action_news m) c.args.ground_actions.now [] c.loop-ground_action.ground_action-index c.ground_action-item.result (map new_of c.loop-ground_action.found.items) (map new_of c.add_ground_action_news.new.to.items) c.loop-ground_action-test.true
    (c.in_ok-add_ground_action_news.ensures ∙ ap (λ (x : GroundAction). map new_of c.loop-ground_action.found.items ++ ground_action_news m (ground_action_of x)) c.ground_action-item.is) c.loop-ground_action.invariant

pub returns : goal.returns
returns c =
    added_all ground_action_of (ground_action_news (chances_of (world_of c.args.w.now) c.args.self.now)) c.args.ground_actions.now [] c.loop-ground_action.ground_action-index (map new_of c.loop-ground_action.found.items) c.loop-ground_action-test.false c.loop-ground_action.invariant
