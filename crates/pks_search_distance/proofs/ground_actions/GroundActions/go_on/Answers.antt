use Rattle.std.proofs.Common.{List, map, flat_map, ap, ◌∙◌, subst}
use Rattle.pks_terms.specs.Sets.{Each}
use Rattle.pks_world.specs.Contents.{world_of}
use Rattle.pks_search_distance.specs.declared.news.New as news
use Rattle.pks_search_distance.specs.declared.ground_actions.GroundAction as ground_action
use Rattle.pks_search_distance.specs.Relaxed.{ground_action_news, IsNewIn}
use Rattle.pks_search_distance.specs.Gained.{chances_of, some_new, new_of, ground_action_of}
use Rattle.pks_search_distance.proofs.ground_actions.GroundActions.go_on.Goals as goal

pub returns-clause-has : goal.returns-clause-has
returns-clause-has c =
    let w = world_of c.args.w.now in
    let m = chances_of w c.args.gains.now in
    let n = chances_of w c.take_all.new.self in
    subst (Each (IsNewIn n)) (ap (λ (xs : List news.New). map new_of xs) c.as_slice-2.ensures.value ∙ c.in_ok-found.ensures ∙ ap (λ (xs : List ground_action.GroundAction). flat_map (ground_action_news m) (map ground_action_of xs)) c.as_slice.ensures.value) c.in_ok-grew.ensures.has

pub returns-clause-told : goal.returns-clause-told
returns-clause-told c =
    let w = world_of c.args.w.now in
    let m = chances_of w c.args.gains.now in
    c.in_ok-grew.ensures.told
    ∙ ap (some_new w c.args.gains.now) (ap (λ (xs : List news.New). map new_of xs) c.as_slice-2.ensures.value ∙ c.in_ok-found.ensures ∙ ap (λ (xs : List ground_action.GroundAction). flat_map (ground_action_news m) (map ground_action_of xs)) c.as_slice.ensures.value)
