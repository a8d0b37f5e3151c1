use Rattle.std.proofs.Common.{◌≡◌, ◌&&◌, ◌||◌, not, nat_lt, map, drop}
use Rattle.std.specs.List.{list_any, list_all}
use Rattle.pks_search_distance.specs.Gained.{ground_action_of}
use Rattle.pks_search_distance.specs.Landmarks.{may_reach, reaches, is_light}
use Rattle.pks_search_distance.specs.Marked.{landmark_of, landmarks_of}
use Rattle.pks_search_distance.proofs.marking.is_light.Given as goal

abbrev pub invariant-loop-x : goal.invariant-loop-x
invariant-loop-x l =
    let c = landmark_of l.c in
    let left = map ground_action_of (drop l.x-index l.ground_actions) in
    ((l.is_reached || list_any (λ x. may_reach x c) left) && list_all (λ x. not (may_reach x c) || nat_lt (reaches x (landmarks_of l.marks)) l.most) left)
    ≡ is_light (map ground_action_of l.ground_actions) (landmarks_of l.marks) c l.most
