use Rattle.std.proofs.Common.{◌≡◌, ◌≤◌, ◌++◌, ◌⊎◌, true, List, [], map, flat_map, length, sym, ◌∙◌, subst, inl, inr, ⊎_elim}
use Rattle.pks_terms.specs.declared.schema.Schema.{Schema}
use Rattle.pks_terms.specs.declared.problem.Aim.{Aim}
use Rattle.pks_terms.specs.declared.literal.Literal.{Literal}
use Rattle.pks_terms.specs.Sets.{Each, IsIn}
use Rattle.pks_terms.specs.Worlds.{World, true_in}
use Rattle.pks_terms.specs.Actions.{Instance}
use Rattle.pks_terms.specs.Problems as problems
use Rattle.pks_terms.specs.Views.{schema_of, problem_of, aim_of, literals_in}
use Rattle.pks_search_distance.specs.Runs.{MayBeDone, IsAim}
use Rattle.pks_search_distance.specs.Unmet.{AreWanted, MeetsAtMost}
use Rattle.pks_search_distance.specs.Landmarks.{AddsMarks, ReachAtMost, most_reached}
use Rattle.pks_search_distance.specs.Marked.{landmarks_of}
use Rattle.pks_search_distance.specs.Relaxed.{all_ground_actions, ground_action_of_instance}
use Rattle.pks_search_distance.specs.Gained.{ground_action_of}
use Rattle.pks_search_distance.specs.Counted.{most_met}
use Rattle.pks_search_distance.proofs.Grounding.{done_in, few_parameters}
use Rattle.pks_search_distance.proofs.Unmet.{ground_actions_meet}
use Rattle.pks_search_distance.proofs.Marks.{ground_actions_reach}
use Rattle.pks_search_distance.proofs.ground_actions.GroundActions.of.Goals as goal

pub add_all_ground_actions-requires-clause-few : goal.add_all_ground_actions-requires-clause-few
add_all_ground_actions-requires-clause-few c = subst (Each (λ (x : Schema). length x.params ≤ 4)) (sym c.as_slice.ensures) (few_parameters c.args.p.now c.requires)

pub returns : goal.returns
returns c =
    let p = problem_of c.args.p.now in
    let ground_actions = map ground_action_of c.add_all_ground_actions.new.to.items in
    let wanted = literals_in c.add_all_wanted.new.to.items in
    let all : ground_actions ≡ flat_map (all_ground_actions p.signature) p.schemas = c.in_ok-add_all_ground_actions.ensures.says ∙ (λ i. map ground_action_of (c.new-ground_actions.ensures.items i) ++ flat_map (all_ground_actions p.signature) (map schema_of (c.as_slice.ensures i))) in
    let listed : (v : World) (i : Instance) → MayBeDone p v i → ((problems.schema_of p i.action).effects ≡ []) ⊎ IsIn (ground_action_of_instance p i) ground_actions = λ v i m. ⊎_elim (λ e. inl e) (λ k. inr (subst (IsIn (ground_action_of_instance p i)) (sym all) k)) (done_in p v i m) in
    let most : c.most_met-met.result ≡ most_met ground_actions wanted = c.most_met-met.ensures ∙ (λ i. most_met (map ground_action_of (c.as_slice-3.ensures.value i)) (literals_in (c.as_slice-4.ensures.value i))) in
    let are : AreWanted p wanted = λ w g. c.in_ok-add_all_wanted.ensures w (subst (λ (aims : List Aim). Each (IsAim w) (map aim_of aims)) (sym c.as_slice-2.ensures) g)
    (subst (λ (ls : List Literal). Each (λ l. true_in w l ≡ true) (literals_in ls)) (sym c.new-wanted.ensures.items) tt) in
    let marks = landmarks_of c.in_ok-marks.marks.items in
    let added : AddsMarks wanted [] marks = subst (λ (ls : List Literal). AddsMarks (literals_in ls) [] marks) c.as_slice-6.ensures.value c.in_ok-marks.ensures in
    let reached : c.most_reached-reached.result ≡ most_reached ground_actions marks = c.most_reached-reached.ensures ∙ (λ i. most_reached (map ground_action_of (c.as_slice-7.ensures.value i)) (landmarks_of (c.as_slice-8.ensures.value i))) in
    record {
      listed = λ w. record {
        placed = c.in_ok-add_all_ground_actions.ensures.placed;
        listed = λ n v i l m. listed v i m;
        landmarks = λ v g. added v (are v g) tt;
        reached = subst (ReachAtMost p marks) (sym reached) (ground_actions_reach p ground_actions marks listed);
      };
      wanted = are;
      few = subst (MeetsAtMost p wanted) (sym most) (ground_actions_meet p ground_actions wanted listed);
      counted = c.in_ok-counts.ensures p;
    }
