-- Landmarks, and what ground actions make of them.
use Rattle.std.proofs.Common.{◌≡◌, ◌+◌, ◌≤◌, ◌⊎◌, ◌&&◌, ◌++◌, Bool, true, false, not, List, [], ◌∷◌, map, max, Option, Some, None, refl, sym, ◌∙◌, subst, inl, inr, ⊎_elim, true≢false, arith}
use Rattle.std.specs.Prelude.{count_by}
use Rattle.std.specs.List.{list_any}
use Rattle.std.specs.Option.{IfSome, option_to_list}
use Rattle.std.proofs.lemmas.List.Recursion.{is_count_by}
use Rattle.std.proofs.lemmas.Bool.{or_cases, or_left, or_right, or_parts, or_from}
use Rattle.pks_terms.specs.Sets.{Each, IsIn}
use Rattle.pks_terms.specs.Syntax.{Inner, Literal}
use Rattle.pks_terms.specs.Orders.{literal_eq}
use Rattle.pks_terms.specs.Worlds.{World, true_in}
use Rattle.pks_terms.specs.Queries.{Query}
use Rattle.pks_terms.specs.Actions.{Effect, Instance, query_at, effect_at, applied_to}
use Rattle.pks_terms.specs.Problems.{Problem, schema_of}
use Rattle.pks_terms.specs.Knowledge.{after_action}
use Rattle.pks_terms.proofs.OrderLaws.{same_literal}
use Rattle.pks_search_distance.specs.Runs.{asked, IsSo, MayBeDone}
use Rattle.pks_search_distance.specs.Relaxed.{GroundAction, asked_at, ground_action_of_instance}
use Rattle.pks_search_distance.specs.Counted.{may_meet}
use Rattle.pks_search_distance.specs.Landmarks.{is_met, unmet_marks, ReachAtMost, is_of_mark, may_reach, reaches, most_reached}
use Rattle.pks_search_distance.specs.Marked.{landmark_of}
use Rattle.pks_search_distance.specs.declared.landmarks.Landmark.{Landmark}
use Rattle.pks_search_distance.proofs.Unmet.{less_if, more_if, stays_unmet, count}

-- ---- counts as the program has them

pub counted_unmet : (w : World) (cs : List Landmark) → unmet_marks w (map landmark_of cs) ≡ count_by (λ c. not (is_met w (landmark_of c))) cs
counted_unmet w = is_count_by (λ cs. unmet_marks w (map landmark_of cs)) (λ c. not (is_met w (landmark_of c))) refl (λ c cs. less_if (is_met w (landmark_of c)) (unmet_marks w (map landmark_of cs)))

pub counted_reaches : (x : GroundAction) (cs : List Landmark) → reaches x (map landmark_of cs) ≡ count_by (λ c. may_reach x (landmark_of c)) cs
counted_reaches x = is_count_by (λ cs. reaches x (map landmark_of cs)) (λ c. may_reach x (landmark_of c)) refl (λ c cs. more_if (may_reach x (landmark_of c)) (reaches x (map landmark_of cs)))

-- ---- one ground action

module _ (v : World) where
  none_met : (es : List Effect) (c : List Literal) → list_any (may_meet es) c ≡ false → is_met v c ≡ false → is_met (applied_to v es) c ≡ false
  none_met es [] m h = refl
  none_met es (l ∷ c) m h =
      let a = or_parts (may_meet es l) (list_any (may_meet es) c) m in
      let b = or_parts (true_in v l) (is_met v c) h in
      or_from (true_in (applied_to v es) l) (is_met (applied_to v es) c) (stays_unmet v es l a.0 b.0) (none_met es c a.1 b.1)

  pub one_met : (c : List Literal) (l : Literal) → true_in v l ≡ true → is_of_mark l c ≡ true → is_met v c ≡ true
  one_met [] l t h = absurd (true≢false (sym h))
  one_met (k ∷ c) l t h =
      ⊎_elim (λ e. or_left (true_in v k) (is_met v c) (subst (λ m. true_in v m ≡ true) (sym (same_literal k l e)) t)) (λ e. or_right (true_in v k) (is_met v c) (one_met c l t e))
      (or_cases (literal_eq k l) (is_of_mark l c) h)

  asked_met : (pre c : List Literal) → Each (λ l. true_in v l ≡ true) pre → list_any (λ l. is_of_mark l c) pre ≡ true → is_met v c ≡ true
  asked_met [] c k h = absurd (true≢false (sym h))
  asked_met (l ∷ pre) c k h = ⊎_elim (λ e. one_met c l k.0 e) (λ e. asked_met pre c k.1 e) (or_cases (is_of_mark l c) (list_any (λ l. is_of_mark l c) pre) h)

  unasked : (a b : Bool) → (a ≡ true → ⊥) → (not a && b) ≡ false → b ≡ false
  unasked true b f h = absurd (f refl)
  unasked false b f h = h

  module _ (x : GroundAction) (so : Each (λ l. true_in v l ≡ true) x.pre) where
    -- a landmark that is unmet and that the ground action can't meet stays unmet
    mark_stays : (c : List Literal) → may_reach x c ≡ false → is_met v c ≡ false → is_met (applied_to v x.effects) c ≡ false
    mark_stays c m h =
        none_met x.effects c
        (unasked (list_any (λ l. is_of_mark l c) x.pre) (list_any (may_meet x.effects) c) (λ e. true≢false (sym (asked_met x.pre c so e) ∙ h)) m) h

    -- no more are met than the ground action may meet
    pub reaches_enough : (cs : List (List Literal)) → unmet_marks v cs ≤ reaches x cs + unmet_marks (applied_to v x.effects) cs
    reaches_enough [] = omega arith
    reaches_enough (c ∷ cs) =
        count v x.effects (is_met v c) (is_met (applied_to v x.effects) c) (may_reach x c) (unmet_marks v cs) (reaches x cs) (unmet_marks (applied_to v x.effects) cs) (mark_stays c) (reaches_enough cs)

  -- what preconditions ask for is so
  listed : (o : Option Literal) (ls : List Literal) → IfSome o (λ l. true_in v l ≡ true) → Each (λ l. true_in v l ≡ true) ls → Each (λ l. true_in v l ≡ true) (option_to_list o ++ ls)
  listed None ls h k = k
  listed (Some l) ls h k = (h, k)

  asked_so : (given : List Inner) (qs : List Query) → Each (λ q. IsSo v (query_at given q)) qs → Each (λ l. true_in v l ≡ true) (asked_at given qs)
  asked_so given [] k = tt
  asked_so given (q ∷ qs) k = listed (asked (query_at given q)) (asked_at given qs) k.0 (asked_so given qs k.1)

-- ---- ground actions

reaches_below : (x : GroundAction) (xs : List GroundAction) (cs : List (List Literal)) → IsIn x xs → reaches x cs ≤ most_reached xs cs
reaches_below x [] cs i = absurd i
reaches_below x (y ∷ xs) cs (inl e) = subst (λ (z : GroundAction). reaches z cs ≤ max (reaches y cs) (most_reached xs cs)) e (omega arith)
reaches_below x (y ∷ xs) cs (inr i) = let rest : reaches x cs ≤ most_reached xs cs = reaches_below x xs cs i in omega (arith, rest)

pub ground_actions_reach : (p : Problem) (xs : List GroundAction) (cs : List (List Literal)) → ((v : World) (i : Instance) → MayBeDone p v i → ((schema_of p i.action).effects ≡ []) ⊎ IsIn (ground_action_of_instance p i) xs) → ReachAtMost p cs (most_reached xs cs)
unfolding after_action applied_to
ground_actions_reach p xs cs listed v i b = ⊎_elim none some (listed v i b)
  where
    none : (schema_of p i.action).effects ≡ [] → unmet_marks v cs ≤ most_reached xs cs + unmet_marks (after_action p v i) cs
    none e = subst (λ (es : List Effect). unmet_marks v cs ≤ most_reached xs cs + unmet_marks (applied_to v (map (effect_at i.arguments) es)) cs) (sym e) (omega arith)

    some : IsIn (ground_action_of_instance p i) xs → unmet_marks v cs ≤ most_reached xs cs + unmet_marks (after_action p v i) cs
    some k =
        let below : reaches (ground_action_of_instance p i) cs ≤ most_reached xs cs = reaches_below (ground_action_of_instance p i) xs cs k in
        let enough : unmet_marks v cs ≤ reaches (ground_action_of_instance p i) cs + unmet_marks (after_action p v i) cs = reaches_enough v (ground_action_of_instance p i) (asked_so v i.arguments (schema_of p i.action).pre b.pre) cs in
        omega (arith, below, enough)
