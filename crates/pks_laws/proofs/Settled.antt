-- The fifth law: what settling puts into the moments of a history is true of the worlds at these moments.
use Rattle.std.proofs.Common.{◌≡◌, ◌⊎◌, ◌&&◌, ◌||◌, ◌==◌, ℕ, zero, suc, Bool, true, false, cond, not, is_some, List, [], ◌∷◌, ◌++◌, map, filter, flat_map, Some, None, refl, sym, ap, ◌∙◌, subst, inl, inr, ⊎_elim, true≢false}
use Rattle.std.specs.List.{list_any, list_all}
use Rattle.std.specs.Option.{option_map_or}
use Rattle.std.proofs.lemmas.Bool.{and_parts, and_from, cases_Bool, eqb-true, eq-eqb, not-true, not_from_false, false_from_ne_true, cond-true}
use Rattle.std.proofs.lemmas.Option.{none-some, cond_some}
use Rattle.pks_terms.specs.Signatures.{Signature}
use Rattle.pks_terms.specs.Sets.{Each, IsIn, all_some, with_others, with_later, choices_from}
use Rattle.pks_terms.specs.Syntax.{Object, Parameter, Apply, Inner, Term, term_of, as_object, Named, Equality, Literal, negated}
use Rattle.pks_terms.specs.Orders.{literal_cmp, literal, equation}
use Rattle.pks_terms.specs.Worlds.{World, form_value, inner_value, value_of, true_in, all_true_in}
use Rattle.pks_terms.specs.Databases.{Five, values_at, holds}
use Rattle.pks_terms.specs.Meaning.{IsWorld, IsTrueIn}
use Rattle.pks_terms.specs.Closure.{additions, first_clash}
use Rattle.pks_terms.specs.Actions.{Target, Set, Unset, Clear, Assign, Effect, Instance, fires, written_truth, written_value, applied_to}
use Rattle.pks_terms.specs.Spoiling.{may_fire, some_may, is_stable, are_stable, spoils}
use Rattle.pks_terms.specs.Problems.{Problem}
use Rattle.pks_terms.specs.Settling.{History, inner_forms, argument_forms, term_forms, stable_forms, target_forms, undoes, assigns_alike, makes_same, can_be_undone, is_made_otherwise, lasting, lasted, fired, must_have_fired, cannot_have_fired, effects_of, forward, backward, grown, from_next, settled_steps, settle_round, settle_rounds, clashes}
use Rattle.pks_terms.specs.Knowledge.{grounded, after_action}
use Rattle.pks_terms.specs.Remembering.{TrueAlong}
use Rattle.pks_terms.proofs.ListLaws.{each_append, each_in, each_map, each_filter, each_flat_map, each_added, each_weaker, each_from_all, found_in, values_of_all_some, none_in, all_from_each}
use Rattle.pks_laws.proofs.Values.{AllTrue, values_at_true, inner_object_value}
use Rattle.pks_laws.proofs.Holding.{true_in-literal, true_in-negated, holds_true, denied_false, differ_true, same_objects_itself}
use Rattle.pks_laws.proofs.Closing.{additions_true, no_clash}
use Rattle.pks_laws.proofs.Changing.{last_written_has, last_written_after, values-term_of, fires_may, makes_true_may, makes_false_may, changes_may, stable_value, stable_values, unspoiled_stays}
use Rattle.pks_laws.proofs.Progressing.{kept_known}
use Rattle.pks_laws.proofs.Doing.{effects_do}

-- ---- forms have the values of what they are forms of

choices_alike : {X Y : Type 0} (v : X → Y) (forms : X → List X) → ((x : X) → Each (λ y. v y ≡ v x) (forms x)) → (xs : List X) → Each (λ ys. map v ys ≡ map v xs) (choices_from (map forms xs))
choices_alike v forms keeps [] = (refl, tt)
choices_alike {X} v forms keeps (x ∷ xs) =
    let P : List X → Type 0 = λ ys. map v ys ≡ map v (x ∷ xs) in
    each_flat_map P (λ y. map (λ ys. y ∷ ys) (choices_from (map forms xs))) (forms x)
    (λ y i. each_map P (λ ys. y ∷ ys) (choices_from (map forms xs)) (each_weaker (λ ys. map v ys ≡ map v xs) (λ ys. P (y ∷ ys)) (λ ys e. λ j. each_in (λ y. v y ≡ v x) (forms x) y (keeps x) i j ∷ e j) (choices_from (map forms xs)) (choices_alike v forms keeps xs)))

module _ (w : World) (kf : List Literal) (a : AllTrue w kf) where
  inner_forms_alike : (t : Inner) → Each (λ u. inner_value w u ≡ inner_value w t) (inner_forms kf t)
  inner_forms_alike (Object d) = (refl, tt)
  inner_forms_alike (Parameter i) = (refl, tt)
  inner_forms_alike (Apply f ds) = (
    refl,
    each_map (λ u. inner_value w u ≡ inner_value w (Apply f ds)) Object (values_at kf f ds)
        (each_weaker (λ e. w.value f ds ≡ e) (λ e. e ≡ w.value f (map (λ d. d) ds)) (λ e h. sym h ∙ ap (w.value f) (sym (map_same ds))) (values_at kf f ds) (values_at_true w kf a f ds)),
  )
    where
      map_same : (ds : List ℕ) → map (λ d. d) ds ≡ ds
      map_same [] = refl
      map_same (d ∷ ds) = λ i. d ∷ map_same ds i

  pub argument_forms_alike : (ts : List Inner) → Each (λ us. map (inner_value w) us ≡ map (inner_value w) ts) (argument_forms kf ts)
  argument_forms_alike = choices_alike (inner_value w) (inner_forms kf) inner_forms_alike

  pub term_forms_alike : (t : Term) → Each (λ u. value_of w u ≡ value_of w t) (term_forms kf t)
  unfolding value_of
  term_forms_alike (Object d) = (refl, tt)
  term_forms_alike (Parameter i) = (refl, tt)
  term_forms_alike (Apply f ts) =
      let P : Term → Type 0 = λ u. form_value (inner_value w) w u ≡ w.value f (map (inner_value w) ts) in
      each_flat_map P (λ us. Apply f us ∷ map Object (option_map_or (values_at kf f) (all_some (map as_object us)) [])) (argument_forms kf ts)
      (λ us i.
      let same = each_in (λ us. map (inner_value w) us ≡ map (inner_value w) ts) (argument_forms kf ts) us (argument_forms_alike ts) i in (
        ap (w.value f) same,
        each_map P Object (option_map_or (values_at kf f) (all_some (map as_object us)) [])
            (elim (all_some (map as_object us)) as (λ o. all_some (map as_object us) ≡ o → Each (λ e. e ≡ w.value f (map (inner_value w) ts)) (option_map_or (values_at kf f) o [])) [
              | None ↦ λ q. tt
              | Some ds ↦ λ q. each_weaker (λ e. w.value f ds ≡ e) (λ e. e ≡ w.value f (map (inner_value w) ts)) (λ e h. sym h ∙ ap (w.value f) (sym (values_of_all_some as_object (inner_value w) (inner_object_value w) us ds q) ∙ same)) (values_at kf f ds) (values_at_true w kf a f ds)
            ] refl),
      ))

-- ---- one step

-- whether the target is so in a world, at the values that its terms have in w
abbrev so_in : World → World → Target → Bool
so_in w u (Set a) = u.truth a.predicate (map (value_of w) a.arguments)
so_in w u (Unset a) = not (u.truth a.predicate (map (value_of w) a.arguments))
so_in w u (Assign f ts value) = u.value f (map (inner_value w) ts) == value_of w value
so_in w u (Clear x) = true

module _ {s : Signature} (w : World) (d : Five) (m : IsTrueIn s w d) (es : List Effect) where
  abbrev next : World
  next = applied_to w es

  abbrev TellsAlike : Target → Literal → Type 0
  TellsAlike t l = (true_in next l ≡ so_in w next t) × (true_in w l ≡ so_in w w t)

  -- each stable form of a target is true, before and after, where the target is so
  forms_alike : (t : Target) → Each (TellsAlike t) (target_forms s d es t)
  unfolding value_of
  forms_alike (Set a) =
      each_map (TellsAlike (Set a)) (λ ts. literal (Named a.predicate) ts true) (stable_forms s d es a.arguments)
      (each_filter (λ ts. TellsAlike (Set a) (literal (Named a.predicate) ts true)) (are_stable s d es) (choices_from (map (term_forms d.kf) a.arguments)) (λ ts i h.
      let same = each_in (λ ts. map (value_of w) ts ≡ map (value_of w) a.arguments) (choices_from (map (term_forms d.kf) a.arguments)) ts (choices_alike (value_of w) (term_forms d.kf) (term_forms_alike w d.kf m.known) a.arguments) i in
      (true_in-literal next (Named a.predicate) ts true ∙ ap (next.truth a.predicate) (stable_values w d m es ts h ∙ same), true_in-literal w (Named a.predicate) ts true ∙ ap (w.truth a.predicate) same)))
  forms_alike (Unset a) =
      each_map (TellsAlike (Unset a)) (λ ts. literal (Named a.predicate) ts false) (stable_forms s d es a.arguments)
      (each_filter (λ ts. TellsAlike (Unset a) (literal (Named a.predicate) ts false)) (are_stable s d es) (choices_from (map (term_forms d.kf) a.arguments)) (λ ts i h.
      let same = each_in (λ ts. map (value_of w) ts ≡ map (value_of w) a.arguments) (choices_from (map (term_forms d.kf) a.arguments)) ts (choices_alike (value_of w) (term_forms d.kf) (term_forms_alike w d.kf m.known) a.arguments) i in
      (true_in-literal next (Named a.predicate) ts false ∙ ap (λ ds. not (next.truth a.predicate ds)) (stable_values w d m es ts h ∙ same), true_in-literal w (Named a.predicate) ts false ∙ ap (λ ds. not (w.truth a.predicate ds)) same)))
  forms_alike (Clear x) = tt
  forms_alike (Assign f ts value) =
      let Good : List Inner → Type 0 = λ us. (map (inner_value w) us ≡ map (inner_value w) ts) × (map (inner_value next) us ≡ map (inner_value w) us) in
      let Kept : Term → Type 0 = λ v. (value_of w v ≡ value_of w value) × (value_of next v ≡ value_of w v) in
      let places = filter (λ us. are_stable s d es (map term_of us)) (argument_forms d.kf ts) in
      let values = filter (is_stable s d es) (term_forms d.kf value) in
      let each_place : Each Good places = each_filter Good (λ us. are_stable s d es (map term_of us)) (argument_forms d.kf ts) (λ us i h. (
        each_in (λ us. map (inner_value w) us ≡ map (inner_value w) ts) (argument_forms d.kf ts) us (argument_forms_alike w d.kf m.known ts) i,
        sym (values-term_of next us) ∙ stable_values w d m es (map term_of us) h ∙ values-term_of w us,
      )) in
      let each_value : Each Kept values = each_filter Kept (is_stable s d es) (term_forms d.kf value) (λ v i h.
      (each_in (λ u. value_of w u ≡ value_of w value) (term_forms d.kf value) v (term_forms_alike w d.kf m.known value) i, stable_value w d m es v h)) in
      each_flat_map (TellsAlike (Assign f ts value)) (λ us. map (equation (Apply f us)) values) places (λ us i.
      let p = each_in Good places us each_place i in
      each_map (TellsAlike (Assign f ts value)) (equation (Apply f us)) values (each_weaker Kept (λ v. TellsAlike (Assign f ts value) (equation (Apply f us) v)) (λ v k. (
        true_in-literal next Equality (Apply f us ∷ v ∷ []) true ∙ (λ j. next.value f ((p.1 ∙ p.0) j) == (k.1 ∙ k.0) j),
        true_in-literal w Equality (Apply f us ∷ v ∷ []) true ∙ (λ j. w.value f (p.0 j) == k.0 j),
      )) values each_value))

  some_may_of : (does : Target → Bool) (fs : List Effect) → some_may s d does fs ≡ false → (e : Effect) → IsIn e fs → fires w e ≡ true → does e.target ≡ true → ⊥
  some_may_of does fs h e i k t = true≢false (sym (and_from _ _ (fires_may w d m e k) t) ∙ none_in (λ e. may_fire s d e && does e.target) fs e h i)

  -- an effect that fires and can't be undone makes its target so
  fired_makes : (q : Effect × List Effect) → IsIn q (with_later es) → fires w q.0 ≡ true → can_be_undone s d q ≡ false → so_in w next q.0.target ≡ true
  unfolding applied_to
  fired_makes q i h u =
      elim q.0.target as (λ t. q.0.target ≡ t → so_in w next t ≡ true) [
        | Set a ↦ λ e.
            last_written_after (λ y. y ≡ true) (written_truth w a.predicate (map (value_of w) a.arguments)) w es _ true q i h
            (ap (written_truth w a.predicate (map (value_of w) a.arguments)) e ∙ cond-true _ (Some true) None (and_from _ _ (eq-eqb a.predicate a.predicate refl) (same_objects_itself _ _ (sym (sym (itself (map (value_of w) a.arguments))))))) refl
            (λ f z j k r. ⊎_elim (λ y. y) (λ y. absurd (some_may_of (undoes s d q.0.target) q.1 u f j k (ap (λ t. undoes s d t f.target) e ∙ makes_false_may w d m a.predicate a.arguments f.target (r ∙ ap Some y)))) (cases_Bool z))
        | Unset a ↦ λ e. ap not (
            last_written_after (λ y. y ≡ false) (written_truth w a.predicate (map (value_of w) a.arguments)) w es _ false q i h
            (ap (written_truth w a.predicate (map (value_of w) a.arguments)) e ∙ cond-true _ (Some false) None (and_from _ _ (eq-eqb a.predicate a.predicate refl) (same_objects_itself _ _ (itself (map (value_of w) a.arguments))))) refl
            (λ f z j k r. ⊎_elim (λ y. absurd (some_may_of (undoes s d q.0.target) q.1 u f j k (ap (λ t. undoes s d t f.target) e ∙ makes_true_may w d m a.predicate a.arguments f.target (r ∙ ap Some y)))) (λ y. y) (cases_Bool z)))
        | Clear x ↦ λ e. refl
        | Assign f ts value ↦ λ e. eq-eqb _ (value_of w value) (
            last_written_after (λ y. y ≡ value_of w value) (written_value w f (map (inner_value w) ts)) w es _ (value_of w value) q i h
            (ap (written_value w f (map (inner_value w) ts)) e ∙ cond-true _ (Some (value_of w value)) None (and_from _ _ (eq-eqb f f refl) (same_objects_itself (map (inner_value w) ts) (map (inner_value w) ts) refl))) refl
            (λ g z j k r. absurd (some_may_of (undoes s d q.0.target) q.1 u g j k (ap (λ t. undoes s d t g.target) e ∙ changes_may w d m f ts g.target z r))))
      ] refl
    where
      itself : (ds : List ℕ) → ds ≡ ds
      itself ds = refl

  -- where a target becomes so that wasn't, an effect that fires makes it so
  became : (t : Target) → so_in w w t ≡ false → so_in w next t ≡ true → (e : Effect) × IsIn e es × (fires w e ≡ true) × (makes_same s d t e.target ≡ true)
  unfolding applied_to
  became (Set a) f t =
      let Found : Type 0 = (e : Effect) × IsIn e es × (fires w e ≡ true) × (makes_same s d (Set a) e.target ≡ true) in
      last_written_has (λ y. y ≡ true → Found) (written_truth w a.predicate (map (value_of w) a.arguments)) w es _ (λ e y i k r h. (e, i, k, makes_true_may w d m a.predicate a.arguments e.target (r ∙ ap Some h))) (λ h. absurd (true≢false (sym h ∙ f))) t
  became (Unset a) f t =
      let Found : Type 0 = (e : Effect) × IsIn e es × (fires w e ≡ true) × (makes_same s d (Unset a) e.target ≡ true) in
      last_written_has (λ y. y ≡ false → Found) (written_truth w a.predicate (map (value_of w) a.arguments)) w es _ (λ e y i k r h. (e, i, k, makes_false_may w d m a.predicate a.arguments e.target (r ∙ ap Some h))) (λ h. absurd (true≢false (sym (ap not h) ∙ f))) (not-true _ t)
  became (Assign f ts value) unlike t =
      let Found : Type 0 = (e : Effect) × IsIn e es × (fires w e ≡ true) × (makes_same s d (Assign f ts value) e.target ≡ true) in
      last_written_has (λ y. (y == value_of w value) ≡ true → Found) (written_value w f (map (inner_value w) ts)) w es _
      (λ e y i k r h. (e, i, k, and_from _ _ (changes_may w d m f ts e.target y r) (alike e.target y r (eqb-true y (value_of w value) h)))) (λ h. absurd (true≢false (sym h ∙ unlike))) t
    where
      alike : (x : Target) (y : ℕ) → written_value w f (map (inner_value w) ts) x ≡ Some y → y ≡ value_of w value → assigns_alike s d value x ≡ true
      alike (Assign g us new) y r h = not_from_false _ (false_from_ne_true _ (λ k. differ_true w m.world d.kf m.known new value k ((cond_some _ (value_of w new) y r).1 ∙ h)))
      alike (Set b) y r h = absurd (none-some y r)
      alike (Unset b) y r h = absurd (none-some y r)
      alike (Clear b) y r h = absurd (none-some y r)
  became (Clear x) f t = absurd (true≢false f)

  self_or_other : (fs : List Effect) (q : Effect × List Effect) → IsIn q (with_others fs) → (e : Effect) → IsIn e fs → (q.0 ≡ e) ⊎ IsIn e q.1
  self_or_other [] q i e j = absurd i
  self_or_other (f ∷ fs) q (inl s) e (inl t) = inl (ap (λ (r : Effect × List Effect). r.0) (sym s) ∙ t)
  self_or_other (f ∷ fs) q (inl s) e (inr j) = inr (subst (IsIn e) (ap (λ (r : Effect × List Effect). r.1) s) j)
  self_or_other (f ∷ fs) q (inr i) e j =
      let o = Rattle.pks_terms.proofs.ListLaws.in_mapped (λ (p : Effect × List Effect). let r : Effect × List Effect = (p.0, f ∷ p.1) in r) (with_others fs) q i in
      let head : o.0.0 ≡ q.0 = ap (λ (r : Effect × List Effect). r.0) o.2 in
      let tail : f ∷ o.0.1 ≡ q.1 = ap (λ (r : Effect × List Effect). r.1) o.2 in
      ⊎_elim (λ t. inr (subst (IsIn e) tail (inl t)))
      (λ k. ⊎_elim (λ s. inl (sym head ∙ s)) (λ r. inr (subst (IsIn e) tail (inr r))) (self_or_other fs o.0 o.1 e k)) j

  module _ (after : Five) (n : IsTrueIn s next after) where
    abbrev Before : List Literal → Type 0
    Before ls = Each (λ l. true_in w l ≡ true) ls

    abbrev After : List Literal → Type 0
    After ls = Each (λ l. true_in next l ≡ true) ls

    lasted_true : Before (lasted s es d after)
    lasted_true = each_filter (λ l. true_in w l ≡ true) (λ l. not (spoils s d es (negated l))) after.kf (λ l i h.
        ⊎_elim (λ t. t)
        (λ f. absurd (true≢false (sym (each_in (λ l. true_in next l ≡ true) after.kf l n.known i) ∙ not-true _ (sym (true_in-negated next l) ∙ unspoiled_stays w d m es (negated l) (not-true _ h) (true_in-negated w l ∙ ap not f)))))
        (cases_Bool (true_in w l)))

    conditions_true : (c : List Literal) → list_all (holds s d) c ≡ true → all_true_in w c ≡ true
    unfolding all_true_in
    conditions_true c h = all_from_each (true_in w) c (each_from_all (λ l. true_in w l ≡ true) (holds s d) (holds_true w d m) c h)

    pub fired_true : (q : Effect × List Effect) → IsIn q (with_later es) → After (fired s es d q)
    fired_true q i =
        elim (list_all (holds s d) q.0.condition && not (can_be_undone s d q)) as (λ b. (list_all (holds s d) q.0.condition && not (can_be_undone s d q)) ≡ b → After (cond b (target_forms s d es q.0.target) [])) [
          | false ↦ λ h. tt
          | true ↦ λ h.
              let p = and_parts (list_all (holds s d) q.0.condition) _ h in
              let so = fired_makes q i (conditions_true q.0.condition p.0) (not-true _ p.1) in
              each_weaker (TellsAlike q.0.target) (λ l. true_in next l ≡ true) (λ l t. t.0 ∙ so) (target_forms s d es q.0.target) (forms_alike q.0.target)
        ] refl

    pub must_true : (q : Effect × List Effect) → IsIn q (with_others es) → Before (must_have_fired s es d after q)
    unfolding all_true_in
    must_true q i =
        elim (list_any (λ l. holds s d (negated l) && holds s after l) (target_forms s d es q.0.target) && not (is_made_otherwise s d q)) as (λ b. (list_any (λ l. holds s d (negated l) && holds s after l) (target_forms s d es q.0.target) && not (is_made_otherwise s d q)) ≡ b → Before (cond b q.0.condition [])) [
          | false ↦ λ h. tt
          | true ↦ λ h.
              let p = and_parts (list_any (λ l. holds s d (negated l) && holds s after l) (target_forms s d es q.0.target)) _ h in
              let f = found_in (λ l. holds s d (negated l) && holds s after l) (target_forms s d es q.0.target) p.0 in
              let b = and_parts (holds s d (negated f.0)) _ f.2 in
              let tells = each_in (TellsAlike q.0.target) (target_forms s d es q.0.target) f.0 (forms_alike q.0.target) f.1 in
              let change = became q.0.target (sym tells.1 ∙ denied_false w d m f.0 b.0) (sym tells.0 ∙ holds_true next after n f.0 b.1) in
              let fire : fires w q.0 ≡ true = ⊎_elim (λ e. ap (fires w) e ∙ change.2) (λ o. absurd (some_may_of (makes_same s d q.0.target) q.1 (not-true _ p.1) change.0 o change.2 change.3)) (self_or_other es q i change.0 change.1) in
              each_from_all (λ l. true_in w l ≡ true) (true_in w) (λ l t. t) q.0.condition fire
        ] refl

    one_false : (c : Literal × List Literal) (whole : List Literal) → IsIn c (with_others whole) → list_all (holds s d) c.1 ≡ true → list_all (true_in w) whole ≡ false → true_in w c.0 ≡ false
    one_false c [] i h f = absurd i
    one_false c (x ∷ xs) (inl e) h f =
        let rest : list_all (true_in w) xs ≡ true = ap (list_all (true_in w)) (ap (λ (r : Literal × List Literal). r.1) e) ∙ all_from_each (true_in w) c.1 (each_from_all (λ l. true_in w l ≡ true) (holds s d) (holds_true w d m) c.1 h) in
        let same : x ≡ c.0 = ap (λ (r : Literal × List Literal). r.0) e in
        false_from_ne_true _ (λ t. true≢false (sym (and_from _ _ (ap (true_in w) same ∙ t) rest) ∙ f))
    one_false c (x ∷ xs) (inr i) h f =
        let o = Rattle.pks_terms.proofs.ListLaws.in_mapped (λ (p : Literal × List Literal). let r : Literal × List Literal = (p.0, x ∷ p.1) in r) (with_others xs) c i in
        let others : x ∷ o.0.1 ≡ c.1 = ap (λ (r : Literal × List Literal). r.1) o.2 in
        let p = and_parts (holds s d x) _ (ap (list_all (holds s d)) others ∙ h) in
        ap (true_in w) (sym (ap (λ (r : Literal × List Literal). r.0) o.2)) ∙ one_false o.0 xs o.1 p.1 (sym (ap (λ b. b && list_all (true_in w) xs) (holds_true w d m x p.0)) ∙ f)

    pub cannot_true : (q : Effect × List Effect) → IsIn q (with_later es) → Before (cannot_have_fired s es d after q)
    unfolding all_true_in
    cannot_true q i =
        elim (list_any (λ l. holds s after (negated l)) (target_forms s d es q.0.target) && not (can_be_undone s d q)) as (λ b. (list_any (λ l. holds s after (negated l)) (target_forms s d es q.0.target) && not (can_be_undone s d q)) ≡ b
        → Before (cond b (flat_map (λ c. cond (list_all (holds s d) c.1) (negated c.0 ∷ []) []) (with_others q.0.condition)) [])) [
          | false ↦ λ h. tt
          | true ↦ λ h.
              let p = and_parts (list_any (λ l. holds s after (negated l)) (target_forms s d es q.0.target)) _ h in
              let f = found_in (λ l. holds s after (negated l)) (target_forms s d es q.0.target) p.0 in
              let tells = each_in (TellsAlike q.0.target) (target_forms s d es q.0.target) f.0 (forms_alike q.0.target) f.1 in
              let quiet : list_all (true_in w) q.0.condition ≡ false = false_from_ne_true _ (λ fire. true≢false (sym (fired_makes q i fire (not-true _ p.1)) ∙ sym tells.0 ∙ denied_false next after n f.0 f.2)) in
              each_flat_map (λ l. true_in w l ≡ true) (λ (c : Literal × List Literal). cond (list_all (holds s d) c.1) (negated c.0 ∷ []) []) (with_others q.0.condition) (λ c j.
              elim (list_all (holds s d) c.1) as (λ b. list_all (holds s d) c.1 ≡ b → Before (cond b (negated c.0 ∷ []) [])) [
                | true ↦ λ k. (true_in-negated w c.0 ∙ ap not (one_false c q.0.condition j k quiet), tt)
                | false ↦ λ k. tt
              ] refl)
        ] refl

-- ---- whole histories

first_true : (p : Problem) (w : World) (d : Five) (steps : List (Instance × Five)) → TrueAlong p w d steps → IsTrueIn p.signature w d
first_true p w d [] t = t
first_true p w d (step ∷ steps) t = t.0

-- each world along a history is a world of the signature
abbrev pub WorldsAlong : Problem → World → List (Instance × Five) → Type 0
WorldsAlong p w [] = IsWorld p.signature w
WorldsAlong p w (step ∷ steps) = IsWorld p.signature w × WorldsAlong p (after_action p w (grounded w step.0)) steps

pub worlds_along : (p : Problem) (w : World) (d : Five) (steps : List (Instance × Five)) → TrueAlong p w d steps → WorldsAlong p w steps
worlds_along p w d [] t = t.world
worlds_along p w d (step ∷ steps) t = (t.0.world, worlds_along p (after_action p w (grounded w step.0)) step.1 steps t.1)

first_world : (p : Problem) (w : World) (steps : List (Instance × Five)) → WorldsAlong p w steps → IsWorld p.signature w
first_world p w [] i = i
first_world p w (step ∷ steps) i = i.0

module _ (p : Problem) where
  grown_true : (w : World) (d : Five) (news : List Literal) → IsWorld p.signature w → IsTrueIn p.signature w d → AllTrue w news → IsTrueIn p.signature w (grown p.signature d news)
  grown_true w d news i m a =
      let T : Literal → Type 0 = λ l. true_in w l ≡ true in
      record {
        world = m.world;
        known = each_added T literal_cmp d.kf (additions p.signature d ++ news) m.known (each_append T (additions p.signature d) news (additions_true p.signature w i d m) a);
        groups = m.groups;
        regions = m.regions;
      }

  forward_true : (w : World) (i : Instance) (d : Five) (after : Five) → IsTrueIn p.signature w d → IsTrueIn p.signature (after_action p w (grounded w i)) after → AllTrue (after_action p w (grounded w i)) (forward p i d)
  forward_true w i d after m n = subst (λ (v : World). AllTrue v (forward p i d)) (effects_do p w i) (put_in (subst (λ (v : World). IsTrueIn p.signature v after) (sym (effects_do p w i)) n))
    where
      put_in : IsTrueIn p.signature (applied_to w (effects_of p i)) after → AllTrue (applied_to w (effects_of p i)) (forward p i d)
      put_in n =
          let es = effects_of p i in
          let T : Literal → Type 0 = λ l. true_in (applied_to w es) l ≡ true in
          each_append T (lasting p.signature es d) (flat_map (fired p.signature es d) (with_later es)) (kept_known w d m es) (each_flat_map T (fired p.signature es d) (with_later es) (λ q j. fired_true w d m es after n q j))

  backward_true : (w : World) (i : Instance) (d : Five) (after : Five) → IsTrueIn p.signature w d → IsTrueIn p.signature (after_action p w (grounded w i)) after → AllTrue w (backward p i d after)
  backward_true w i d after m same =
      let es = effects_of p i in
      let n = subst (λ (v : World). IsTrueIn p.signature v after) (sym (effects_do p w i)) same in
      let T : Literal → Type 0 = λ l. true_in w l ≡ true in
      each_append T (lasted p.signature es d after) (flat_map (must_have_fired p.signature es d after) (with_others es) ++ flat_map (cannot_have_fired p.signature es d after) (with_later es)) (lasted_true w d m es after n)
      (each_append T (flat_map (must_have_fired p.signature es d after) (with_others es)) (flat_map (cannot_have_fired p.signature es d after) (with_later es))
      (each_flat_map T (must_have_fired p.signature es d after) (with_others es) (λ q j. must_true w d m es after n q j))
      (each_flat_map T (cannot_have_fired p.signature es d after) (with_later es) (λ q j. cannot_true w d m es after n q j)))

  from_next_true : (w : World) (d : Five) (steps : List (Instance × Five)) → TrueAlong p w d steps → AllTrue w (from_next p d steps)
  from_next_true w d [] t = tt
  from_next_true w d (step ∷ steps) t = backward_true w step.0 d step.1 t.0 (first_true p _ step.1 steps t.1)

  settled_steps_true : (w : World) (before : Five) (d : Five) (steps : List (Instance × Five)) → IsTrueIn p.signature w d → WorldsAlong p w steps → TrueAlong p w before steps → TrueAlong p w d (settled_steps p before steps)
  settled_steps_true w before d [] m i t = m
  settled_steps_true w before d (step ∷ steps) m i t =
      let v : World = after_action p w (grounded w step.0) in
      let after = first_true p v step.1 steps t.1 in (
        m,
        settled_steps_true v step.1 (grown p.signature step.1 (forward p step.0 before ++ from_next p step.1 steps)) steps
            (grown_true v step.1 (forward p step.0 before ++ from_next p step.1 steps) (first_world p v steps i.1) after
            (each_append (λ l. true_in v l ≡ true) (forward p step.0 before) (from_next p step.1 steps) (forward_true w step.0 before step.1 t.0 after) (from_next_true v step.1 steps t.1))) i.1 t.1,
      )

  -- settling keeps the instances
  worlds_kept : (w : World) (before : Five) (steps : List (Instance × Five)) → WorldsAlong p w steps → WorldsAlong p w (settled_steps p before steps)
  worlds_kept w before [] i = i
  worlds_kept w before (step ∷ steps) i = (i.0, worlds_kept (after_action p w (grounded w step.0)) step.1 steps i.1)

  pub settle_round_true : (w : World) (h : History) → WorldsAlong p w h.steps → TrueAlong p w h.start h.steps → (WorldsAlong p w (settle_round p h).steps) × TrueAlong p w (settle_round p h).start (settle_round p h).steps
  unfolding settle_round
  settle_round_true w h i t = (
    worlds_kept w h.start h.steps i,
    settled_steps_true w h.start (grown p.signature h.start (from_next p h.start h.steps)) h.steps
        (grown_true w h.start (from_next p h.start h.steps) (first_world p w h.steps i) (first_true p w h.start h.steps t) (from_next_true w h.start h.steps t)) i t,
  )

  pub settle_rounds_true : (n : ℕ) (w : World) (h : History) → WorldsAlong p w h.steps → TrueAlong p w h.start h.steps → (WorldsAlong p w (settle_rounds p n h).steps) × TrueAlong p w (settle_rounds p n h).start (settle_rounds p n h).steps
  settle_rounds_true zero w h i t = (i, t)
  settle_rounds_true (suc n) w h i t = let r = settle_rounds_true n w h i t in settle_round_true w (settle_rounds p n h) r.0 r.1

  moment_fine : (w : World) (d : Five) → IsTrueIn p.signature w d → is_some (first_clash p.signature d) ≡ false
  moment_fine w d m =
      elim (first_clash p.signature d) as (λ o. first_clash p.signature d ≡ o → is_some o ≡ false) [ None ↦ λ q. refl | Some l ↦ λ q. absurd (no_clash w d m l q) ] refl

  steps_fine : (w : World) (d : Five) (steps : List (Instance × Five)) → TrueAlong p w d steps → (is_some (first_clash p.signature d) || list_any (λ (step : Instance × Five). is_some (first_clash p.signature step.1)) steps) ≡ false
  steps_fine w d [] t = ap (λ b. b || false) (moment_fine w d t)
  steps_fine w d (step ∷ steps) t = ap (λ b. b || (is_some (first_clash p.signature step.1) || list_any (λ (step : Instance × Five). is_some (first_clash p.signature step.1)) steps)) (moment_fine w d t.0) ∙ steps_fine (after_action p w (grounded w step.0)) step.1 steps t.1

  -- a history that is true doesn't clash, however long it is settled
  pub settled_fine : (n : ℕ) (w : World) (h : History) → WorldsAlong p w h.steps → TrueAlong p w h.start h.steps → clashes p.signature (settle_rounds p n h) ≡ false
  settled_fine n w h i t = steps_fine w (settle_rounds p n h).start (settle_rounds p n h).steps (settle_rounds_true n w h i t).1
