-- What an action does to a world is what databases that are true of the world tell that it may do.
use Rattle.std.proofs.Common.{◌≡◌, ◌&&◌, ◌||◌, ◌==◌, ℕ, Bool, true, false, cond, not, List, [], ◌∷◌, map, filter, Option, Some, None, unwrap_or, refl, sym, ap, ◌∙◌, subst, inl, inr, ⊎_elim, true≢false}
use Rattle.std.specs.List.{list_any}
use Rattle.std.proofs.lemmas.Bool.{or_cases, or_parts, and_parts, and_from, cases_Bool, eqb-true, not-true, not-false, not_from_false, false_from_ne_true}
use Rattle.std.proofs.lemmas.Option.{none-some, cond_some}
use Rattle.pks_terms.specs.Signatures.{Signature}
use Rattle.pks_terms.specs.Sets.{IsIn, with_later}
use Rattle.pks_terms.specs.Syntax.{Object, Parameter, Apply, Inner, Term, term_of, place, Relation, Named, Equality, Literal, negated}
use Rattle.pks_terms.specs.Worlds.{World, inner_value, value_of, relates, signed, true_in, all_true_in}
use Rattle.pks_terms.specs.Databases.{Five, differ, some_differ, holds}
use Rattle.pks_terms.specs.Meaning.{is_instance, is_value_of, IsTrueIn}
use Rattle.pks_terms.specs.Closure.{is_application, applications_in}
use Rattle.pks_terms.specs.Actions.{Target, Set, Unset, Clear, Assign, Effect, fires, written_truth, written_value, last_written, applied_to}
use Rattle.pks_terms.specs.Spoiling.{some_fixed_differ, may_fire, may_make_true, may_make_false, may_change, some_may, may_be_changed, is_stable, are_stable, may_be_denied, spoils}
use Rattle.pks_terms.proofs.ListLaws.{each_in, found_in, each_from_all, map-map, map_alike}
use Rattle.pks_laws.proofs.Values.{same_objects_same}
use Rattle.pks_laws.proofs.Holding.{denied_false, differ_true, some_differ_true}

-- what is written has P, where each effect that fires writes something with P and what was there has P
pub last_written_has : {X : Type 0} (P : X → Type 0) (written : Target → Option X) (w : World) (es : List Effect) (x : X) → ((e : Effect) (y : X) → IsIn e es → fires w e ≡ true → written e.target ≡ Some y → P y) → P x → P (last_written written w es x)
last_written_has P written w [] x f p = p
last_written_has {X} P written w (e ∷ es) x f p =
    last_written_has P written w es (cond (fires w e) (unwrap_or (written e.target) x) x) (λ e' y i h k. f e' y (inr i) h k)
    (elim (fires w e) as (λ b. fires w e ≡ b → P (cond b (unwrap_or (written e.target) x) x)) [
      | true ↦ λ h. elim (written e.target) as (λ o. written e.target ≡ o → P (unwrap_or o x)) [ None ↦ λ k. p | Some y ↦ λ k. f e y (inl refl) h k ] refl
      | false ↦ λ h. p
    ] refl)

-- what is written by an effect that fires, where each later effect that fires writes something with P
pub last_written_after : {X : Type 0} (P : X → Type 0) (written : Target → Option X) (w : World) (es : List Effect) (x y : X) (q : Effect × List Effect) → IsIn q (with_later es) → fires w q.0 ≡ true → written q.0.target ≡ Some y → P y
    → ((e : Effect) (z : X) → IsIn e q.1 → fires w e ≡ true → written e.target ≡ Some z → P z) → P (last_written written w es x)
last_written_after P written w [] x y q i h k p f = absurd i
last_written_after {X} P written w (e ∷ es) x y q (inl j) h k p f =
    let fire : fires w e ≡ true = ap (λ (r : Effect × List Effect). fires w r.0) j ∙ h in
    let write : written e.target ≡ Some y = ap (λ (r : Effect × List Effect). written r.0.target) j ∙ k in
    let rest : es ≡ q.1 = ap (λ (r : Effect × List Effect). r.1) j in
    last_written_has P written w es (cond (fires w e) (unwrap_or (written e.target) x) x) (λ e' z i g c. f e' z (subst (IsIn e') rest i) g c)
    (subst P (sym (ap (λ b. cond b (unwrap_or (written e.target) x) x) fire ∙ ap (λ o. unwrap_or o x) write)) p)
last_written_after P written w (e ∷ es) x y q (inr i) h k p f = last_written_after P written w es _ y q i h k p f

pub value_of-term_of : (w : World) (t : Inner) → value_of w (term_of t) ≡ inner_value w t
unfolding value_of
value_of-term_of w (Object d) = refl
value_of-term_of w (Parameter i) = refl
value_of-term_of w (Apply f ds) = ap (w.value f) (map-map Object (inner_value w) ds)

pub values-term_of : (w : World) (ts : List Inner) → map (value_of w) (map term_of ts) ≡ map (inner_value w) ts
values-term_of w ts = map-map term_of (value_of w) ts ∙ map_alike (λ t. value_of w (term_of t)) (inner_value w) (value_of-term_of w) ts

module _ {s : Signature} (w : World) (d : Five) (m : IsTrueIn s w d) where
  -- an effect that fires may fire
  pub fires_may : (e : Effect) → fires w e ≡ true → may_fire s d e ≡ true
  unfolding may_fire all_true_in
  fires_may e h =
      not_from_false _ (false_from_ne_true _ (λ k.
      let f = found_in (λ l. holds s d (negated l)) e.condition k in
      true≢false (sym (each_in (λ l. true_in w l ≡ true) e.condition f.0 (each_from_all (λ l. true_in w l ≡ true) (true_in w) (λ l t. t) e.condition h) f.1) ∙ denied_false w d m f.0 f.2)))

  not_apart : (ts us : List Term) → map (value_of w) ts ≡ map (value_of w) us → not (some_differ s d.kf ts us) ≡ true
  not_apart ts us e = not_from_false _ (false_from_ne_true _ (λ k. some_differ_true w m.world d.kf m.known ts us k e))

  -- what an effect writes it may hit
  pub makes_true_may : (p : ℕ) (ts : List Term) (x : Target) → written_truth w p (map (value_of w) ts) x ≡ Some true → may_make_true s d.kf p ts x ≡ true
  makes_true_may p ts (Set a) h =
      let c = (cond_some (is_value_of w p (map (value_of w) ts) a) true true h).0 in
      let q = and_parts (a.predicate == p) _ c in
      and_from _ _ q.0 (not_apart a.arguments ts (same_objects_same _ _ q.1))
  makes_true_may p ts (Unset a) h = absurd (true≢false (sym (cond_some (is_value_of w p (map (value_of w) ts) a) false true h).1))
  makes_true_may p ts (Clear x) h = absurd (true≢false (sym (cond_some _ false true h).1))
  makes_true_may p ts (Assign f us value) h = absurd (none-some true h)

  pub instance_not_apart : (ss : List (Option Term)) (ts : List Term) → is_instance w ss (map (value_of w) ts) ≡ true → not (some_fixed_differ s d.kf ss ts) ≡ true
  instance_not_apart (None ∷ ss) (t ∷ ts) h = instance_not_apart ss ts h
  instance_not_apart (Some u ∷ ss) (t ∷ ts) h =
      let q = and_parts (value_of w u == value_of w t) _ h in
      not_from_false _ (false_from_ne_true _ (λ k. ⊎_elim
      (λ e. differ_true w m.world d.kf m.known u t e (eqb-true _ _ q.0))
      (λ e. true≢false (sym e ∙ not-true _ (instance_not_apart ss ts q.1)))
      (or_cases (differ s d.kf u t) _ k)))
  instance_not_apart [] [] h = refl
  instance_not_apart [] (t ∷ ts) h = refl
  instance_not_apart (None ∷ ss) [] h = refl
  instance_not_apart (Some u ∷ ss) [] h = refl

  pub makes_false_may : (p : ℕ) (ts : List Term) (x : Target) → written_truth w p (map (value_of w) ts) x ≡ Some false → may_make_false s d.kf p ts x ≡ true
  makes_false_may p ts (Set a) h = absurd (true≢false (cond_some (is_value_of w p (map (value_of w) ts) a) true false h).1)
  makes_false_may p ts (Unset a) h =
      let c = (cond_some (is_value_of w p (map (value_of w) ts) a) false false h).0 in
      let q = and_parts (a.predicate == p) _ c in
      and_from _ _ q.0 (not_apart a.arguments ts (same_objects_same _ _ q.1))
  makes_false_may p ts (Clear x) h =
      let q = and_parts (x.predicate == p) _ (cond_some _ false false h).0 in
      and_from _ _ q.0 (instance_not_apart x.slots ts q.1)
  makes_false_may p ts (Assign f us value) h = absurd (none-some false h)

  pub changes_may : (f : ℕ) (ts : List Inner) (x : Target) (e : ℕ) → written_value w f (map (inner_value w) ts) x ≡ Some e → may_change s d.kf f ts x ≡ true
  changes_may f ts (Assign g us value) e h =
      let q = and_parts (g == f) _ (cond_some _ (value_of w value) e h).0 in
      and_from _ _ q.0 (not_apart (map term_of us) (map term_of ts) (values-term_of w us ∙ same_objects_same _ _ q.1 ∙ sym (values-term_of w ts)))
  changes_may f ts (Set a) e h = absurd (none-some e h)
  changes_may f ts (Unset a) e h = absurd (none-some e h)
  changes_may f ts (Clear x) e h = absurd (none-some e h)

  module _ (es : List Effect) where
    some_may_from : (does : Target → Bool) (e : Effect) → IsIn e es → fires w e ≡ true → does e.target ≡ true → some_may s d does es ≡ true
    some_may_from does e i h k = any_at es e i (and_from _ _ (fires_may e h) k)
      where
        any_at : (fs : List Effect) (e : Effect) → IsIn e fs → (may_fire s d e && does e.target) ≡ true → list_any (λ e. may_fire s d e && does e.target) fs ≡ true
        any_at [] e i k = absurd i
        any_at (f ∷ fs) e (inl q) k = ap (λ b. b || list_any (λ e. may_fire s d e && does e.target) fs) (ap (λ (g : Effect). may_fire s d g && does g.target) q ∙ k)
        any_at (f ∷ fs) e (inr i) k = Rattle.std.proofs.lemmas.Bool.or_right _ _ (any_at fs e i k)

    -- a place that no assignment may hit keeps its value
    unchanged : (f : ℕ) (ts : List Inner) → may_be_changed s d es (Apply f ts) ≡ false → (applied_to w es).value f (map (inner_value w) ts) ≡ w.value f (map (inner_value w) ts)
    unfolding may_be_changed applied_to
    unchanged f ts h =
        last_written_has (λ y. y ≡ w.value f (map (inner_value w) ts)) (written_value w f (map (inner_value w) ts)) w es _
        (λ e y i k v. absurd (true≢false (sym (some_may_from (may_change s d.kf f ts) e i k (changes_may f ts e.target y v)) ∙ h))) refl

    -- the applications in a stable term can't be changed
    stable_at : (t : Term) → is_stable s d es t ≡ true → (u : Term) → IsIn u (applications_in t) → may_be_changed s d es u ≡ false
    unfolding is_stable
    stable_at t h u i = not-true _ (each_in (λ u. not (may_be_changed s d es u) ≡ true) (applications_in t) u (each_from_all (λ u. not (may_be_changed s d es u) ≡ true) (λ u. not (may_be_changed s d es u)) (λ u k. k) (applications_in t) h) i)

    inner_stable : (ts : List Inner) → ((u : Term) → IsIn u (filter is_application (map term_of ts)) → may_be_changed s d es u ≡ false) → map (inner_value (applied_to w es)) ts ≡ map (inner_value w) ts
    inner_stable [] f = refl
    inner_stable (Object e ∷ ts) f = ap (λ ds. e ∷ ds) (inner_stable ts f)
    inner_stable (Parameter e ∷ ts) f = ap (λ ds. 0 ∷ ds) (inner_stable ts f)
    inner_stable (Apply g ds ∷ ts) f =
        let same = map-map Object (inner_value w) ds in
        let keeps = unchanged g (map Object ds) (f (place g ds) (inl refl)) in
        λ i. (ap ((applied_to w es).value g) (sym same) ∙ keeps ∙ ap (w.value g) same) i ∷ inner_stable ts (λ u j. f u (inr j)) i

    -- a stable term has the same value before and after
    pub stable_value : (t : Term) → is_stable s d es t ≡ true → value_of (applied_to w es) t ≡ value_of w t
    unfolding value_of
    stable_value (Object e) h = refl
    stable_value (Parameter e) h = refl
    stable_value (Apply f ts) h =
        ap ((applied_to w es).value f) (inner_stable ts (λ u i. stable_at (Apply f ts) h u (inr i)))
        ∙ unchanged f ts (stable_at (Apply f ts) h (Apply f ts) (inl refl))

    pub stable_values : (ts : List Term) → are_stable s d es ts ≡ true → map (value_of (applied_to w es)) ts ≡ map (value_of w) ts
    stable_values [] h = refl
    stable_values (t ∷ ts) h = let q = and_parts (is_stable s d es t) _ h in λ i. stable_value t q.0 i ∷ stable_values ts q.1 i

    -- the truth of an atom that no effect may make false, or true, at the old values of its arguments
    pub stays_true : (p : ℕ) (ts : List Term) → some_may s d (may_make_false s d.kf p ts) es ≡ false → w.truth p (map (value_of w) ts) ≡ true → (applied_to w es).truth p (map (value_of w) ts) ≡ true
    unfolding applied_to
    stays_true p ts h t =
        last_written_has (λ y. y ≡ true) (written_truth w p (map (value_of w) ts)) w es _
        (λ e y i k v. ⊎_elim (λ q. q) (λ q. absurd (true≢false (sym (some_may_from (may_make_false s d.kf p ts) e i k (makes_false_may p ts e.target (v ∙ ap Some q))) ∙ h))) (cases_Bool y)) t

    pub stays_false : (p : ℕ) (ts : List Term) → some_may s d (may_make_true s d.kf p ts) es ≡ false → w.truth p (map (value_of w) ts) ≡ false → (applied_to w es).truth p (map (value_of w) ts) ≡ false
    unfolding applied_to
    stays_false p ts h t =
        last_written_has (λ y. y ≡ false) (written_truth w p (map (value_of w) ts)) w es _
        (λ e y i k v. ⊎_elim (λ q. absurd (true≢false (sym (some_may_from (may_make_true s d.kf p ts) e i k (makes_true_may p ts e.target (v ∙ ap Some q))) ∙ h))) (λ q. q) (cases_Bool y)) t

    -- a literal that isn't spoiled stays true
    pub unspoiled_stays : (l : Literal) → spoils s d es l ≡ false → true_in w l ≡ true → true_in (applied_to w es) l ≡ true
    unfolding spoils true_in
    unspoiled_stays l h t =
        let q = or_parts _ _ h in
        let stable = stable_values l.arguments (not-false _ q.0) in
        ap (λ ds. signed l.positive (relates (applied_to w es) l.relation ds)) stable ∙ kept l.relation l.arguments l.positive q.1 t
      where
        kept : (r : Relation) (ts : List Term) (b : Bool) → may_be_denied s d es r ts b ≡ false → signed b (relates w r (map (value_of w) ts)) ≡ true → signed b (relates (applied_to w es) r (map (value_of w) ts)) ≡ true
        kept (Named p) ts true k e = stays_true p ts k e
        kept (Named p) ts false k e = ap not (stays_false p ts k (not-true _ e))
        kept Equality (t ∷ u ∷ []) b k e = e
        kept Equality [] b k e = e
        kept Equality (t ∷ []) b k e = e
        kept Equality (t ∷ u ∷ v ∷ ts) b k e = e
