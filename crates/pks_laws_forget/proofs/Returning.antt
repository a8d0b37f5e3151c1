-- Where all that is known later is given, what was known of objects and what comes back clash with nothing.
use Rattle.std.proofs.Common.{◌≡◌, ◌⊎◌, ◌&&◌, ◌==◌, ℕ, Bool, true, false, not, cond, is_some, is_lt, List, [], ◌∷◌, map, filter, flat_map, option_and_then, Option, Some, None, refl, sym, ap, ◌∙◌, subst, inl, inr, ⊎_elim, true≢false}
use Rattle.std.specs.List.{list_all}
use Rattle.std.specs.Option.{option_map_or}
use Rattle.std.proofs.lemmas.Bool.{or_cases, or_left, or_right, and_parts, and_from, not_from_false, false_from_ne_true, not-true, cases_Bool, eq-eqb, ne_eqb}
use Rattle.pks_terms.specs.Sets.{Each, IsIn, all_some}
use Rattle.pks_terms.specs.Syntax.{Object, Parameter, Apply, Inner, Term, object, term_of, place, as_object, Relation, Named, Equality, Literal, Atom, negated}
use Rattle.pks_terms.specs.Orders.{term_cmp, term_eq, in_order, literal, inequation, number_of, arguments_of}
use Rattle.pks_terms.specs.Signatures.{Signature}
use Rattle.pks_terms.specs.Databases.{Entry, Five, values_at, least, applied, inner_normal, normal, normal_literal, is_known, is_evident, differ, some_differ, fits, is_shut_out, is_closed_off, holds}
use Rattle.pks_terms.specs.Closure.{first_clash, is_application}
use Rattle.pks_terms.specs.Actions.{Target, Set, Unset, Clear, Assign, Effect}
use Rattle.pks_terms.specs.Spoiling.{may_fire, may_change}
use Rattle.pks_terms.specs.Progress.{fixed_terms, entry_terms}
use Rattle.pks_terms.specs.Saturated.{Within}
use Rattle.pks_terms.proofs.ListLaws.{each_in, each_of, each_from_all, all_from_each, each_front, each_back, found_in, any_in, in_filter, in_filtered, in_appended, in_mapped}
use Rattle.pks_terms.specs.Objects.{are_objects, is_named, is_of_objects}
use Rattle.pks_laws.proofs.Least.{addition_in, in_right, one_value, least_one, normal_literal_again, value_literal}
use Rattle.pks_laws.proofs.ClosedAgain.{holds-normal}
use Rattle.pks_laws.proofs.NormalMembers.{normal_in}
use Rattle.pks_laws.proofs.Values.{least_in}
use Rattle.pks_laws_forget.specs.Transparent.{AreObjects, IsOfObjects, IsOfPlace, left_of, Makes, is_elsewhere, Assigns, SurelyFires, NeverFires, IsDecided, IsAssigned, IsKept}
use Rattle.pks_laws_forget.proofs.Lists.{not_twice, negated_twice, nothing_found, any_each}
use Rattle.pks_laws_forget.proofs.Alike.{objects_stay, normal_relation, normal_sign, normal_arguments, negated_normal, evident_equation, found_known, holds_cases, evident_holds, off_holds, known_holds, differ_holds, not_denied, some_differ_alike, not_apart}
use Rattle.pks_laws_forget.proofs.Agreeing.{objects_are, application_form, normal_agrees, normals_agree, normal_inners_again}
use Rattle.pks_laws_forget.proofs.Objects.{of_objects, objects_normal, literal_normal, others_differ, objects_shut_out, denied_by, makes_one, none_apart, denies, named_gives_none, named_order, no_applications, OfPlace, of_place, objects_of_place, none_inside, place_is, literal_of_place, terms_of_place, negated_place}
use Rattle.pks_laws_forget.proofs.Given.{IsGiven, changed_in, stays_in, touched_in, returns_in, is_own, known_then, untouched_returns, first_known, value_from, none_least, literal_kind, literal_arguments, literal_sign, literal_negated, IsRight, right_holds, wrong_not_evident, right_wrong}

module _ (s : Signature) (before after later moment : Five) (es : List Effect) (given : IsGiven s before after later moment es) where
  -- terms of one normal form aren't apart
  pub apart : (t u : Term) → normal later.kf t ≡ normal later.kf u → differ s later.kf t u ≡ true → ⊥
  apart = not_apart s later given.inhabited given.saturated given.fine

  pub first_denied : (l : Literal) → IsIn l before.kf → holds s before (negated l) ≡ true → ⊥
  first_denied = not_denied s before given.inhabited given.first_saturated given.first_fine

  pub later_denied : (l : Literal) → IsIn l later.kf → holds s later (negated l) ≡ true → ⊥
  later_denied = not_denied s later given.inhabited given.saturated given.fine

  pub one_first : (f : ℕ) (ds : List ℕ) (e e' : ℕ) → IsIn e (values_at before.kf f ds) → IsIn e' (values_at before.kf f ds) → e ≡ e'
  one_first = one_value s before given.inhabited given.first_saturated given.first_fine

  pub one_later : (f : ℕ) (ds : List ℕ) (e e' : ℕ) → IsIn e (values_at later.kf f ds) → IsIn e' (values_at later.kf f ds) → e ≡ e'
  one_later = one_value s later given.inhabited given.saturated given.fine

  abbrev pub is_changed : Term → Bool
  is_changed = changed_in s before later es

  abbrev pub stays : Term → Bool
  stays = stays_in s before later es

  abbrev pub all_stay : List Term → Bool
  all_stay ts = list_all stays ts

  abbrev pub touched_by : Relation → List Term → Bool → Bool
  touched_by = touched_in s before later es

  abbrev pub is_touched : Literal → Bool
  is_touched l = touched_by l.relation l.arguments l.positive

  abbrev pub returns : Literal → Bool
  returns = returns_in s before later es

  abbrev pub own : List Literal
  own = filter (is_own before.kf) before.kf

  abbrev pub back : List Literal
  back = filter returns later.kf

  abbrev pub all : List Literal
  all = known_then s before later es

  abbrev pub G : Five
  G = record moment { kf = all }

  pub made_of : (e : Effect) → IsIn e es → IsDecided before after e
  made_of e i = each_in (IsDecided before after) es e given.decided i

  pub fires_or_never : (e : Effect) → IsIn e es → SurelyFires before e → NeverFires before e → ⊥
  fires_or_never e i f n = first_denied n.0 (each_in (λ c. IsIn c before.kf) e.condition n.0 f n.1) (known_holds s before (negated n.0) (negated n.0) n.2 refl)

  pub surely_may : (e : Effect) → SurelyFires before e → may_fire s before e ≡ true
  unfolding may_fire
  surely_may e f =
      not_from_false _ (false_from_ne_true _ (λ t. let c = found_in (λ l. holds s before (negated l)) e.condition t in first_denied c.0 (each_in (λ c. IsIn c before.kf) e.condition c.0 f c.1) c.2))

  -- what an effect that fires makes so is known later
  pub made_later : (e : Effect) (l : Literal) → IsIn e es → SurelyFires before e → Makes e.target l → IsIn l later.kf
  made_later e l i f m =
      let d = made_of e i in
      ⊎_elim (λ k. given.grown l (subst (λ x. IsIn x after.kf) (makes_one e.target d.made l d.makes m) k.1)) (λ n. absurd (fires_or_never e i f n.0)) d.known

  pub own_of : (l : Literal) → IsIn l own → IsIn l before.kf × (IsOfObjects (normal_literal before.kf l) ⊎ IsOfPlace l)
  own_of l i =
      let q = in_filtered (is_own before.kf) before.kf l i in
      (q.0, ⊎_elim (λ o. inl (of_objects (normal_literal before.kf l) o)) (λ o. inr o) (or_cases (is_of_objects (normal_literal before.kf l)) _ q.1))

  -- what is in normal form of a predicate is of a predicate
  pub kind_of : (l : Literal) → IsOfObjects (normal_literal before.kf l) → is_named l.relation ≡ true
  kind_of l o = ap is_named (sym (normal_relation before.kf l)) ∙ o.0

  pub back_of : (l : Literal) → IsIn l back → IsIn l later.kf × (all_stay l.arguments ≡ true) × (is_touched (negated l) ≡ false)
  back_of l i = let q = in_filtered returns later.kf l i in let r = and_parts (all_stay l.arguments) _ q.1 in (q.0, r.0, not-true _ r.1)

  pub into_back : (l : Literal) → IsIn l later.kf → all_stay l.arguments ≡ true → is_touched (negated l) ≡ false → IsIn l all
  into_back l i a t = in_right own back l (in_filter returns later.kf l i (and_from _ _ a (not_from_false _ t)))

  pub touched_named : (r : Relation) (ts : List Term) (b : Bool) → touched_by r ts b ≡ true → is_named r ≡ true
  touched_named (Named p) ts b h = refl
  touched_named Equality ts b h =
      let f = found_in (λ (e : Effect). may_fire s before e && false) es h in absurd (true≢false (sym (and_parts (may_fire s before f.0) false f.2).1))

  pub equations_untouched : (l : Literal) → is_named l.relation ≡ false → is_touched (negated l) ≡ false
  equations_untouched l n = false_from_ne_true _ (λ t. true≢false (sym (touched_named l.relation l.arguments _ t) ∙ n))

  pub first_in : Within before.kf all
  first_in = first_known s before after later es given.kept given.grown

  -- ---- places

  pub change_alike : (f : ℕ) (us ws : List Inner) (x : Target) → map (normal later.kf) (map term_of us) ≡ map (normal later.kf) (map term_of ws) → may_change s later.kf f us x ≡ may_change s later.kf f ws x
  change_alike f us ws (Assign g vs v) e = λ i. (g == f) && not (some_differ_alike s later given.inhabited given.saturated given.fine (map term_of vs) (map term_of us) (map term_of ws) e i)
  change_alike f us ws (Set a) e = refl
  change_alike f us ws (Unset a) e = refl
  change_alike f us ws (Clear y) e = refl

  pub changed_alike : (f : ℕ) (us ws : List Inner) → map (normal later.kf) (map term_of us) ≡ map (normal later.kf) (map term_of ws) → is_changed (Apply f us) ≡ is_changed (Apply f ws)
  changed_alike f us ws e =
      any_each (λ x. may_fire s before x && may_change s later.kf f us x.target) (λ x. may_fire s before x && may_change s later.kf f ws x.target) es (λ x i. ap (λ b. may_fire s before x && b) (change_alike f us ws x.target e))

  pub assigned_changes : (x : Target) (t : Term) → Assigns x t → may_change s later.kf (number_of t) (arguments_of t) x ≡ true
  assigned_changes (Assign f ts v) t a =
      subst (λ u. may_change s later.kf (number_of u) (arguments_of u) (Assign f ts v) ≡ true) a (and_from _ _ (eq-eqb f f refl) (not_from_false _ (none_apart s later.kf apart (map term_of ts) (map term_of ts) refl)))
  assigned_changes (Set b) t a = absurd a
  assigned_changes (Unset b) t a = absurd a
  assigned_changes (Clear y) t a = absurd a

  pub assigned_changed : (t : Term) → IsAssigned before es t → is_changed t ≡ true
  assigned_changed t a = any_in (λ e. may_fire s before e && may_change s later.kf (number_of t) (arguments_of t) e.target) es a.effect a.among (and_from _ _ (surely_may a.effect a.fires) (assigned_changes a.effect.target t a.assigns))

  pub elsewhere_stays : (t : Term) (x : Target) → is_elsewhere t x ≡ true → is_application t ≡ true → may_change s later.kf (number_of t) (arguments_of t) x ≡ true → ⊥
  elsewhere_stays (Apply g us) (Assign f ts v) h a k =
      let q = and_parts (f == g) _ k in
      ⊎_elim (λ n. true≢false (sym q.0 ∙ not-true _ n))
      (λ o. true≢false (sym (others_differ s later.kf (map term_of ts) (map term_of us) o) ∙ not-true _ q.1)) (or_cases (not (f == g)) _ h)
  elsewhere_stays (Apply g us) (Set b) h a k = true≢false (sym k)
  elsewhere_stays (Apply g us) (Unset b) h a k = true≢false (sym k)
  elsewhere_stays (Apply g us) (Clear y) h a k = true≢false (sym k)
  elsewhere_stays (Object d) x h a k = true≢false (sym a)
  elsewhere_stays (Parameter d) x h a k = true≢false (sym a)

  pub place_left : (l : Literal) (o : OfPlace l) → left_of l ≡ Apply o.fun o.arguments
  place_left l o = ap left_of o.is

  -- an assigned place had a value; another one is told of later as before
  pub kept_place : (l : Literal) → IsIn l before.kf → IsOfPlace l → IsAssigned before es (left_of l) ⊎ (IsIn l later.kf × (is_changed (left_of l) ≡ false))
  kept_place l i o =
      let q = of_place l o in
      ⊎_elim
      (λ a. absurd (named_gives_none l.relation l.arguments a.0.0 o))
      (λ r. ⊎_elim
      (λ k. ⊎_elim (λ a. inl a)
      (λ e. inr (
        given.grown l e.0,
        false_from_ne_true _ (λ c.
            let f = found_in (λ x. may_fire s before x && may_change s later.kf (number_of (left_of l)) (arguments_of (left_of l)) x.target) es c in
            elsewhere_stays (left_of l) f.0.target (each_in (λ e. is_elsewhere (left_of l) e.target ≡ true) es f.0 e.1 f.1) (ap is_application (place_left l q)) (and_parts (may_fire s before f.0) _ f.2).1),
      )) k.1)
      (λ m. ⊎_elim
      (λ u. inr (given.grown l u.1, stays_left l q (and_parts (all_stay l.arguments) _ (untouched_returns s before later es l u.0)).0))
      (λ c. absurd (named_gives_none l.relation l.arguments (kind_of l c.0) o)) m) r)
      (each_in (IsKept before after es) before.kf l given.kept i)
    where
      stays_left : (l : Literal) (q : OfPlace l) → all_stay l.arguments ≡ true → is_changed (left_of l) ≡ false
      stays_left l q h =
          let h' : all_stay (Apply q.fun q.arguments ∷ Object q.value ∷ []) ≡ true = ap (λ (x : Literal). all_stay x.arguments) (sym q.is) ∙ h in
          ap is_changed (place_left l q) ∙ not-true _ (and_parts (not (is_changed (Apply q.fun q.arguments))) _ (and_parts (stays (Apply q.fun q.arguments)) _ h').0).0

  -- a place that isn't changed stays
  pub place_stays : (f : ℕ) (us : List Inner) → list_all (λ t. is_some (as_object t)) us ≡ true → is_changed (Apply f us) ≡ false → stays (Apply f us) ≡ true
  place_stays f us o c = and_from _ _ (not_from_false _ c) (ap (list_all (λ u. not (is_changed u))) (none_inside us o))

  pub place_literal_stays : (l : Literal) → OfPlace l → is_changed (left_of l) ≡ false → all_stay l.arguments ≡ true
  place_literal_stays l q c =
      ap (λ (x : Literal). all_stay x.arguments) q.is ∙ and_from _ _ (place_stays q.fun q.arguments q.at_objects (ap is_changed (sym (place_left l q)) ∙ c)) refl

  -- ---- values

  abbrev pub Told' : ℕ → List ℕ → ℕ → Literal
  Told' f ds e = record { relation = Equality; arguments = place f ds ∷ object e ∷ []; positive = true }

  pub objects_each : (ds : List ℕ) → list_all (λ t. is_some (as_object t)) (map (λ d. let t : Inner = Object d in t) ds) ≡ true
  objects_each [] = refl
  objects_each (d ∷ ds) = objects_each ds

  pub told_place : (f : ℕ) (ds : List ℕ) (e : ℕ) → IsOfPlace (Told' f ds e)
  told_place f ds e = and_from _ _ (place_is f ds) refl

  pub value_later : (f : ℕ) (ds : List ℕ) (e : ℕ) → is_changed (place f ds) ≡ false → IsIn e (values_at all f ds) → IsIn e (values_at later.kf f ds)
  value_later f ds e c i =
      ⊎_elim
      (λ j. let o = own_of (Told' f ds e) j in
      ⊎_elim (λ a. absurd (true≢false (sym (assigned_changed (place f ds) a) ∙ c))) (λ k. value_from later.kf f ds e k.0) (kept_place (Told' f ds e) o.0 (told_place f ds e)))
      (λ j. value_from later.kf f ds e (back_of (Told' f ds e) j).0)
      (in_appended own back (Told' f ds e) (value_literal all f ds e i))

  pub value_back : (f : ℕ) (ds : List ℕ) (e : ℕ) → is_changed (place f ds) ≡ false → IsIn e (values_at later.kf f ds) → IsIn e (values_at all f ds)
  value_back f ds e c i =
      value_from all f ds e (into_back (Told' f ds e) (value_literal later.kf f ds e i) (and_from _ _ (place_stays f (map Object ds) (objects_each ds) c) refl) (equations_untouched (Told' f ds e) refl))

  pub value_first : (f : ℕ) (ds : List ℕ) (e : ℕ) → is_changed (place f ds) ≡ true → IsIn e (values_at all f ds) → IsIn e (values_at before.kf f ds)
  value_first f ds e c i =
      ⊎_elim
      (λ j. value_from before.kf f ds e (own_of (Told' f ds e) j).0)
      (λ j. let q = and_parts (stays (place f ds)) _ (back_of (Told' f ds e) j).1 in absurd (true≢false (sym c ∙ not-true _ (and_parts (not (is_changed (place f ds))) _ q.0).0)))
      (in_appended own back (Told' f ds e) (value_literal all f ds e i))

  pub one_all : (f : ℕ) (ds : List ℕ) (e e' : ℕ) → IsIn e (values_at all f ds) → IsIn e' (values_at all f ds) → e ≡ e'
  one_all f ds e e' i j =
      ⊎_elim (λ c. one_first f ds e e' (value_first f ds e c i) (value_first f ds e' c j)) (λ c. one_later f ds e e' (value_later f ds e c i) (value_later f ds e' c j)) (cases_Bool (is_changed (place f ds)))

  pub least_value : (f : ℕ) (ds : List ℕ) (e : ℕ) → IsIn e (values_at all f ds) → least (values_at all f ds) ≡ Some e
  least_value = least_one s all all (λ x i. i) one_all

  pub least_agrees : (f : ℕ) (ds : List ℕ) → is_changed (place f ds) ≡ false → least (values_at all f ds) ≡ least (values_at later.kf f ds)
  least_agrees f ds c =
      elim (least (values_at later.kf f ds)) as (λ o. least (values_at later.kf f ds) ≡ o → least (values_at all f ds) ≡ o) [
        | Some e ↦ λ q. least_value f ds e (value_back f ds e c (least_in (λ x. IsIn x (values_at later.kf f ds)) (values_at later.kf f ds) e (each_of (λ x. IsIn x (values_at later.kf f ds)) (values_at later.kf f ds) (λ x i. i)) q))
        | None ↦ λ q. nothing (least (values_at all f ds)) q refl
      ] refl
    where
      nothing : (o : Option ℕ) → least (values_at later.kf f ds) ≡ None → least (values_at all f ds) ≡ o → least (values_at all f ds) ≡ None
      nothing None q r = r
      nothing (Some e) q r = absurd (none_least (values_at later.kf f ds) e (value_later f ds e c (least_in (λ x. IsIn x (values_at all f ds)) (values_at all f ds) e (each_of (λ x. IsIn x (values_at all f ds)) (values_at all f ds) (λ x i. i)) r)) q)

  pub normals : (ts : List Term) → all_stay ts ≡ true → map (normal all) ts ≡ map (normal later.kf) ts
  normals = normals_agree s all later.kf is_changed one_later least_agrees changed_alike

  pub normal_one : (t : Term) → stays t ≡ true → normal all t ≡ normal later.kf t
  normal_one = normal_agrees s all later.kf is_changed one_later least_agrees changed_alike

  pub normal_same : (l : Literal) → all_stay l.arguments ≡ true → normal_literal all l ≡ normal_literal later.kf l
  unfolding normal_literal
  normal_same l h = λ i. literal l.relation (normals l.arguments h i) l.positive

  -- ---- what is known of a changed place is said rightly of its value

  abbrev pub Said : Literal → Type 0
  Said k = (u : ℕ) × (e : ℕ) × (normal_literal all k ≡ literal Equality (object u ∷ object e ∷ []) k.positive) × (map (normal all) k.arguments ≡ object u ∷ object e ∷ []) × IsRight u e k.positive

  pub place_normal : (f : ℕ) (us : List Inner) (ds : List ℕ) (u : ℕ) → all_some (map as_object us) ≡ Some ds → IsIn u (values_at all f ds) → normal all (Apply f us) ≡ object u
  unfolding normal
  place_normal f us ds u q i =
      ap (applied as_object all f) (objects_stay all us ds q) ∙ ap (λ o. option_map_or Object (option_and_then (λ ds. least (values_at all f ds)) o) (Apply f us)) q
      ∙ ap (λ o. option_map_or Object o (Apply f us)) (least_value f ds u i)

  pub object_normal : (e : ℕ) → normal all (object e) ≡ object e
  unfolding normal
  object_normal e = refl

  -- ---- an assigned place had a value, or no literal gives it one

  -- no literal gives the term a value, before or then, and an effect may change it
  abbrev pub IsBare : Term → Type 0
  IsBare t = (normal all t ≡ t) × (normal before.kf t ≡ t) × (is_changed t ≡ true)

  pub least_there : (es : List ℕ) (e : ℕ) → least es ≡ Some e → IsIn e es
  least_there es e h = least_in (λ x. IsIn x es) es e (each_of (λ x. IsIn x es) es (λ x i. i)) h

  pub bare_normal : (kf : List Literal) (f : ℕ) (us : List Inner) (ds : List ℕ) → all_some (map as_object us) ≡ Some ds → least (values_at kf f ds) ≡ None → normal kf (Apply f us) ≡ Apply f us
  unfolding normal
  bare_normal kf f us ds q n =
      ap (applied as_object kf f) (objects_stay kf us ds q) ∙ ap (λ o. option_map_or Object (option_and_then (λ ds. least (values_at kf f ds)) o) (Apply f us)) q
      ∙ ap (λ o. option_map_or Object o (Apply f us)) n

  pub none_first : (f : ℕ) (ds : List ℕ) → least (values_at all f ds) ≡ None → (o : Option ℕ) → least (values_at before.kf f ds) ≡ o → least (values_at before.kf f ds) ≡ None
  none_first f ds n None r = r
  none_first f ds n (Some e) r =
      absurd (none_least (values_at all f ds) e (value_from all f ds e (first_in (Told' f ds e) (value_literal before.kf f ds e (least_there (values_at before.kf f ds) e r)))) n)

  pub valued_or_bare : (f : ℕ) (us : List Inner) (ds : List ℕ) → all_some (map as_object us) ≡ Some ds → is_changed (Apply f us) ≡ true → ((u : ℕ) × IsIn u (values_at all f ds)) ⊎ IsBare (Apply f us)
  valued_or_bare f us ds q c =
      elim (least (values_at all f ds)) as (λ o. least (values_at all f ds) ≡ o → ((u : ℕ) × IsIn u (values_at all f ds)) ⊎ IsBare (Apply f us)) [
        | Some e ↦ λ h. inl (e, least_there (values_at all f ds) e h)
        | None ↦ λ h. inr (bare_normal all f us ds q h, bare_normal before.kf f us ds q (none_first f ds h (least (values_at before.kf f ds)) refl), c)
      ] refl

  -- the value that a changed place has then it had before
  pub value_known : (f : ℕ) (us : List Inner) (ds : List ℕ) (u : ℕ) → all_some (map as_object us) ≡ Some ds → is_changed (Apply f us) ≡ true → IsIn u (values_at all f ds) → IsIn (Told' f ds u) before.kf
  value_known f us ds u q c i = value_literal before.kf f ds u (value_first f ds u (ap (λ ws. is_changed (Apply f ws)) (sym (objects_are us ds q)) ∙ c) i)

  pub said : (k : Literal) → IsIn k before.kf → (q : OfPlace k) → IsAssigned before es (left_of k) → Said k ⊎ IsBare (Apply q.fun q.arguments)
  unfolding normal_literal
  said k i q a =
      let ds = objects_of_place q.arguments q.at_objects in
      let at_place : Apply q.fun q.arguments ≡ place q.fun ds.0 = ap (Apply q.fun) (objects_are q.arguments ds.0 ds.1) in
      let changed : is_changed (Apply q.fun q.arguments) ≡ true = ap is_changed (sym (place_left k q)) ∙ assigned_changed (left_of k) a in
      ⊎_elim
      (λ w.
      let value : IsIn (Told' q.fun ds.0 w.0) before.kf = value_known q.fun q.arguments ds.0 w.0 ds.1 changed w.1 in
      let sides : map (normal all) k.arguments ≡ object w.0 ∷ object q.value ∷ [] =
      ap (λ (x : Literal). map (normal all) x.arguments) q.is ∙ (λ j. place_normal q.fun q.arguments ds.0 w.0 ds.1 w.1 j ∷ object_normal q.value j ∷ []) in
      inl (w.0, q.value, (λ j. literal (relation_is k q j) (sides j) k.positive), sides, right k.positive q.fun ds.0 w.0 q.value (at_objects k q ds.0 at_place i) value))
      (λ b. inr b)
      (valued_or_bare q.fun q.arguments ds.0 ds.1 changed)
    where
      relation_is : (k : Literal) (q : OfPlace k) → k.relation ≡ Equality
      relation_is k q = ap (λ (x : Literal). x.relation) q.is

      at_objects : (k : Literal) (q : OfPlace k) (ds : List ℕ) → Apply q.fun q.arguments ≡ place q.fun ds → IsIn k before.kf → IsIn (record { relation = Equality; arguments = place q.fun ds ∷ object q.value ∷ []; positive = k.positive }) before.kf
      at_objects k q ds e i = subst (λ t. IsIn (record { relation = Equality; arguments = t ∷ object q.value ∷ []; positive = k.positive }) before.kf) e (subst (λ l. IsIn l before.kf) q.is i)

      right : (b : Bool) (f : ℕ) (ds : List ℕ) (u e : ℕ) → IsIn (record { relation = Equality; arguments = place f ds ∷ object e ∷ []; positive = b }) before.kf → IsIn (Told' f ds u) before.kf → IsRight u e b
      right true f ds u e i v = one_first f ds u e (value_from before.kf f ds u v) (value_from before.kf f ds e i)
      right false f ds u e i v =
          ne_eqb u e (λ q. first_denied (record { relation = Equality; arguments = place f ds ∷ object e ∷ []; positive = false }) i (known_holds s before (Told' f ds u) (Told' f ds e) v (ap (λ x. normal_literal before.kf (Told' f ds x)) q)))

  -- ---- of terms that stay no more is told than is known later

  pub stays_each : (ts : List Term) → all_stay ts ≡ true → Each (λ t. stays t ≡ true) ts
  stays_each ts h = each_from_all (λ t. stays t ≡ true) stays (λ t k. k) ts h

  pub each_stays : (ts : List Term) → Each (λ t. stays t ≡ true) ts → all_stay ts ≡ true
  each_stays ts a = all_from_each stays ts a

  pub object_stays : (t : Term) → is_some (as_object t) ≡ true → stays t ≡ true
  object_stays (Object d) h = refl
  object_stays (Parameter d) h = absurd (true≢false (sym h))
  object_stays (Apply f us) h = absurd (true≢false (sym h))

  pub objects_do : (ts : List Term) → AreObjects ts → all_stay ts ≡ true
  objects_do [] a = refl
  objects_do (t ∷ ts) a = and_from _ _ (object_stays t a.0) (objects_do ts a.1)

  pub order_stays : (r : Relation) (ts : List Term) → all_stay ts ≡ true → all_stay (in_order r ts) ≡ true
  order_stays Equality (t ∷ u ∷ []) h =
      let q = and_parts (stays t) _ h in
      let r = and_parts (stays u) _ q.1 in
      elim (is_lt (term_cmp t u)) as (λ c. all_stay (cond c (u ∷ t ∷ []) (t ∷ u ∷ [])) ≡ true) [ true ↦ and_from _ _ r.0 (and_from _ _ q.0 refl) | false ↦ h ]
  order_stays Equality [] h = h
  order_stays Equality (t ∷ []) h = h
  order_stays Equality (t ∷ u ∷ v ∷ ts) h = h
  order_stays (Named p) ts h = h

  pub holds_by : (l m : Literal) → normal_literal later.kf l ≡ m → holds s later m ≡ true → holds s later l ≡ true
  holds_by l m e h = sym (holds-normal s later one_later l) ∙ ap (holds s later) e ∙ h

  pub same_kind : (k l : Literal) → normal_literal all k ≡ normal_literal all l → is_named k.relation ≡ is_named l.relation
  same_kind k l e = ap is_named (sym (normal_relation all k) ∙ ap (λ (x : Literal). x.relation) e ∙ normal_relation all l)

  pub off_named : (d : Five) (r : Relation) (ts : List Term) (b : Bool) → is_closed_off s d r ts b ≡ true → is_named r ≡ true
  off_named d (Named p) ts b h = refl
  off_named d Equality ts b h = absurd (true≢false (sym h))

  -- ---- a changed place without a value

  -- what stays doesn't become it
  pub form_unchanged : (t : Term) (f : ℕ) (us : List Inner) → stays t ≡ true → normal all t ≡ Apply f us → is_changed (Apply f us) ≡ true → ⊥
  unfolding normal
  form_unchanged (Object d) f us h e c = true≢false (sym (ap (λ (t : Term). is_application t) e))
  form_unchanged (Parameter d) f us h e c = true≢false (sym (ap (λ (t : Term). is_application t) e))
  form_unchanged (Apply g vs) f us h e c =
      let q = and_parts (not (is_changed (Apply g vs))) _ h in
      let r = application_form later.kf g f vs us (sym (normal_one (Apply g vs) h) ∙ e) in
      let again = changed_alike g (map (inner_normal later.kf) vs) vs (normal_inners_again s all later.kf is_changed one_later least_agrees changed_alike vs) in
      true≢false (sym c ∙ (λ i. is_changed (Apply (r.0 i) (r.1 i))) ∙ again ∙ not-true _ q.0)

  in_of_order : (r : Relation) (ts : List Term) (t : Term) → IsIn t (in_order r ts) → IsIn t ts
  in_of_order Equality (u ∷ v ∷ []) t i = elim (is_lt (term_cmp u v)) as (λ c. IsIn t (cond c (v ∷ u ∷ []) (u ∷ v ∷ [])) → IsIn t (u ∷ v ∷ [])) [ true ↦ turned | false ↦ λ j. j ] i
    where
      turned : IsIn t (v ∷ u ∷ []) → IsIn t (u ∷ v ∷ [])
      turned (inl e) = inr (inl e)
      turned (inr (inl e)) = inl e
      turned (inr (inr j)) = absurd j
  in_of_order Equality [] t i = i
  in_of_order Equality (u ∷ []) t i = i
  in_of_order Equality (u ∷ v ∷ w ∷ ts) t i = i
  in_of_order (Named p) ts t i = i

  normal_terms : (l : Literal) → (normal_literal all l).arguments ≡ in_order l.relation (map (normal all) l.arguments)
  unfolding normal_literal literal
  normal_terms l = refl

  pub bare_stays : (l m : Literal) (q : OfPlace m) → all_stay l.arguments ≡ true → IsBare (Apply q.fun q.arguments) → normal_literal all l ≡ m → ⊥
  bare_stays l m q a b e =
      let there : IsIn (let t : Term = Apply q.fun q.arguments in t) m.arguments = subst (λ (x : Literal). IsIn (let t : Term = Apply q.fun q.arguments in t) x.arguments) (sym q.is) (inl refl) in
      let i = in_of_order l.relation (map (normal all) l.arguments) (Apply q.fun q.arguments) (subst (IsIn (let t : Term = Apply q.fun q.arguments in t)) (ap (λ (x : Literal). x.arguments) (sym e) ∙ normal_terms l) there) in
      let r = in_mapped (normal all) l.arguments (Apply q.fun q.arguments) i in
      form_unchanged r.0 q.fun q.arguments (each_in (λ t. stays t ≡ true) l.arguments r.0 (stays_each l.arguments a) r.1) r.2 b.2

  pub equation_later : (l : Literal) → is_named l.relation ≡ false → all_stay l.arguments ≡ true → holds s G l ≡ true → holds s later l ≡ true
  equation_later l n a h =
      ⊎_elim by_known
      (λ r. ⊎_elim
      (λ e. evident_holds s later l (ap (λ ts. is_evident s l.relation ts l.positive) (sym (normals l.arguments a)) ∙ e))
      (λ c. absurd (true≢false (sym (off_named G l.relation l.arguments l.positive c) ∙ n))) r)
      (holds_cases s G l h)
    where
      of_stays : (k : Literal) → IsIn k later.kf → all_stay k.arguments ≡ true → normal_literal all k ≡ normal_literal all l → holds s later l ≡ true
      of_stays k i b e = known_holds s later k l i (sym (normal_same k b) ∙ e ∙ normal_same l a)

      by_known : is_known all l ≡ true → holds s later l ≡ true
      by_known k =
          let f = found_known all l k in
          ⊎_elim
          (λ i.
          let o = own_of f.0 i in
          ⊎_elim
          (λ w. absurd (true≢false (sym (kind_of f.0 w) ∙ same_kind f.0 l f.2 ∙ n)))
          (λ w. let q = of_place f.0 w in
          ⊎_elim
          (λ c.
          ⊎_elim (λ v. holds_by l (literal Equality (object v.0 ∷ object v.1 ∷ []) f.0.positive) (sym (normal_same l a) ∙ sym f.2 ∙ v.2) (right_holds s later v.0 v.1 f.0.positive v.4))
          (λ b. absurd (bare_stays l f.0 q a b (sym f.2 ∙ literal_of_place all f.0 q b.0)))
          (said f.0 o.0 q c))
          (λ c. of_stays f.0 c.0 (place_literal_stays f.0 q c.1) f.2)
          (kept_place f.0 o.0 w))
          o.1)
          (λ i. let b = back_of f.0 i in of_stays f.0 b.0 b.1 f.2)
          (in_appended own back f.0 f.1)

  -- what is said of it then was said before
  objects_there : (d e : ℕ) → are_objects (in_order Equality (object d ∷ object e ∷ [])) ≡ true
  objects_there d e =
      elim (is_lt (term_cmp (object d) (object e))) as (λ c. are_objects (cond c (object e ∷ object d ∷ []) (object d ∷ object e ∷ [])) ≡ true) [ true ↦ refl | false ↦ refl ]

  bare_not_said : (m k : Literal) (q : OfPlace m) → Said k → normal_literal all k ≡ m → ⊥
  bare_not_said m k q v e =
      true≢false
      (sym (objects_there v.0 v.1) ∙ sym (ap are_objects (literal_arguments Equality (object v.0 ∷ object v.1 ∷ []) k.positive)) ∙ ap (λ (x : Literal). are_objects x.arguments) (sym v.2 ∙ e ∙ q.is))

  pub bare_before : (m : Literal) (q : OfPlace m) → IsBare (Apply q.fun q.arguments) → (k : Literal) → IsIn k all → normal_literal all k ≡ m → IsIn m before.kf
  bare_before m q b k j e =
      ⊎_elim
      (λ i. let o = own_of k i in
      ⊎_elim
      (λ w. absurd (true≢false (sym (kind_of k w) ∙ ap is_named (sym (normal_relation all k) ∙ ap (λ (x : Literal). x.relation) e) ∙ ap (λ (x : Literal). is_named x.relation) q.is)))
      (λ w. let p = of_place k w in
      ⊎_elim
      (λ a. ⊎_elim (λ v. absurd (bare_not_said m k q v e)) (λ c. subst (λ x. IsIn x before.kf) (sym (literal_of_place all k p c.0) ∙ e) o.0) (said k o.0 p a))
      (λ c. absurd (bare_stays k m q (place_literal_stays k p c.1) b e))
      (kept_place k o.0 w))
      o.1)
      (λ i. absurd (bare_stays k m q (back_of k i).1 b e))
      (in_appended own back k j)

  pub bare_holds : (m : Literal) (q : OfPlace m) → IsBare (Apply q.fun q.arguments) → holds s G m ≡ true → holds s before m ≡ true
  bare_holds m q b h =
      ⊎_elim
      (λ k. let f = found_known all m k in known_holds s before m m (bare_before m q b f.0 f.1 (f.2 ∙ literal_of_place all m q b.0)) refl)
      (λ r. ⊎_elim
      (λ e. evident_holds s before m (ap (λ ts. is_evident s m.relation ts m.positive) (terms_of_place before.kf m q b.1 ∙ sym (terms_of_place all m q b.0)) ∙ e))
      (λ c. absurd (true≢false (sym (off_named G m.relation m.arguments m.positive c) ∙ ap (λ (x : Literal). is_named x.relation) q.is))) r)
      (holds_cases s G m h)

  pub differ_later : (t u : Term) → stays t ≡ true → stays u ≡ true → differ s all t u ≡ true → differ s later.kf t u ≡ true
  unfolding literal
  differ_later t u a b h =
      differ_holds s later t u ∙ unfold literal in equation_later (inequation t u) refl (order_stays Equality (t ∷ u ∷ []) (and_from _ _ a (and_from _ _ b refl))) (sym (differ_holds s G t u) ∙ h)

  pub some_differ_later : (ts us : List Term) → all_stay ts ≡ true → all_stay us ≡ true → some_differ s all ts us ≡ true → some_differ s later.kf ts us ≡ true
  some_differ_later (t ∷ ts) (u ∷ us) a b h =
      let p = and_parts (stays t) _ a in
      let q = and_parts (stays u) _ b in
      ⊎_elim (λ k. or_left _ _ (differ_later t u p.0 q.0 k)) (λ k. or_right _ _ (some_differ_later ts us p.1 q.1 k)) (or_cases (differ s all t u) _ h)
  some_differ_later [] us a b h = absurd (true≢false (sym h))
  some_differ_later (t ∷ ts) [] a b h = absurd (true≢false (sym h))

  pub none_differ : (ts us : List Term) → all_stay ts ≡ true → all_stay us ≡ true → not (some_differ s later.kf ts us) ≡ true → not (some_differ s all ts us) ≡ true
  none_differ ts us a b h = not_from_false _ (false_from_ne_true _ (λ t. true≢false (sym (some_differ_later ts us a b t) ∙ not-true _ h)))

  pub fits_later : (ss : List (Option Term)) (ts : List Term) → AreObjects (fixed_terms ss) → all_stay ts ≡ true → fits all ss ts ≡ true → fits later.kf ss ts ≡ true
  fits_later [] [] a b h = h
  fits_later [] (t ∷ ts) a b h = h
  fits_later (None ∷ ss) [] a b h = h
  fits_later (None ∷ ss) (t ∷ ts) a b h = fits_later ss ts a (and_parts (stays t) _ b).1 h
  fits_later (Some u ∷ ss) [] a b h = h
  fits_later (Some u ∷ ss) (t ∷ ts) a b h =
      let p = and_parts (term_eq (normal all u) (normal all t)) _ h in
      let q = and_parts (stays t) _ b in
      and_from _ _ ((λ i. term_eq (sym (normal_one u (object_stays u a.0)) i) (sym (normal_one t q.0) i)) ∙ p.0) (fits_later ss ts a.1 q.1 p.1)

  pub shut_out_later : (p : ℕ) (ts : List Term) (e : Entry) → AreObjects (entry_terms e) → all_stay ts ≡ true → is_shut_out s all p ts e ≡ true → is_shut_out s later.kf p ts e ≡ true
  shut_out_later p ts e a b h =
      let q = and_parts (e.pattern.predicate == p) _ h in
      let r = and_parts (fits all e.pattern.slots ts) _ q.1 in
      and_from _ _ q.0 (and_from _ _ (fits_later e.pattern.slots ts (each_front (λ t. is_some (as_object t) ≡ true) (fixed_terms e.pattern.slots) _ a) b r.0)
      (listed e.listed (each_back (λ t. is_some (as_object t) ≡ true) (fixed_terms e.pattern.slots) _ a) r.1))
    where
      listed : (xs : List Atom) → AreObjects (flat_map (λ (a : Atom). a.arguments) xs) → list_all (λ a. some_differ s all a.arguments ts) xs ≡ true → list_all (λ a. some_differ s later.kf a.arguments ts) xs ≡ true
      listed [] c k = refl
      listed (x ∷ xs) c k =
          let q = and_parts (some_differ s all x.arguments ts) _ k in
          and_from _ _ (some_differ_later x.arguments ts (objects_do x.arguments (each_front (λ t. is_some (as_object t) ≡ true) x.arguments _ c)) b q.0) (listed xs (each_back (λ t. is_some (as_object t) ≡ true) x.arguments _ c) q.1)

  -- ---- why a literal on a predicate holds: by one that comes back, by one at objects, or by a region

  abbrev pub ByBack : Literal → Type 0
  ByBack m = (k : Literal) × IsIn k back × (normal_literal later.kf k ≡ normal_literal later.kf m)

  abbrev pub ByOwn : Literal → Type 0
  ByOwn m = (k : Literal) × IsIn k before.kf × IsOfObjects k × (k ≡ normal_literal later.kf m)

  abbrev pub ByRegion : Literal → Type 0
  ByRegion m = (p : ℕ) × (r : Entry) × IsIn r before.lcw × (m.relation ≡ Named p) × (m.positive ≡ false) × (is_shut_out s later.kf p m.arguments r ≡ true)

  pub region_why : (r : Relation) (ts : List Term) (b : Bool) → all_stay ts ≡ true → is_closed_off s G r ts b ≡ true → (p : ℕ) × (e : Entry) × IsIn e before.lcw × (r ≡ Named p) × (b ≡ false) × (is_shut_out s later.kf p ts e ≡ true)
  region_why (Named p) ts false a h =
      let f = found_in (is_shut_out s all p ts) moment.lcw h in
      let i = given.own_regions f.0 f.1 in (p, f.0, i, refl, refl, shut_out_later p ts f.0 (each_in (λ r. AreObjects (entry_terms r)) before.lcw f.0 given.objects i) a f.2)
  region_why (Named p) ts true a h = absurd (true≢false (sym h))
  region_why Equality ts b a h = absurd (true≢false (sym h))

  -- a literal of before has there the normal form that it has then, and this was known
  pub first_normal : (l : Literal) → IsOfObjects (normal_literal before.kf l) → IsIn l before.kf → IsIn (normal_literal before.kf l) before.kf
  first_normal l o i = normal_in before.kf (addition_in s before given.inhabited given.first_saturated given.first_fine) l (named_order l.relation l.arguments (kind_of l o)) i

  pub own_normal : (l : Literal) → IsOfObjects (normal_literal before.kf l) → normal_literal all l ≡ normal_literal before.kf l
  own_normal l o = sym (normal_literal_again s before.kf all first_in one_all l) ∙ literal_normal all (normal_literal before.kf l) o

  pub why : (m : Literal) → is_named m.relation ≡ true → all_stay m.arguments ≡ true → holds s G m ≡ true → ByBack m ⊎ (ByOwn m ⊎ ByRegion m)
  why m n a h =
      ⊎_elim
      (λ q.
      let f = found_known all m q in
      ⊎_elim
      (λ i. let o = own_of f.0 i in
      ⊎_elim
      (λ w. inr (inl (normal_literal before.kf f.0, first_normal f.0 w o.0, w, sym (own_normal f.0 w) ∙ f.2 ∙ normal_same m a)))
      (λ w. absurd (named_gives_none f.0.relation f.0.arguments (same_kind f.0 m f.2 ∙ n) w)) o.1)
      (λ i. inl (f.0, i, sym (normal_same f.0 (back_of f.0 i).1) ∙ f.2 ∙ normal_same m a))
      (in_appended own back f.0 f.1))
      (λ r. ⊎_elim (λ e. absurd (true≢false (sym n ∙ evident_equation s m.relation _ m.positive e))) (λ c. inr (inr (region_why m.relation m.arguments m.positive a c))) r)
      (holds_cases s G m h)

  pub back_holds : (m : Literal) → ByBack m → holds s later m ≡ true
  back_holds m b = known_holds s later b.0 m (back_of b.0 b.1).0 b.2

  pub off_at : (d : Five) (p : ℕ) (r : Relation) (ts : List Term) (b : Bool) (e : Entry) → IsIn e d.lcw → r ≡ Named p → b ≡ false → is_shut_out s d.kf p ts e ≡ true → is_closed_off s d r ts b ≡ true
  off_at d p r ts b e i q n h = (λ j. is_closed_off s d (q j) ts (n j)) ∙ any_in (is_shut_out s d.kf p ts) d.lcw e i h

  pub region_holds : (m : Literal) → ByRegion m → holds s later m ≡ true
  region_holds m b = off_holds s later m (off_at later b.0 m.relation m.arguments m.positive b.1 (given.regions b.1 b.2) b.3 b.4 b.5)

  -- at objects a region told the same before
  pub region_before : (m : Literal) → IsOfObjects m → ByRegion m → holds s before m ≡ true
  region_before m o b =
      off_holds s before m
      (off_at before b.0 m.relation m.arguments m.positive b.1 b.2 b.3 b.4
      (objects_shut_out s later.kf before.kf (λ d. apart (Object d) (Object d) refl) b.0 m.arguments b.1 (each_in (λ r. AreObjects (entry_terms r)) before.lcw b.1 given.objects b.2) o.1 b.5))

  -- ---- what was known of a predicate at objects is known after, or an effect that fires makes the opposite so

  abbrev pub IsOpposed : Literal → Type 0
  IsOpposed k = (e : Effect) × IsIn e es × SurelyFires before e × Makes e.target (negated k) × IsIn (negated k) later.kf

  pub stays_or_opposed : (k : Literal) → IsIn k before.kf → IsOfObjects k → IsIn k later.kf ⊎ IsOpposed k
  stays_or_opposed k i n =
      ⊎_elim
      (λ o. ⊎_elim (λ j. inl (given.grown k j))
      (λ w. ⊎_elim (λ m. inl (made_later w.effect k w.among w.fires m)) (λ m. inr (w.effect, w.among, w.fires, m, made_later w.effect (negated k) w.among w.fires m)) w.makes) o.1)
      (λ r. ⊎_elim (λ o. absurd (named_gives_none k.relation k.arguments n.0 o.0))
      (λ q. ⊎_elim (λ u. inl (given.grown k u.1))
      (λ c. ⊎_elim (λ j. inl (given.grown k j)) (λ m. absurd (subst (IsIn m.0) (no_applications k.arguments n.1) m.1)) c.1) q) r)
      (each_in (IsKept before after es) before.kf k given.kept i)

  pub opposed : (e : Effect) (x n : Literal) → IsIn e es → SurelyFires before e → Makes e.target (negated n) → normal_literal later.kf x ≡ n → is_named x.relation ≡ true → IsOfObjects n → is_touched x ≡ true
  opposed e x n i f m q h o =
      any_in (λ e. may_fire s before e && denied_by s later.kf x.relation x.arguments x.positive e.target) es e i
      (and_from _ _ (surely_may e f)
      (denies s later.kf apart e.target x (negated n) h m
      (ap (λ (l : Literal). l.relation) (sym q) ∙ normal_relation later.kf x)
      (objects_normal later.kf n.arguments o.1 ∙ ap (λ (l : Literal). l.arguments) (sym q) ∙ normal_arguments later.kf x h)
      (ap not (ap (λ (l : Literal). l.positive) (sym q) ∙ normal_sign later.kf x))))

  -- ---- nothing clashes

  pub back_free : (l : Literal) → IsIn l later.kf → all_stay l.arguments ≡ true → is_touched (negated l) ≡ false → is_named l.relation ≡ true → holds s G (negated l) ≡ true → ⊥
  back_free l i a c n h =
      ⊎_elim
      (λ b. later_denied l i (back_holds (negated l) b))
      (λ r. ⊎_elim
      (λ o. ⊎_elim
      (λ j. later_denied l i (known_holds s later o.0 (negated l) j (literal_normal later.kf o.0 o.2 ∙ o.3)))
      (λ w. true≢false (sym (opposed w.0 (negated l) o.0 w.1 w.2 w.3 (sym o.3) n o.2) ∙ c))
      (stays_or_opposed o.0 o.1 o.2))
      (λ b. later_denied l i (region_holds (negated l) b))
      r)
      (why (negated l) n a h)

  pub own_free : (l : Literal) → IsIn l before.kf → IsOfObjects l → holds s G (negated l) ≡ true → ⊥
  own_free l i o h =
      ⊎_elim
      (λ b. ⊎_elim
      (λ j. later_denied l j (back_holds (negated l) b))
      (λ w.
      let turned : normal_literal later.kf (negated b.0) ≡ l = sym (negated_normal later.kf b.0) ∙ ap negated (b.2 ∙ literal_normal later.kf (negated l) o) ∙ negated_twice l in
      let named : is_named b.0.relation ≡ true = ap is_named (sym (normal_relation later.kf b.0) ∙ ap (λ (x : Literal). x.relation) b.2 ∙ normal_relation later.kf (negated l)) ∙ o.0 in
      true≢false (sym (opposed w.0 (negated b.0) l w.1 w.2 w.3 turned named o) ∙ (back_of b.0 b.1).2))
      (stays_or_opposed l i o))
      (λ r. ⊎_elim
      (λ k. first_denied l i (known_holds s before k.0 (negated l) k.1 (ap (normal_literal before.kf) (k.3 ∙ literal_normal later.kf (negated l) o))))
      (λ b. first_denied l i (region_before (negated l) o b))
      r)
      (why (negated l) o.0 (objects_do l.arguments o.1) h)

  pub place_free : (l : Literal) → IsIn l before.kf → IsOfPlace l → holds s G (negated l) ≡ true → ⊥
  place_free l i o h =
      ⊎_elim
      (λ a. ⊎_elim changed_free (λ b. first_denied l i (bare_holds (negated l) (negated_place l (of_place l o)) b h)) (said l i (of_place l o) a))
      (λ c. later_denied l c.0 (equation_later (negated l) unnamed (place_literal_stays l (of_place l o) c.1) h))
      (kept_place l i o)
    where
      unnamed : is_named l.relation ≡ false
      unnamed = ap (λ (x : Literal). is_named x.relation) (of_place l o).is

      wrong_later : (k : Literal) (v : Said l) → IsIn k later.kf → all_stay k.arguments ≡ true → normal_literal all k ≡ literal Equality (object v.0 ∷ object v.1 ∷ []) (not l.positive) → ⊥
      wrong_later k v j b e =
          later_denied k j (holds_by (negated k) (literal Equality (object v.0 ∷ object v.1 ∷ []) l.positive)
          (sym (negated_normal later.kf k) ∙ ap negated (sym (normal_same k b) ∙ e) ∙ literal_negated Equality (object v.0 ∷ object v.1 ∷ []) (not l.positive) ∙ (λ x. literal Equality (object v.0 ∷ object v.1 ∷ []) (not_twice l.positive x)))
          (right_holds s later v.0 v.1 l.positive v.4))

      wrong_said : (k : Literal) (v : Said l) → Said k → normal_literal all k ≡ literal Equality (object v.0 ∷ object v.1 ∷ []) (not l.positive) → ⊥
      wrong_said k v r e =
          let sign : k.positive ≡ not l.positive = sym (literal_sign Equality (object r.0 ∷ object r.1 ∷ []) k.positive) ∙ ap (λ (x : Literal). x.positive) (sym r.2 ∙ e) ∙ literal_sign Equality (object v.0 ∷ object v.1 ∷ []) (not l.positive) in
          right_wrong r.0 r.1 v.0 v.1 k.positive r.4 (subst (IsRight v.0 v.1) (sym (ap not sign ∙ not_twice l.positive)) v.4) (sym r.2 ∙ e ∙ (λ x. literal Equality (object v.0 ∷ object v.1 ∷ []) (sym sign x)))

      bare_wrong : (k : Literal) (v : Said l) (q : OfPlace k) → IsBare (Apply q.fun q.arguments) → normal_literal all k ≡ literal Equality (object v.0 ∷ object v.1 ∷ []) (not l.positive) → ⊥
      bare_wrong k v q b e =
          true≢false
          (sym (objects_there v.0 v.1) ∙ sym (ap are_objects (literal_arguments Equality (object v.0 ∷ object v.1 ∷ []) (not l.positive))) ∙ ap (λ (x : Literal). are_objects x.arguments) (sym e ∙ literal_of_place all k q b.0 ∙ q.is))

      by_known : (v : Said l) (k : Literal) → IsIn k all → normal_literal all k ≡ literal Equality (object v.0 ∷ object v.1 ∷ []) (not l.positive) → ⊥
      by_known v k j e =
          ⊎_elim
          (λ m. let w = own_of k m in
          ⊎_elim
          (λ z. true≢false (sym (kind_of k z) ∙ ap is_named (sym (normal_relation all k) ∙ ap (λ (x : Literal). x.relation) e) ∙ literal_kind Equality (object v.0 ∷ object v.1 ∷ []) (not l.positive)))
          (λ z. ⊎_elim
          (λ a. ⊎_elim (λ r. wrong_said k v r e) (λ b. bare_wrong k v (of_place k z) b e) (said k w.0 (of_place k z) a))
          (λ c. wrong_later k v c.0 (place_literal_stays k (of_place k z) c.1) e)
          (kept_place k w.0 z)) w.1)
          (λ m. let b = back_of k m in wrong_later k v b.0 b.1 e)
          (in_appended own back k j)

      changed_free : Said l → ⊥
      changed_free v =
          ⊎_elim
          (λ k. let f = found_known all (negated l) k in
          by_known v f.0 f.1 (f.2 ∙ sym (negated_normal all l) ∙ ap negated v.2 ∙ literal_negated Equality (object v.0 ∷ object v.1 ∷ []) l.positive))
          (λ r. ⊎_elim
          (λ e. wrong_not_evident s v.0 v.1 l.positive v.4 (sym (λ x. is_evident s (ap (λ (y : Literal). y.relation) (of_place l o).is x) (v.3 x) (not l.positive)) ∙ e))
          (λ c. true≢false (sym (off_named G l.relation l.arguments (not l.positive) c) ∙ unnamed)) r)
          (holds_cases s G (negated l) h)

  -- what holds, holds in normal form
  pub holds_normal : (l m : Literal) → normal_literal all l ≡ normal_literal all m → holds s G l ≡ true → holds s G m ≡ true
  holds_normal l m e h = sym (holds-normal s G one_all m) ∙ ap (holds s G) (sym e) ∙ holds-normal s G one_all l ∙ h

  pub copy_free : (l : Literal) → IsIn l before.kf → IsOfObjects (normal_literal before.kf l) → holds s G (negated l) ≡ true → ⊥
  copy_free l i o h =
      let n = normal_literal before.kf l in
      own_free n (first_normal l o i) o
      (holds_normal (negated l) (negated n) (sym (negated_normal all l) ∙ ap negated (own_normal l o ∙ sym (literal_normal all n o)) ∙ negated_normal all n) h)

  pub place_or_objects : (l : Literal) → IsIn l own → (IsIn l before.kf × IsOfObjects (normal_literal before.kf l)) ⊎ (IsIn l before.kf × IsOfPlace l)
  place_or_objects l i = let o = own_of l i in ⊎_elim (λ a. inl (o.0, a)) (λ a. inr (o.0, a)) o.1

  pub clash_free : (l : Literal) → IsIn l all → holds s G (negated l) ≡ true → ⊥
  clash_free l i h =
      ⊎_elim
      (λ j. ⊎_elim (λ o. copy_free l o.0 o.1 h) (λ o. place_free l o.0 o.1 h) (place_or_objects l j))
      (λ j. let q = back_of l j in
      ⊎_elim (λ n. back_free l q.0 q.1 q.2 n h) (λ n. later_denied l q.0 (equation_later (negated l) n q.1 h)) (cases_Bool (is_named l.relation)))
      (in_appended own back l i)

  pub no_clash : first_clash s G ≡ None
  unfolding first_clash
  no_clash = nothing_found (λ l. holds s G (negated l)) all clash_free
