-- What the moment before a transparent step may come to is closed under the rules.
use Rattle.std.proofs.Common.{◌≡◌, ◌⊎◌, ◌&&◌, ◌||◌, ◌==◌, ℕ, Bool, true, false, not, cond, is_some, is_lt, slice_get, List, [], ◌∷◌, map, filter, flat_map, option_and_then, Option, Some, None, refl, sym, ap, ◌∙◌, subst, inl, inr, ⊎_elim, true≢false}
use Rattle.std.specs.List.{list_all}
use Rattle.std.specs.Option.{option_map_or}
use Rattle.std.proofs.lemmas.Option.{none-some, same_Some}
use Rattle.std.proofs.lemmas.Bool.{cases_Bool, or_cases, or_left, or_right, and_parts, and_from, not_from_false, false_from_ne_true, not-true, eqb-true, or_parts}
use Rattle.pks_terms.specs.Sets.{Each, IsIn, all_some, one_replaced, with_others}
use Rattle.pks_terms.specs.Syntax.{Object, Parameter, Apply, Inner, Term, object, term_of, place, as_object, Relation, Named, Equality, Literal, negated}
use Rattle.pks_terms.specs.Orders.{term_cmp, in_order, literal, equation, inequation}
use Rattle.pks_terms.specs.Signatures.{Shape, Signature, objects_of, object_is_of, is_foreign, range_of}
use Rattle.pks_terms.specs.Databases.{Five, values_at, least, inner_normal, normal, normal_literal, holds}
use Rattle.pks_terms.specs.Closure.{inner_steps, term_steps, by_value, by_member, by_group, is_application, applications_in, is_last_left, by_range, additions}
use Rattle.pks_terms.specs.Actions.{Target, Set, Unset, Clear, Assign, Effect}
use Rattle.pks_terms.specs.Spoiling.{may_fire, may_make_true, may_make_false, may_change, may_be_changed, is_stable, are_stable, may_be_denied, spoils}
use Rattle.pks_terms.specs.Settling.{lasting, lasted}
use Rattle.pks_terms.specs.Saturated.{Within, IsSaturated}
use Rattle.pks_terms.proofs.ListLaws.{each_in, each_from_all, all_from_each, found_in, any_in, in_filter, in_filtered, in_appended, in_mapped, in_map, in_flat_mapped, map-map}
use Rattle.pks_terms.proofs.Types.{are_objects_of}
use Rattle.pks_terms.specs.Objects.{is_named}
use Rattle.pks_laws.proofs.Least.{in_left, in_right, in_flat, addition_in, ranged, values_within}
use Rattle.pks_laws.proofs.ClosedAgain.{holds-normal}
use Rattle.pks_laws.proofs.Holding.{eqb_comm}
use Rattle.pks_laws.proofs.BelongingHistories.{other_each}
use Rattle.pks_laws_forget.specs.Transparent.{AreObjects, IsOfObjects, gives_value, IsOfPlace, left_of, Makes, IsAssigned, leaves, IsLeft, IsKept, LastsAsGroup}
use Rattle.pks_laws_forget.proofs.Lists.{negated_twice, any_each, any_more, replaced_alike, replaced_too}
use Rattle.pks_laws_forget.proofs.Alike.{all_themselves, objects_stay, normal_relation, normal_arguments, normal_of, known_holds, group_closed, some_differ_alike, inner_step_normal, step_normal, member_grows, member_is}
use Rattle.pks_laws_forget.proofs.Agreeing.{objects_are, normal-term_of}
use Rattle.pks_laws_forget.proofs.Objects.{literal_normal, denied_by, makes_no_leaving, leaving_no_denying, named_gives_none, OfPlace, of_place, objects_of_place, none_inside, inequation_place, inequation_left, equation_is}
use Rattle.pks_laws_forget.proofs.Given.{IsGiven, changed_in, is_own, known_then, literal_arguments, literal_kind, literal_negated, returns_in, right_holds, stays_in, touched_in, value_from}
use Rattle.pks_laws_forget.proofs.Returning.{IsBare, kind_of, least_there, one_all, one_first, assigned_changed, back_holds, bare_holds, back_of, changed_alike, clash_free, each_stays, equation_later, equations_untouched, first_in, into_back, kept_place, made_of, none_differ, objects_do, objects_each, opposed, order_stays, place_left, place_literal_stays, place_or_objects, place_stays, region_holds, stays_each, stays_or_opposed, surely_may, touched_named, value_first, value_known, value_later, valued_or_bare, why}

module _ (s : Signature) (before after later moment : Five) (es : List Effect) (given : IsGiven s before after later moment es) where
  abbrev is_changed : Term → Bool
  is_changed = changed_in s before later es

  abbrev stays : Term → Bool
  stays = stays_in s before later es

  abbrev all_stay : List Term → Bool
  all_stay ts = list_all stays ts

  abbrev touched_by : Relation → List Term → Bool → Bool
  touched_by = touched_in s before later es

  abbrev is_touched : Literal → Bool
  is_touched l = touched_by l.relation l.arguments l.positive

  abbrev returns : Literal → Bool
  returns = returns_in s before later es

  abbrev own : List Literal
  own = filter (is_own before.kf) before.kf

  abbrev back : List Literal
  back = filter returns later.kf

  abbrev all : List Literal
  all = known_then s before later es

  abbrev G : Five
  G = record moment { kf = all }

  -- ---- the same effects may fire

  pub same_fire : (e : Effect) → IsIn e es → may_fire s G e ≡ may_fire s before e
  unfolding may_fire
  same_fire e i =
      ⊎_elim
      (λ f. not_from_false _ (false_from_ne_true _ (λ t. let c = found_in (λ l. holds s G (negated l)) e.condition t in clash_free s before after later moment es given c.0 (first_in s before after later moment es given c.0 (each_in (λ c. IsIn c before.kf) e.condition c.0 f.0 c.1)) c.2)) ∙ sym (unfold may_fire in surely_may s before after later moment es given e f.0))
      (λ n. let c = n.0 in
      ap not (any_in (λ l. holds s G (negated l)) e.condition c.0 c.1 (known_holds s G (negated c.0) (negated c.0) (first_in s before after later moment es given (negated c.0) c.2) refl)
      ∙ sym (any_in (λ l. holds s before (negated l)) e.condition c.0 c.1 (known_holds s before (negated c.0) (negated c.0) c.2 refl))))
      (made_of s before after later moment es given e i).known

  -- ---- what isn't spoiled before stays, and nothing denies it

  objects_terms : (ds : List ℕ) → all_stay (map term_of (map (λ d. let t : Inner = Object d in t) ds)) ≡ true
  objects_terms [] = refl
  objects_terms (d ∷ ds) = objects_terms ds

  objects_terms_of : (us : List Inner) → list_all (λ t. is_some (as_object t)) us ≡ true → all_stay (map term_of us) ≡ true
  objects_terms_of [] h = refl
  objects_terms_of (Object d ∷ us) h = objects_terms_of us h
  objects_terms_of (Parameter d ∷ us) h = absurd (true≢false (sym h))
  objects_terms_of (Apply g vs ∷ us) h = absurd (true≢false (sym h))

  -- an assignment is of objects to a place at objects
  assigned_objects : (f : ℕ) (us : List Inner) (v : Term) → IsOfPlace (equation (Apply f us) v) → (list_all (λ t. is_some (as_object t)) us ≡ true) × (e : ℕ) × (v ≡ object e)
  unfolding literal term_cmp
  assigned_objects f us (Object e) h = ((and_parts (list_all (λ t. is_some (as_object t)) us) _ h).0, e, refl)
  assigned_objects f us (Parameter e) h = absurd (true≢false (sym (and_parts (list_all (λ t. is_some (as_object t)) us) _ h).1))
  assigned_objects f us (Apply g vs) h = absurd (neither (is_lt (term_cmp (Apply f us) (Apply g vs))) h)
    where
      neither : (c : Bool) → gives_value Equality (cond c (Apply g vs ∷ Apply f us ∷ []) (Apply f us ∷ Apply g vs ∷ [])) ≡ true → ⊥
      neither true k = true≢false (sym (and_parts (list_all (λ t. is_some (as_object t)) vs) _ k).1)
      neither false k = true≢false (sym (and_parts (list_all (λ t. is_some (as_object t)) us) _ k).1)

  pub made_place : (f : ℕ) (us : List Inner) (v : Term) (l : Literal) → Makes (Assign f us v) l → IsOfObjects l ⊎ IsOfPlace l → (list_all (λ t. is_some (as_object t)) us ≡ true) × (e : ℕ) × (v ≡ object e)
  made_place f us v l m o =
      ⊎_elim
      (λ n. absurd (true≢false (sym n.0 ∙ ap (λ (x : Literal). is_named x.relation) (sym m) ∙ literal_kind Equality (Apply f us ∷ v ∷ []) true)))
      (λ q. assigned_objects f us v (subst IsOfPlace (sym m) q)) o

  change_too : (f : ℕ) (us : List Inner) (x : Target) (l : Literal) → Makes x l → IsOfObjects l ⊎ IsOfPlace l → all_stay (map term_of us) ≡ true → may_change s later.kf f us x ≡ true → may_change s all f us x ≡ true
  change_too f us (Assign g vs v) l m o a h =
      let q = and_parts (g == f) _ h in
      and_from _ _ q.0 (none_differ s before after later moment es given (map term_of vs) (map term_of us) (objects_terms_of vs (made_place g vs v l m o).0) a q.1)
  change_too f us (Set b) l m o a h = h
  change_too f us (Unset b) l m o a h = h
  change_too f us (Clear y) l m o a h = h

  changed_too : (f : ℕ) (us : List Inner) → all_stay (map term_of us) ≡ true → is_changed (Apply f us) ≡ true → may_be_changed s G es (Apply f us) ≡ true
  unfolding may_be_changed
  changed_too f us a h =
      any_more (λ e. may_fire s before e && may_change s later.kf f us e.target) (λ e. may_fire s G e && may_change s all f us e.target) es
      (λ e i k. let d = made_of s before after later moment es given e i in let q = and_parts (may_fire s before e) _ k in and_from _ _ (same_fire e i ∙ q.0) (change_too f us e.target d.made d.makes d.objects a q.1)) h

  -- in what is stable before nothing is changed
  inner_unchanged : (us : List Inner) → list_all (λ u. not (may_be_changed s G es u)) (filter is_application (map term_of us)) ≡ true → (list_all (λ u. not (is_changed u)) (filter is_application (map term_of us)) ≡ true) × (all_stay (map term_of us) ≡ true)
  inner_unchanged [] h = (refl, refl)
  inner_unchanged (Object d ∷ us) h = inner_unchanged us h
  inner_unchanged (Parameter d ∷ us) h = inner_unchanged us h
  inner_unchanged (Apply g ds ∷ us) h =
      let q = and_parts (not (may_be_changed s G es (Apply g (map Object ds)))) _ h in
      let r = inner_unchanged us q.1 in
      let c : is_changed (Apply g (map Object ds)) ≡ false = false_from_ne_true _ (λ t. true≢false (sym (changed_too g (map Object ds) (objects_terms ds) t) ∙ not-true _ q.0)) in
      (and_from _ _ (not_from_false _ c) r.0, and_from _ _ (place_stays s before after later moment es given g (map Object ds) (objects_each s before after later moment es given ds) c) r.1)

  stable_stays : (t : Term) → is_stable s G es t ≡ true → stays t ≡ true
  unfolding is_stable
  stable_stays (Object d) h = refl
  stable_stays (Parameter d) h = refl
  stable_stays (Apply f us) h =
      let q = and_parts (not (may_be_changed s G es (Apply f us))) _ h in
      let r = inner_unchanged us q.1 in
      and_from _ _ (not_from_false _ (false_from_ne_true _ (λ t. true≢false (sym (changed_too f us r.1 t) ∙ not-true _ q.0)))) r.0

  pub all_stable_stay : (ts : List Term) → are_stable s G es ts ≡ true → all_stay ts ≡ true
  all_stable_stay [] h = refl
  all_stable_stay (t ∷ ts) h = let q = and_parts (is_stable s G es t) _ h in and_from _ _ (stable_stays t q.0) (all_stable_stay ts q.1)

  made_named : (x : Target) (l : Literal) (p : ℕ) (ts : List Term) (b : Bool) → Makes x l → IsOfObjects l ⊎ IsOfPlace l → all_stay ts ≡ true → denied_by s later.kf (Named p) ts b x ≡ true → denied_by s all (Named p) ts b x ≡ true
  made_named (Set a) l p ts false m o st h = let q = and_parts (a.predicate == p) _ h in and_from _ _ q.0 (none_differ s before after later moment es given a.arguments ts (atom_stays l m o) st q.1)
    where
      atom_stays : (l : Literal) → Makes (Set a) l → IsOfObjects l ⊎ IsOfPlace l → all_stay a.arguments ≡ true
      atom_stays l m o = ⊎_elim (λ n. ap (λ (x : Literal). all_stay x.arguments) m ∙ objects_do s before after later moment es given l.arguments n.1) (λ n. absurd (named_gives_none l.relation l.arguments (ap (λ (x : Literal). is_named x.relation) (sym m)) n)) o
  made_named (Unset a) l p ts true m o st h = let q = and_parts (a.predicate == p) _ h in and_from _ _ q.0 (none_differ s before after later moment es given a.arguments ts (atom_stays l m o) st q.1)
    where
      atom_stays : (l : Literal) → Makes (Unset a) l → IsOfObjects l ⊎ IsOfPlace l → all_stay a.arguments ≡ true
      atom_stays l m o = ⊎_elim (λ n. ap (λ (x : Literal). all_stay x.arguments) m ∙ objects_do s before after later moment es given l.arguments n.1) (λ n. absurd (named_gives_none l.relation l.arguments (ap (λ (x : Literal). is_named x.relation) (sym m)) n)) o
  made_named (Set a) l p ts true m o st h = h
  made_named (Unset a) l p ts false m o st h = h
  made_named (Clear y) l p ts b m o st h = absurd m
  made_named (Assign g vs v) l p ts true m o st h = h
  made_named (Assign g vs v) l p ts false m o st h = h

  touched_too : (r : Relation) (ts : List Term) (b : Bool) → all_stay ts ≡ true → touched_by r ts b ≡ true → may_be_denied s G es r ts b ≡ true
  touched_too (Named p) ts true st h =
      any_more (λ e. may_fire s before e && may_make_false s later.kf p ts e.target) (λ e. may_fire s G e && may_make_false s all p ts e.target) es
      (λ e i k. let d = made_of s before after later moment es given e i in let q = and_parts (may_fire s before e) _ k in and_from _ _ (same_fire e i ∙ q.0) (made_named e.target d.made p ts true d.makes d.objects st q.1)) h
  touched_too (Named p) ts false st h =
      any_more (λ e. may_fire s before e && may_make_true s later.kf p ts e.target) (λ e. may_fire s G e && may_make_true s all p ts e.target) es
      (λ e i k. let d = made_of s before after later moment es given e i in let q = and_parts (may_fire s before e) _ k in and_from _ _ (same_fire e i ∙ q.0) (made_named e.target d.made p ts false d.makes d.objects st q.1)) h
  touched_too Equality ts b st h = absurd (true≢false (sym (touched_named s before after later moment es given Equality ts b h)))

  unspoiled : (l : Literal) → not (spoils s G es l) ≡ true → (all_stay l.arguments ≡ true) × (is_touched l ≡ false)
  unfolding spoils
  unspoiled l h =
      let o = or_parts (not (are_stable s G es l.arguments)) _ (not-true _ h) in
      let st = all_stable_stay l.arguments (true_of (are_stable s G es l.arguments) o.0) in
      (st, false_from_ne_true _ (λ t. true≢false (sym (touched_too l.relation l.arguments l.positive st t) ∙ o.1)))
    where
      true_of : (b : Bool) → not b ≡ false → b ≡ true
      true_of true e = refl
      true_of false e = absurd (true≢false e)

  -- ---- by value

  -- known later, and staying: so is each literal of it but those of assigned places and those that in normal form are of predicates at objects
  abbrev Stays : Literal → Type 0
  Stays l = IsIn l later.kf × (all_stay l.arguments ≡ true) × (is_touched (negated l) ≡ false)

  abbrev Assigned : Literal → Type 0
  Assigned l = IsIn l before.kf × OfPlace l × IsAssigned before es (left_of l)

  abbrev Copies : Literal → Type 0
  Copies l = IsIn l before.kf × IsOfObjects (normal_literal before.kf l)

  three : (l : Literal) → IsIn l all → Stays l ⊎ (Copies l ⊎ Assigned l)
  three l i =
      ⊎_elim
      (λ j. ⊎_elim (λ o. inr (inl o))
      (λ o. let q = of_place l o.1 in
      ⊎_elim (λ a. inr (inr (o.0, q, a)))
      (λ c. inl (c.0, place_literal_stays s before after later moment es given l q c.1, equations_untouched s before after later moment es given l (ap (λ (x : Literal). is_named x.relation) q.is)))
      (kept_place s before after later moment es given l o.0 o.1))
      (place_or_objects s before after later moment es given l j))
      (λ j. inl (back_of s before after later moment es given l j))
      (in_appended own back l i)

  abbrev inner_stays : Inner → Bool
  inner_stays (Object d) = true
  inner_stays (Parameter i) = true
  inner_stays (Apply g ds) = not (is_changed (Apply g (map Object ds)))

  inner_all : (us : List Inner) → list_all (λ u. not (is_changed u)) (filter is_application (map term_of us)) ≡ list_all inner_stays us
  inner_all [] = refl
  inner_all (Object d ∷ us) = inner_all us
  inner_all (Parameter d ∷ us) = inner_all us
  inner_all (Apply g ds ∷ us) = ap (λ b. not (is_changed (Apply g (map Object ds))) && b) (inner_all us)

  inner_later : (u y : Inner) → inner_stays u ≡ true → IsIn y (inner_steps all u) → IsIn y (inner_steps later.kf u) × (inner_stays y ≡ true)
  inner_later (Object d) y h i = absurd i
  inner_later (Parameter d) y h i = absurd i
  inner_later (Apply g ds) y h i =
      let r = in_mapped Object (values_at all g ds) y i in
      (subst (λ z. IsIn z (map Object (values_at later.kf g ds))) r.2 (in_map Object (values_at later.kf g ds) r.0 (value_later s before after later moment es given g ds r.0 (not-true _ h) r.1)), ap inner_stays (sym r.2))

  inner_step_alike : (x y : Inner) → IsIn y (inner_steps later.kf x) → normal later.kf (term_of y) ≡ normal later.kf (term_of x)
  inner_step_alike x y i = normal-term_of later.kf y ∙ ap term_of (inner_step_normal s later given.inhabited given.saturated given.fine x y i) ∙ sym (normal-term_of later.kf x)

  pub steps_later : (t u : Term) → stays t ≡ true → IsIn u (term_steps all t) → IsIn u (term_steps later.kf t) × (stays u ≡ true)
  unfolding term_steps
  steps_later (Object d) u h i = absurd i
  steps_later (Parameter d) u h i = absurd i
  steps_later (Apply f us) u h i =
      let q = and_parts (not (is_changed (Apply f us))) _ h in
      ⊎_elim
      (λ j.
      let r = in_mapped Object (option_map_or (values_at all f) (all_some (map as_object us)) []) u j in
      let there : IsIn r.0 (option_map_or (values_at later.kf f) (all_some (map as_object us)) []) = values (all_some (map as_object us)) refl (not-true _ q.0) r.0 r.1 in (
        in_left (map Object (option_map_or (values_at later.kf f) (all_some (map as_object us)) [])) (map (Apply f) (one_replaced (inner_steps later.kf) us)) u
            (subst (λ z. IsIn z (map Object (option_map_or (values_at later.kf f) (all_some (map as_object us)) []))) r.2 (in_map Object (option_map_or (values_at later.kf f) (all_some (map as_object us)) []) r.0 there)),
        ap stays (sym r.2),
      ))
      (λ j.
      let r = in_mapped (Apply f) (one_replaced (inner_steps all) us) u j in
      let z = replaced_too (λ w. inner_stays w ≡ true) (inner_steps all) (inner_steps later.kf) inner_later us r.0 (each_from_all (λ w. inner_stays w ≡ true) inner_stays (λ w k. k) us (sym (inner_all us) ∙ q.1)) r.1 in
      let e : map (normal later.kf) (map term_of r.0) ≡ map (normal later.kf) (map term_of us) =
      map-map term_of (normal later.kf) r.0 ∙ replaced_alike (inner_steps later.kf) (λ w. normal later.kf (term_of w)) inner_step_alike us r.0 z.0 ∙ sym (map-map term_of (normal later.kf) us) in (
        in_right (map Object (option_map_or (values_at later.kf f) (all_some (map as_object us)) [])) (map (Apply f) (one_replaced (inner_steps later.kf) us)) u
            (subst (λ y. IsIn y (map (Apply f) (one_replaced (inner_steps later.kf) us))) r.2 (in_map (Apply f) (one_replaced (inner_steps later.kf) us) r.0 z.0)),
        subst (λ y. stays y ≡ true) r.2 (and_from _ _ (not_from_false _ (changed_alike s before after later moment es given f r.0 us e ∙ not-true _ q.0)) (inner_all r.0 ∙ all_from_each inner_stays r.0 z.1)),
      ))
      (in_appended (map Object (option_map_or (values_at all f) (all_some (map as_object us)) [])) _ u i)
    where
      values : (o : Option (List ℕ)) → all_some (map as_object us) ≡ o → is_changed (Apply f us) ≡ false → (e : ℕ) → IsIn e (option_map_or (values_at all f) o []) → IsIn e (option_map_or (values_at later.kf f) o [])
      values None q c e k = k
      values (Some ds) q c e k = value_later s before after later moment es given f ds e (ap (λ ws. is_changed (Apply f ws)) (sym (objects_are us ds q)) ∙ c) k

  denied_alike : (p : ℕ) (us ts : List Term) (b : Bool) (x : Target) (l : Literal) → Makes x l → map (normal later.kf) us ≡ map (normal later.kf) ts → denied_by s later.kf (Named p) us b x ≡ denied_by s later.kf (Named p) ts b x
  denied_alike p us ts true (Set a) l m e = refl
  denied_alike p us ts false (Set a) l m e = λ i. (a.predicate == p) && not (some_differ_alike s later given.inhabited given.saturated given.fine a.arguments us ts e i)
  denied_alike p us ts true (Unset a) l m e = λ i. (a.predicate == p) && not (some_differ_alike s later given.inhabited given.saturated given.fine a.arguments us ts e i)
  denied_alike p us ts false (Unset a) l m e = refl
  denied_alike p us ts b (Clear y) l m e = absurd m
  denied_alike p us ts true (Assign g vs v) l m e = refl
  denied_alike p us ts false (Assign g vs v) l m e = refl

  touched_alike : (r : Relation) (us ts : List Term) (b : Bool) → map (normal later.kf) us ≡ map (normal later.kf) ts → touched_by r (in_order r us) b ≡ touched_by r ts b
  touched_alike (Named p) us ts b e =
      any_each (λ x. may_fire s before x && denied_by s later.kf (Named p) us b x.target) (λ x. may_fire s before x && denied_by s later.kf (Named p) ts b x.target) es
      (λ x i. let d = made_of s before after later moment es given x i in ap (λ c. may_fire s before x && c) (denied_alike p us ts b x.target d.made d.makes e))
  touched_alike Equality us ts b e = refl

  value_stays : (l k : Literal) → Stays l → IsIn k (by_value all l) → IsIn k all
  unfolding by_value literal
  value_stays l k h j =
      let r = in_mapped (λ ts. literal l.relation ts l.positive) (one_replaced (term_steps all) l.arguments) k j in
      let z = replaced_too (λ t. stays t ≡ true) (term_steps all) (term_steps later.kf) steps_later l.arguments r.0 (stays_each s before after later moment es given l.arguments h.1) r.1 in
      let step : IsIn k (by_value later.kf l) = subst (λ x. IsIn x (map (λ ts. literal l.relation ts l.positive) (one_replaced (term_steps later.kf) l.arguments))) r.2 (in_map (λ ts. literal l.relation ts l.positive) (one_replaced (term_steps later.kf) l.arguments) r.0 z.0) in
      let alike = replaced_alike (term_steps later.kf) (normal later.kf) (step_normal s later given.inhabited given.saturated given.fine) l.arguments r.0 z.0 in
      (into_back s before after later moment es given) k (unfold by_value literal in addition_in s later given.inhabited given.saturated given.fine l k h.0 step)
      (ap (λ (x : Literal). all_stay x.arguments) (sym r.2) ∙ order_stays s before after later moment es given l.relation r.0 (each_stays s before after later moment es given r.0 z.1))
      (ap (λ (x : Literal). is_touched (negated x)) (sym r.2) ∙ touched_alike l.relation r.0 l.arguments (not l.positive) alike ∙ h.2)

  abbrev IsPlaced : Term → Term → Type 0
  IsPlaced place t = (t ≡ place) ⊎ (is_some (as_object t) ≡ true)

  steps_first : (f : ℕ) (us : List Inner) → list_all (λ t. is_some (as_object t)) us ≡ true → is_changed (Apply f us) ≡ true → (t u : Term) → IsPlaced (Apply f us) t → IsIn u (term_steps all t) → IsIn u (term_steps before.kf t) × IsPlaced (Apply f us) u
  unfolding term_steps
  steps_first f us o c (Object d) u h i = absurd i
  steps_first f us o c (Parameter d) u h i = absurd i
  steps_first f us o c (Apply g vs) u h i =
      ⊎_elim
      (λ e. subst (λ t. IsIn u (term_steps all t) → IsIn u (term_steps before.kf t) × IsPlaced (Apply f us) u) (sym e) at_place i)
      (λ n. absurd (true≢false (sym n))) h
    where
      values : (ds : Option (List ℕ)) → all_some (map as_object us) ≡ ds → (e : ℕ) → IsIn e (option_map_or (values_at all f) ds []) → IsIn e (option_map_or (values_at before.kf f) ds [])
      values None q e k = k
      values (Some ds) q e k = value_first s before after later moment es given f ds e (ap (λ ws. is_changed (Apply f ws)) (sym (objects_are us ds q)) ∙ c) k

      none_inner : (ws ys : List Inner) → list_all (λ t. is_some (as_object t)) ws ≡ true → IsIn ys (one_replaced (inner_steps all) ws) → ⊥
      none_inner [] ys a j = j
      none_inner (Object d ∷ ws) ys a j = let r = in_mapped (λ zs. Object d ∷ zs) (one_replaced (inner_steps all) ws) ys j in none_inner ws r.0 a r.1
      none_inner (Parameter d ∷ ws) ys a j = true≢false (sym a)
      none_inner (Apply h ds ∷ ws) ys a j = true≢false (sym a)

      at_place : IsIn u (term_steps all (Apply f us)) → IsIn u (term_steps before.kf (Apply f us)) × IsPlaced (Apply f us) u
      at_place i =
          ⊎_elim
          (λ j. let r = in_mapped Object (option_map_or (values_at all f) (all_some (map as_object us)) []) u j in (
            in_left (map Object (option_map_or (values_at before.kf f) (all_some (map as_object us)) [])) (map (Apply f) (one_replaced (inner_steps before.kf) us)) u
                (subst (λ z. IsIn z (map Object (option_map_or (values_at before.kf f) (all_some (map as_object us)) []))) r.2
                (in_map Object (option_map_or (values_at before.kf f) (all_some (map as_object us)) []) r.0 (values (all_some (map as_object us)) refl r.0 r.1))),
            inr (ap (λ (z : Term). is_some (as_object z)) (sym r.2)),
          ))
          (λ j. let r = in_mapped (Apply f) (one_replaced (inner_steps all) us) u j in absurd (none_inner us r.0 o r.1))
          (in_appended (map Object (option_map_or (values_at all f) (all_some (map as_object us)) [])) _ u i)

  value_assigned : (l k : Literal) → Assigned l → IsIn k (by_value all l) → IsIn k all
  unfolding by_value
  value_assigned l k h j =
      let q = h.1 in
      let c : is_changed (Apply q.fun q.arguments) ≡ true = ap is_changed (sym (place_left s before after later moment es given l q)) ∙ assigned_changed s before after later moment es given (left_of l) h.2 in
      let r = in_mapped (λ ts. literal l.relation ts l.positive) (one_replaced (term_steps all) l.arguments) k j in
      let placed : Each (IsPlaced (Apply q.fun q.arguments)) l.arguments = subst (λ (x : Literal). Each (IsPlaced (Apply q.fun q.arguments)) x.arguments) (sym q.is) (inl refl, (inr refl, tt)) in
      let z = replaced_too (IsPlaced (Apply q.fun q.arguments)) (term_steps all) (term_steps before.kf) (steps_first q.fun q.arguments q.at_objects c) l.arguments r.0 placed r.1 in
      (first_in s before after later moment es given) k (unfold by_value in addition_in s before given.inhabited given.first_saturated given.first_fine l k h.0
      (subst (λ x. IsIn x (map (λ ts. literal l.relation ts l.positive) (one_replaced (term_steps before.kf) l.arguments))) r.2 (in_map (λ ts. literal l.relation ts l.positive) (one_replaced (term_steps before.kf) l.arguments) r.0 z.0)))

  -- ---- what is in normal form of objects

  abbrev IsValued : Term → Type 0
  IsValued t = is_some (as_object (normal before.kf t)) ≡ true

  abbrev IsInnerValued : Inner → Type 0
  IsInnerValued u = is_some (as_object (inner_normal before.kf u)) ≡ true

  inner_value : (g : ℕ) (ds : List ℕ) → IsInnerValued (Apply g ds) → (e : ℕ) × IsIn e (values_at before.kf g ds)
  inner_value g ds h =
      elim (least (values_at before.kf g ds)) as (λ o. least (values_at before.kf g ds) ≡ o → is_some (as_object (option_map_or Object o (Apply g (map (λ d. d) ds)))) ≡ true → (e : ℕ) × IsIn e (values_at before.kf g ds)) [
        | None ↦ λ r k. absurd (true≢false (sym k))
        | Some e ↦ λ r k. (e, least_there s before after later moment es given (values_at before.kf g ds) e r)
      ] refl (ap (λ o. is_some (as_object (option_map_or Object (option_and_then (λ ds. least (values_at before.kf g ds)) o) (Apply g (map (λ d. d) ds))))) (sym (all_themselves ds)) ∙ h)

  -- the value of an application, at the values of its arguments
  abbrev HasValue : ℕ → List Inner → Type 0
  HasValue f us = (ds : List ℕ) × (all_some (map as_object (map (inner_normal before.kf) us)) ≡ Some ds) × (e : ℕ) × IsIn e (values_at before.kf f ds) × (normal before.kf (Apply f us) ≡ object e)

  outer_value : (f : ℕ) (us : List Inner) → IsValued (Apply f us) → HasValue f us
  unfolding normal
  outer_value f us h =
      elim (all_some (map as_object (map (inner_normal before.kf) us))) as (λ o. all_some (map as_object (map (inner_normal before.kf) us)) ≡ o → is_some (as_object (option_map_or Object (option_and_then (λ ds. least (values_at before.kf f ds)) o) (Apply f (map (inner_normal before.kf) us)))) ≡ true → HasValue f us) [
        | None ↦ λ q k. absurd (true≢false (sym k))
        | Some ds ↦ λ q k. elim (least (values_at before.kf f ds)) as (λ o. least (values_at before.kf f ds) ≡ o → is_some (as_object (option_map_or Object o (Apply f (map (inner_normal before.kf) us)))) ≡ true → HasValue f us) [
          | None ↦ λ r k. absurd (true≢false (sym k))
          | Some e ↦ λ r k. (ds, q, e, least_there s before after later moment es given (values_at before.kf f ds) e r, ap (λ o. option_map_or Object (option_and_then (λ ds. least (values_at before.kf f ds)) o) (Apply f (map (inner_normal before.kf) us))) q ∙ ap (λ o. option_map_or Object o (Apply f (map (inner_normal before.kf) us))) r)
        ] refl k
      ] refl h

  -- such a value is the only one
  value_before : (f : ℕ) (ds : List ℕ) (e d : ℕ) → IsIn e (values_at before.kf f ds) → IsIn d (values_at all f ds) → IsIn d (values_at before.kf f ds)
  value_before f ds e d i j =
      subst (λ x. IsIn x (values_at before.kf f ds)) (one_all s before after later moment es given f ds e d (values_within s before.kf all (first_in s before after later moment es given) (one_all s before after later moment es given) f ds e i) j) i

  inner_valued : (us : List Inner) (ds : List ℕ) → all_some (map as_object (map (inner_normal before.kf) us)) ≡ Some ds → Each IsInnerValued us
  inner_valued [] ds q = tt
  inner_valued (u ∷ us) ds q =
      elim (as_object (inner_normal before.kf u)) as (λ o. as_object (inner_normal before.kf u) ≡ o → all_some (o ∷ map as_object (map (inner_normal before.kf) us)) ≡ Some ds → Each IsInnerValued (u ∷ us)) [
        | None ↦ λ r k. absurd (none-some ds k)
        | Some d ↦ λ r. elim (all_some (map as_object (map (inner_normal before.kf) us))) as (λ o. all_some (map as_object (map (inner_normal before.kf) us)) ≡ o → ◌≡◌ {A = Option (List ℕ)} (elim o [ None ↦ None | Some ys ↦ Some (d ∷ ys) ]) (Some ds) → Each IsInnerValued (u ∷ us)) [
          | None ↦ λ p k. absurd (none-some ds k)
          | Some ys ↦ λ p k. (ap is_some r, inner_valued us ys p)
        ] refl
      ] refl q

  inner_steps_before : (u y : Inner) → IsInnerValued u → IsIn y (inner_steps all u) → IsIn y (inner_steps before.kf u) × IsInnerValued y
  inner_steps_before (Object d) y h i = absurd i
  inner_steps_before (Parameter d) y h i = absurd i
  inner_steps_before (Apply g ds) y h i =
      let r = in_mapped Object (values_at all g ds) y i in
      let v = inner_value g ds h in
      (subst (λ z. IsIn z (map Object (values_at before.kf g ds))) r.2 (in_map Object (values_at before.kf g ds) r.0 (value_before g ds v.0 r.0 v.1 r.1)), ap (λ z. is_some (as_object (inner_normal before.kf z))) (sym r.2))

  steps_before : (t u : Term) → IsValued t → IsIn u (term_steps all t) → IsIn u (term_steps before.kf t)
  unfolding term_steps
  steps_before (Object d) u h i = absurd i
  steps_before (Parameter d) u h i = absurd i
  steps_before (Apply f us) u h i =
      let v = outer_value f us h in
      ⊎_elim
      (λ j. let r = in_mapped Object (option_map_or (values_at all f) (all_some (map as_object us)) []) u j in
      in_left (map Object (option_map_or (values_at before.kf f) (all_some (map as_object us)) [])) (map (Apply f) (one_replaced (inner_steps before.kf) us)) u
      (subst (λ z. IsIn z (map Object (option_map_or (values_at before.kf f) (all_some (map as_object us)) []))) r.2
      (in_map Object (option_map_or (values_at before.kf f) (all_some (map as_object us)) []) r.0 (values v (all_some (map as_object us)) refl r.0 r.1))))
      (λ j. let r = in_mapped (Apply f) (one_replaced (inner_steps all) us) u j in
      let z = replaced_too IsInnerValued (inner_steps all) (inner_steps before.kf) inner_steps_before us r.0 (inner_valued us v.0 v.1) r.1 in
      in_right (map Object (option_map_or (values_at before.kf f) (all_some (map as_object us)) [])) (map (Apply f) (one_replaced (inner_steps before.kf) us)) u
      (subst (λ y. IsIn y (map (Apply f) (one_replaced (inner_steps before.kf) us))) r.2 (in_map (Apply f) (one_replaced (inner_steps before.kf) us) r.0 z.0)))
      (in_appended (map Object (option_map_or (values_at all f) (all_some (map as_object us)) [])) _ u i)
    where
      values : HasValue f us → (o : Option (List ℕ)) → all_some (map as_object us) ≡ o → (d : ℕ) → IsIn d (option_map_or (values_at all f) o []) → IsIn d (option_map_or (values_at before.kf f) o [])
      values v None q d k = k
      values v (Some xs) q d k =
          let same : v.0 ≡ xs = same_Some v.0 xs (sym v.1 ∙ ap (λ ws. all_some (map as_object ws)) (objects_stay before.kf us xs q) ∙ q) in
          value_before f xs v.2 d (subst (λ ds. IsIn v.2 (values_at before.kf f ds)) same v.3) k

  steps_valued : (t u : Term) → IsValued t → IsIn u (term_steps all t) → IsIn u (term_steps before.kf t) × IsValued u
  steps_valued t u h i =
      let j = steps_before t u h i in
      (j, ap (λ z. is_some (as_object z)) (step_normal s before given.inhabited given.first_saturated given.first_fine t u j) ∙ h)

  each_valued : (ts : List Term) → AreObjects (map (normal before.kf) ts) → Each IsValued ts
  each_valued [] a = tt
  each_valued (t ∷ ts) a = (a.0, each_valued ts a.1)

  arguments_valued : (l : Literal) → IsOfObjects (normal_literal before.kf l) → Each IsValued l.arguments
  arguments_valued l o = each_valued l.arguments (subst AreObjects (normal_arguments before.kf l (kind_of s before after later moment es given l o)) o.1)

  value_copied : (l k : Literal) → Copies l → IsIn k (by_value all l) → IsIn k all
  unfolding by_value
  value_copied l k h j =
      let r = in_mapped (λ ts. literal l.relation ts l.positive) (one_replaced (term_steps all) l.arguments) k j in
      let z = replaced_too IsValued (term_steps all) (term_steps before.kf) steps_valued l.arguments r.0 (arguments_valued l h.1) r.1 in
      (first_in s before after later moment es given) k (unfold by_value in addition_in s before given.inhabited given.first_saturated given.first_fine l k h.0
      (subst (λ x. IsIn x (map (λ ts. literal l.relation ts l.positive) (one_replaced (term_steps before.kf) l.arguments))) r.2 (in_map (λ ts. literal l.relation ts l.positive) (one_replaced (term_steps before.kf) l.arguments) r.0 z.0)))

  value_in : (l k : Literal) → IsIn l all → IsIn k (by_value all l) → IsIn k all
  unfolding by_value
  value_in l k i j =
      ⊎_elim (λ h. unfold by_value in value_stays l k h j)
      (λ r. ⊎_elim
      (λ o. unfold by_value in value_copied l k o j)
      (λ a. unfold by_value in value_assigned l k a j) r)
      (three l i)

  -- ---- by the last value left

  application_stays : (u t : Term) → stays u ≡ true → IsIn t (applications_in u) → stays t ≡ true
  application_stays (Object d) t h i = absurd i
  application_stays (Parameter d) t h i = absurd i
  application_stays (Apply f us) t h (inl e) = ap stays (sym e) ∙ h
  application_stays (Apply f us) t h (inr i) =
      let q = and_parts (not (is_changed (Apply f us))) _ h in
      let r = in_mapped term_of us t (in_filtered is_application (map term_of us) t i).0 in
      inner (r.0) t r.2 (each_in (λ w. not (is_changed w) ≡ true) (filter is_application (map term_of us)) t (each_from_all (λ w. not (is_changed w) ≡ true) (λ w. not (is_changed w)) (λ w k. k) (filter is_application (map term_of us)) q.1) i)
    where
      inner : (v : Inner) (t : Term) → term_of v ≡ t → not (is_changed t) ≡ true → stays t ≡ true
      inner (Object d) t e c = ap stays (sym e)
      inner (Parameter d) t e c = ap stays (sym e)
      inner (Apply g ds) t e c = ap stays (sym e) ∙ place_stays s before after later moment es given g (map Object ds) (objects_each s before after later moment es given ds) (ap is_changed e ∙ not-true _ c)

  left_later : (t : Term) → stays t ≡ true → (os : List ℕ) (e : ℕ) → is_last_left s G t os e ≡ true → is_last_left s later t os e ≡ true
  left_later t h [] e k = refl
  left_later t h (o ∷ os) e k =
      let q = and_parts ((o == e) || holds s G (inequation t (object o))) _ k in
      and_from _ _
      (⊎_elim (λ z. or_left _ _ z) (λ z. or_right _ _ (inequation_later t o h z)) (or_cases (o == e) _ q.0))
      (left_later t h os e q.1)
    where
      inequation_later : (t : Term) (o : ℕ) → stays t ≡ true → holds s G (inequation t (object o)) ≡ true → holds s later (inequation t (object o)) ≡ true
      inequation_later t o h z = equation_later s before after later moment es given (inequation t (object o)) (literal_kind Equality (t ∷ object o ∷ []) false) (ap all_stay (literal_arguments Equality (t ∷ object o ∷ []) false) ∙ order_stays s before after later moment es given Equality (t ∷ object o ∷ []) (and_from _ _ h refl)) z

  abbrev by_range_of : Five → Term → List Literal
  by_range_of d t = map (λ e. equation t (object e)) (filter (is_last_left s d t (range_of s t)) (range_of s t))

  range_of_stays : (l k : Literal) (t : Term) → Stays l → IsIn t (flat_map applications_in l.arguments) → IsIn k (by_range_of G t) → IsIn k all
  unfolding additions by_range
  range_of_stays l k t h i j =
      let u = in_flat_mapped applications_in l.arguments t i in
      let st = application_stays u.0 t (each_in (λ t. stays t ≡ true) l.arguments u.0 (stays_each s before after later moment es given l.arguments h.1) u.1) u.2 in
      let r = in_mapped (λ e. equation t (object e)) (filter (is_last_left s G t (range_of s t)) (range_of s t)) k j in
      let q = in_filtered (is_last_left s G t (range_of s t)) (range_of s t) r.0 r.1 in
      let there : IsIn (equation t (object r.0)) (by_range_of later t) = in_map (λ e. equation t (object e)) (filter (is_last_left s later t (range_of s t)) (range_of s t)) r.0 (in_filter (is_last_left s later t (range_of s t)) (range_of s t) r.0 q.0 (left_later t st (range_of s t) r.0 q.1)) in
      let known : IsIn (equation t (object r.0)) later.kf =
      given.saturated (equation t (object r.0)) (in_right (flat_map (by_value later.kf) later.kf) _ (equation t (object r.0)) (in_right (flat_map (by_group s later) later.kx) _ (equation t (object r.0))
      (in_flat (λ l. flat_map (λ t. by_range_of later t) (flat_map applications_in l.arguments)) later.kf l (equation t (object r.0)) h.0 (in_flat (λ t. by_range_of later t) (flat_map applications_in l.arguments) t (equation t (object r.0)) i there)))) in
      subst (λ x. IsIn x all) r.2
      (into_back s before after later moment es given (equation t (object r.0)) known (ap all_stay (literal_arguments Equality (t ∷ object r.0 ∷ []) true) ∙ order_stays s before after later moment es given Equality (t ∷ object r.0 ∷ []) (and_from _ _ st refl))
      (equations_untouched s before after later moment es given (equation t (object r.0)) (literal_kind Equality (t ∷ object r.0 ∷ []) true)))

  -- the value that a place had is one of its function's result type
  value_ranged : (f : ℕ) (us : List Inner) (ds : List ℕ) (u : ℕ) → IsIn u (values_at before.kf f ds) → (e : ℕ) → IsIn e (range_of s (let t : Term = Apply f us in t)) → IsIn u (range_of s (let t : Term = Apply f us in t))
  unfolding is_foreign
  value_ranged f us ds u value e j =
      let own = ranged s before given.inhabited given.first_saturated given.first_fine f ds u value in
      elim (slice_get s.functions f) as (λ o. option_map_or (λ (x : Shape). not (object_is_of s x.result u)) o false ≡ false → IsIn e (option_map_or (λ (x : Shape). objects_of s x.result) o []) → IsIn u (option_map_or (λ (x : Shape). objects_of s x.result) o [])) [
        | None ↦ λ h k. absurd k
        | Some x ↦ λ h k. are_objects_of s x.result u (is_of (object_is_of s x.result u) h)
      ] (unfold is_foreign in own) j
    where
      is_of : (b : Bool) → not b ≡ false → b ≡ true
      is_of true h = refl
      is_of false h = absurd (true≢false h)

  denied_or : (t : Term) (u e : ℕ) (os : List ℕ) → IsIn u os → is_last_left s G t os e ≡ true → (u ≡ e) ⊎ (holds s G (inequation t (object u)) ≡ true)
  denied_or t u e [] i h = absurd i
  denied_or t u e (o ∷ os) (inl q) h =
      let p = and_parts ((o == e) || holds s G (inequation t (object o))) _ h in
      ⊎_elim (λ z. inl (sym q ∙ eqb-true o e z)) (λ z. inr (subst (λ x. holds s G (inequation t (object x)) ≡ true) q z)) (or_cases (o == e) _ p.0)
  denied_or t u e (o ∷ os) (inr i) h = denied_or t u e os i (and_parts ((o == e) || holds s G (inequation t (object o))) _ h).1

  -- of a changed place without a value no more is left out then than before
  left_before : (f : ℕ) (us : List Inner) → list_all (λ t. is_some (as_object t)) us ≡ true → IsBare s before after later moment es given (Apply f us) → (os : List ℕ) (e : ℕ) → is_last_left s G (Apply f us) os e ≡ true → is_last_left s before (Apply f us) os e ≡ true
  left_before f us a b [] e k = refl
  left_before f us a b (o ∷ os) e k =
      let q = and_parts ((o == e) || holds s G (inequation (Apply f us) (object o))) _ k in
      and_from _ _
      (⊎_elim (λ z. or_left _ _ z) (λ z. or_right _ _ (before_too o z)) (or_cases (o == e) _ q.0))
      (left_before f us a b os e q.1)
    where
      before_too : (o : ℕ) → holds s G (inequation (Apply f us) (object o)) ≡ true → holds s before (inequation (Apply f us) (object o)) ≡ true
      before_too o z = let m = inequation_place f us o a in bare_holds s before after later moment es given (inequation (Apply f us) (object o)) m (bare_there m) z
        where
          bare_there : (m : OfPlace (inequation (Apply f us) (object o))) → IsBare s before after later moment es given (Apply m.fun m.arguments)
          bare_there m = subst (IsBare s before after later moment es given) (sym (inequation_left f us o) ∙ place_left s before after later moment es given (inequation (Apply f us) (object o)) m) b

  range_valued : (f : ℕ) (us : List Inner) (ds : List ℕ) (u : ℕ) (k : Literal) → IsIn u (values_at before.kf f ds) → IsIn (equation (Apply f us) (object u)) before.kf → IsIn k (by_range_of G (Apply f us)) → IsIn k all
  range_valued f us ds u k own value j =
      let t : Term = Apply f us in
      let r = in_mapped (λ e. equation t (object e)) (filter (is_last_left s G t (range_of s t)) (range_of s t)) k j in
      let z = in_filtered (is_last_left s G t (range_of s t)) (range_of s t) r.0 r.1 in
      ⊎_elim
      (λ e. first_in s before after later moment es given k (subst (λ x. IsIn x before.kf) (ap (λ x. equation t (object x)) e ∙ r.2) value))
      (λ d. absurd (clash_free s before after later moment es given (equation t (object u)) (first_in s before after later moment es given (equation t (object u)) value) (ap (holds s G) (literal_negated Equality (t ∷ object u ∷ []) true) ∙ d)))
      (denied_or t u r.0 (range_of s t) (value_ranged f us ds u own r.0 z.0) z.1)

  range_bare : (l k : Literal) (f : ℕ) (us : List Inner) → IsIn l before.kf → IsIn (let t : Term = Apply f us in t) (flat_map applications_in l.arguments) → list_all (λ t. is_some (as_object t)) us ≡ true → IsBare s before after later moment es given (Apply f us) → IsIn k (by_range_of G (Apply f us)) → IsIn k all
  unfolding additions by_range
  range_bare l k f us h i a b j =
      let t : Term = Apply f us in
      let r = in_mapped (λ e. equation t (object e)) (filter (is_last_left s G t (range_of s t)) (range_of s t)) k j in
      let z = in_filtered (is_last_left s G t (range_of s t)) (range_of s t) r.0 r.1 in
      let there : IsIn k (by_range_of before t) =
      subst (λ x. IsIn x (by_range_of before t)) r.2
      (in_map (λ e. equation t (object e)) (filter (is_last_left s before t (range_of s t)) (range_of s t)) r.0 (in_filter (is_last_left s before t (range_of s t)) (range_of s t) r.0 z.0 (left_before f us a b (range_of s t) r.0 z.1))) in
      first_in s before after later moment es given k
      (given.first_saturated k (in_right (flat_map (by_value before.kf) before.kf) _ k (in_right (flat_map (by_group s before) before.kx) _ k
      (in_flat (λ l. flat_map (λ t. by_range_of before t) (flat_map applications_in l.arguments)) before.kf l k h (in_flat (λ t. by_range_of before t) (flat_map applications_in l.arguments) t k i there)))))

  range_assigned : (l k : Literal) (t : Term) → Assigned l → IsIn t (flat_map applications_in l.arguments) → IsIn k (by_range_of G t) → IsIn k all
  range_assigned l k t h i j =
      let q = h.1 in
      let is : Apply q.fun q.arguments ≡ t = one_application q.fun q.arguments q.value q.at_objects t (subst (λ (x : Literal). IsIn t (flat_map applications_in x.arguments)) q.is i) in
      let ds = objects_of_place q.arguments q.at_objects in
      let changed : is_changed (Apply q.fun q.arguments) ≡ true = ap is_changed (sym (place_left s before after later moment es given l q)) ∙ assigned_changed s before after later moment es given (left_of l) h.2 in
      let there : IsIn k (by_range_of G (Apply q.fun q.arguments)) = subst (λ x. IsIn k (by_range_of G x)) (sym is) j in
      ⊎_elim
      (λ w.
      let known = value_known s before after later moment es given q.fun q.arguments ds.0 w.0 ds.1 changed w.1 in
      range_valued q.fun q.arguments ds.0 w.0 k (value_from before.kf q.fun ds.0 w.0 known) (value_at q.fun q.arguments ds.0 w.0 ds.1 known) there)
      (λ b. range_bare l k q.fun q.arguments h.0 (subst (λ x. IsIn x (flat_map applications_in l.arguments)) (sym is) i) q.at_objects b there)
      (valued_or_bare s before after later moment es given q.fun q.arguments ds.0 ds.1 changed)
    where
      one_application : (f : ℕ) (us : List Inner) (e : ℕ) → list_all (λ t. is_some (as_object t)) us ≡ true → (t : Term) → IsIn t (flat_map applications_in (Apply f us ∷ Object e ∷ [])) → Apply f us ≡ t
      one_application f us e o t (inl q) = q
      one_application f us e o t (inr i) = ⊎_elim (λ k. absurd (subst (IsIn t) (none_inside us o) k)) (λ k. absurd k) (in_appended (filter is_application (map term_of us)) [] t i)

      value_at : (f : ℕ) (us : List Inner) (ds : List ℕ) (u : ℕ) → all_some (map as_object us) ≡ Some ds → IsIn (record { relation = Equality; arguments = place f ds ∷ object u ∷ []; positive = true }) before.kf → IsIn (equation (Apply f us) (object u)) before.kf
      value_at f us ds u q v = subst (λ l. IsIn l before.kf) (sym (equation_is f (map Object ds) u) ∙ ap (λ ws. equation (Apply f ws) (object u)) (sym (objects_are us ds q))) v

  object_first : (o : ℕ) → normal before.kf (object o) ≡ object o
  unfolding normal
  object_first o = refl

  other_denied : (t : Term) (u o : ℕ) → normal before.kf t ≡ object u → (o == u) ≡ false → holds s before (inequation t (object o)) ≡ true
  other_denied t u o n z =
      sym (holds-normal s before (one_first s before after later moment es given) (inequation t (object o)))
      ∙ ap (holds s before) (normal_of before.kf Equality (t ∷ object o ∷ []) false ∙ (λ i. literal Equality (n i ∷ object_first o i ∷ []) false)) ∙ right_holds s before u o false (eqb_comm u o ∙ z)

  -- the last value left to a term that has one is this
  left_valued : (t : Term) (u : ℕ) → normal before.kf t ≡ object u → (os : List ℕ) → is_last_left s before t os u ≡ true
  left_valued t u n [] = refl
  left_valued t u n (o ∷ os) = and_from _ _ (⊎_elim (λ z. or_left _ _ z) (λ z. or_right _ _ (other_denied t u o n z)) (cases_Bool (o == u))) (left_valued t u n os)

  equation_before : (l : Literal) (f : ℕ) (us : List Inner) (ds : List ℕ) (u : ℕ) → IsIn l before.kf → IsIn (let t : Term = Apply f us in t) (flat_map applications_in l.arguments) → normal before.kf (Apply f us) ≡ object u → IsIn u (values_at before.kf f ds) → (e : ℕ) → IsIn e (range_of s (let t : Term = Apply f us in t)) → IsIn (equation (Apply f us) (object u)) before.kf
  unfolding additions by_range
  equation_before l f us ds u i j n value e r =
      let t : Term = Apply f us in
      let there : IsIn (equation t (object u)) (by_range_of before t) = in_map (λ e. equation t (object e)) (filter (is_last_left s before t (range_of s t)) (range_of s t)) u (in_filter (is_last_left s before t (range_of s t)) (range_of s t) u (value_ranged f us ds u value e r) (left_valued t u n (range_of s t))) in
      given.first_saturated (equation t (object u)) (in_right (flat_map (by_value before.kf) before.kf) _ (equation t (object u)) (in_right (flat_map (by_group s before) before.kx) _ (equation t (object u))
      (in_flat (λ l. flat_map (λ t. by_range_of before t) (flat_map applications_in l.arguments)) before.kf l (equation t (object u)) i (in_flat (λ t. by_range_of before t) (flat_map applications_in l.arguments) t (equation t (object u)) j there))))

  -- an application in a term that has a value has one
  application_valued : (u t : Term) → IsValued u → IsIn t (applications_in u) → IsValued t
  application_valued (Object d) t h i = absurd i
  application_valued (Parameter d) t h i = absurd i
  application_valued (Apply f us) t h (inl e) = subst IsValued e h
  application_valued (Apply f us) t h (inr i) =
      let v = outer_value f us h in
      let r = in_mapped term_of us t (in_filtered is_application (map term_of us) t i).0 in
      subst IsValued r.2 (ap (λ x. is_some (as_object x)) (normal-term_of before.kf r.0) ∙ lifted (inner_normal before.kf r.0) (each_in IsInnerValued us r.0 (inner_valued us v.0 v.1) r.1))
    where
      lifted : (x : Inner) → is_some (as_object x) ≡ true → is_some (as_object (term_of x)) ≡ true
      lifted (Object d) k = refl
      lifted (Parameter d) k = absurd (true≢false (sym k))
      lifted (Apply g ds) k = absurd (true≢false (sym k))

  is_one : (u t : Term) → IsIn t (applications_in u) → is_application t ≡ true
  is_one (Object d) t i = absurd i
  is_one (Parameter d) t i = absurd i
  is_one (Apply f us) t (inl e) = ap is_application (sym e)
  is_one (Apply f us) t (inr i) = (in_filtered is_application (map term_of us) t i).1

  range_copied : (l k : Literal) (t : Term) → Copies l → IsIn t (flat_map applications_in l.arguments) → IsIn k (by_range_of G t) → IsIn k all
  range_copied l k t h i j =
      let r = in_flat_mapped applications_in l.arguments t i in
      on_term t (is_one r.0 t r.2) (application_valued r.0 t (each_in IsValued l.arguments r.0 (arguments_valued l h.1) r.1) r.2) i j
    where
      on_term : (t : Term) → is_application t ≡ true → IsValued t → IsIn t (flat_map applications_in l.arguments) → IsIn k (by_range_of G t) → IsIn k all
      on_term (Object d) a v i j = absurd (true≢false (sym a))
      on_term (Parameter d) a v i j = absurd (true≢false (sym a))
      on_term (Apply f us) a v i j =
          let w = outer_value f us v in
          let t : Term = Apply f us in
          let r = in_mapped (λ e. equation t (object e)) (filter (is_last_left s G t (range_of s t)) (range_of s t)) k j in
          let z = in_filtered (is_last_left s G t (range_of s t)) (range_of s t) r.0 r.1 in
          range_valued f us w.0 w.2 k w.3 (equation_before l f us w.0 w.2 h.0 i w.4 w.3 r.0 z.0) j

  range_in : (l k : Literal) (t : Term) → IsIn l all → IsIn t (flat_map applications_in l.arguments) → IsIn k (by_range_of G t) → IsIn k all
  range_in l k t i j h =
      ⊎_elim (λ a. range_of_stays l k t a j h)
      (λ r. ⊎_elim (λ o. range_copied l k t o j h) (λ a. range_assigned l k t a j h) r)
      (three l i)

  -- ---- by groups

  abbrev Lies : Literal → Type 0
  Lies m = IsOfObjects m × IsLeft es m

  held_later : (m : Literal) → Lies m → holds s G m ≡ true → holds s later m ≡ true
  held_later m a h =
      ⊎_elim (back_holds s before after later moment es given m)
      (λ r. ⊎_elim
      (λ k. ⊎_elim
      (λ j. known_holds s later k.0 m j (literal_normal later.kf k.0 k.2 ∙ k.3))
      (λ w.
      let same : k.0.relation ≡ m.relation = ap (λ (x : Literal). x.relation) k.3 ∙ normal_relation later.kf m in
      let at : k.0.arguments ≡ m.arguments = ap (λ (x : Literal). x.arguments) (k.3 ∙ literal_normal later.kf m a.0) in
      absurd (makes_no_leaving w.0.target (negated k.0) k.2.0 w.3 ((λ i. leaves (same i) (at i) w.0.target) ∙ each_in (λ e. leaves m.relation m.arguments e.target ≡ true) es w.0 a.1 w.1)))
      (stays_or_opposed s before after later moment es given k.0 k.1 k.2))
      (region_holds s before after later moment es given m) r)
      (why s before after later moment es given m a.0.0 (objects_do s before after later moment es given m.arguments a.0.1) h)

  abbrev Known : Literal → Type 0
  Known m = IsIn m before.kf ⊎ IsIn (negated m) before.kf

  known_turned : (m : Literal) → Known m → Known (negated m)
  known_turned m k = ⊎_elim (λ i. inr (subst (λ l. IsIn l before.kf) (sym (negated_twice m)) i)) (λ i. inl i) k

  known_before : (m : Literal) → Known m → holds s G m ≡ true → holds s before m ≡ true
  known_before m k h =
      ⊎_elim (λ i. known_holds s before m m i refl) (λ i. absurd (clash_free s before after later moment es given (negated m) (first_in s before after later moment es given (negated m) i) (ap (holds s G) (negated_twice m) ∙ h))) k

  lies_each : (g : List Literal) → Each IsOfObjects g → Each (IsLeft es) g → Each Lies g
  lies_each [] a b = tt
  lies_each (m ∷ g) a b = ((a.0, b.0), lies_each g a.1 b.1)

  lies_back : (k : Literal) → IsIn k later.kf → Lies k → IsIn k all
  lies_back k i a =
      into_back s before after later moment es given k i (objects_do s before after later moment es given k.arguments a.0.1)
      (false_from_ne_true _ (λ t.
      let f = found_in (λ e. may_fire s before e && denied_by s later.kf k.relation k.arguments (not k.positive) e.target) es t in
      leaving_no_denying s later.kf k.relation k.arguments (not k.positive) f.0.target (each_in (λ e. leaves k.relation k.arguments e.target ≡ true) es f.0 a.1 f.1) (and_parts (may_fire s before f.0) _ f.2).1))

  group_in : (g : List Literal) → IsIn g moment.kx → (q : Literal × List Literal) → IsIn q (with_others g) → Within (by_member s G q) all
  group_in g i q j k h =
      let was = given.own_groups g i in
      let lasts = each_in (LastsAsGroup before after es) before.kx g given.lasting was in
      ⊎_elim
      (λ stands.
      let both = each_in (λ (q : Literal × List Literal). Lies q.0 × Each Lies q.1) (with_others g) q (other_each Lies g (lies_each g lasts.0 stands.1)) j in
      lies_back k (group_closed s later given.saturated g (given.groups g was stands.0) q j k (member_grows s G later Lies held_later (λ m a. a) q both.0 both.1 k h))
      (member_is s G later Lies held_later (λ m a. a) q both.0 both.1 k h))
      (λ spent.
      let both = each_in (λ (q : Literal × List Literal). Known q.0 × Each Known q.1) (with_others g) q (other_each Known g spent) j in
      (first_in s before after later moment es given) k (group_closed s before given.first_saturated g was q j k (member_grows s G before Known known_before known_turned q both.0 both.1 k h)))
      lasts.1

  pub saturated_before : IsSaturated s G
  unfolding additions by_group by_range
  saturated_before k i =
      ⊎_elim
      (λ j. let r = in_flat_mapped (by_value all) all k j in value_in r.0 k r.1 r.2)
      (λ j. ⊎_elim
      (λ h.
      let r = in_flat_mapped (λ g. flat_map (by_member s G) (with_others g)) moment.kx k h in
      let q = in_flat_mapped (by_member s G) (with_others r.0) k r.2 in group_in r.0 r.1 q.0 q.1 k q.2)
      (λ h.
      let r = in_flat_mapped (λ l. flat_map (λ t. by_range_of G t) (flat_map applications_in l.arguments)) all k h in
      let q = in_flat_mapped (λ t. by_range_of G t) (flat_map applications_in r.0.arguments) k r.2 in range_in r.0 k q.0 r.1 q.1 q.2)
      (in_appended (flat_map (λ g. flat_map (by_member s G) (with_others g)) moment.kx) _ k j))
      (in_appended (flat_map (by_value all) all) _ k i)

  -- ---- what lasts

  pub lasting_in : Within (lasting s es G) later.kf
  lasting_in l i =
      let r = in_filtered (λ l. not (spoils s G es l)) all l i in
      let u = unspoiled l r.1 in
      ⊎_elim
      (λ j. ⊎_elim
      (λ o. own_lasts l o u.0 u.1)
      (λ o. let q = of_place l o.1 in ⊎_elim (λ a. absurd (true≢false (sym (assigned_changed s before after later moment es given (left_of l) a) ∙ left_stays l q u.0))) (λ c. c.0) (kept_place s before after later moment es given l o.0 o.1))
      (place_or_objects s before after later moment es given l j))
      (λ j. (back_of s before after later moment es given l j).0)
      (in_appended own back l r.0)
    where
      own_lasts : (l : Literal) → Copies l → all_stay l.arguments ≡ true → is_touched l ≡ false → IsIn l later.kf
      own_lasts l o a c =
          ⊎_elim
          (λ k. ⊎_elim (λ j. j) (λ w. absurd (true≢false (sym (opposed s before after later moment es given w.0 l l w.1 w.2 w.3 (literal_normal later.kf l k.0) k.0.0 k.0) ∙ c))) (stays_or_opposed s before after later moment es given l o.0 k.0))
          (λ r. ⊎_elim (λ v. absurd (named_gives_none l.relation l.arguments (kind_of s before after later moment es given l o.1) v.0))
          (λ q. ⊎_elim (λ n. given.grown l n.1)
          (λ k. ⊎_elim (λ j. given.grown l j)
          (λ m.
          let f = in_flat_mapped applications_in l.arguments m.0 m.1 in
          let still = each_in (λ t. stays t ≡ true) l.arguments f.0 (stays_each s before after later moment es given l.arguments a) f.1 in
          absurd (true≢false (sym (assigned_changed s before after later moment es given m.0 m.2) ∙ not-true _ (each_in (λ w. not (is_changed w) ≡ true) (applications_in f.0) m.0 (each_from_all (λ w. not (is_changed w) ≡ true) (λ w. not (is_changed w)) (λ w k. k) (applications_in f.0) still) f.2))))
          k.1) q) r)
          (each_in (IsKept before after es) before.kf l given.kept o.0)

      left_stays : (l : Literal) (q : OfPlace l) → all_stay l.arguments ≡ true → is_changed (left_of l) ≡ false
      left_stays l q h =
          let h' : all_stay (Apply q.fun q.arguments ∷ Object q.value ∷ []) ≡ true = ap (λ (x : Literal). all_stay x.arguments) (sym q.is) ∙ h in
          ap is_changed (place_left s before after later moment es given l q) ∙ not-true _ (and_parts (not (is_changed (Apply q.fun q.arguments))) _ (and_parts (stays (Apply q.fun q.arguments)) _ h').0).0

  pub lasted_in : Within (lasted s es G later) all
  lasted_in l i =
      let r = in_filtered (λ l. not (spoils s G es (negated l))) later.kf l i in
      let u = unspoiled (negated l) r.1 in into_back s before after later moment es given l r.0 u.0 u.1
