-- What the rounds derive is in every set without a clash that has the known literals and is closed under the rules.
use Rattle.std.proofs.Common.{◌≡◌, ◌&&◌, ◌||◌, ◌==◌, ℕ, zero, suc, Bool, true, false, cond, not, List, [], ◌∷◌, ◌++◌, map, filter, filter_map, flat_map, find, option_map, option_and_then, Option, Some, None, Less, Equal, Greater, is_lt, is_eq, refl, sym, ap, ◌∙◌, subst, inl, inr, ⊎_elim, true≢false}
use Rattle.std.specs.List.{list_any, list_all, cons_option}
use Rattle.std.specs.Option.{option_map_or}
use Rattle.std.specs.Ordering.{ordering_reverse}
use Rattle.std.proofs.lemmas.Cmp.{tied_itself}
use Rattle.std.proofs.lemmas.Bool.{or_cases, or_left, or_right, and_parts, and_from, cases_Bool, eqb-true, eq-eqb, ne_eqb, cond-true, not_from_false}
use Rattle.std.proofs.lemmas.Option.{none-some, same_Some, option_and_then_some, cond_some}
use Rattle.std.specs.Prelude.{slice_get}
use Rattle.pks_terms.proofs.Types.{objects_are_of}
use Rattle.pks_terms.specs.Sets.{IsIn, all_some, with_others, one_replaced}
use Rattle.pks_terms.specs.Syntax.{Form, Object, Parameter, Apply, Inner, Term, object, place, as_object, Relation, Named, Equality, Literal, Atom, negated}
use Rattle.pks_terms.specs.Orders.{term_cmp, term_eq, literal_cmp, literal_eq, in_order, literal, equation, inequation}
use Rattle.pks_terms.specs.Signatures.{Shape, Signature, HasValues, objects_of, object_is_of, is_foreign, range_of}
use Rattle.pks_terms.specs.Databases.{Entry, Five, Told, told_by, told, same_objects, value_if_at, values_at, least, applied, form_normal, inner_normal, normal, normal_literal, is_known, is_evident, is_plain, differ, some_differ, fits, is_shut_out, is_closed_off, holds}
use Rattle.pks_terms.specs.Closure.{inner_steps, term_steps, by_value, by_member, by_group, applications_in, is_last_left, by_range, additions, first_clash, round, rounds}
use Rattle.pks_terms.specs.Saturated.{Within, IsSaturated}
use Rattle.pks_terms.proofs.ListLaws.{each_of, found_in, any_in, map-map, map_alike, in_map, in_mapped, in_appended, in_flat_mapped, in_filtered, in_filter}
use Rattle.pks_terms.proofs.OrderLaws.{term_cmp_tells, literal_cmp_tells, same_literal, same_term}
use Rattle.pks_terms.specs.Totality.{term_cmp_total, literal_cmp_total}
use Rattle.pks_terms.proofs.SetLaws.{in_added}
use Rattle.pks_laws.proofs.Values.{same_objects_same, least_in}
use Rattle.pks_laws.proofs.Holding.{same_objects_itself}

pub in_left : {X : Type 0} (xs ys : List X) → Within xs (xs ++ ys)
in_left [] ys x i = absurd i
in_left (z ∷ xs) ys x (inl e) = inl e
in_left (z ∷ xs) ys x (inr i) = inr (in_left xs ys x i)

pub in_right : {X : Type 0} (xs ys : List X) → Within ys (xs ++ ys)
in_right [] ys x i = i
in_right (z ∷ xs) ys x i = inr (in_right xs ys x i)

pub in_flat : {X Y : Type 0} (f : X → List Y) (xs : List X) (x : X) (y : Y) → IsIn x xs → IsIn y (f x) → IsIn y (flat_map f xs)
in_flat f [] x y i j = absurd i
in_flat f (z ∷ zs) x y (inl e) j = in_left (f z) _ y (subst (λ u. IsIn y (f u)) (sym e) j)
in_flat f (z ∷ zs) x y (inr i) j = in_right (f z) _ y (in_flat f zs x y i j)

pub within_append : {X : Type 0} (xs ys us vs : List X) → Within xs us → Within ys vs → Within (xs ++ ys) (us ++ vs)
within_append xs ys us vs f g x i = ⊎_elim (λ j. in_left us vs x (f x j)) (λ j. in_right us vs x (g x j)) (in_appended xs ys x i)

pub within_map : {X Y : Type 0} (f : X → Y) (xs ys : List X) → Within xs ys → Within (map f xs) (map f ys)
within_map f xs ys w y i = let r = in_mapped f xs y i in subst (λ z. IsIn z (map f ys)) r.2 (in_map f ys r.0 (w r.0 r.1))

within_replaced : {X : Type 0} (f g : X → List X) → ((x : X) → Within (f x) (g x)) → (xs : List X) → Within (one_replaced f xs) (one_replaced g xs)
within_replaced f g w [] = λ x i. i
within_replaced f g w (x ∷ xs) = within_append _ _ _ _ (within_map (λ y. y ∷ xs) (f x) (g x) (w x)) (within_map (λ ys. x ∷ ys) (one_replaced f xs) (one_replaced g xs) (within_replaced f g w xs))

pub in_filter_mapped : {X Y : Type 0} (h : X → Option Y) (xs : List X) (y : Y) → IsIn y (filter_map h xs) → (x : X) × IsIn x xs × (h x ≡ Some y)
in_filter_mapped h [] y i = absurd i
in_filter_mapped {X} {Y} h (x ∷ xs) y i =
    elim (h x) as (λ o. h x ≡ o → IsIn y (cons_option o (filter_map h xs)) → (x' : X) × IsIn x' (x ∷ xs) × (h x' ≡ Some y)) [
      | None ↦ λ q j. let r = in_filter_mapped h xs y j in (r.0, inr r.1, r.2)
      | Some z ↦ λ q j. ⊎_elim (λ e. (x, inl refl, q ∙ ap Some e)) (λ k. let r = in_filter_mapped h xs y k in (r.0, inr r.1, r.2)) j
    ] refl i

pub in_filter_map : {X Y : Type 0} (h : X → Option Y) (xs : List X) (x : X) (y : Y) → IsIn x xs → h x ≡ Some y → IsIn y (filter_map h xs)
in_filter_map h [] x y i e = absurd i
in_filter_map {X} {Y} h (z ∷ zs) x y i e =
    elim (h z) as (λ o. h z ≡ o → IsIn y (cons_option o (filter_map h zs))) [
      | None ↦ λ q. ⊎_elim (λ s. absurd (none-some y (sym q ∙ ap h s ∙ e))) (λ j. in_filter_map h zs x y j e) i
      | Some u ↦ λ q. ⊎_elim (λ s. inl (same_Some u y (sym q ∙ ap h s ∙ e))) (λ j. inr (in_filter_map h zs x y j e)) i
    ] refl

within_filter_map : {X Y : Type 0} (h : X → Option Y) (xs ys : List X) → Within xs ys → Within (filter_map h xs) (filter_map h ys)
within_filter_map h xs ys w y i = let r = in_filter_mapped h xs y i in in_filter_map h ys r.0 y (w r.0 r.1) r.2

-- ---- the order of an equation's sides

pub in_order_swapped : (a b : Term) → in_order Equality (a ∷ b ∷ []) ≡ in_order Equality (b ∷ a ∷ [])
in_order_swapped a b =
    elim (term_cmp a b) as (λ r. term_cmp a b ≡ r → cond (is_lt r) (b ∷ a ∷ []) (a ∷ b ∷ []) ≡ cond (is_lt (term_cmp b a)) (a ∷ b ∷ []) (b ∷ a ∷ [])) [
      | Less ↦ λ e. sym (ap (λ r. cond (is_lt r) (a ∷ b ∷ []) (b ∷ a ∷ [])) (term_cmp_total.antisymm b a ∙ ap ordering_reverse e))
      | Equal ↦ λ e. let s = term_cmp_tells a b e in (λ i. s i ∷ sym s i ∷ []) ∙ sym (ap (λ r. cond (is_lt r) (a ∷ b ∷ []) (b ∷ a ∷ [])) (term_cmp_total.antisymm b a ∙ ap ordering_reverse e))
      | Greater ↦ λ e. sym (ap (λ r. cond (is_lt r) (a ∷ b ∷ []) (b ∷ a ∷ [])) (term_cmp_total.antisymm b a ∙ ap ordering_reverse e))
    ] refl

pub in_order-map : (f : Term → Term) (r : Relation) (ts : List Term) → in_order r (map f (in_order r ts)) ≡ in_order r (map f ts)
in_order-map f Equality (t ∷ u ∷ []) =
    elim (is_lt (term_cmp t u)) as (λ b. in_order Equality (map f (cond b (u ∷ t ∷ []) (t ∷ u ∷ []))) ≡ in_order Equality (f t ∷ f u ∷ [])) [ true ↦ in_order_swapped (f u) (f t) | false ↦ refl ]
in_order-map f Equality [] = refl
in_order-map f Equality (t ∷ []) = refl
in_order-map f Equality (t ∷ u ∷ x ∷ ts) = refl
in_order-map f (Named p) ts = refl

pub literal_eq_itself : (l k : Literal) → l ≡ k → literal_eq l k ≡ true
unfolding literal_eq
literal_eq_itself l k e = ap (λ k. is_eq (literal_cmp l k)) (sym e) ∙ ap is_eq (tied_itself literal_cmp_total l)

pub term_eq_itself : (t u : Term) → t ≡ u → term_eq t u ≡ true
unfolding term_eq
term_eq_itself t u e = ap (λ u. is_eq (term_cmp t u)) (sym e) ∙ ap is_eq (tied_itself term_cmp_total t)

-- ---- normal forms by a smaller set and then by the larger

objects_all : (ds : List ℕ) → all_some (map as_object (map (λ d. let t : Inner = Object d in t) ds)) ≡ Some ds
objects_all [] = refl
objects_all (d ∷ ds) = ap (λ o. elim o [ None ↦ None | Some ys ↦ Some (d ∷ ys) ]) (objects_all ds)

module _ (s : Signature) (small big : List Literal) (within : Within small big)
    (one_value : (f : ℕ) (ds : List ℕ) (e e' : ℕ) → IsIn e (values_at big f ds) → IsIn e' (values_at big f ds) → e ≡ e') where
  pub values_within : (f : ℕ) (ds : List ℕ) → Within (values_at small f ds) (values_at big f ds)
  unfolding values_at
  values_within f ds = within_filter_map (λ l. option_and_then (value_if_at f ds) (told l.relation l.arguments l.positive)) small big within

  least_is_in : (es : List ℕ) (e : ℕ) → least es ≡ Some e → IsIn e es
  least_is_in es e h = least_in (λ x. IsIn x es) es e (each_of (λ x. IsIn x es) es (λ x i. i)) h

  pub least_one : (f : ℕ) (ds : List ℕ) (e : ℕ) → IsIn e (values_at big f ds) → least (values_at big f ds) ≡ Some e
  least_one f ds e i =
      elim (least (values_at big f ds)) as (λ o. least (values_at big f ds) ≡ o → o ≡ Some e) [
        | None ↦ λ q. absurd (not_empty (values_at big f ds) e i q)
        | Some x ↦ λ q. ap Some (one_value f ds x e (least_is_in (values_at big f ds) x q) i)
      ] refl
    where
      not_empty : (es : List ℕ) (e : ℕ) → IsIn e es → least es ≡ None → ⊥
      not_empty [] e i q = i
      not_empty (x ∷ xs) e i q = none-some _ (sym q)

  module _ {A : Type 0} (obj : A → Option ℕ) (first second : A → A) (again : (a : A) → second (first a) ≡ second a) (fixed : (a : A) (d : ℕ) → obj a ≡ Some d → obj (second a) ≡ Some d) where
    all_fixed : (ts : List A) (ds : List ℕ) → all_some (map obj ts) ≡ Some ds → all_some (map obj (map second ts)) ≡ Some ds
    all_fixed [] ds e = e
    all_fixed (t ∷ ts) ds e =
        elim (obj t) as (λ o. obj t ≡ o → all_some (o ∷ map obj ts) ≡ Some ds → all_some (map obj (map second (t ∷ ts))) ≡ Some ds) [
          | None ↦ λ q k. absurd (none-some ds k)
          | Some d ↦ λ q. elim (all_some (map obj ts)) as (λ r. all_some (map obj ts) ≡ r → ◌≡◌ {A = Option (List ℕ)} (elim r [ None ↦ None | Some ys ↦ Some (d ∷ ys) ]) (Some ds) → all_some (map obj (map second (t ∷ ts))) ≡ Some ds) [
            | None ↦ λ r k. absurd (none-some ds k)
            | Some ys ↦ λ r k.
                ap (λ o. all_some (o ∷ map obj (map second ts))) (fixed t d q) ∙ ap (λ o. elim o [ None ↦ None | Some ys ↦ Some (d ∷ ys) ]) (all_fixed ts ys r) ∙ k
          ] refl
        ] refl e

    form_again : (t : Form A) → form_normal second obj big (form_normal first obj small t) ≡ form_normal second obj big t
    form_again (Object d) = refl
    form_again (Parameter i) = refl
    form_again (Apply f ts) =
        let args : map second (map first ts) ≡ map second ts = map-map first second ts ∙ map_alike (λ t. second (first t)) second again ts in
        elim (all_some (map obj (map first ts))) as (λ o. all_some (map obj (map first ts)) ≡ o → form_normal second obj big (option_map_or Object (option_and_then (λ ds. least (values_at small f ds)) o) (Apply f (map first ts))) ≡ applied obj big f (map second ts)) [
          | None ↦ λ q. ap (applied obj big f) args
          | Some ds ↦ λ q.
              elim (least (values_at small f ds)) as (λ o. least (values_at small f ds) ≡ o → form_normal second obj big (option_map_or Object o (Apply f (map first ts))) ≡ applied obj big f (map second ts)) [
                | None ↦ λ r. ap (applied obj big f) args
                | Some e ↦ λ r.
                    let known : all_some (map obj (map second ts)) ≡ Some ds = sym (ap (λ us. all_some (map obj us)) args) ∙ all_fixed (map first ts) ds q in
                    sym (ap (λ o. option_map_or Object (option_and_then (λ ds. least (values_at big f ds)) o) (Apply f (map second ts))) known
                    ∙ ap (λ o. option_map_or Object o (Apply f (map second ts))) (least_one f ds e (values_within f ds e (least_is_in (values_at small f ds) e r))))
              ] refl
        ] refl

  inner_again : (t : Inner) → inner_normal big (inner_normal small t) ≡ inner_normal big t
  inner_again = form_again Some (λ d. d) (λ d. d) (λ d. refl) (λ a d e. e)

  object_fixed : (t : Inner) (d : ℕ) → as_object t ≡ Some d → as_object (inner_normal big t) ≡ Some d
  object_fixed (Object e) d h = h
  object_fixed (Parameter i) d h = absurd (none-some d h)
  object_fixed (Apply f ds) d h = absurd (none-some d h)

  pub normal_again : (t : Term) → normal big (normal small t) ≡ normal big t
  unfolding normal
  normal_again = form_again as_object (inner_normal small) (inner_normal big) inner_again object_fixed

  normals_again : (ts : List Term) → map (normal big) (map (normal small) ts) ≡ map (normal big) ts
  normals_again ts = map-map (normal small) (normal big) ts ∙ map_alike (λ t. normal big (normal small t)) (normal big) normal_again ts

  pub normal_literal_again : (l : Literal) → normal_literal big (normal_literal small l) ≡ normal_literal big l
  unfolding normal_literal literal
  normal_literal_again l = λ i. record {
    relation = l.relation;
    arguments = (in_order-map (normal big) l.relation (map (normal small) l.arguments) ∙ ap (in_order l.relation) (normals_again l.arguments)) i;
    positive = l.positive;
  }

  known_grows : (l : Literal) → is_known small l ≡ true → is_known big l ≡ true
  unfolding is_known
  known_grows l h =
      let f = found_in (λ k. literal_eq (normal_literal small k) (normal_literal small l)) small h in
      any_in (λ k. literal_eq (normal_literal big k) (normal_literal big l)) big f.0 (within f.0 f.1)
      (literal_eq_itself _ _ (sym (normal_literal_again f.0) ∙ ap (normal_literal big) (same_literal _ _ f.2) ∙ normal_literal_again l))

  object_again : (t : Term) (d : ℕ) → normal small t ≡ Object d → normal big t ≡ Object d
  unfolding normal
  object_again t d e = sym (normal_again t) ∙ ap (normal big) e

  module _ (ranged : (f : ℕ) (ds : List ℕ) (e : ℕ) → IsIn e (values_at big f ds) → is_foreign s f e ≡ false) where
    applied_again : (t : Term) (f : ℕ) (us : List Inner) → normal small t ≡ Apply f us → normal big t ≡ applied as_object big f (map (inner_normal big) us)
    unfolding normal
    applied_again t f us e = sym (normal_again t) ∙ ap (normal big) e

    -- an application stays one, or becomes an object of its function's result type
    applied_cases : (P : Term → Type 0) (f : ℕ) (us : List Inner) → P (Apply f us) → ((e : ℕ) → is_foreign s f e ≡ false → P (Object e)) → P (applied as_object big f us)
    applied_cases P f us same value =
        elim (all_some (map as_object us)) as (λ o. P (option_map_or Object (option_and_then (λ ds. least (values_at big f ds)) o) (Apply f us))) [
          | None ↦ same
          | Some ds ↦ elim (least (values_at big f ds)) as (λ o. least (values_at big f ds) ≡ o → P (option_map_or Object o (Apply f us))) [
            | None ↦ λ q. same
            | Some e ↦ λ q. value e (ranged f ds e (least_is_in (values_at big f ds) e q))
          ] refl
        ]

    foreign_other : (f d e : ℕ) → is_foreign s f d ≡ true → is_foreign s f e ≡ false → d ≡ e → ⊥
    foreign_other f d e h k q = true≢false (sym h ∙ ap (is_foreign s f) q ∙ k)

    foreign_right : (d f : ℕ) (us : List Inner) → is_foreign s f d ≡ true → is_evident s Equality (Object d ∷ applied as_object big f us ∷ []) false ≡ true
    foreign_right d f us h =
        applied_cases (λ u. is_evident s Equality (Object d ∷ u ∷ []) false ≡ true) f us h (λ e k. not_from_false _ (ne_eqb d e (foreign_other f d e h k)))

    foreign_left : (d f : ℕ) (us : List Inner) → is_foreign s f d ≡ true → is_evident s Equality (applied as_object big f us ∷ Object d ∷ []) false ≡ true
    foreign_left d f us h =
        applied_cases (λ u. is_evident s Equality (u ∷ Object d ∷ []) false ≡ true) f us h (λ e k. not_from_false _ (ne_eqb e d (λ q. foreign_other f d e h k (sym q))))

    evident_grows : (r : Relation) (ts : List Term) (b : Bool) → is_evident s r (map (normal small) ts) b ≡ true → is_evident s r (map (normal big) ts) b ≡ true
    evident_grows Equality (t ∷ u ∷ []) true h = term_eq_itself _ _ (sym (normal_again t) ∙ ap (normal big) (same_term _ _ h) ∙ normal_again u)
    evident_grows Equality (t ∷ u ∷ []) false h = two_objects (normal small t) (normal small u) refl refl h
      where
        two_objects : (a b : Term) → normal small t ≡ a → normal small u ≡ b → is_evident s Equality (a ∷ b ∷ []) false ≡ true → is_evident s Equality (normal big t ∷ normal big u ∷ []) false ≡ true
        two_objects (Object d) (Object e) p q k = (λ i. is_evident s Equality (object_again t d p i ∷ object_again u e q i ∷ []) false) ∙ k
        two_objects (Object d) (Parameter e) p q k = absurd (true≢false (sym k))
        two_objects (Object d) (Apply f us) p q k = (λ i. is_evident s Equality (object_again t d p i ∷ applied_again u f us q i ∷ []) false) ∙ foreign_right d f (map (inner_normal big) us) k
        two_objects (Parameter d) b p q k = absurd (true≢false (sym k))
        two_objects (Apply f us) (Object d) p q k = (λ i. is_evident s Equality (applied_again t f us p i ∷ object_again u d q i ∷ []) false) ∙ foreign_left d f (map (inner_normal big) us) k
        two_objects (Apply f us) (Parameter d) p q k = absurd (true≢false (sym k))
        two_objects (Apply f us) (Apply g vs) p q k = absurd (true≢false (sym k))
    evident_grows Equality [] b h = absurd (true≢false (sym h))
    evident_grows Equality (t ∷ []) b h = absurd (true≢false (sym h))
    evident_grows Equality (t ∷ u ∷ x ∷ ts) b h = absurd (true≢false (sym h))
    evident_grows (Named p) ts b h = absurd (true≢false (sym h))

    pub plain_grows : (l : Literal) → is_plain s small l ≡ true → is_plain s big l ≡ true
    unfolding is_plain
    plain_grows l h = ⊎_elim (λ k. or_left _ _ (known_grows l k)) (λ k. or_right _ _ (evident_grows l.relation l.arguments l.positive k)) (or_cases (is_known small l) _ h)

    pub some_differ_grows : (ts us : List Term) → some_differ s small ts us ≡ true → some_differ s big ts us ≡ true
    unfolding differ
    some_differ_grows (t ∷ ts) (u ∷ us) h = ⊎_elim (λ k. or_left _ _ (plain_grows (inequation t u) k)) (λ k. or_right _ _ (some_differ_grows ts us k)) (or_cases (differ s small t u) _ h)
    some_differ_grows [] us h = absurd (true≢false (sym h))
    some_differ_grows (t ∷ ts) [] h = absurd (true≢false (sym h))

    fits_grows : (ss : List (Option Term)) (ts : List Term) → fits small ss ts ≡ true → fits big ss ts ≡ true
    fits_grows [] [] h = refl
    fits_grows (None ∷ ss) (t ∷ ts) h = fits_grows ss ts h
    fits_grows (Some u ∷ ss) (t ∷ ts) h =
        let p = and_parts (term_eq (normal small u) (normal small t)) _ h in
        and_from _ _ (term_eq_itself _ _ (sym (normal_again u) ∙ ap (normal big) (same_term _ _ p.0) ∙ normal_again t)) (fits_grows ss ts p.1)
    fits_grows [] (t ∷ ts) h = absurd (true≢false (sym h))
    fits_grows (None ∷ ss) [] h = absurd (true≢false (sym h))
    fits_grows (Some u ∷ ss) [] h = absurd (true≢false (sym h))

    all_differ_grows : (es : List Atom) (ts : List Term) → list_all (λ a. some_differ s small a.arguments ts) es ≡ true → list_all (λ a. some_differ s big a.arguments ts) es ≡ true
    all_differ_grows [] ts h = refl
    all_differ_grows (a ∷ es) ts h = let p = and_parts (some_differ s small a.arguments ts) _ h in and_from _ _ (some_differ_grows a.arguments ts p.0) (all_differ_grows es ts p.1)

    shut_out_grows : (p : ℕ) (ts : List Term) (es : List Entry) → list_any (is_shut_out s small p ts) es ≡ true → list_any (is_shut_out s big p ts) es ≡ true
    shut_out_grows p ts [] h = h
    shut_out_grows p ts (e ∷ es) h =
        ⊎_elim
        (λ k. let a = and_parts (e.pattern.predicate == p) _ k in let b = and_parts (fits small e.pattern.slots ts) _ a.1 in or_left _ _ (and_from _ _ a.0 (and_from _ _ (fits_grows e.pattern.slots ts b.0) (all_differ_grows e.listed ts b.1))))
        (λ k. or_right _ _ (shut_out_grows p ts es k)) (or_cases (is_shut_out s small p ts e) _ h)

  -- ---- one application replaced

  inner_steps_within : (t : Inner) → Within (inner_steps small t) (inner_steps big t)
  inner_steps_within (Object d) = λ x i. i
  inner_steps_within (Parameter d) = λ x i. i
  inner_steps_within (Apply f ds) = within_map Object (values_at small f ds) (values_at big f ds) (values_within f ds)

  term_steps_within : (t : Term) → Within (term_steps small t) (term_steps big t)
  unfolding term_steps
  term_steps_within (Object d) = λ x i. i
  term_steps_within (Parameter d) = λ x i. i
  term_steps_within (Apply f ts) =
      within_append _ _ _ _
      (within_map Object (option_map_or (values_at small f) (all_some (map as_object ts)) []) (option_map_or (values_at big f) (all_some (map as_object ts)) [])
      (elim (all_some (map as_object ts)) as (λ o. Within (option_map_or (values_at small f) o []) (option_map_or (values_at big f) o [])) [ None ↦ λ x i. i | Some ds ↦ values_within f ds ]))
      (within_map (Apply f) (one_replaced (inner_steps small) ts) (one_replaced (inner_steps big) ts) (within_replaced (inner_steps small) (inner_steps big) inner_steps_within ts))

  by_value_within : (l : Literal) → Within (by_value small l) (by_value big l)
  unfolding by_value
  by_value_within l =
      within_map (λ ts. literal l.relation ts l.positive) (one_replaced (term_steps small) l.arguments) (one_replaced (term_steps big) l.arguments)
      (within_replaced (term_steps small) (term_steps big) term_steps_within l.arguments)

-- a literal that gives a value is the equation of a place and an object
pub value_literal : (kf : List Literal) (f : ℕ) (ds : List ℕ) (e : ℕ) → IsIn e (values_at kf f ds) → IsIn (record { relation = Equality; arguments = place f ds ∷ object e ∷ []; positive = true }) kf
unfolding values_at told
value_literal kf f ds e i =
    let r = in_filter_mapped (λ l. option_and_then (value_if_at f ds) (told l.relation l.arguments l.positive)) kf e i in
    option_and_then_some (value_if_at f ds) (told r.0.relation r.0.arguments r.0.positive) e r.2 (λ q t v. subst (λ l. IsIn l kf) (literal_is r.0.relation r.0.arguments r.0.positive q t v) r.1)
  where
    objects_are : (ts : List Inner) (ds : List ℕ) → all_some (map as_object ts) ≡ Some ds → ts ≡ map Object ds
    objects_are [] ds e = ap (map Object) (same_Some [] ds e)
    objects_are (Object d ∷ ts) ds e =
        elim (all_some (map as_object ts)) as (λ r. all_some (map as_object ts) ≡ r → ◌≡◌ {A = Option (List ℕ)} (elim r [ None ↦ None | Some ys ↦ Some (d ∷ ys) ]) (Some ds) → Object d ∷ ts ≡ map Object ds) [
          | None ↦ λ q k. absurd (none-some ds k)
          | Some ys ↦ λ q k. (λ i. Object d ∷ objects_are ts ys q i) ∙ ap (map Object) (same_Some (d ∷ ys) ds k)
        ] refl e
    objects_are (Parameter d ∷ ts) ds e = absurd (none-some ds e)
    objects_are (Apply g us ∷ ts) ds e = absurd (none-some ds e)

    parts : (q : Told) (f : ℕ) (ds : List ℕ) (e : ℕ) → value_if_at f ds q ≡ Some e → (f ≡ q.0) × (ds ≡ q.1) × (q.2 ≡ e)
    parts q f ds e v =
        let c = cond_some ((f == q.0) && same_objects ds q.1) q.2 e v in
        let b = and_parts (f == q.0) _ c.0 in
        (eqb-true f q.0 b.0, same_objects_same ds q.1 b.1, c.1)

    sides : (t u : Term) (q : Told) → told_by t u ≡ Some q → (t ≡ place q.0 q.1) × (u ≡ object q.2)
    sides (Apply g us) (Object x) q h =
        elim (all_some (map as_object us)) as (λ o. all_some (map as_object us) ≡ o → ◌≡◌ {A = Option Told} (option_map (λ ds. let r : Told = (g, ds, x) in r) o) (Some q) → (Apply g us ≡ place q.0 q.1) × (object x ≡ object q.2)) [
          | None ↦ λ r k. absurd (none-some q k)
          | Some ys ↦ λ r k.
              let same : (g, ys, x) ≡ q = same_Some (g, ys, x) q k in
              ((λ i. Apply g (objects_are us ys r i)) ∙ ap (λ (p : Told). place p.0 p.1) same, ap (λ (p : Told). object p.2) same)
        ] refl h
    sides (Apply g us) (Parameter x) q h = absurd (none-some q h)
    sides (Apply g us) (Apply h' vs) q h = absurd (none-some q h)
    sides (Object d) u q h = absurd (none-some q h)
    sides (Parameter d) u q h = absurd (none-some q h)

    literal_is : (r : Relation) (ts : List Term) (b : Bool) (q : Told) → told r ts b ≡ Some q → value_if_at f ds q ≡ Some e → ◌≡◌ {A = Literal} (record { relation = r; arguments = ts; positive = b }) (record { relation = Equality; arguments = place f ds ∷ object e ∷ []; positive = true })
    literal_is Equality (t ∷ u ∷ []) true q h v =
        let p = parts q f ds e v in
        let both = sides t u q h in
        λ i. record { relation = Equality; arguments = (both.0 ∙ (λ j. place (sym p.0 j) (sym p.1 j))) i ∷ (both.1 ∙ ap object p.2) i ∷ []; positive = true }
    literal_is Equality (t ∷ u ∷ []) false q h v = absurd (none-some q h)
    literal_is Equality [] b q h v = absurd (none-some q h)
    literal_is Equality (t ∷ []) b q h v = absurd (none-some q h)
    literal_is Equality (t ∷ u ∷ x ∷ ts) b q h v = absurd (none-some q h)
    literal_is (Named n) ts b q h v = absurd (none-some q h)

-- ---- rounds within a closed set

module _ (s : Signature) (big : Five) (inhabited : HasValues s) (saturated : IsSaturated s big) (fine : first_clash s big ≡ None) where
  none_found : {X : Type 0} (p : X → Bool) (xs : List X) → find p xs ≡ None → (x : X) → IsIn x xs → p x ≡ true → ⊥
  none_found p [] h x i t = i
  none_found {X} p (y ∷ ys) h x i t =
      elim (p y) as (λ b. p y ≡ b → cond b (Some y) (find p ys) ≡ None → ⊥) [
        | true ↦ λ q k. none-some y (sym k)
        | false ↦ λ q k. ⊎_elim (λ e. true≢false (sym t ∙ ap p (sym e) ∙ q)) (λ j. none_found p ys k x j t) i
      ] refl h

  no_denial : (l : Literal) → IsIn l big.kf → holds s big (negated l) ≡ true → ⊥
  unfolding first_clash
  no_denial l i h = none_found (λ l. holds s big (negated l)) big.kf fine l i h

  pub addition_in : (l k : Literal) → IsIn l big.kf → IsIn k (by_value big.kf l) → IsIn k big.kf
  unfolding additions
  addition_in l k i j = saturated k (in_left (flat_map (by_value big.kf) big.kf) _ k (in_flat (by_value big.kf) big.kf l k i j))

  -- each place has one value
  pub one_value : (f : ℕ) (ds : List ℕ) (e e' : ℕ) → IsIn e (values_at big.kf f ds) → IsIn e' (values_at big.kf f ds) → e ≡ e'
  unfolding by_value term_steps holds is_plain literal normal
  one_value f ds e e' i i' =
      let l : Literal = record { relation = Equality; arguments = place f ds ∷ object e ∷ []; positive = true } in
      let step : IsIn (object e') (term_steps big.kf (place f ds)) =
      in_left _ _ (object e') (in_map Object (option_map_or (values_at big.kf f) (all_some (map as_object (map Object ds))) []) e' (subst (λ o. IsIn e' (option_map_or (values_at big.kf f) o [])) (sym (objects_all ds)) i')) in
      let there : IsIn (literal Equality (object e' ∷ object e ∷ []) true) big.kf =
      addition_in l (literal Equality (object e' ∷ object e ∷ []) true) (value_literal big.kf f ds e i)
      (in_map (λ ts. literal Equality ts true) (one_replaced (term_steps big.kf) (place f ds ∷ object e ∷ [])) (object e' ∷ object e ∷ [])
      (in_left _ _ (object e' ∷ object e ∷ []) (in_map (λ y. y ∷ object e ∷ []) (term_steps big.kf (place f ds)) (object e') step))) in
      ⊎_elim (λ q. sym (eqb-true e' e q)) (λ q. absurd (no_denial (literal Equality (object e' ∷ object e ∷ []) true) there (apart e' e q))) (cases_Bool (e' == e))
    where
      apart : (a b : ℕ) → (a == b) ≡ false → holds s big (negated (literal Equality (object a ∷ object b ∷ []) true)) ≡ true
      apart a b q = or_left _ _ (or_right _ _ (in_either (is_lt (term_cmp (object a) (object b)))))
        where
          in_either : (c : Bool) → is_evident s Equality (map (normal big.kf) (cond c (object b ∷ object a ∷ []) (object a ∷ object b ∷ []))) false ≡ true
          in_either true = not_from_false _ (Rattle.pks_laws.proofs.Holding.eqb_comm b a ∙ q)
          in_either false = not_from_false _ q

  -- ---- each value is one of the function's result type: else all objects of that type are shut out, and so each is a value too

  by_range_in : (f : ℕ) (ds : List ℕ) (e : ℕ) → IsIn e (values_at big.kf f ds) → (l : Literal) → IsIn l (by_range s big (place f ds)) → IsIn l big.kf
  unfolding additions
  by_range_in f ds e i l j =
      let eq : Literal = record { relation = Equality; arguments = place f ds ∷ object e ∷ []; positive = true } in
      saturated l (in_right (flat_map (by_value big.kf) big.kf) _ l (in_right (flat_map (by_group s big) big.kx) _ l
      (in_flat (λ l. flat_map (by_range s big) (flat_map applications_in l.arguments)) big.kf eq l (value_literal big.kf f ds e i)
      (in_flat (by_range s big) (flat_map applications_in (place f ds ∷ object e ∷ [])) (place f ds) l
      (in_left (applications_in (place f ds)) (flat_map applications_in (object e ∷ [])) (place f ds) (inl refl)) j))))

  pub value_in : (f : ℕ) (ds : List ℕ) (a : ℕ) → IsIn (equation (place f ds) (object a)) big.kf → IsIn a (values_at big.kf f ds)
  unfolding values_at told literal term_cmp
  value_in f ds a i =
      in_filter_map (λ l. option_and_then (value_if_at f ds) (told l.relation l.arguments l.positive)) big.kf (equation (place f ds) (object a)) a i
      (ap (λ o. option_and_then (value_if_at f ds) (option_map (λ es. let r : Told = (f, es, a) in r) o)) (objects_all ds) ∙ cond-true _ (Some a) None (and_from _ _ (eq-eqb f f refl) (same_objects_itself ds ds refl)))

  objects_stay : (ds : List ℕ) → map (inner_normal big.kf) (map (λ d. let t : Inner = Object d in t) ds) ≡ map (λ d. let t : Inner = Object d in t) ds
  objects_stay [] = refl
  objects_stay (d ∷ ds) = λ i. Object d ∷ objects_stay ds i

  pub value_is : (f : ℕ) (ds : List ℕ) (e : ℕ) → IsIn e (values_at big.kf f ds) → normal big.kf (place f ds) ≡ object e
  unfolding normal
  value_is f ds e i =
      ap (applied as_object big.kf f) (objects_stay ds) ∙ ap (λ o. option_map_or Object (option_and_then (λ ds. least (values_at big.kf f ds)) o) (place f ds)) (objects_all ds)
      ∙ ap (λ o. option_map_or Object o (place f ds)) (least_one s big.kf big.kf (λ x j. j) one_value f ds e i)

  other_denied : (f : ℕ) (ds : List ℕ) (e a : ℕ) → IsIn e (values_at big.kf f ds) → (e ≡ a → ⊥) → holds s big (inequation (place f ds) (object a)) ≡ true
  unfolding holds is_plain literal term_cmp
  other_denied f ds e a i n =
      or_left _ _ (or_right _ _ ((λ j. is_evident s Equality (value_is f ds e i j ∷ normal big.kf (object a) ∷ []) false) ∙ unfold normal in not_from_false _ (ne_eqb e a n)))

  all_shut_out : (f : ℕ) (ds : List ℕ) (e b : ℕ) → IsIn e (values_at big.kf f ds) → (os : List ℕ) → ((a : ℕ) → IsIn a os → e ≡ a → ⊥) → is_last_left s big (place f ds) os b ≡ true
  all_shut_out f ds e b i [] n = refl
  all_shut_out f ds e b i (a ∷ os) n = and_from _ _ (or_right _ _ (other_denied f ds e a i (n a (inl refl)))) (all_shut_out f ds e b i os (λ c j. n c (inr j)))

  pub ranged : (f : ℕ) (ds : List ℕ) (e : ℕ) → IsIn e (values_at big.kf f ds) → is_foreign s f e ≡ false
  unfolding is_foreign by_range
  ranged f ds e i =
      elim (slice_get s.functions f) as (λ o. slice_get s.functions f ≡ o → option_map_or (λ (x : Shape). not (object_is_of s x.result e)) o false ≡ false) [
        | None ↦ λ q. refl
        | Some x ↦ λ q. elim (object_is_of s x.result e) as (λ b. object_is_of s x.result e ≡ b → not b ≡ false) [ true ↦ λ k. refl | false ↦ λ k. absurd (outside x q k) ] refl
      ] refl
    where
      range_is : (x : Shape) → slice_get s.functions f ≡ Some x → range_of s (place f ds) ≡ objects_of s x.result
      range_is x q = ap (λ (r : Option Shape). option_map_or (λ (y : Shape). objects_of s y.result) r []) q

      not_of : (x : Shape) → object_is_of s x.result e ≡ false → (a : ℕ) → IsIn a (objects_of s x.result) → e ≡ a → ⊥
      not_of x k a j h = true≢false (sym (objects_are_of s x.result a j) ∙ ap (object_is_of s x.result) (sym h) ∙ k)

      outside : (x : Shape) → slice_get s.functions f ≡ Some x → object_is_of s x.result e ≡ false → ⊥
      outside x q k =
          let o = inhabited f x q in
          let objects = range_of s (place f ds) in
          let left : is_last_left s big (place f ds) objects o.0 ≡ true = all_shut_out f ds e o.0 i objects (λ a j. not_of x k a (subst (IsIn a) (range_is x q) j)) in
          let there : IsIn (equation (place f ds) (object o.0)) (by_range s big (place f ds)) =
          in_map (λ a. equation (place f ds) (object a)) (filter (is_last_left s big (place f ds) objects) objects) o.0
          (in_filter (is_last_left s big (place f ds) objects) objects o.0 (subst (IsIn o.0) (sym (range_is x q)) o.1) left) in
          not_of x k o.0 o.1 (one_value f ds e o.0 i (value_in f ds o.0 (by_range_in f ds e i (equation (place f ds) (object o.0)) there)))

  module _ (d : Five) (within : Within d.kf big.kf) (groups : d.kx ≡ big.kx) (regions : d.lcw ≡ big.lcw) where
    pub holds_grows : (l : Literal) → holds s d l ≡ true → holds s big l ≡ true
    unfolding holds
    holds_grows l h =
        ⊎_elim (λ k. or_left _ _ (plain_grows s d.kf big.kf within one_value ranged l k)) (λ k. or_right _ _ (closed_off l.relation l.arguments l.positive k)) (or_cases (is_plain s d.kf l) _ h)
      where
        closed_off : (r : Relation) (ts : List Term) (b : Bool) → is_closed_off s d r ts b ≡ true → is_closed_off s big r ts b ≡ true
        closed_off (Named p) ts false k = shut_out_grows s d.kf big.kf within one_value ranged p ts big.lcw (ap (list_any (is_shut_out s d.kf p ts)) (sym regions) ∙ k)
        closed_off (Named p) ts true k = absurd (true≢false (sym k))
        closed_off Equality ts b k = absurd (true≢false (sym k))

    all_grow : (ms : List Literal) → list_all (λ m. holds s d (negated m)) ms ≡ true → list_all (λ m. holds s big (negated m)) ms ≡ true
    all_grow [] h = refl
    all_grow (m ∷ ms) h = let p = and_parts (holds s d (negated m)) _ h in and_from _ _ (holds_grows (negated m) p.0) (all_grow ms p.1)

    within_cond : {X : Type 0} (a b : Bool) (xs : List X) → (a ≡ true → b ≡ true) → Within (cond a xs []) (cond b xs [])
    within_cond true b xs f x i = subst (λ c. IsIn x (cond c xs [])) (sym (f refl)) i
    within_cond false b xs f x i = absurd i

    by_member_within : (q : Literal × List Literal) → Within (by_member s d q) (by_member s big q)
    by_member_within q = within_append _ _ _ _ (within_cond _ _ (q.0 ∷ []) (all_grow q.1)) (within_cond _ _ (map negated q.1) (holds_grows q.0))

    within_flat : {X Y : Type 0} (f g : X → List Y) (xs : List X) → ((x : X) → Within (f x) (g x)) → Within (flat_map f xs) (flat_map g xs)
    within_flat f g xs w y i = let r = in_flat_mapped f xs y i in in_flat g xs r.0 y r.1 (w r.0 y r.2)

    left_grows : (t : Term) (os : List ℕ) (e : ℕ) → is_last_left s d t os e ≡ true → is_last_left s big t os e ≡ true
    left_grows t [] e h = refl
    left_grows t (o ∷ os) e h =
        let p = and_parts ((o == e) || holds s d (inequation t (object o))) _ h in
        and_from _ _ (⊎_elim (λ q. or_left _ _ q) (λ q. or_right _ _ (holds_grows (inequation t (object o)) q)) (or_cases (o == e) _ p.0)) (left_grows t os e p.1)

    by_range_within : (t : Term) → Within (by_range s d t) (by_range s big t)
    unfolding by_range
    by_range_within t =
        within_map (λ e. equation t (object e)) (filter (is_last_left s d t (range_of s t)) (range_of s t)) (filter (is_last_left s big t (range_of s t)) (range_of s t))
        (λ e i. let r = in_filtered (is_last_left s d t (range_of s t)) (range_of s t) e i in in_filter (is_last_left s big t (range_of s t)) (range_of s t) e r.0 (left_grows t (range_of s t) e r.1))

    -- what the rules add is there already
    pub additions_within : Within (additions s d) big.kf
    unfolding additions by_group
    additions_within l i =
        saturated l (within_append _ _ _ _
        (λ k j. let r = in_flat_mapped (by_value d.kf) d.kf k j in in_flat (by_value big.kf) big.kf r.0 k (within r.0 r.1) (by_value_within s d.kf big.kf within one_value r.0 k r.2))
        (within_append _ _ _ _
        (λ k j. let r = in_flat_mapped (λ g. flat_map (by_member s d) (with_others g)) d.kx k j in
        in_flat (λ g. flat_map (by_member s big) (with_others g)) big.kx r.0 k (subst (IsIn r.0) groups r.1) (within_flat (by_member s d) (by_member s big) (with_others r.0) by_member_within k r.2))
        (λ k j. let r = in_flat_mapped (λ l. flat_map (by_range s d) (flat_map applications_in l.arguments)) d.kf k j in
        in_flat (λ l. flat_map (by_range s big) (flat_map applications_in l.arguments)) big.kf r.0 k (within r.0 r.1) (within_flat (by_range s d) (by_range s big) (flat_map applications_in r.0.arguments) by_range_within k r.2)))
        l i)

  round_within : (d : Five) → Within d.kf big.kf → d.kx ≡ big.kx → d.lcw ≡ big.lcw → Within (round s d).kf big.kf
  unfolding round
  round_within d w g r l i =
      ⊎_elim (w l) (additions_within d w g r l) (in_added literal_cmp_total literal_cmp_tells d.kf (additions s d) l i)

  pub rounds_keep : (n : ℕ) (d : Five) → ((rounds s n d).kx ≡ d.kx) × ((rounds s n d).lcw ≡ d.lcw)
  unfolding round
  rounds_keep zero d = (refl, refl)
  rounds_keep (suc n) d = rounds_keep n d

  -- every set without a clash that has the known literals and is closed under the rules has all that the rounds derive
  pub rounds_within : (n : ℕ) (d : Five) → Within d.kf big.kf → d.kx ≡ big.kx → d.lcw ≡ big.lcw → Within (rounds s n d).kf big.kf
  rounds_within zero d w g r = w
  rounds_within (suc n) d w g r = let k = rounds_keep n d in round_within (rounds s n d) (rounds_within n d w g r) (k.0 ∙ g) (k.1 ∙ r)
