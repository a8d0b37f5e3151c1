-- The rules add images to images.
use Rattle.std.proofs.Common.{◌≡◌, ◌||◌, ◌==◌, ℕ, Bool, true, false, cond, List, [], ◌∷◌, ◌++◌, map, filter, flat_map, Option, Some, None, is_lt, refl, sym, ap, ◌∙◌, subst, inl, inr, ⊎_elim}
use Rattle.std.specs.List.{list_all}
use Rattle.std.specs.Option.{option_map_or}
use Rattle.std.proofs.lemmas.Bool.{or_cases, or_left, or_right, eqb-true, eq-eqb}
use Rattle.std.proofs.lemmas.Option.{none-some, same_Some}
use Rattle.pks_terms.specs.Sets.{IsIn, all_some, with_others, one_replaced}
use Rattle.pks_terms.specs.Syntax.{Object, Parameter, Apply, Inner, Term, object, term_of, as_object, Relation, Named, Equality, Literal, negated}
use Rattle.pks_terms.specs.Orders.{term_cmp, in_order, literal, equation, inequation}
use Rattle.pks_terms.specs.Signatures.{Signature, range_of}
use Rattle.pks_terms.specs.Databases.{Five, values_at, holds}
use Rattle.pks_terms.specs.Closure.{inner_steps, term_steps, by_value, by_member, by_group, is_application, applications_in, is_last_left, by_range, additions}
use Rattle.pks_terms.proofs.ListLaws.{each_in, each_of, each_from_all, all_from_each, in_map, in_mapped, in_appended, in_flat_mapped, in_filter, in_filtered}
use Rattle.pks_laws.proofs.Least.{in_left, in_right, in_flat, in_order_swapped}
use Rattle.pks_laws_forget.proofs.Lists.{in_cond, into_cond}
use Rattle.pks_laws_symmetry.specs.Renamed.{renamed_inner, renamed_term, renamed_literal, renamed_group}
use Rattle.pks_laws_symmetry.proofs.Trivial.{nothing_by_value, no_application}
use Rattle.pks_laws_symmetry.proofs.Mirrors.{Mirror}
use Rattle.pks_laws_symmetry.proofs.Permuted.{Permuted, permuted_turned, permuted_in, permuted_others, sequence_permuted}
use Rattle.pks_laws_symmetry.proofs.Images.{image_negated, image_literal, image_equation, image_inequation, image_term_of, term_back, renaming_turned, range_image}
use Rattle.pks_laws_symmetry.proofs.Reading.{values_image, holds_image}

-- ---- lists

-- a test of all, member by member
pub all_in : {X : Type 0} (p : X → Bool) (xs : List X) → list_all p xs ≡ true → (x : X) → IsIn x xs → p x ≡ true
all_in p xs h x i = each_in (λ x. p x ≡ true) xs x (each_from_all (λ x. p x ≡ true) p (λ x q. q) xs h) i

pub in_all : {X : Type 0} (p : X → Bool) (xs : List X) → ((x : X) → IsIn x xs → p x ≡ true) → list_all p xs ≡ true
in_all p xs h = all_from_each p xs (each_of (λ x. p x ≡ true) xs h)

-- what replaces one has its image among what replaces one in the images
replaced_image : {X : Type 0} (h : X → X) (step other : X → List X) → ((x y : X) → IsIn y (step x) → IsIn (h y) (other (h x))) → (xs ys : List X) → IsIn ys (one_replaced step xs) → IsIn (map h ys) (one_replaced other (map h xs))
replaced_image h step other w [] ys i = absurd i
replaced_image {X} h step other w (x ∷ xs) ys i =
    let here : List (List X) = map (λ y. y ∷ map h xs) (other (h x)) in
    let there : List (List X) = map (λ zs. h x ∷ zs) (one_replaced other (map h xs)) in
    ⊎_elim
    (λ j.
    let r = in_mapped (λ y. y ∷ xs) (step x) ys j in
    in_left here there (map h ys) (subst (λ zs. IsIn zs here) (ap (map h) r.2) (in_map (λ y. y ∷ map h xs) (other (h x)) (h r.0) (w x r.0 r.1))))
    (λ j.
    let r = in_mapped (λ zs. x ∷ zs) (one_replaced step xs) ys j in
    in_right here there (map h ys) (subst (λ zs. IsIn zs there) (ap (map h) r.2) (in_map (λ zs. h x ∷ zs) (one_replaced other (map h xs)) (map h r.0) (replaced_image h step other w xs r.0 r.1))))
    (in_appended (map (λ y. y ∷ xs) (step x)) (map (λ zs. x ∷ zs) (one_replaced step xs)) ys i)

-- one of two sides replaced, the sides turned before or after
replaced_turned : (step : Term → List Term) (t u : Term) (ys : List Term) → IsIn ys (one_replaced step (t ∷ u ∷ [])) → (zs : List Term) × IsIn zs (one_replaced step (u ∷ t ∷ [])) × (in_order Equality zs ≡ in_order Equality ys)
replaced_turned step t u ys i =
    ⊎_elim
    (λ j.
    let r = in_mapped (λ y. y ∷ u ∷ []) (step t) ys j in
    let last : IsIn (r.0 ∷ []) (one_replaced step (t ∷ [])) = in_left (map (λ y. y ∷ []) (step t)) [] (r.0 ∷ []) (in_map (λ y. y ∷ []) (step t) r.0 r.1) in (
      u ∷ r.0 ∷ [],
      in_right (map (λ y. y ∷ t ∷ []) (step u)) (map (λ zs. u ∷ zs) (one_replaced step (t ∷ []))) (u ∷ r.0 ∷ []) (in_map (λ zs. u ∷ zs) (one_replaced step (t ∷ [])) (r.0 ∷ []) last),
      in_order_swapped u r.0 ∙ ap (in_order Equality) r.2,
    ))
    (λ j.
    let r = in_mapped (λ zs. t ∷ zs) (one_replaced step (u ∷ [])) ys j in
    ⊎_elim
    (λ k.
    let q = in_mapped (λ y. y ∷ []) (step u) r.0 k in (
      q.0 ∷ t ∷ [],
      in_left (map (λ y. y ∷ t ∷ []) (step u)) (map (λ zs. u ∷ zs) (one_replaced step (t ∷ []))) (q.0 ∷ t ∷ []) (in_map (λ y. y ∷ t ∷ []) (step u) q.0 q.1),
      in_order_swapped q.0 t ∙ ap (λ zs. in_order Equality (t ∷ zs)) q.2 ∙ ap (in_order Equality) r.2,
    ))
    (λ k. absurd k)
    (in_appended (map (λ y. y ∷ []) (step u)) [] r.0 r.1))
    (in_appended (map (λ y. y ∷ u ∷ []) (step t)) (map (λ zs. t ∷ zs) (one_replaced step (u ∷ []))) ys i)

replaced_ordered : (step : Term → List Term) (r : Relation) (xs ys : List Term) → IsIn ys (one_replaced step xs) → (zs : List Term) × IsIn zs (one_replaced step (in_order r xs)) × (in_order r zs ≡ in_order r ys)
replaced_ordered step Equality (t ∷ u ∷ []) ys i = either (is_lt (term_cmp t u))
  where
    either : (c : Bool) → (zs : List Term) × IsIn zs (one_replaced step (cond c (u ∷ t ∷ []) (t ∷ u ∷ []))) × (in_order Equality zs ≡ in_order Equality ys)
    either true = replaced_turned step t u ys i
    either false = (ys, i, refl)
replaced_ordered step Equality [] ys i = (ys, i, refl)
replaced_ordered step Equality (t ∷ []) ys i = (ys, i, refl)
replaced_ordered step Equality (t ∷ u ∷ v ∷ ts) ys i = (ys, i, refl)
replaced_ordered step (Named p) xs ys i = (ys, i, refl)

-- turned sides are the same ones
in_ordered : (r : Relation) (ts : List Term) (t : Term) → IsIn t ts → IsIn t (in_order r ts)
in_ordered Equality (x ∷ y ∷ []) t i = either (is_lt (term_cmp x y)) i
  where
    either : (c : Bool) → IsIn t (x ∷ y ∷ []) → IsIn t (cond c (y ∷ x ∷ []) (x ∷ y ∷ []))
    either true j = ⊎_elim (λ e. inr (inl e)) (λ k. ⊎_elim (λ e. inl e) (λ n. absurd n) k) j
    either false j = j
in_ordered Equality [] t i = i
in_ordered Equality (x ∷ []) t i = i
in_ordered Equality (x ∷ y ∷ z ∷ ts) t i = i
in_ordered (Named p) ts t i = i

-- the images of objects
objects_renamed : (f : ℕ → ℕ) (ts : List Inner) (ds : List ℕ) → all_some (map as_object ts) ≡ Some ds → all_some (map as_object (map (renamed_inner f) ts)) ≡ Some (map f ds)
objects_renamed f [] ds e = ap (λ es. Some (map f es)) (same_Some [] ds e)
objects_renamed f (Object d ∷ ts) ds e =
    elim (all_some (map as_object ts)) as (λ o. all_some (map as_object ts) ≡ o → ◌≡◌ {A = Option (List ℕ)} (elim o [ None ↦ None | Some ys ↦ Some (d ∷ ys) ]) (Some ds) → all_some (map as_object (map (renamed_inner f) (Object d ∷ ts))) ≡ Some (map f ds)) [
      | None ↦ λ q k. absurd (none-some ds k)
      | Some ys ↦ λ q k. ap (λ o. elim o [ None ↦ None | Some es ↦ Some (f d ∷ es) ]) (objects_renamed f ts ys q) ∙ ap (λ es. Some (map f es)) (same_Some (d ∷ ys) ds k)
    ] refl e
objects_renamed f (Parameter i ∷ ts) ds e = absurd (none-some ds e)
objects_renamed f (Apply h us ∷ ts) ds e = absurd (none-some ds e)

-- the applications in a term have their images in its image
application_image : (f : ℕ → ℕ) (t u : Term) → IsIn u (applications_in t) → IsIn (renamed_term f u) (applications_in (renamed_term f t))
application_image f (Object d) u i = absurd i
application_image f (Parameter n) u i = absurd i
application_image f (Apply h ts) u i =
    ⊎_elim (λ e. inl (ap (renamed_term f) e))
    (λ j.
    let q = in_filtered is_application (map term_of ts) u j in
    let r = in_mapped term_of ts u q.0 in
    let there : IsIn (renamed_term f u) (map term_of (map (renamed_inner f) ts)) =
    subst (λ v. IsIn v (map term_of (map (renamed_inner f) ts))) (sym (image_term_of f r.0) ∙ ap (renamed_term f) r.2) (in_map term_of (map (renamed_inner f) ts) (renamed_inner f r.0) (in_map (renamed_inner f) ts r.0 r.1)) in
    inr (in_filter is_application (map term_of (map (renamed_inner f) ts)) (renamed_term f u) there (stays u q.1)))
    i
  where
    stays : (u : Term) → is_application u ≡ true → is_application (renamed_term f u) ≡ true
    stays (Object d) k = k
    stays (Parameter n) k = k
    stays (Apply g us) k = refl

-- ---- the rules

module _ (s : Signature) (f g : ℕ → ℕ) (d e : Five) (m : Mirror s f g d e) where
  inner_step_image : (x y : Inner) → IsIn y (inner_steps d.kf x) → IsIn (renamed_inner f y) (inner_steps e.kf (renamed_inner f x))
  inner_step_image (Object a) y i = absurd i
  inner_step_image (Parameter a) y i = absurd i
  inner_step_image (Apply h ds) y i =
      let r = in_mapped Object (values_at d.kf h ds) y i in
      let there : List Inner = map Object (values_at e.kf h (map f ds)) in
      subst (λ z. IsIn z there) (ap (renamed_inner f) r.2) (in_map Object (values_at e.kf h (map f ds)) (f r.0) (values_image s f g d e m h ds r.0 r.1))

  step_image : (x y : Term) → IsIn y (term_steps d.kf x) → IsIn (renamed_term f y) (term_steps e.kf (renamed_term f x))
  unfolding term_steps
  step_image (Object a) y i = absurd i
  step_image (Parameter a) y i = absurd i
  step_image (Apply h ts) y i =
      let us : List Inner = map (renamed_inner f) ts in
      let values : List Term = map Object (option_map_or (values_at e.kf h) (all_some (map as_object us)) []) in
      let inside : List Term = map (Apply h) (one_replaced (inner_steps e.kf) us) in
      ⊎_elim
      (λ j.
      let r = in_mapped Object (option_map_or (values_at d.kf h) (all_some (map as_object ts)) []) y j in
      in_left values inside (renamed_term f y) (subst (λ z. IsIn z values) (ap (renamed_term f) r.2) (in_map Object (option_map_or (values_at e.kf h) (all_some (map as_object us)) []) (f r.0) (value r.0 (all_some (map as_object ts)) refl r.1))))
      (λ j.
      let r = in_mapped (Apply h) (one_replaced (inner_steps d.kf) ts) y j in
      in_right values inside (renamed_term f y) (subst (λ z. IsIn z inside) (ap (renamed_term f) r.2) (in_map (Apply h) (one_replaced (inner_steps e.kf) us) (map (renamed_inner f) r.0) (replaced_image (renamed_inner f) (inner_steps d.kf) (inner_steps e.kf) inner_step_image ts r.0 r.1))))
      (in_appended (map Object (option_map_or (values_at d.kf h) (all_some (map as_object ts)) [])) (map (Apply h) (one_replaced (inner_steps d.kf) ts)) y i)
    where
      value : (v : ℕ) (o : Option (List ℕ)) → all_some (map as_object ts) ≡ o → IsIn v (option_map_or (values_at d.kf h) o []) → IsIn (f v) (option_map_or (values_at e.kf h) (all_some (map as_object (map (renamed_inner f) ts))) [])
      value v None q k = absurd k
      value v (Some ds) q k = subst (λ o. IsIn (f v) (option_map_or (values_at e.kf h) o [])) (sym (objects_renamed f ts ds q)) (values_image s f g d e m h ds v k)

  by_value_image : (x l : Literal) → IsIn x d.kf → IsIn l (by_value d.kf x) → IsIn (renamed_literal f l) (flat_map (by_value e.kf) e.kf)
  unfolding by_value renamed_literal literal
  by_value_image x l i j =
      let own : Literal = renamed_literal f x in
      let r = in_mapped (λ ts. literal x.relation ts x.positive) (one_replaced (term_steps d.kf) x.arguments) l j in
      let o = replaced_ordered (term_steps e.kf) x.relation (map (renamed_term f) x.arguments) (map (renamed_term f) r.0) (replaced_image (renamed_term f) (term_steps d.kf) (term_steps e.kf) step_image x.arguments r.0 r.1) in
      let same : literal x.relation o.0 x.positive ≡ renamed_literal f l = (λ k. record { relation = x.relation; arguments = o.2 k; positive = x.positive }) ∙ sym (image_literal f x.relation r.0 x.positive) ∙ ap (renamed_literal f) r.2 in
      ⊎_elim
      (λ t. absurd (subst (IsIn l) (nothing_by_value d.kf x.relation x.arguments x.positive t) j))
      (λ k. in_flat (by_value e.kf) e.kf own (renamed_literal f l) k (subst (λ y. IsIn y (by_value e.kf own)) same (in_map (λ ts. literal x.relation ts x.positive) (one_replaced (term_steps e.kf) own.arguments) o.0 o.1)))
      (m.images.there.known x i)

  negated_holds : (l : Literal) → holds s d (negated l) ≡ true → holds s e (negated (renamed_literal f l)) ≡ true
  negated_holds l h = ap (holds s e) (sym (image_negated f l)) ∙ holds_image s f g d e m (negated l) ∙ h

  by_member_image : (q r : Literal × List Literal) → r.0 ≡ renamed_literal f q.0 → Permuted (map (renamed_literal f) q.1) r.1 → (l : Literal) → IsIn l (by_member s d q) → IsIn (renamed_literal f l) (by_member s e r)
  by_member_image q r h p l i =
      let first : List Literal = cond (list_all (λ k. holds s e (negated k)) r.1) (r.0 ∷ []) [] in
      let second : List Literal = cond (holds s e r.0) (map negated r.1) [] in
      ⊎_elim
      (λ j.
      let c = in_cond (list_all (λ k. holds s d (negated k)) q.1) (q.0 ∷ []) l j in
      let all : list_all (λ k. holds s e (negated k)) r.1 ≡ true = in_all (λ k. holds s e (negated k)) r.1 (denied c.0) in
      in_left first second (renamed_literal f l) (into_cond (list_all (λ k. holds s e (negated k)) r.1) (r.0 ∷ []) (renamed_literal f l) all (⊎_elim (λ t. inl (h ∙ ap (renamed_literal f) t)) (λ n. absurd n) c.1)))
      (λ j.
      let c = in_cond (holds s d q.0) (map negated q.1) l j in
      let o = in_mapped negated q.1 l c.1 in
      let there : IsIn (renamed_literal f l) (map negated r.1) =
      subst (λ y. IsIn y (map negated r.1)) (sym (image_negated f o.0) ∙ ap (renamed_literal f) o.2) (in_map negated r.1 (renamed_literal f o.0) (permuted_in (map (renamed_literal f) q.1) r.1 p (renamed_literal f o.0) (in_map (renamed_literal f) q.1 o.0 o.1))) in
      in_right first second (renamed_literal f l) (into_cond (holds s e r.0) (map negated r.1) (renamed_literal f l) (ap (holds s e) h ∙ holds_image s f g d e m q.0 ∙ c.0) there))
      (in_appended (cond (list_all (λ k. holds s d (negated k)) q.1) (q.0 ∷ []) []) (cond (holds s d q.0) (map negated q.1) []) l i)
    where
      denied : list_all (λ k. holds s d (negated k)) q.1 ≡ true → (y : Literal) → IsIn y r.1 → holds s e (negated y) ≡ true
      denied a y j =
          let o = in_mapped (renamed_literal f) q.1 y (permuted_in r.1 (map (renamed_literal f) q.1) (permuted_turned (map (renamed_literal f) q.1) r.1 p) y j) in
          ap (λ k. holds s e (negated k)) (sym o.2) ∙ negated_holds o.0 (all_in (λ k. holds s d (negated k)) q.1 a o.0 o.1)

  by_group_image : (x : List Literal) (l : Literal) → IsIn x d.kx → IsIn l (by_group s d x) → IsIn (renamed_literal f l) (flat_map (by_group s e) e.kx)
  unfolding by_group
  by_group_image x l i j =
      let own : List Literal = renamed_group f x in
      let q = in_flat_mapped (by_member s d) (with_others x) l j in
      let r = permuted_others (map (renamed_literal f) x) own (sequence_permuted (map (renamed_literal f) x)) (renamed_literal f q.0.0, map (renamed_literal f) q.0.1) (others_image x q.0 q.1) in
      in_flat (λ x. flat_map (by_member s e) (with_others x)) e.kx own (renamed_literal f l) (m.images.there.groups x i)
      (in_flat (by_member s e) (with_others own) r.0 (renamed_literal f l) r.1 (by_member_image q.0 r.0 r.2 r.3 l q.2))
    where
      others_image : (x : List Literal) (q : Literal × List Literal) → IsIn q (with_others x) → IsIn (renamed_literal f q.0, map (renamed_literal f) q.1) (with_others (map (renamed_literal f) x))
      others_image [] q i = absurd i
      others_image (y ∷ ys) q (inl t) = inl (ap (λ (p : Literal × List Literal). let r : Literal × List Literal = (renamed_literal f p.0, map (renamed_literal f) p.1) in r) t)
      others_image (y ∷ ys) q (inr i) =
          let with : Literal × List Literal → Literal × List Literal = λ p. (p.0, renamed_literal f y ∷ p.1) in
          let o = in_mapped (λ (p : Literal × List Literal). let r : Literal × List Literal = (p.0, y ∷ p.1) in r) (with_others ys) q i in
          inr (subst (λ z. IsIn z (map with (with_others (map (renamed_literal f) ys))))
          (ap (λ (p : Literal × List Literal). let r : Literal × List Literal = (renamed_literal f p.0, map (renamed_literal f) p.1) in r) o.2)
          (in_map with (with_others (map (renamed_literal f) ys)) (renamed_literal f o.0.0, map (renamed_literal f) o.0.1) (others_image ys o.0 o.1)))

  last_left_image : (t : Term) (b : ℕ) → is_last_left s d t (range_of s t) b ≡ true → is_last_left s e (renamed_term f t) (range_of s (renamed_term f t)) (f b) ≡ true
  last_left_image t b h = in_all (λ o. (o == f b) || holds s e (inequation (renamed_term f t) (object o))) (range_of s (renamed_term f t)) each
    where
      each : (o : ℕ) → IsIn o (range_of s (renamed_term f t)) → ((o == f b) || holds s e (inequation (renamed_term f t) (object o))) ≡ true
      each o i =
          let turned = renaming_turned s f g m.renaming in
          let there : IsIn (g o) (range_of s t) = subst (λ u. IsIn (g o) (range_of s u)) (term_back f g m.renaming.back t) (range_image s g f turned (renamed_term f t) o i) in
          ⊎_elim
          (λ q. or_left (o == f b) _ (eq-eqb o (f b) (sym (m.renaming.there o) ∙ ap f (eqb-true (g o) b q))))
          (λ q. or_right (o == f b) _
          (ap (λ v. holds s e (inequation (renamed_term f t) (object v))) (sym (m.renaming.there o)) ∙ ap (holds s e) (sym (image_inequation f t (object (g o)))) ∙ holds_image s f g d e m (inequation t (object (g o))) ∙ q))
          (or_cases (g o == b) _ (all_in (λ o. (o == b) || holds s d (inequation t (object o))) (range_of s t) h (g o) there))

  by_range_image : (t : Term) (l : Literal) → IsIn l (by_range s d t) → IsIn (renamed_literal f l) (by_range s e (renamed_term f t))
  unfolding by_range
  by_range_image t l i =
      let u : Term = renamed_term f t in
      let r = in_mapped (λ b. equation t (object b)) (filter (is_last_left s d t (range_of s t)) (range_of s t)) l i in
      let q = in_filtered (is_last_left s d t (range_of s t)) (range_of s t) r.0 r.1 in
      let there : IsIn (f r.0) (filter (is_last_left s e u (range_of s u)) (range_of s u)) = in_filter (is_last_left s e u (range_of s u)) (range_of s u) (f r.0) (range_image s f g m.renaming t r.0 q.0) (last_left_image t r.0 q.1) in
      subst (λ y. IsIn y (map (λ b. equation u (object b)) (filter (is_last_left s e u (range_of s u)) (range_of s u)))) (sym (image_equation f t (object r.0)) ∙ ap (renamed_literal f) r.2)
      (in_map (λ b. equation u (object b)) (filter (is_last_left s e u (range_of s u)) (range_of s u)) (f r.0) there)

  ranges_image : (x l : Literal) → IsIn x d.kf → IsIn l (flat_map (by_range s d) (flat_map applications_in x.arguments)) → IsIn (renamed_literal f l) (flat_map (λ y. flat_map (by_range s e) (flat_map applications_in y.arguments)) e.kf)
  unfolding renamed_literal literal
  ranges_image x l i j =
      let own : Literal = renamed_literal f x in
      let r = in_flat_mapped (by_range s d) (flat_map applications_in x.arguments) l j in
      let q = in_flat_mapped applications_in x.arguments r.0 r.1 in
      let side : IsIn (renamed_term f q.0) own.arguments = in_ordered x.relation (map (renamed_term f) x.arguments) (renamed_term f q.0) (in_map (renamed_term f) x.arguments q.0 q.1) in
      let there : IsIn (renamed_term f r.0) (flat_map applications_in own.arguments) = in_flat applications_in own.arguments (renamed_term f q.0) (renamed_term f r.0) side (application_image f q.0 r.0 q.2) in
      ⊎_elim
      (λ t. absurd (subst (IsIn l) (no_application s d x.relation x.arguments x.positive t) j))
      (λ k. in_flat (λ y. flat_map (by_range s e) (flat_map applications_in y.arguments)) e.kf own (renamed_literal f l) k (in_flat (by_range s e) (flat_map applications_in own.arguments) (renamed_term f r.0) (renamed_literal f l) there (by_range_image r.0 l r.2)))
      (m.images.there.known x i)

pub additions_image : (s : Signature) (f g : ℕ → ℕ) (d e : Five) → Mirror s f g d e → (l : Literal) → IsIn l (additions s d) → IsIn (renamed_literal f l) (additions s e)
unfolding additions
additions_image s f g d e m l i =
    let values : List Literal = flat_map (by_value e.kf) e.kf in
    let grouped : List Literal = flat_map (by_group s e) e.kx in
    let ranged : List Literal = flat_map (λ y. flat_map (by_range s e) (flat_map applications_in y.arguments)) e.kf in
    ⊎_elim
    (λ j. let r = in_flat_mapped (by_value d.kf) d.kf l j in in_left values (grouped ++ ranged) (renamed_literal f l) (by_value_image s f g d e m r.0 l r.1 r.2))
    (λ j.
    in_right values (grouped ++ ranged) (renamed_literal f l)
    (⊎_elim
    (λ k. let r = in_flat_mapped (by_group s d) d.kx l k in in_left grouped ranged (renamed_literal f l) (by_group_image s f g d e m r.0 l r.1 r.2))
    (λ k.
    let r = in_flat_mapped (λ y. flat_map (by_range s d) (flat_map applications_in y.arguments)) d.kf l k in
    in_right grouped ranged (renamed_literal f l) (ranges_image s f g d e m r.0 l r.1 r.2))
    (in_appended (flat_map (by_group s d) d.kx) (flat_map (λ y. flat_map (by_range s d) (flat_map applications_in y.arguments)) d.kf) l j)))
    (in_appended (flat_map (by_value d.kf) d.kf) (flat_map (by_group s d) d.kx ++ flat_map (λ y. flat_map (by_range s d) (flat_map applications_in y.arguments)) d.kf) l i)
