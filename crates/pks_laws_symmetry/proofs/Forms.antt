-- What one step tells at moments that are each other's images.
use Rattle.std.proofs.Common.{◌≡◌, ◌⊎◌, ◌&&◌, ◌++◌, ℕ, Bool, true, false, cond, not, List, [], ◌∷◌, map, filter, flat_map, Option, Some, None, option_map, refl, sym, ap, ◌∙◌, subst, inl, inr, ⊎_elim}
use Rattle.std.specs.List.{list_any, list_all}
use Rattle.std.specs.Option.{option_map_or}
use Rattle.std.proofs.lemmas.Bool.{and_parts, and_from}
use Rattle.pks_terms.specs.Sets.{Each, IsIn, IsOrdered, all_some, with_others, with_later, choices_from}
use Rattle.pks_terms.specs.Syntax.{Object, Parameter, Apply, Inner, Term, term_of, as_object, Named, Equality, Literal, negated}
use Rattle.pks_terms.specs.Orders.{literal_cmp, literal, equation}
use Rattle.pks_terms.specs.Signatures.{Signature}
use Rattle.pks_terms.specs.Databases.{Five, values_at, holds}
use Rattle.pks_terms.specs.Actions.{Target, Set, Unset, Clear, Assign, Effect, Instance, term_at, literal_at, effect_at}
use Rattle.pks_terms.specs.Problems.{Problem, schema_of}
use Rattle.pks_terms.specs.Totality.{literal_cmp_total}
use Rattle.pks_terms.specs.Spoiling.{is_stable, are_stable, spoils}
use Rattle.pks_terms.specs.Settling.{inner_forms, argument_forms, term_forms, stable_forms, target_forms, undoes, assigns_alike, makes_same, can_be_undone, is_made_otherwise, lasting, lasted, fired, must_have_fired, cannot_have_fired, effects_of}
use Rattle.pks_terms.specs.Moments.{IsInOrder}
use Rattle.pks_terms.proofs.ListLaws.{each_append, each_in, each_of, each_map, each_kept, each_flat_map, each_set_of, found_in, all_alike, any_in, in_map, in_mapped, in_appended, in_flat_mapped, in_filtered, in_filter, in_with_later_map}
use Rattle.pks_terms.proofs.OrderLaws.{literal_cmp_tells}
use Rattle.pks_terms.proofs.SetLaws.{ordered_set_of}
use Rattle.pks_laws.proofs.Belonging.{if_of}
use Rattle.pks_laws.proofs.BelongingHistories.{later_each, other_each}
use Rattle.pks_laws.proofs.Least.{in_left, in_right, in_flat}
use Rattle.pks_laws.proofs.SidesInOrder.{literal_ordered}
use Rattle.pks_laws_symmetry.specs.Trivial.{is_trivial}
use Rattle.pks_laws_symmetry.specs.Renamed.{renamed_inner, renamed_term, renamed_literal, renamed_conj}
use Rattle.pks_laws_symmetry.proofs.Mirrors.{Mirror, renamed_target, renamed_effect}
use Rattle.pks_laws_symmetry.proofs.Permuted.{permuted_all, permuted_others}
use Rattle.pks_laws_symmetry.proofs.Images.{image_negated, image_literal, image_equation, image_term_of, image_in, image_all, conj_permuted}
use Rattle.pks_laws_symmetry.proofs.Reading.{values_image, holds_image, differ_image}
use Rattle.pks_laws_symmetry.proofs.Acting.{true_image, false_image, change_image, some_image, stable_image, stables_image, spoils_image}

-- a condition is a set, its equations in order
abbrev pub IsNeatEffect : Effect → Type 0
IsNeatEffect e = Each IsInOrder e.condition × IsOrdered literal_cmp e.condition

-- ---- lists

others_image : {X Y : Type 0} (h : X → Y) (xs : List X) (q : X × List X) → IsIn q (with_others xs) → IsIn (h q.0, map h q.1) (with_others (map h xs))
others_image h [] q i = absurd i
others_image {X} {Y} h (x ∷ xs) q (inl e) = inl (ap (λ (r : X × List X). let s : Y × List Y = (h r.0, map h r.1) in s) e)
others_image {X} {Y} h (x ∷ xs) q (inr i) =
    let more : Y × List Y → Y × List Y = λ r. (r.0, h x ∷ r.1) in
    let r = in_mapped (λ (r : X × List X). (r.0, x ∷ r.1)) (with_others xs) q i in
    inr (subst (λ (q : X × List X). IsIn (h q.0, map h q.1) (map more (with_others (map h xs)))) r.2 (in_map more (with_others (map h xs)) (h r.0.0, map h r.0.1) (others_image h xs r.0 r.1)))

choices_image : {X : Type 0} (F G : X → List X) (h : X → X) → ((x y : X) → IsIn y (F x) → IsIn (h y) (G (h x))) → (xs ys : List X) → IsIn ys (choices_from (map F xs)) → IsIn (map h ys) (choices_from (map G (map h xs)))
choices_image F G h w [] ys i = ⊎_elim (λ e. inl (ap (map h) e)) (λ k. absurd k) i
choices_image F G h w (x ∷ xs) ys i =
    let r = in_flat_mapped (λ y. map (λ zs. y ∷ zs) (choices_from (map F xs))) (F x) ys i in
    let q = in_mapped (λ zs. r.0 ∷ zs) (choices_from (map F xs)) ys r.2 in
    subst (λ us. IsIn (map h us) (choices_from (map G (map h (x ∷ xs))))) q.2
    (in_flat (λ y. map (λ zs. y ∷ zs) (choices_from (map G (map h xs)))) (G (h x)) (h r.0) (h r.0 ∷ map h q.0) (w x r.0 r.1)
    (in_map (λ zs. h r.0 ∷ zs) (choices_from (map G (map h xs))) (map h q.0) (choices_image F G h w xs q.0 q.1)))

filter_image : {X : Type 0} (a b : X → Bool) (h : X → X) → ((x : X) → b (h x) ≡ a x) → (xs ys : List X) → ((x : X) → IsIn x xs → IsIn (h x) ys) → (x : X) → IsIn x (filter a xs) → IsIn (h x) (filter b ys)
filter_image a b h same xs ys w x i = let r = in_filtered a xs x i in in_filter b ys (h x) (w x r.0) (same x ∙ r.1)

cond_image : {X : Type 0} (a b : Bool) (h : X → X) (xs ys : List X) → (a ≡ true → b ≡ true) → ((x : X) → IsIn x xs → IsIn (h x) ys) → (x : X) → IsIn x (cond a xs []) → IsIn (h x) (cond b ys [])
cond_image true b h xs ys c w x i = subst (λ a. IsIn (h x) (cond a ys [])) (sym (c refl)) (w x i)
cond_image false b h xs ys c w x i = absurd i

flat_image : {X Y : Type 0} (F G : X → List Y) (h : X → X) (k : Y → Y) (xs ys : List X) → ((x : X) → IsIn x xs → IsIn (h x) ys) → ((x : X) (y : Y) → IsIn x xs → IsIn y (F x) → IsIn (k y) (G (h x))) → (y : Y) → IsIn y (flat_map F xs) → IsIn (k y) (flat_map G ys)
flat_image F G h k xs ys w v y i = let r = in_flat_mapped F xs y i in in_flat G ys (h r.0) (k y) (w r.0 r.1) (v r.0 y r.1 r.2)

any_image : {X : Type 0} (a b : X → Bool) (h : X → X) (xs ys : List X) → ((x : X) → IsIn x xs → IsIn (h x) ys) → ((x : X) → a x ≡ true → b (h x) ≡ true) → list_any a xs ≡ true → list_any b ys ≡ true
any_image a b h xs ys w v t = let r = found_in a xs t in any_in b ys (h r.0) (w r.0 r.1) (v r.0 r.2)

-- ---- forms

objects_image : (f : ℕ → ℕ) (us : List Inner) → all_some (map as_object (map (renamed_inner f) us)) ≡ option_map (map f) (all_some (map as_object us))
objects_image f [] = refl
objects_image f (Object c ∷ us) =
    ap (λ (o : Option (List ℕ)). let r : Option (List ℕ) = elim o [ None ↦ None | Some ys ↦ Some (f c ∷ ys) ] in r) (objects_image f us)
    ∙ elim (all_some (map as_object us)) as (λ o. ◌≡◌ {A = Option (List ℕ)} (elim (option_map (map f) o) [ None ↦ None | Some ys ↦ Some (f c ∷ ys) ]) (option_map (map f) (elim o [ None ↦ None | Some ys ↦ Some (c ∷ ys) ]))) [ None ↦ refl | Some ys ↦ refl ]
objects_image f (Parameter c ∷ us) = refl
objects_image f (Apply h ds ∷ us) = refl

module _ (s : Signature) (f g : ℕ → ℕ) (d e : Five) (m : Mirror s f g d e) where
  inner_forms_image : (t u : Inner) → IsIn u (inner_forms d.kf t) → IsIn (renamed_inner f u) (inner_forms e.kf (renamed_inner f t))
  inner_forms_image (Object c) u i = ⊎_elim (λ q. inl (ap (renamed_inner f) q)) (λ k. absurd k) i
  inner_forms_image (Parameter c) u i = ⊎_elim (λ q. inl (ap (renamed_inner f) q)) (λ k. absurd k) i
  inner_forms_image (Apply h ds) u i =
      ⊎_elim (λ q. inl (ap (renamed_inner f) q))
      (λ k. let r = in_mapped Object (values_at d.kf h ds) u k in
      inr (subst (λ u. IsIn (renamed_inner f u) (map Object (values_at e.kf h (map f ds)))) r.2 (in_map Object (values_at e.kf h (map f ds)) (f r.0) (values_image s f g d e m h ds r.0 r.1)))) i

  argument_forms_image : (ts us : List Inner) → IsIn us (argument_forms d.kf ts) → IsIn (map (renamed_inner f) us) (argument_forms e.kf (map (renamed_inner f) ts))
  argument_forms_image = choices_image (inner_forms d.kf) (inner_forms e.kf) (renamed_inner f) inner_forms_image

  abbrev values_of : Five → ℕ → List Inner → List ℕ
  values_of d h us = option_map_or (values_at d.kf h) (all_some (map as_object us)) []

  values_of_image : (h : ℕ) (us : List Inner) (v : ℕ) → IsIn v (values_of d h us) → IsIn (f v) (values_of e h (map (renamed_inner f) us))
  values_of_image h us v i =
      subst (λ o. IsIn (f v) (option_map_or (values_at e.kf h) o [])) (sym (objects_image f us))
      ((elim (all_some (map as_object us)) as (λ o. IsIn v (option_map_or (values_at d.kf h) o []) → IsIn (f v) (option_map_or (values_at e.kf h) (option_map (map f) o) [])) [ None ↦ λ k. k | Some ds ↦ values_image s f g d e m h ds v ]) i)

  term_forms_image : (t u : Term) → IsIn u (term_forms d.kf t) → IsIn (renamed_term f u) (term_forms e.kf (renamed_term f t))
  term_forms_image (Object c) u i = ⊎_elim (λ q. inl (ap (renamed_term f) q)) (λ k. absurd k) i
  term_forms_image (Parameter c) u i = ⊎_elim (λ q. inl (ap (renamed_term f) q)) (λ k. absurd k) i
  term_forms_image (Apply h ts) u i =
      flat_image (λ us. Apply h us ∷ map Object (values_of d h us)) (λ us. Apply h us ∷ map Object (values_of e h us)) (map (renamed_inner f)) (renamed_term f) (argument_forms d.kf ts) (argument_forms e.kf (map (renamed_inner f) ts)) (argument_forms_image ts)
      (λ us u j k. ⊎_elim (λ q. inl (ap (renamed_term f) q))
      (λ n. let r = in_mapped Object (values_of d h us) u n in
      inr (subst (λ u. IsIn (renamed_term f u) (map Object (values_of e h (map (renamed_inner f) us)))) r.2 (in_map Object (values_of e h (map (renamed_inner f) us)) (f r.0) (values_of_image h us r.0 r.1)))) k) u i

  stable_forms_image : (es : List Effect) (ts us : List Term) → IsIn us (stable_forms s d es ts) → IsIn (map (renamed_term f) us) (stable_forms s e (map (renamed_effect f) es) (map (renamed_term f) ts))
  stable_forms_image es ts =
      filter_image (are_stable s d es) (are_stable s e (map (renamed_effect f) es)) (map (renamed_term f)) (stables_image s f g d e m es) (choices_from (map (term_forms d.kf) ts)) (choices_from (map (term_forms e.kf) (map (renamed_term f) ts)))
      (choices_image (term_forms d.kf) (term_forms e.kf) (renamed_term f) term_forms_image ts)

  terms_of_image : (us : List Inner) → map (renamed_term f) (map term_of us) ≡ map term_of (map (renamed_inner f) us)
  terms_of_image [] = refl
  terms_of_image (u ∷ us) = λ i. image_term_of f u i ∷ terms_of_image us i

  named_image : (es : List Effect) (n : ℕ) (b : Bool) (ts : List Term) (l : Literal) → IsIn l (map (λ ts. literal (Named n) ts b) (stable_forms s d es ts)) → IsIn (renamed_literal f l) (map (λ ts. literal (Named n) ts b) (stable_forms s e (map (renamed_effect f) es) (map (renamed_term f) ts)))
  named_image es n b ts l i =
      let made : List Literal = map (λ ts. literal (Named n) ts b) (stable_forms s e (map (renamed_effect f) es) (map (renamed_term f) ts)) in
      let r = in_mapped (λ ts. literal (Named n) ts b) (stable_forms s d es ts) l i in
      subst (λ l. IsIn (renamed_literal f l) made) r.2
      (subst (λ l. IsIn l made) (sym (image_literal f (Named n) r.0 b)) (in_map (λ ts. literal (Named n) ts b) (stable_forms s e (map (renamed_effect f) es) (map (renamed_term f) ts)) (map (renamed_term f) r.0) (stable_forms_image es ts r.0 r.1)))

  target_forms_image : (es : List Effect) (x : Target) (l : Literal) → IsIn l (target_forms s d es x) → IsIn (renamed_literal f l) (target_forms s e (map (renamed_effect f) es) (renamed_target f x))
  target_forms_image es (Set a) l i = named_image es a.predicate true a.arguments l i
  target_forms_image es (Unset a) l i = named_image es a.predicate false a.arguments l i
  target_forms_image es (Clear y) l i = absurd i
  target_forms_image es (Assign h ts value) l i =
      let fs = map (renamed_effect f) es in
      let values = filter (is_stable s d es) (term_forms d.kf value) in
      let others = filter (is_stable s e fs) (term_forms e.kf (renamed_term f value)) in
      flat_image (λ us. map (equation (Apply h us)) values) (λ us. map (equation (Apply h us)) others) (map (renamed_inner f)) (renamed_literal f)
      (filter (λ us. are_stable s d es (map term_of us)) (argument_forms d.kf ts)) (filter (λ us. are_stable s e fs (map term_of us)) (argument_forms e.kf (map (renamed_inner f) ts)))
      (filter_image (λ us. are_stable s d es (map term_of us)) (λ us. are_stable s e fs (map term_of us)) (map (renamed_inner f)) (λ us. ap (are_stable s e fs) (sym (terms_of_image us)) ∙ stables_image s f g d e m es (map term_of us)) (argument_forms d.kf ts) (argument_forms e.kf (map (renamed_inner f) ts)) (argument_forms_image ts))
      (λ us l j k.
      let r = in_mapped (equation (Apply h us)) values l k in
      let made : List Literal = map (equation (Apply h (map (renamed_inner f) us))) others in
      subst (λ l. IsIn (renamed_literal f l) made) r.2
      (subst (λ l. IsIn l made) (sym (image_equation f (Apply h us) r.0)) (in_map (equation (Apply h (map (renamed_inner f) us))) others (renamed_term f r.0)
      (filter_image (is_stable s d es) (is_stable s e fs) (renamed_term f) (stable_image s f g d e m es) (term_forms d.kf value) (term_forms e.kf (renamed_term f value)) (term_forms_image value) r.0 r.1)))) l i

  -- ---- what undoes an effect, and what else makes its target so

  undoes_image : (x y : Target) → undoes s e (renamed_target f x) (renamed_target f y) ≡ undoes s d x y
  undoes_image (Set a) y = false_image s f g d e m a.predicate a.arguments y
  undoes_image (Unset a) y = true_image s f g d e m a.predicate a.arguments y
  undoes_image (Assign h ts v) y = change_image s f g d e m h ts y
  undoes_image (Clear z) y = refl

  alike_image : (v : Term) (y : Target) → assigns_alike s e (renamed_term f v) (renamed_target f y) ≡ assigns_alike s d v y
  alike_image v (Assign h ts new) = ap not (differ_image s f g d e m new v)
  alike_image v (Set a) = refl
  alike_image v (Unset a) = refl
  alike_image v (Clear z) = refl

  makes_image : (x y : Target) → makes_same s e (renamed_target f x) (renamed_target f y) ≡ makes_same s d x y
  makes_image (Set a) y = true_image s f g d e m a.predicate a.arguments y
  makes_image (Unset a) y = false_image s f g d e m a.predicate a.arguments y
  makes_image (Assign h ts v) y = λ i. change_image s f g d e m h ts y i && alike_image v y i
  makes_image (Clear z) y = refl

  abbrev pair_image : Effect × List Effect → Effect × List Effect
  pair_image q = (renamed_effect f q.0, map (renamed_effect f) q.1)

  undone_image : (q : Effect × List Effect) → can_be_undone s e (pair_image q) ≡ can_be_undone s d q
  undone_image q = some_image s f g d e m (undoes s d q.0.target) (undoes s e (renamed_target f q.0.target)) (undoes_image q.0.target) q.1

  otherwise_image : (q : Effect × List Effect) → is_made_otherwise s e (pair_image q) ≡ is_made_otherwise s d q
  otherwise_image q = some_image s f g d e m (makes_same s d q.0.target) (makes_same s e (renamed_target f q.0.target)) (makes_image q.0.target) q.1

  -- ---- one step forward

  all_image : (c : List Literal) → list_all (holds s e) (renamed_conj f c) ≡ list_all (holds s d) c
  all_image c = image_all f (holds s e) c ∙ (λ i. list_all (λ l. holds_image s f g d e m l i) c)

  fired_image : (es : List Effect) (q : Effect × List Effect) (l : Literal) → IsIn l (fired s es d q) → IsIn (renamed_literal f l) (fired s (map (renamed_effect f) es) e (pair_image q))
  fired_image es q =
      cond_image (list_all (holds s d) q.0.condition && not (can_be_undone s d q)) (list_all (holds s e) (renamed_conj f q.0.condition) && not (can_be_undone s e (pair_image q))) (renamed_literal f) (target_forms s d es q.0.target) (target_forms s e (map (renamed_effect f) es) (renamed_target f q.0.target))
      (λ t. (λ i. all_image q.0.condition i && not (undone_image q i)) ∙ t) (target_forms_image es q.0.target)

  -- what a moment gives the next one has its image in what the other gives, but for trivial literals that lie there
  pub forward_image : (es : List Effect) (l : Literal) → IsIn l (lasting s es d ++ flat_map (fired s es d) (with_later es))
      → (IsIn l d.kf × (is_trivial l ≡ true)) ⊎ IsIn (renamed_literal f l) (lasting s (map (renamed_effect f) es) e ++ flat_map (fired s (map (renamed_effect f) es) e) (with_later (map (renamed_effect f) es)))
  forward_image es l i =
      let fs = map (renamed_effect f) es in
      ⊎_elim
      (λ j. let r = in_filtered (λ l. not (spoils s d es l)) d.kf l j in
      ⊎_elim (λ t. inl (r.0, t))
      (λ k. inr (in_left (lasting s fs e) (flat_map (fired s fs e) (with_later fs)) (renamed_literal f l) (in_filter (λ l. not (spoils s e fs l)) e.kf (renamed_literal f l) k (ap not (spoils_image s f g d e m es l) ∙ r.1))))
      (m.images.there.known l r.0))
      (λ j. inr (in_right (lasting s fs e) (flat_map (fired s fs e) (with_later fs)) (renamed_literal f l)
      (flat_image (fired s es d) (fired s fs e) pair_image (renamed_literal f) (with_later es) (with_later fs) (λ q k. in_with_later_map (renamed_effect f) es q k) (λ q l k n. fired_image es q l n) l j)))
      (in_appended (lasting s es d) (flat_map (fired s es d) (with_later es)) l i)

  -- ---- one step backward

  denied_image : (l : Literal) → holds s e (negated (renamed_literal f l)) ≡ holds s d (negated l)
  denied_image l = ap (holds s e) (sym (image_negated f l)) ∙ holds_image s f g d e m (negated l)

  -- the negation of the one condition left
  only_left_image : (c : List Literal) → Each IsInOrder c → IsOrdered literal_cmp c → (l : Literal) → IsIn l (flat_map (λ c. cond (list_all (holds s d) c.1) (negated c.0 ∷ []) []) (with_others c)) → IsIn (renamed_literal f l) (flat_map (λ c. cond (list_all (holds s e) c.1) (negated c.0 ∷ []) []) (with_others (renamed_conj f c)))
  only_left_image c o n l i =
      let r = in_flat_mapped (λ (c : Literal × List Literal). cond (list_all (holds s d) c.1) (negated c.0 ∷ []) []) (with_others c) l i in
      let w = permuted_others (map (renamed_literal f) c) (renamed_conj f c) (conj_permuted f g m.renaming.back c o n) (renamed_literal f r.0.0, map (renamed_literal f) r.0.1) (others_image (renamed_literal f) c r.0 r.1) in
      in_flat (λ (c : Literal × List Literal). cond (list_all (holds s e) c.1) (negated c.0 ∷ []) []) (with_others (renamed_conj f c)) w.0 (renamed_literal f l) w.1
      (cond_image (list_all (holds s d) r.0.1) (list_all (holds s e) w.0.1) (renamed_literal f) (negated r.0.0 ∷ []) (negated w.0.0 ∷ [])
      (λ t. sym (permuted_all (holds s e) (map (renamed_literal f) r.0.1) w.0.1 w.3) ∙ all_alike (holds s e) (holds s d) (renamed_literal f) (holds_image s f g d e m) r.0.1 ∙ t)
      (λ k j. ⊎_elim (λ q. inl (ap negated w.2 ∙ sym (image_negated f r.0.0) ∙ ap (renamed_literal f) q)) (λ n. absurd n) j) l r.2)

  module _ (later others : Five) (b : Mirror s f g later others) where
    later_denied_image : (l : Literal) → holds s others (negated (renamed_literal f l)) ≡ holds s later (negated l)
    later_denied_image l = ap (holds s others) (sym (image_negated f l)) ∙ holds_image s f g later others b (negated l)

    must_image : (es : List Effect) (q : Effect × List Effect) (l : Literal) → IsIn l (must_have_fired s es d later q) → IsIn (renamed_literal f l) (must_have_fired s (map (renamed_effect f) es) e others (pair_image q))
    must_image es q =
        let fs = map (renamed_effect f) es in
        let before : Literal → Bool = λ l. holds s d (negated l) && holds s later l in
        let after : Literal → Bool = λ l. holds s e (negated l) && holds s others l in
        cond_image (list_any before (target_forms s d es q.0.target) && not (is_made_otherwise s d q)) (list_any after (target_forms s e fs (renamed_target f q.0.target)) && not (is_made_otherwise s e (pair_image q))) (renamed_literal f) q.0.condition (renamed_conj f q.0.condition)
        (λ t. let r = and_parts (list_any before (target_forms s d es q.0.target)) _ t in
        and_from _ _
        (any_image before after (renamed_literal f) (target_forms s d es q.0.target) (target_forms s e fs (renamed_target f q.0.target)) (target_forms_image es q.0.target) (λ l h. (λ i. denied_image l i && holds_image s f g later others b l i) ∙ h) r.0)
        (ap not (otherwise_image q) ∙ r.1))
        (image_in f q.0.condition)

    cannot_image : (es : List Effect) (q : Effect × List Effect) → Each IsInOrder q.0.condition → IsOrdered literal_cmp q.0.condition → (l : Literal) → IsIn l (cannot_have_fired s es d later q) → IsIn (renamed_literal f l) (cannot_have_fired s (map (renamed_effect f) es) e others (pair_image q))
    cannot_image es q o n =
        let fs = map (renamed_effect f) es in
        cond_image (list_any (λ l. holds s later (negated l)) (target_forms s d es q.0.target) && not (can_be_undone s d q)) (list_any (λ l. holds s others (negated l)) (target_forms s e fs (renamed_target f q.0.target)) && not (can_be_undone s e (pair_image q))) (renamed_literal f)
        (flat_map (λ c. cond (list_all (holds s d) c.1) (negated c.0 ∷ []) []) (with_others q.0.condition)) (flat_map (λ c. cond (list_all (holds s e) c.1) (negated c.0 ∷ []) []) (with_others (renamed_conj f q.0.condition)))
        (λ t. let r = and_parts (list_any (λ l. holds s later (negated l)) (target_forms s d es q.0.target)) _ t in
        and_from _ _
        (any_image (λ l. holds s later (negated l)) (λ l. holds s others (negated l)) (renamed_literal f) (target_forms s d es q.0.target) (target_forms s e fs (renamed_target f q.0.target)) (target_forms_image es q.0.target) (λ l h. later_denied_image l ∙ h) r.0)
        (ap not (undone_image q) ∙ r.1))
        (only_left_image q.0.condition o n)

    -- what a moment gets from the next one has its image in what the other gets, but for trivial literals that lie there
    pub backward_image : (es : List Effect) → Each IsNeatEffect es → (l : Literal) → IsIn l (lasted s es d later ++ (flat_map (must_have_fired s es d later) (with_others es) ++ flat_map (cannot_have_fired s es d later) (with_later es)))
        → (IsIn l later.kf × (is_trivial l ≡ true))
        ⊎ IsIn (renamed_literal f l) (lasted s (map (renamed_effect f) es) e others ++ (flat_map (must_have_fired s (map (renamed_effect f) es) e others) (with_others (map (renamed_effect f) es)) ++ flat_map (cannot_have_fired s (map (renamed_effect f) es) e others) (with_later (map (renamed_effect f) es))))
    backward_image es a l i =
        let fs = map (renamed_effect f) es in
        let musts = flat_map (must_have_fired s fs e others) (with_others fs) in
        let cannots = flat_map (cannot_have_fired s fs e others) (with_later fs) in
        ⊎_elim
        (λ j. let r = in_filtered (λ l. not (spoils s d es (negated l))) later.kf l j in
        ⊎_elim (λ t. inl (r.0, t))
        (λ k. inr (in_left (lasted s fs e others) (musts ++ cannots) (renamed_literal f l)
        (in_filter (λ l. not (spoils s e fs (negated l))) others.kf (renamed_literal f l) k (ap (λ k. not (spoils s e fs k)) (sym (image_negated f l)) ∙ ap not (spoils_image s f g d e m es (negated l)) ∙ r.1))))
        (b.images.there.known l r.0))
        (λ j. inr (in_right (lasted s fs e others) (musts ++ cannots) (renamed_literal f l)
        (⊎_elim
        (λ k. in_left musts cannots (renamed_literal f l)
        (flat_image (must_have_fired s es d later) (must_have_fired s fs e others) pair_image (renamed_literal f) (with_others es) (with_others fs) (others_image (renamed_effect f) es) (λ q l n o. must_image es q l o) l k))
        (λ k. in_right musts cannots (renamed_literal f l)
        (flat_image (cannot_have_fired s es d later) (cannot_have_fired s fs e others) pair_image (renamed_literal f) (with_later es) (with_later fs) (in_with_later_map (renamed_effect f) es)
        (λ q l n o. let c = (each_in (λ q. IsNeatEffect q.0 × Each IsNeatEffect q.1) (with_later es) q (later_each IsNeatEffect es a) n).0 in cannot_image es q c.0 c.1 l o) l k))
        (in_appended (flat_map (must_have_fired s es d later) (with_others es)) (flat_map (cannot_have_fired s es d later) (with_later es)) l j))))
        (in_appended (lasted s es d later) (flat_map (must_have_fired s es d later) (with_others es) ++ flat_map (cannot_have_fired s es d later) (with_later es)) l i)

-- ---- what a step tells has the sides of equations in order

forms_ordered : (s : Signature) (d : Five) (es : List Effect) (x : Target) → Each IsInOrder (target_forms s d es x)
forms_ordered s d es (Set a) = each_map IsInOrder (λ ts. literal (Named a.predicate) ts true) (stable_forms s d es a.arguments) (each_of (λ ts. IsInOrder (literal (Named a.predicate) ts true)) (stable_forms s d es a.arguments) (λ ts i. literal_ordered (Named a.predicate) ts true))
forms_ordered s d es (Unset a) = each_map IsInOrder (λ ts. literal (Named a.predicate) ts false) (stable_forms s d es a.arguments) (each_of (λ ts. IsInOrder (literal (Named a.predicate) ts false)) (stable_forms s d es a.arguments) (λ ts i. literal_ordered (Named a.predicate) ts false))
forms_ordered s d es (Clear y) = tt
forms_ordered s d es (Assign h ts value) =
    let values = filter (is_stable s d es) (term_forms d.kf value) in
    each_flat_map IsInOrder (λ us. map (equation (Apply h us)) values) (filter (λ us. are_stable s d es (map term_of us)) (argument_forms d.kf ts))
    (λ us i. each_map IsInOrder (equation (Apply h us)) values (each_of (λ u. IsInOrder (equation (Apply h us) u)) values (λ u j. literal_ordered Equality (Apply h us ∷ u ∷ []) true)))

pub steps_ordered : (s : Signature) (d : Five) (es : List Effect) → Each IsInOrder d.kf → Each IsInOrder (lasting s es d ++ flat_map (fired s es d) (with_later es))
steps_ordered s d es o =
    each_append IsInOrder (lasting s es d) (flat_map (fired s es d) (with_later es)) (each_kept IsInOrder (λ l. not (spoils s d es l)) d.kf o)
    (each_flat_map IsInOrder (fired s es d) (with_later es) (λ q j. if_of s IsInOrder (list_all (holds s d) q.0.condition && not (can_be_undone s d q)) (target_forms s d es q.0.target) (forms_ordered s d es q.0.target)))

pub returns_ordered : (s : Signature) (d later : Five) (es : List Effect) → Each IsNeatEffect es → Each IsInOrder later.kf
    → Each IsInOrder (lasted s es d later ++ (flat_map (must_have_fired s es d later) (with_others es) ++ flat_map (cannot_have_fired s es d later) (with_later es)))
returns_ordered s d later es a o =
    each_append IsInOrder (lasted s es d later) (flat_map (must_have_fired s es d later) (with_others es) ++ flat_map (cannot_have_fired s es d later) (with_later es)) (each_kept IsInOrder (λ l. not (spoils s d es (negated l))) later.kf o)
    (each_append IsInOrder (flat_map (must_have_fired s es d later) (with_others es)) (flat_map (cannot_have_fired s es d later) (with_later es))
    (each_flat_map IsInOrder (must_have_fired s es d later) (with_others es) (λ q j.
    if_of s IsInOrder (list_any (λ l. holds s d (negated l) && holds s later l) (target_forms s d es q.0.target) && not (is_made_otherwise s d q)) q.0.condition (each_in (λ q. IsNeatEffect q.0 × Each IsNeatEffect q.1) (with_others es) q (other_each IsNeatEffect es a) j).0.0))
    (each_flat_map IsInOrder (cannot_have_fired s es d later) (with_later es) (λ q j.
    let c = (each_in (λ q. IsNeatEffect q.0 × Each IsNeatEffect q.1) (with_later es) q (later_each IsNeatEffect es a) j).0.0 in
    if_of s IsInOrder (list_any (λ l. holds s later (negated l)) (target_forms s d es q.0.target) && not (can_be_undone s d q)) (flat_map (λ c. cond (list_all (holds s d) c.1) (negated c.0 ∷ []) []) (with_others q.0.condition))
    (each_flat_map IsInOrder (λ (c : Literal × List Literal). cond (list_all (holds s d) c.1) (negated c.0 ∷ []) []) (with_others q.0.condition)
    (λ x i. if_of s IsInOrder (list_all (holds s d) x.1) (negated x.0 ∷ []) ((each_in (λ q. IsInOrder q.0 × Each IsInOrder q.1) (with_others q.0.condition) x (other_each IsInOrder q.0.condition c) i).0, tt))))))

-- ---- the effects of a step

pub effects_neat : (p : Problem) (i : Instance) → Each IsNeatEffect (effects_of p i)
unfolding literal_at
effects_neat p i =
    each_map IsNeatEffect (effect_at i.arguments) (schema_of p i.action).effects
    (each_of (λ e. IsNeatEffect (effect_at i.arguments e)) (schema_of p i.action).effects (λ e j. (
      each_set_of IsInOrder literal_cmp (map (literal_at i.arguments) e.condition) (each_map IsInOrder (literal_at i.arguments) e.condition (each_of (λ l. IsInOrder (literal_at i.arguments l)) e.condition (λ l k. literal_ordered l.relation (map (term_at i.arguments) l.arguments) l.positive))),
      ordered_set_of literal_cmp_total literal_cmp_tells (map (literal_at i.arguments) e.condition),
    )))
