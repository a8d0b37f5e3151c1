-- Terms and literals are read alike in databases that are each other's images.
use Rattle.std.proofs.Common.{◌≡◌, ◌||◌, ◌==◌, ℕ, Bool, true, false, not, cond, List, [], ◌∷◌, map, filter, Option, Some, None, option_map, option_and_then, Ordering, is_lt, refl, sym, ap, ◌∙◌, subst, inl, ⊎_elim, true≢false}
use Rattle.std.specs.List.{list_any, list_all}
use Rattle.std.specs.Option.{option_map_or}
use Rattle.std.specs.Cmp.{IsTotalOrder}
use Rattle.std.specs.FinMap.{IsAntisymmetric}
use Rattle.std.proofs.lemmas.Bool.{or_cases, or_left, or_right, and_parts, and_from, not-true, not_from_false, eqb-false, eq-eqb, ne_eqb, cond-true}
use Rattle.std.proofs.lemmas.Option.{none-some}
use Rattle.pks_terms.specs.Sets.{IsIn, all_some, set_of}
use Rattle.pks_terms.specs.Syntax.{Object, Parameter, Apply, Inner, Term, object, place, as_object, Relation, Named, Equality, Literal, Atom}
use Rattle.pks_terms.specs.Orders.{term_cmp, term_eq, literal_eq, atom_cmp, in_order, literal, equation, inequation}
use Rattle.pks_terms.specs.Totality.{term_cmp_total, literal_cmp_total, conj_cmp_total, atom_cmp_total, entry_cmp_total}
use Rattle.pks_terms.specs.Signatures.{Signature}
use Rattle.pks_terms.specs.Databases.{Entry, Five, Told, told, value_if_at, values_at, least, applied, inner_normal, normal, normal_literal, is_known, is_evident, is_plain, differ, some_differ, fits, is_shut_out, is_closed_off, holds}
use Rattle.pks_terms.specs.Closure.{is_application, in_sequence, normal_conj, normal_group, normal_atom, normal_entry, tidied}
use Rattle.pks_terms.proofs.ListLaws.{each_of, found_in, any_in, all_set_of, in_map, in_mapped, in_filter, in_filtered}
use Rattle.pks_terms.proofs.OrderLaws.{term_cmp_tells, same_term, literal_cmp_tells, conj_cmp_tells, atom_cmp_tells, entry_cmp_tells}
use Rattle.pks_terms.proofs.SetLaws.{in_set_of, set_of_in, ordered_set_of, same_members}
use Rattle.pks_laws.proofs.Values.{least_in}
use Rattle.pks_laws.proofs.Holding.{eqb_comm, same_objects_itself}
use Rattle.pks_laws.proofs.Least.{in_filter_map, in_order-map, literal_eq_itself, term_eq_itself, least_one, value_literal}
use Rattle.pks_laws_forget.proofs.Alike.{found_known}
use Rattle.pks_laws_symmetry.specs.Renamed.{renamed_form, renamed_inner, renamed_term, renamed_literal, renamed_conj, renamed_group, renamed_atom, renamed_entry, GoesTo, AreImages}
use Rattle.pks_laws_symmetry.proofs.Trivial.{evident_form}
use Rattle.pks_laws_symmetry.proofs.Mirrors.{Mirror}
use Rattle.pks_laws_symmetry.proofs.Permuted.{permuted_map, sequence_permuted, permuted_sequence}
use Rattle.pks_laws_symmetry.proofs.Images.{image_inequation, term_back, terms_back, renaming_turned, foreign_image}

pub mirror_turned : (s : Signature) (f g : ℕ → ℕ) (d e : Five) → Mirror s f g d e → Mirror s g f e d
mirror_turned s f g d e m = record {
  renaming = renaming_turned s f g m.renaming;
  images = record { there = m.images.back; back = m.images.there };
  one = m.other;
  other = m.one;
}

-- ---- lists, sets and truth values

same_truth : (a b : Bool) → (a ≡ true → b ≡ true) → (b ≡ true → a ≡ true) → a ≡ b
same_truth true b f g = sym (f refl)
same_truth false true f g = g refl
same_truth false false f g = refl

maps_turned : {X Y Z W : Type 0} (p : Y → W) (q : X → Y) (h : Z → W) (k : X → Z) → ((x : X) → p (q x) ≡ h (k x)) → (xs : List X) → map p (map q xs) ≡ map h (map k xs)
maps_turned p q h k same [] = refl
maps_turned p q h k same (x ∷ xs) = λ i. same x i ∷ maps_turned p q h k same xs i

options_turned : {X : Type 0} (p q h k : X → X) → ((x : X) → p (q x) ≡ h (k x)) → (o : Option X) → option_map p (option_map q o) ≡ option_map h (option_map k o)
options_turned p q h k same None = refl
options_turned p q h k same (Some x) = ap Some (same x)

-- the set of a map of a set is that of a map of the list
set_map : {X : Type 0} {cmp : X → X → Ordering} → IsTotalOrder cmp → IsAntisymmetric cmp → (h : X → X) (xs : List X) → set_of cmp (map h (set_of cmp xs)) ≡ set_of cmp (map h xs)
set_map {cmp = cmp} o tells h xs =
    same_members o tells (set_of cmp (map h (set_of cmp xs))) (set_of cmp (map h xs)) (ordered_set_of o tells (map h (set_of cmp xs))) (ordered_set_of o tells (map h xs))
    (λ z i.
    let r = in_mapped h (set_of cmp xs) z (in_set_of o tells (map h (set_of cmp xs)) z i) in
    set_of_in o tells (map h xs) z (subst (λ y. IsIn y (map h xs)) r.2 (in_map h xs r.0 (in_set_of o tells xs r.0 r.1))))
    (λ z i.
    let r = in_mapped h xs z (in_set_of o tells (map h xs) z i) in
    set_of_in o tells (map h (set_of cmp xs)) z (subst (λ y. IsIn y (map h (set_of cmp xs))) r.2 (in_map h (set_of cmp xs) r.0 (set_of_in o tells xs r.0 r.1))))

set_turned : {X : Type 0} {cmp : X → X → Ordering} → IsTotalOrder cmp → IsAntisymmetric cmp → (p q h k : X → X) → ((x : X) → p (q x) ≡ h (k x)) → (xs : List X) → set_of cmp (map p (set_of cmp (map q xs))) ≡ set_of cmp (map h (set_of cmp (map k xs)))
set_turned {cmp = cmp} o tells p q h k same xs = set_map o tells p (map q xs) ∙ ap (set_of cmp) (maps_turned p q h k same xs) ∙ sym (set_map o tells h (map k xs))

sequence_map : (h : Literal → Literal) (ls : List Literal) → in_sequence (map h (in_sequence ls)) ≡ in_sequence (map h ls)
sequence_map h ls = sym (permuted_sequence (map h ls) (map h (in_sequence ls)) (permuted_map h ls (in_sequence ls) (sequence_permuted ls)))

-- ---- values

objects_known : (ds : List ℕ) → all_some (map as_object (map (λ x. let t : Inner = Object x in t) ds)) ≡ Some ds
objects_known [] = refl
objects_known (x ∷ ds) = ap (λ o. elim o [ None ↦ None | Some ys ↦ Some (x ∷ ys) ]) (objects_known ds)

value_there : (kf : List Literal) (h : ℕ) (ds : List ℕ) (v : ℕ) → IsIn (equation (place h ds) (object v)) kf → IsIn v (values_at kf h ds)
unfolding values_at told literal term_cmp
value_there kf h ds v i =
    in_filter_map (λ l. option_and_then (value_if_at h ds) (told l.relation l.arguments l.positive)) kf (equation (place h ds) (object v)) v i
    (ap (λ o. option_and_then (value_if_at h ds) (option_map (λ es. let r : Told = (h, es, v) in r) o)) (objects_known ds) ∙ cond-true _ (Some v) None (and_from _ _ (eq-eqb h h refl) (same_objects_itself ds ds refl)))

none_least : (es : List ℕ) → ((w : ℕ) → IsIn w es → ⊥) → least es ≡ None
none_least [] n = refl
none_least (x ∷ es) n = absurd (n x (inl refl))

least_none : (es : List ℕ) (w : ℕ) → least es ≡ None → IsIn w es → ⊥
least_none [] w q i = i
least_none (x ∷ es) w q i = none-some _ (sym q)

module _ (s : Signature) (f g : ℕ → ℕ) (d e : Five) (m : Mirror s f g d e) where
  objects_renamed : (ds : List ℕ) → map (renamed_inner f) (map (λ x. let t : Inner = Object x in t) ds) ≡ map (λ x. let t : Inner = Object x in t) (map f ds)
  objects_renamed [] = refl
  objects_renamed (x ∷ ds) = ap (λ us. Object (f x) ∷ us) (objects_renamed ds)

  pub values_image : (h : ℕ) (ds : List ℕ) (v : ℕ) → IsIn v (values_at d.kf h ds) → IsIn (f v) (values_at e.kf h (map f ds))
  unfolding renamed_literal
  values_image h ds v i =
      let l : Literal = record { relation = Equality; arguments = place h ds ∷ object v ∷ []; positive = true } in
      let image : renamed_literal f l ≡ equation (place h (map f ds)) (object (f v)) = ap (λ us. equation (Apply h us) (object (f v))) (objects_renamed ds) in
      ⊎_elim
      (λ t. absurd (true≢false (sym t)))
      (λ j. value_there e.kf h (map f ds) (f v) (subst (λ x. IsIn x e.kf) image j))
      (m.images.there.known l (value_literal d.kf h ds v i))

-- ---- normal forms

module _ (s : Signature) (f g : ℕ → ℕ) (d e : Five) (m : Mirror s f g d e) where
  objects_back : (ds : List ℕ) → map g (map f ds) ≡ ds
  objects_back [] = refl
  objects_back (x ∷ ds) = λ i. m.renaming.back x i ∷ objects_back ds i

  least_image : (h : ℕ) (ds : List ℕ) → least (values_at e.kf h (map f ds)) ≡ option_map f (least (values_at d.kf h ds))
  least_image h ds =
      elim (least (values_at d.kf h ds)) as (λ o. least (values_at d.kf h ds) ≡ o → least (values_at e.kf h (map f ds)) ≡ option_map f o) [
        | None ↦ λ q.
            none_least (values_at e.kf h (map f ds))
            (λ w i. least_none (values_at d.kf h ds) (g w) q (subst (λ xs. IsIn (g w) (values_at d.kf h xs)) (objects_back ds) (values_image s g f e d (mirror_turned s f g d e m) h (map f ds) w i)))
        | Some v ↦ λ q.
            least_one s e.kf e.kf (λ x j. j) m.other h (map f ds) (f v)
            (values_image s f g d e m h ds v (least_in (λ x. IsIn x (values_at d.kf h ds)) (values_at d.kf h ds) v (each_of (λ x. IsIn x (values_at d.kf h ds)) (values_at d.kf h ds) (λ x i. i)) q))
      ] refl

  one_more : (x : ℕ) (o : Option (List ℕ)) → ◌≡◌ {A = Option (List ℕ)} (elim (option_map (map f) o) [ None ↦ None | Some ys ↦ Some (f x ∷ ys) ]) (option_map (map f) (elim o [ None ↦ None | Some ys ↦ Some (x ∷ ys) ]))
  one_more x None = refl
  one_more x (Some ys) = refl

  module _ {A : Type 0} (obj : A → Option ℕ) (image : A → A) (same : (a : A) → obj (image a) ≡ option_map f (obj a)) where
    all_image : (ts : List A) → all_some (map obj (map image ts)) ≡ option_map (map f) (all_some (map obj ts))
    all_image [] = refl
    all_image (t ∷ ts) =
        ap (λ o. all_some (o ∷ map obj (map image ts))) (same t)
        ∙ (elim (obj t) as (λ o. all_some (option_map f o ∷ map obj (map image ts)) ≡ option_map (map f) (all_some (o ∷ map obj ts))) [
          | None ↦ refl
          | Some x ↦ ap (λ o. elim o [ None ↦ None | Some ys ↦ Some (f x ∷ ys) ]) (all_image ts) ∙ one_more x (all_some (map obj ts))
        ])

    applied_image : (h : ℕ) (ts : List A) → applied obj e.kf h (map image ts) ≡ renamed_form f image (applied obj d.kf h ts)
    applied_image h ts =
        ap (λ o. option_map_or Object (option_and_then (λ ds. least (values_at e.kf h ds)) o) (Apply h (map image ts))) (all_image ts)
        ∙ (elim (all_some (map obj ts)) as (λ o. option_map_or Object (option_and_then (λ ds. least (values_at e.kf h ds)) (option_map (map f) o)) (Apply h (map image ts))
        ≡ renamed_form f image (option_map_or Object (option_and_then (λ ds. least (values_at d.kf h ds)) o) (Apply h ts))) [
          | None ↦ refl
          | Some ds ↦
              ap (λ o. option_map_or Object o (Apply h (map image ts))) (least_image h ds)
              ∙ (elim (least (values_at d.kf h ds)) as (λ o. option_map_or Object (option_map f o) (Apply h (map image ts)) ≡ renamed_form f image (option_map_or Object o (Apply h ts))) [ None ↦ refl | Some v ↦ refl ])
        ])

  pub inner_image : (t : Inner) → inner_normal e.kf (renamed_inner f t) ≡ renamed_inner f (inner_normal d.kf t)
  inner_image (Object x) = refl
  inner_image (Parameter i) = refl
  inner_image (Apply h ds) = ap (applied Some e.kf h) (maps_turned (λ x. x) f f (λ x. x) (λ x. refl) ds) ∙ applied_image Some f (λ x. refl) h (map (λ x. x) ds)

  object_image : (t : Inner) → as_object (renamed_inner f t) ≡ option_map f (as_object t)
  object_image (Object x) = refl
  object_image (Parameter i) = refl
  object_image (Apply h ds) = refl

  pub normal_image : (t : Term) → normal e.kf (renamed_term f t) ≡ renamed_term f (normal d.kf t)
  unfolding normal
  normal_image (Object x) = refl
  normal_image (Parameter i) = refl
  normal_image (Apply h ts) =
      ap (applied as_object e.kf h) (maps_turned (inner_normal e.kf) (renamed_inner f) (renamed_inner f) (inner_normal d.kf) inner_image ts)
      ∙ applied_image as_object (renamed_inner f) object_image h (map (inner_normal d.kf) ts)

  normals_image : (ts : List Term) → map (normal e.kf) (map (renamed_term f) ts) ≡ map (renamed_term f) (map (normal d.kf) ts)
  normals_image ts = maps_turned (normal e.kf) (renamed_term f) (renamed_term f) (normal d.kf) normal_image ts

  pub form_image : (l : Literal) → normal_literal e.kf (renamed_literal f l) ≡ renamed_literal f (normal_literal d.kf l)
  unfolding normal_literal renamed_literal literal
  form_image l = λ i. record {
    relation = l.relation;
    arguments = (in_order-map (normal e.kf) l.relation (map (renamed_term f) l.arguments) ∙ ap (in_order l.relation) (normals_image l.arguments) ∙ sym (in_order-map (renamed_term f) l.relation (map (normal d.kf) l.arguments))) i;
    positive = l.positive;
  }

-- ---- whichever side of an equation stands first

module _ (s : Signature) where
  evident_swapped : (t u : Term) (b : Bool) → is_evident s Equality (t ∷ u ∷ []) b ≡ is_evident s Equality (u ∷ t ∷ []) b
  evident_swapped t u true = same_truth (term_eq t u) (term_eq u t) (λ h. term_eq_itself u t (sym (same_term t u h))) (λ h. term_eq_itself t u (sym (same_term u t h)))
  evident_swapped (Object x) (Object y) false = ap not (eqb_comm x y)
  evident_swapped (Object x) (Parameter y) false = refl
  evident_swapped (Object x) (Apply h us) false = refl
  evident_swapped (Parameter x) (Object y) false = refl
  evident_swapped (Parameter x) (Parameter y) false = refl
  evident_swapped (Parameter x) (Apply h us) false = refl
  evident_swapped (Apply h us) (Object y) false = refl
  evident_swapped (Apply h us) (Parameter y) false = refl
  evident_swapped (Apply h us) (Apply k vs) false = refl

  evident_ordered : (n : Term → Term) (r : Relation) (ts : List Term) (b : Bool) → is_evident s r (map n (in_order r ts)) b ≡ is_evident s r (map n ts) b
  evident_ordered n Equality (t ∷ u ∷ []) b =
      elim (is_lt (term_cmp t u)) as (λ c. is_evident s Equality (map n (cond c (u ∷ t ∷ []) (t ∷ u ∷ []))) b ≡ is_evident s Equality (n t ∷ n u ∷ []) b) [ true ↦ evident_swapped (n u) (n t) b | false ↦ refl ]
  evident_ordered n Equality [] b = refl
  evident_ordered n Equality (t ∷ []) b = refl
  evident_ordered n Equality (t ∷ u ∷ v ∷ ts) b = refl
  evident_ordered n (Named p) ts b = refl

  off_ordered : (d : Five) (r : Relation) (ts : List Term) (b : Bool) → is_closed_off s d r (in_order r ts) b ≡ is_closed_off s d r ts b
  off_ordered d (Named p) ts b = refl
  off_ordered d Equality ts b = refl

  form_ordered : (kf : List Literal) (l : Literal) → normal_literal kf (literal l.relation l.arguments l.positive) ≡ normal_literal kf l
  unfolding normal_literal literal
  form_ordered kf l = λ i. record { relation = l.relation; arguments = in_order-map (normal kf) l.relation l.arguments i; positive = l.positive }

  holds_ordered : (d : Five) (l : Literal) → holds s d (literal l.relation l.arguments l.positive) ≡ holds s d l
  unfolding holds is_plain is_known literal
  holds_ordered d l = λ i.
      (list_any (λ k. literal_eq (normal_literal d.kf k) (form_ordered d.kf l i)) d.kf || evident_ordered (normal d.kf) l.relation l.arguments l.positive i)
      || off_ordered d l.relation l.arguments l.positive i

-- ---- what holds of images

module _ (s : Signature) (f g : ℕ → ℕ) (d e : Five) (m : Mirror s f g d e) where
  apart : (x y : ℕ) → not (x == y) ≡ true → not (f x == f y) ≡ true
  apart x y h = not_from_false (f x == f y) (ne_eqb (f x) (f y) (λ q. eqb-false x y (not-true (x == y) h) (sym (m.renaming.back x) ∙ ap g q ∙ m.renaming.back y)))

  evident_more : (r : Relation) (ts : List Term) (b : Bool) → is_evident s r ts b ≡ true → is_evident s r (map (renamed_term f) ts) b ≡ true
  evident_more Equality (t ∷ u ∷ []) true h = term_eq_itself (renamed_term f t) (renamed_term f u) (ap (renamed_term f) (same_term t u h))
  evident_more Equality (Object x ∷ Object y ∷ []) false h = apart x y h
  evident_more Equality (Object x ∷ Apply k us ∷ []) false h = foreign_image s f g m.renaming k x ∙ h
  evident_more Equality (Apply k us ∷ Object x ∷ []) false h = foreign_image s f g m.renaming k x ∙ h
  evident_more Equality (Object x ∷ Parameter y ∷ []) false h = absurd (true≢false (sym h))
  evident_more Equality (Parameter x ∷ u ∷ []) false h = absurd (true≢false (sym h))
  evident_more Equality (Apply k us ∷ Parameter y ∷ []) false h = absurd (true≢false (sym h))
  evident_more Equality (Apply k us ∷ Apply j vs ∷ []) false h = absurd (true≢false (sym h))
  evident_more Equality [] b h = absurd (true≢false (sym h))
  evident_more Equality (t ∷ []) b h = absurd (true≢false (sym h))
  evident_more Equality (t ∷ u ∷ v ∷ ts) b h = absurd (true≢false (sym h))
  evident_more (Named p) ts b h = absurd (true≢false (sym h))

  plain_more : (l : Literal) → is_plain s d.kf l ≡ true → is_plain s e.kf (renamed_literal f l) ≡ true
  unfolding is_plain is_known renamed_literal literal
  plain_more l h =
      let other : Literal = renamed_literal f l in
      let known : Bool = is_known e.kf other in
      let shown : Bool = is_evident s other.relation (map (normal e.kf) other.arguments) other.positive in
      let evident : is_evident s l.relation (map (normal d.kf) l.arguments) l.positive ≡ true → known || shown ≡ true = λ v.
      or_right known shown
      (evident_ordered s (normal e.kf) l.relation (map (renamed_term f) l.arguments) l.positive
      ∙ ap (λ us. is_evident s l.relation us l.positive) (normals_image s f g d e m l.arguments)
      ∙ evident_more l.relation (map (normal d.kf) l.arguments) l.positive v) in
      ⊎_elim
      (λ k.
      let r = found_known d.kf l k in
      ⊎_elim
      (λ t. evident (evident_form s d.kf r.0 l t r.2))
      (λ i.
      or_left known shown
      (any_in (λ k. literal_eq (normal_literal e.kf k) (normal_literal e.kf other)) e.kf (renamed_literal f r.0) i
      (literal_eq_itself (normal_literal e.kf (renamed_literal f r.0)) (normal_literal e.kf other) (form_image s f g d e m r.0 ∙ ap (renamed_literal f) r.2 ∙ sym (form_image s f g d e m l)))))
      (m.images.there.known r.0 r.1))
      evident
      (or_cases (is_known d.kf l) (is_evident s l.relation (map (normal d.kf) l.arguments) l.positive) h)

  differ_more : (t u : Term) → differ s d.kf t u ≡ true → differ s e.kf (renamed_term f t) (renamed_term f u) ≡ true
  unfolding differ
  differ_more t u h = subst (λ l. is_plain s e.kf l ≡ true) (image_inequation f t u) (plain_more (inequation t u) h)

  some_differ_more : (ts us : List Term) → some_differ s d.kf ts us ≡ true → some_differ s e.kf (map (renamed_term f) ts) (map (renamed_term f) us) ≡ true
  some_differ_more (t ∷ ts) (u ∷ us) h =
      ⊎_elim (λ k. or_left (differ s e.kf (renamed_term f t) (renamed_term f u)) _ (differ_more t u k)) (λ k. or_right (differ s e.kf (renamed_term f t) (renamed_term f u)) _ (some_differ_more ts us k))
      (or_cases (differ s d.kf t u) (some_differ s d.kf ts us) h)
  some_differ_more [] us h = absurd (true≢false (sym h))
  some_differ_more (t ∷ ts) [] h = absurd (true≢false (sym h))

  all_differ_more : (others : List Atom) (ts : List Term) → list_all (λ (a : Atom). some_differ s d.kf a.arguments ts) others ≡ true
      → list_all (λ (a : Atom). some_differ s e.kf a.arguments (map (renamed_term f) ts)) (map (renamed_atom f) others) ≡ true
  all_differ_more [] ts h = refl
  all_differ_more (a ∷ others) ts h = let p = and_parts (some_differ s d.kf a.arguments ts) _ h in and_from _ _ (some_differ_more a.arguments ts p.0) (all_differ_more others ts p.1)

  fits_more : (ss : List (Option Term)) (ts : List Term) → fits d.kf ss ts ≡ true → fits e.kf (map (option_map (renamed_term f)) ss) (map (renamed_term f) ts) ≡ true
  fits_more [] [] h = refl
  fits_more (None ∷ ss) (t ∷ ts) h = fits_more ss ts h
  fits_more (Some u ∷ ss) (t ∷ ts) h =
      let p = and_parts (term_eq (normal d.kf u) (normal d.kf t)) (fits d.kf ss ts) h in
      and_from _ _
      (term_eq_itself (normal e.kf (renamed_term f u)) (normal e.kf (renamed_term f t)) (normal_image s f g d e m u ∙ ap (renamed_term f) (same_term (normal d.kf u) (normal d.kf t) p.0) ∙ sym (normal_image s f g d e m t)))
      (fits_more ss ts p.1)
  fits_more [] (t ∷ ts) h = absurd (true≢false (sym h))
  fits_more (None ∷ ss) [] h = absurd (true≢false (sym h))
  fits_more (Some u ∷ ss) [] h = absurd (true≢false (sym h))

  shut_out_more : (p : ℕ) (ts : List Term) (x : Entry) → is_shut_out s d.kf p ts x ≡ true → is_shut_out s e.kf p (map (renamed_term f) ts) (renamed_entry f x) ≡ true
  shut_out_more p ts x h =
      let a = and_parts (x.pattern.predicate == p) _ h in
      let b = and_parts (fits d.kf x.pattern.slots ts) _ a.1 in
      let listed = all_set_of atom_cmp atom_cmp_tells (λ (a : Atom). some_differ s e.kf a.arguments (map (renamed_term f) ts)) (map (renamed_atom f) x.listed) in
      and_from _ _ a.0 (and_from _ _ (fits_more x.pattern.slots ts b.0) (listed ∙ all_differ_more x.listed ts b.1))

  off_more : (r : Relation) (ts : List Term) (b : Bool) → is_closed_off s d r ts b ≡ true → is_closed_off s e r (map (renamed_term f) ts) b ≡ true
  off_more (Named p) ts false h =
      let x = found_in (is_shut_out s d.kf p ts) d.lcw h in
      any_in (is_shut_out s e.kf p (map (renamed_term f) ts)) e.lcw (renamed_entry f x.0) (m.images.there.regions x.0 x.1) (shut_out_more p ts x.0 x.2)
  off_more (Named p) ts true h = absurd (true≢false (sym h))
  off_more Equality ts b h = absurd (true≢false (sym h))

  holds_more : (l : Literal) → holds s d l ≡ true → holds s e (renamed_literal f l) ≡ true
  unfolding holds renamed_literal literal
  holds_more l h =
      let other : Literal = renamed_literal f l in
      let plain : Bool = is_plain s e.kf other in
      let off : Bool = is_closed_off s e other.relation other.arguments other.positive in
      ⊎_elim
      (λ k. or_left plain off (plain_more l k))
      (λ k. or_right plain off (off_ordered s e l.relation (map (renamed_term f) l.arguments) l.positive ∙ off_more l.relation l.arguments l.positive k))
      (or_cases (is_plain s d.kf l) _ h)

module _ (s : Signature) (f g : ℕ → ℕ) (d e : Five) (m : Mirror s f g d e) where
  -- the image of the image has the sides in order
  again : (l : Literal) → renamed_literal g (renamed_literal f l) ≡ literal l.relation l.arguments l.positive
  unfolding renamed_literal literal
  again l = λ i. record {
    relation = l.relation;
    arguments = (in_order-map (renamed_term g) l.relation (map (renamed_term f) l.arguments) ∙ ap (in_order l.relation) (terms_back f g m.renaming.back l.arguments)) i;
    positive = l.positive;
  }

  pub holds_image : (l : Literal) → holds s e (renamed_literal f l) ≡ holds s d l
  holds_image l =
      same_truth (holds s e (renamed_literal f l)) (holds s d l)
      (λ h. sym (ap (holds s d) (again l) ∙ holds_ordered s d l) ∙ holds_more s g f e d (mirror_turned s f g d e m) (renamed_literal f l) h)
      (holds_more s f g d e m l)

  pub differ_image : (t u : Term) → differ s e.kf (renamed_term f t) (renamed_term f u) ≡ differ s d.kf t u
  differ_image t u =
      same_truth (differ s e.kf (renamed_term f t) (renamed_term f u)) (differ s d.kf t u)
      (λ h. sym (λ i. differ s d.kf (term_back f g m.renaming.back t i) (term_back f g m.renaming.back u i)) ∙ differ_more s g f e d (mirror_turned s f g d e m) (renamed_term f t) (renamed_term f u) h)
      (differ_more s f g d e m t u)

  pub some_differ_image : (ts us : List Term) → some_differ s e.kf (map (renamed_term f) ts) (map (renamed_term f) us) ≡ some_differ s d.kf ts us
  some_differ_image (t ∷ ts) (u ∷ us) = λ i. differ_image t u i || some_differ_image ts us i
  some_differ_image [] us = refl
  some_differ_image (t ∷ ts) [] = refl

  pub conj_image : (c : List Literal) → normal_conj e.kf (renamed_conj f c) ≡ renamed_conj f (normal_conj d.kf c)
  conj_image c = set_turned literal_cmp_total literal_cmp_tells (normal_literal e.kf) (renamed_literal f) (renamed_literal f) (normal_literal d.kf) (form_image s f g d e m) c

  pub group_image : (x : List Literal) → normal_group e.kf (renamed_group f x) ≡ renamed_group f (normal_group d.kf x)
  group_image x =
      sequence_map (normal_literal e.kf) (map (renamed_literal f) x)
      ∙ ap in_sequence (maps_turned (normal_literal e.kf) (renamed_literal f) (renamed_literal f) (normal_literal d.kf) (form_image s f g d e m) x)
      ∙ sym (sequence_map (renamed_literal f) (map (normal_literal d.kf) x))

-- ---- what is kept of databases

module _ (s : Signature) (f g : ℕ → ℕ) (d e : Five) (m : Mirror s f g d e) where
  atom_image : (a : Atom) → normal_atom e.kf (renamed_atom f a) ≡ renamed_atom f (normal_atom d.kf a)
  atom_image a = λ i. record { predicate = a.predicate; arguments = normals_image s f g d e m a.arguments i }

  entry_image : (r : Entry) → normal_entry e.kf (renamed_entry f r) ≡ renamed_entry f (normal_entry d.kf r)
  entry_image r = λ i. record {
    pattern = record {
      predicate = r.pattern.predicate;
      slots = maps_turned (option_map (normal e.kf)) (option_map (renamed_term f)) (option_map (renamed_term f)) (option_map (normal d.kf)) (options_turned (normal e.kf) (renamed_term f) (renamed_term f) (normal d.kf) (normal_image s f g d e m)) r.pattern.slots i;
    };
    listed = set_turned atom_cmp_total atom_cmp_tells (normal_atom e.kf) (renamed_atom f) (renamed_atom f) (normal_atom d.kf) atom_image r.listed i;
  }

  image_application : (t : Term) → is_application (renamed_term f t) ≡ is_application t
  image_application (Object x) = refl
  image_application (Parameter i) = refl
  image_application (Apply h ts) = refl

  -- the members of a set of normal forms go to those of the other
  set_there : {X : Type 0} {cmp : X → X → Ordering} → IsTotalOrder cmp → IsAntisymmetric cmp → (image n k : X → X) → ((x : X) → k (image x) ≡ image (n x)) → (xs ys : List X) → ((x : X) → IsIn x xs → IsIn (image x) ys)
      → (x : X) → IsIn x (set_of cmp (map n xs)) → IsIn (image x) (set_of cmp (map k ys))
  set_there {cmp = cmp} o tells image n k same xs ys there x i =
      let r = in_mapped n xs x (in_set_of o tells (map n xs) x i) in
      set_of_in o tells (map k ys) (image x) (subst (λ z. IsIn z (map k ys)) (same r.0 ∙ ap image r.2) (in_map k ys (image r.0) (there r.0 r.1)))

  values_there : (t : Term) → IsIn t (set_of term_cmp (filter is_application (map (normal d.kf) d.kv))) → IsIn (renamed_term f t) (set_of term_cmp (filter is_application (map (normal e.kf) e.kv)))
  values_there t i =
      let a = in_filtered is_application (map (normal d.kf) d.kv) t (in_set_of term_cmp_total term_cmp_tells (filter is_application (map (normal d.kf) d.kv)) t i) in
      let r = in_mapped (normal d.kf) d.kv t a.0 in
      set_of_in term_cmp_total term_cmp_tells (filter is_application (map (normal e.kf) e.kv)) (renamed_term f t)
      (in_filter is_application (map (normal e.kf) e.kv) (renamed_term f t)
      (subst (λ u. IsIn u (map (normal e.kf) e.kv)) (normal_image s f g d e m r.0 ∙ ap (renamed_term f) r.2) (in_map (normal e.kf) e.kv (renamed_term f r.0) (m.images.there.values r.0 r.1)))
      (image_application t ∙ a.1))

  tidied_there : GoesTo f (tidied d) (tidied e)
  unfolding tidied
  tidied_there = record {
    known = m.images.there.known;
    whether = set_there conj_cmp_total conj_cmp_tells (renamed_conj f) (normal_conj d.kf) (normal_conj e.kf) (conj_image s f g d e m) d.kw e.kw m.images.there.whether;
    values = values_there;
    groups = set_there conj_cmp_total conj_cmp_tells (renamed_group f) (normal_group d.kf) (normal_group e.kf) (group_image s f g d e m) d.kx e.kx m.images.there.groups;
    regions = set_there entry_cmp_total entry_cmp_tells (renamed_entry f) (normal_entry d.kf) (normal_entry e.kf) entry_image d.lcw e.lcw m.images.there.regions;
  }

-- what is kept of databases that are each other's images
pub tidied_image : (s : Signature) (f g : ℕ → ℕ) (d e : Five) → Mirror s f g d e → AreImages f g (tidied d) (tidied e)
tidied_image s f g d e m = record { there = tidied_there s f g d e m; back = tidied_there s g f e d (mirror_turned s f g d e m) }
