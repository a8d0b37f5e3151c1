-- The normal form of a term is a form of it, by equations that hold.
use Rattle.std.proofs.Common.{◌≡◌, ◌&&◌, ℕ, true, List, [], ◌∷◌, map, Some, None, refl, sym, ap, ◌∙◌, subst}
use Rattle.std.specs.Option.{option_map_or, option_and_then}
use Rattle.std.specs.Cmp.Lexicographic.{pointwise}
use Rattle.std.proofs.lemmas.Bool.{or_left, or_right, and_parts, and_from, eq-eqb}
use Rattle.pks_terms.specs.Sets.{IsIn, all_some}
use Rattle.pks_terms.specs.Syntax.{Object, Parameter, Apply, Inner, Term, object, place, as_object, Equality, Literal}
use Rattle.pks_terms.specs.Orders.{term_cmp, term_eq, literal, literal_eq, equation}
use Rattle.pks_terms.specs.Signatures.{Signature}
use Rattle.pks_terms.specs.Databases.{Five, values_at, least, inner_normal, normal, normal_literal, is_known, is_plain, holds}
use Rattle.pks_terms.specs.Moments.{IsInOrder}
use Rattle.pks_terms.proofs.ListLaws.{each_of, any_in}
use Rattle.pks_laws.proofs.Values.{least_in}
use Rattle.pks_laws.proofs.Least.{literal_eq_itself, term_eq_itself, value_literal}
use Rattle.pks_terms.specs.Proofs.{Fact, FactLit}
use Rattle.pks_terms.specs.Judging.{Judge, is_cited}
use Rattle.pks_terms.specs.Rewriting.{is_equation, are_equal_arguments, has_arguments, is_form, are_forms}
use Rattle.pks_laws_explain.proofs.Equal.{literal_ordered, map_same, some_all, objects_same}
use Rattle.pks_laws_explain.proofs.Needed.{NeedsOf, of_nothing, of_then, of_and, of_cited}
use Rattle.pks_laws_explain.proofs.Formed.{form_by, has_itself, form_itself}

-- each literal that holds is a fact of the kind
module _ (s : Signature) (d : Five) (S : Fact → Type 0) (m : ℕ) (hold : (l : Literal) → IsInOrder l → holds s d l ≡ true → S (FactLit l)) where
  abbrev O : (Judge → Type 0) → Type 0
  O T = NeedsOf S m T

  member_holds : (l : Literal) → IsIn l d.kf → holds s d l ≡ true
  unfolding holds is_plain is_known
  member_holds l i = or_left _ _ (or_left _ _ (any_in (λ k. literal_eq (normal_literal d.kf k) (normal_literal d.kf l)) d.kf l i (literal_eq_itself (normal_literal d.kf l) (normal_literal d.kf l) refl)))

  equation_in : (f : ℕ) (ds : List ℕ) (e : ℕ) → IsIn e (values_at d.kf f ds) → IsIn (equation (place f ds) (object e)) d.kf
  unfolding literal term_cmp
  equation_in f ds e i = value_literal d.kf f ds e i

  value_held : (f : ℕ) (ds : List ℕ) (e : ℕ) → IsIn e (values_at d.kf f ds) → S (FactLit (equation (place f ds) (object e)))
  value_held f ds e i = hold (equation (place f ds) (object e)) (literal_ordered Equality (place f ds ∷ object e ∷ []) true) (member_holds (equation (place f ds) (object e)) (equation_in f ds e i))

  abbrev InValues : ℕ → List ℕ → ℕ → Type 0
  InValues f ds e = IsIn e (values_at d.kf f ds)

  least_held : (f : ℕ) (ds : List ℕ) (e : ℕ) → least (values_at d.kf f ds) ≡ Some e → S (FactLit (equation (place f ds) (object e)))
  least_held f ds e h = value_held f ds e (least_in (InValues f ds) (values_at d.kf f ds) e (each_of (InValues f ds) (values_at d.kf f ds) (λ x i. i)) h)

  inner_of : (a : Inner) → O (λ j. are_equal_arguments j m a (inner_normal d.kf a) ≡ true)
  inner_of (Object e) = of_nothing S m (λ j. are_equal_arguments j m (Object e) (Object e) ≡ true) (λ j. or_left _ _ (term_eq_itself (Object e) (Object e) refl))
  inner_of (Parameter e) = of_nothing S m (λ j. are_equal_arguments j m (Parameter e) (Parameter e) ≡ true) (λ j. or_left _ _ (term_eq_itself (Parameter e) (Parameter e) refl))
  inner_of (Apply f ds) =
      let all : all_some (map Some (map (λ d. d) ds)) ≡ Some ds = ap (λ es. all_some (map Some es)) (map_same ds) ∙ some_all ds in
      subst (λ o. O (λ j. are_equal_arguments j m (Apply f ds) (option_map_or Object (option_and_then (λ es. least (values_at d.kf f es)) o) (Apply f (map (λ d. d) ds))) ≡ true)) (sym all)
      (elim (least (values_at d.kf f ds)) as (λ o. least (values_at d.kf f ds) ≡ o → O (λ j. are_equal_arguments j m (Apply f ds) (option_map_or Object o (Apply f (map (λ d. d) ds))) ≡ true)) [
        | None ↦ λ q. of_nothing S m (λ j. are_equal_arguments j m (Apply f ds) (Apply f (map (λ d. d) ds)) ≡ true) (λ j. or_left _ _ (term_eq_itself (place f ds) (place f (map (λ d. d) ds)) (ap (place f) (sym (map_same ds)))))
        | Some e ↦ λ q. of_then S m (λ j. is_cited j m (equation (place f ds) (object e)) ≡ true) (λ j. are_equal_arguments j m (Apply f ds) (Object e) ≡ true) (λ j c. or_right (term_eq (place f ds) (object e)) _ c) (of_cited S m (equation (place f ds) (object e)) (least_held f ds e q))
      ] refl)

  pub inners_of : (ts : List Inner) → O (λ j. pointwise (are_equal_arguments j m) ts (map (inner_normal d.kf) ts) ≡ true)
  inners_of [] = of_nothing S m (λ j. pointwise (are_equal_arguments j m) [] [] ≡ true) (λ j. refl)
  inners_of (t ∷ ts) = of_and S m (λ j. are_equal_arguments j m t (inner_normal d.kf t)) (λ j. pointwise (are_equal_arguments j m) ts (map (inner_normal d.kf) ts)) (inner_of t) (inners_of ts)

  pub normal_of : (t : Term) → O (λ j. is_form j m t (normal d.kf t) ≡ true)
  unfolding normal
  normal_of (Object e) = of_nothing S m (λ j. is_form j m (Object e) (Object e) ≡ true) (λ j. form_itself j m (Object e))
  normal_of (Parameter e) = of_nothing S m (λ j. is_form j m (Parameter e) (Parameter e) ≡ true) (λ j. form_itself j m (Parameter e))
  normal_of (Apply f ts) =
      let us : List Inner = map (inner_normal d.kf) ts in
      let has : O (λ j. has_arguments j m (Apply f ts) (Apply f us) ≡ true) = of_then S m (λ j. pointwise (are_equal_arguments j m) ts us ≡ true) (λ j. has_arguments j m (Apply f ts) (Apply f us) ≡ true) (λ j c. and_from _ _ (eq-eqb f f refl) c) (inners_of ts) in
      let form = of_then S m (λ j. has_arguments j m (Apply f ts) (Apply f us) ≡ true) (λ j. is_form j m (Apply f ts) (Apply f us) ≡ true) (λ j c. or_left _ _ c) has in
      elim (all_some (map as_object us)) as (λ o. all_some (map as_object us) ≡ o → O (λ j. is_form j m (Apply f ts) (option_map_or Object (option_and_then (λ es. least (values_at d.kf f es)) o) (Apply f us)) ≡ true)) [
        | None ↦ λ q. form
        | Some ds ↦ λ q. elim (least (values_at d.kf f ds)) as (λ o. least (values_at d.kf f ds) ≡ o → O (λ j. is_form j m (Apply f ts) (option_map_or Object o (Apply f us)) ≡ true)) [
          | None ↦ λ k. form
          | Some e ↦ λ k.
              let c : S (FactLit (equation (Apply f us) (object e))) = subst (λ vs. S (FactLit (equation (Apply f vs) (object e)))) (sym (objects_same us ds q)) (least_held f ds e k) in
              of_then S m (λ j. (has_arguments j m (Apply f ts) (Apply f us) && is_equation j m (Apply f us) (object e)) ≡ true) (λ j. is_form j m (Apply f ts) (object e) ≡ true)
              (λ j c. let b = and_parts (has_arguments j m (Apply f ts) (Apply f us)) _ c in form_by j m (Apply f ts) (Apply f us) (object e) (object e) b.0 (has_itself j m (object e)) b.1)
              (of_and S m (λ j. has_arguments j m (Apply f ts) (Apply f us)) (λ j. is_equation j m (Apply f us) (object e)) has (of_cited S m (equation (Apply f us) (object e)) c))
        ] refl
      ] refl

  pub normals_of : (ts : List Term) → O (λ j. are_forms j m ts (map (normal d.kf) ts) ≡ true)
  normals_of [] = of_nothing S m (λ j. are_forms j m [] [] ≡ true) (λ j. refl)
  normals_of (t ∷ ts) = of_and S m (λ j. is_form j m t (normal d.kf t)) (λ j. are_forms j m ts (map (normal d.kf) ts)) (normal_of t) (normals_of ts)
