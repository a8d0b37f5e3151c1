-- Two different objects differ whatever is known.
use Rattle.std.proofs.Common.{◌≡◌, ◌||◌, ◌==◌, Bool, true, false, not, cond, List, [], ◌∷◌, map, refl, sym, ap, ◌∙◌, ⊎_elim, true≢false, ℕ}
use Rattle.std.proofs.lemmas.Bool.{cases_Bool, eqb-true, eq-eqb, ne_eqb, eqb-false}
use Rattle.std.specs.Ordering.{is_lt}
use Rattle.pks_terms.specs.Signatures.{Signature}
use Rattle.pks_terms.specs.Syntax.{Object, Parameter, Apply, Term, Equality, Literal, are_two_objects}
use Rattle.pks_terms.specs.Orders.{term_cmp, literal, inequation}
use Rattle.pks_terms.specs.Databases.{normal, is_known, is_evident, is_plain, differ, some_differ}
use Rattle.pks_query_lookup.specs.Apart.{are_apart}

eqb_turned : (m n : ℕ) → (m == n) ≡ (n == m)
eqb_turned m n =
    ⊎_elim
    (λ e. e ∙ sym (eq-eqb n m (sym (eqb-true m n e))))
    (λ e. e ∙ sym (ne_eqb n m (λ q. eqb-false m n e (sym q))))
    (cases_Bool (m == n))

or_true : (b : Bool) → (b || true) ≡ true
or_true true = refl
or_true false = refl

module _ (s : Signature) (kf : List Literal) where
  two_objects_differ : (t u : Term) → are_two_objects t u ≡ true → differ s kf t u ≡ true
  unfolding differ is_plain literal normal
  two_objects_differ (Object d) (Object e) h =
      let turned : not (e == d) ≡ true = ap (λ b. not b) (eqb_turned e d) ∙ h in
      let evident : is_evident s Equality (map (normal kf) (inequation (Object d) (Object e)).arguments) false ≡ true =
      elim (is_lt (term_cmp (Object d) (Object e))) as (λ c. is_evident s Equality (map (normal kf) (cond c (Object e ∷ Object d ∷ []) (Object d ∷ Object e ∷ []))) false ≡ true) [ true ↦ turned | false ↦ h ]
      in
      ap (λ b. is_known kf (inequation (Object d) (Object e)) || b) evident ∙ or_true (is_known kf (inequation (Object d) (Object e)))
  two_objects_differ (Object d) (Parameter e) h = absurd (true≢false (sym h))
  two_objects_differ (Object d) (Apply f us) h = absurd (true≢false (sym h))
  two_objects_differ (Parameter d) u h = absurd (true≢false (sym h))
  two_objects_differ (Apply f ts) u h = absurd (true≢false (sym h))

  pub apart_differ : (ts us : List Term) → are_apart ts us ≡ true → some_differ s kf ts us ≡ true
  apart_differ [] us h = absurd (true≢false (sym h))
  apart_differ (t ∷ ts) [] h = absurd (true≢false (sym h))
  apart_differ (t ∷ ts) (u ∷ us) h =
      elim (are_two_objects t u) as (λ b. are_two_objects t u ≡ b → (b || are_apart ts us) ≡ true → (differ s kf t u || some_differ s kf ts us) ≡ true) [
        | true ↦ λ e k. ap (λ b. b || some_differ s kf ts us) (two_objects_differ t u e)
        | false ↦ λ e k. ap (λ b. differ s kf t u || b) (apart_differ ts us k) ∙ or_true (differ s kf t u)
      ] refl h
