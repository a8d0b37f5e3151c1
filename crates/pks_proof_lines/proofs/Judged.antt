-- What may be relied on is so in the world of its moment.
use Rattle.std.proofs.Common.{◌≡◌, ◌==◌, ℕ, Bool, true, false, not, List, [], ◌∷◌, map, refl, sym, ap, ◌∙◌, subst, ⊎_elim, true≢false}
use Rattle.std.specs.Cmp.{Equal-is}
use Rattle.std.specs.Cmp.Lexicographic.{pointwise}
use Rattle.std.proofs.lemmas.Bool.{or_cases, and_parts, eqb-true, eq-eqb, not-true}
use Rattle.pks_terms.specs.Sets.{Each}
use Rattle.pks_terms.specs.Syntax.{Object, Parameter, Apply, Term, are_two_objects, Equality, Literal, negated}
use Rattle.pks_terms.specs.Orders.{equation, inequation, conj_cmp}
use Rattle.pks_terms.specs.Worlds.{World, value_of, true_in, all_true_in}
use Rattle.pks_terms.specs.Databases.{Entry, entry_cmp}
use Rattle.pks_terms.specs.Meaning.{Meets}
use Rattle.pks_terms.specs.Sets.{exactly_one}
use Rattle.pks_terms.proofs.ListLaws.{found, each_from_all, all_from_each}
use Rattle.pks_terms.proofs.OrderLaws.{same_literal, conj_cmp_tells, entry_cmp_tells}
use Rattle.pks_laws.proofs.Holding.{true_in-literal, true_in-negated}
use Rattle.pks_terms.specs.Proofs.{Fact, FactLit, FactKx, FactLcw, IsFactOf}
use Rattle.pks_terms.specs.Judging.{Judge, fact_eq, relies, is_cited, are_cited, is_literal_that, is_group_that, is_region_that, some_literal, some_group, some_region}
use Rattle.pks_terms.specs.Reasons.{are_cited_apart, some_cited_apart}

pub fact_eq_same : (f g : Fact) → fact_eq f g ≡ true → f ≡ g
fact_eq_same (FactLit l) (FactLit k) h = ap FactLit (same_literal l k h)
fact_eq_same (FactKx g) (FactKx k) h = ap FactKx (conj_cmp_tells g k ((Equal-is (conj_cmp g k)).0 h))
fact_eq_same (FactLcw e) (FactLcw r) h = ap FactLcw (entry_cmp_tells e r ((Equal-is (entry_cmp e r)).0 h))
fact_eq_same (FactLit l) (FactKx k) h = absurd (true≢false (sym h))
fact_eq_same (FactLit l) (FactLcw k) h = absurd (true≢false (sym h))
fact_eq_same (FactKx l) (FactLit k) h = absurd (true≢false (sym h))
fact_eq_same (FactKx l) (FactLcw k) h = absurd (true≢false (sym h))
fact_eq_same (FactLcw l) (FactLit k) h = absurd (true≢false (sym h))
fact_eq_same (FactLcw l) (FactKx k) h = absurd (true≢false (sym h))

-- lists that agree one by one have the same values
pub pointwise_values : {X Z : Type 0} (E : X → X → Bool) (v : X → Z) → ((x y : X) → E x y ≡ true → v x ≡ v y) → (xs ys : List X) → pointwise E xs ys ≡ true → map v xs ≡ map v ys
pointwise_values E v f [] [] h = refl
pointwise_values E v f [] (y ∷ ys) h = absurd (true≢false (sym h))
pointwise_values E v f (x ∷ xs) [] h = absurd (true≢false (sym h))
pointwise_values E v f (x ∷ xs) (y ∷ ys) h =
    let q = and_parts (E x y) _ h in λ i. f x y q.0 i ∷ pointwise_values E v f xs ys q.1 i

two_objects_apart : (w : World) (t u : Term) → are_two_objects t u ≡ true → value_of w t ≡ value_of w u → ⊥
unfolding value_of
two_objects_apart w (Object d) (Object e) h same = true≢false (sym (eq-eqb d e same) ∙ not-true _ h)
two_objects_apart w (Object d) (Parameter e) h same = true≢false (sym h)
two_objects_apart w (Object d) (Apply g us) h same = true≢false (sym h)
two_objects_apart w (Parameter d) u h same = true≢false (sym h)
two_objects_apart w (Apply f ts) u h same = true≢false (sym h)

module _ (j : Judge) (m : ℕ) (w : World) (right : Each (IsFactOf w) (j m)) where
  pub relied : (f : Fact) → relies j m f ≡ true → IsFactOf w f
  relied f h = let x = found (IsFactOf w) (fact_eq f) (j m) right h in subst (IsFactOf w) (sym (fact_eq_same f x.0 x.2)) x.1

  pub cited_true : (l : Literal) → is_cited j m l ≡ true → true_in w l ≡ true
  cited_true l h = relied (FactLit l) h

  pub cited_false : (l : Literal) → is_cited j m (negated l) ≡ true → true_in w l ≡ false
  cited_false l h = not-true _ (sym (true_in-negated w l) ∙ cited_true (negated l) h)

  pub all_cited : (ls : List Literal) → are_cited j m ls ≡ true → Each (λ l. true_in w l ≡ true) ls
  all_cited ls h = each_from_all (λ l. true_in w l ≡ true) (is_cited j m) cited_true ls h

  pub all_cited_true : (ls : List Literal) → are_cited j m ls ≡ true → all_true_in w ls ≡ true
  unfolding all_true_in
  all_cited_true ls h = all_from_each (true_in w) ls (all_cited ls h)

  pub literal_found : (q : Literal → Bool) → some_literal j m q ≡ true → (l : Literal) × (true_in w l ≡ true) × (q l ≡ true)
  literal_found q h = let x = found (IsFactOf w) (is_literal_that q) (j m) right h in out x.0 x.1 x.2
    where
      out : (f : Fact) → IsFactOf w f → is_literal_that q f ≡ true → (l : Literal) × (true_in w l ≡ true) × (q l ≡ true)
      out (FactLit l) t k = (l, t, k)
      out (FactKx g) t k = absurd (true≢false (sym k))
      out (FactLcw e) t k = absurd (true≢false (sym k))

  pub group_found : (q : List Literal → Bool) → some_group j m q ≡ true → (g : List Literal) × (exactly_one (true_in w) g ≡ true) × (q g ≡ true)
  group_found q h = let x = found (IsFactOf w) (is_group_that q) (j m) right h in out x.0 x.1 x.2
    where
      out : (f : Fact) → IsFactOf w f → is_group_that q f ≡ true → (g : List Literal) × (exactly_one (true_in w) g ≡ true) × (q g ≡ true)
      out (FactKx g) t k = (g, t, k)
      out (FactLit l) t k = absurd (true≢false (sym k))
      out (FactLcw e) t k = absurd (true≢false (sym k))

  pub region_found : (q : Entry → Bool) → some_region j m q ≡ true → (e : Entry) × Meets w e × (q e ≡ true)
  region_found q h = let x = found (IsFactOf w) (is_region_that q) (j m) right h in out x.0 x.1 x.2
    where
      out : (f : Fact) → IsFactOf w f → is_region_that q f ≡ true → (e : Entry) × Meets w e × (q e ≡ true)
      out (FactLcw e) t k = (e, t, k)
      out (FactLit l) t k = absurd (true≢false (sym k))
      out (FactKx g) t k = absurd (true≢false (sym k))

  pub equation_true : (t u : Term) → is_cited j m (equation t u) ≡ true → value_of w t ≡ value_of w u
  equation_true t u h = eqb-true _ _ (sym (true_in-literal w Equality (t ∷ u ∷ []) true) ∙ cited_true (equation t u) h)

  pub inequation_true : (t u : Term) → is_cited j m (inequation t u) ≡ true → value_of w t ≡ value_of w u → ⊥
  inequation_true t u h e =
      let n : not (value_of w t == value_of w u) ≡ true = sym (true_in-literal w Equality (t ∷ u ∷ []) false) ∙ cited_true (inequation t u) h in
      true≢false (sym (eq-eqb _ _ e) ∙ not-true _ n)

  pub apart_true : (t u : Term) → are_cited_apart j m t u ≡ true → value_of w t ≡ value_of w u → ⊥
  apart_true t u h e = ⊎_elim (λ k. inequation_true t u k e) (λ k. two_objects_apart w t u k e) (or_cases _ _ h)

  pub some_apart_true : (ts us : List Term) → some_cited_apart j m ts us ≡ true → map (value_of w) ts ≡ map (value_of w) us → ⊥
  some_apart_true (t ∷ ts) (u ∷ us) h e =
      ⊎_elim (λ k. apart_true t u k cc) (λ k. some_apart_true ts us k cc) (or_cases (are_cited_apart j m t u) (some_cited_apart j m ts us) h)
  some_apart_true [] us h e = true≢false (sym h)
  some_apart_true (t ∷ ts) [] h e = true≢false (sym h)
