-- Sets of literals whose numbers are below a bound: there are only so many.
use Rattle.std.proofs.Common.{◌≡◌, ◌⊎◌, ◌++◌, ◌+◌, ◌<◌, ◌≤◌, ℕ, zero, suc, Bool, true, false, List, [], ◌∷◌, length, map, flat_map, Ordering, Less, is_lt, is_eq, refl, sym, ap, ◌∙◌, subst, inl, inr, ⊎_elim, true≢false, arith}
use Rattle.std.specs.Ordering.{ordering_reverse}
use Rattle.std.specs.Cmp.{IsTotalOrder}
use Rattle.std.specs.FinMap.{IsAntisymmetric}
use Rattle.std.proofs.lemmas.Cmp.{tied_itself}
use Rattle.std.proofs.lemmas.Bool.{cases_lt}
use Rattle.pks_terms.specs.Sets.{Each, IsIn, IsOrdered, set_of}
use Rattle.pks_terms.specs.Syntax.{Form, Object, Parameter, Apply, Inner, Term, Relation, Named, Equality, Literal}
use Rattle.pks_terms.specs.Orders.{literal_cmp}
use Rattle.pks_terms.specs.Totality.{literal_cmp_total}
use Rattle.pks_terms.specs.Saturated.{Within}
use Rattle.pks_terms.proofs.ListLaws.{each_in, each_weaker, in_map}
use Rattle.pks_terms.proofs.OrderLaws.{literal_cmp_tells}
use Rattle.pks_terms.proofs.SetLaws.{ordered_set_of, set_of_in}
use Rattle.pks_laws.proofs.Least.{in_left, in_right, in_flat}
use Rattle.pks_laws_progress.proofs.Small.{FormSmall, InnerSmall, TermSmall, RelationSmall, LiteralSmall}

-- ---- all literals below a bound

abbrev numbers : ℕ → List ℕ
numbers zero = []
numbers (suc n) = n ∷ numbers n

in_numbers : (n d : ℕ) → d < n → IsIn d (numbers n)
in_numbers zero d h = absurd (omega arith)
in_numbers (suc n) d h = ⊎_elim (λ lt. inr (in_numbers n d lt)) (λ ge. inl (let e : n ≡ d = omega arith in e)) (cases_lt d n)

-- the lists of so many elements at most
abbrev lists_to : {X : Type 0} → ℕ → List X → List (List X)
lists_to zero xs = [] ∷ []
lists_to (suc n) xs = [] ∷ flat_map (λ x. map (λ ys. x ∷ ys) (lists_to n xs)) xs

in_lists : {X : Type 0} (n : ℕ) (xs ys : List X) → length ys ≤ n → Each (λ y. IsIn y xs) ys → IsIn ys (lists_to n xs)
in_lists zero xs [] l a = inl refl
in_lists zero xs (y ∷ ys) l a = absurd (omega arith)
in_lists (suc n) xs [] l a = inl refl
in_lists (suc n) xs (y ∷ ys) l a =
    let shorter : length ys ≤ n = omega arith in
    inr (in_flat (λ x. map (λ ys. x ∷ ys) (lists_to n xs)) xs y (y ∷ ys) a.0 (in_map (λ ys. y ∷ ys) (lists_to n xs) ys (in_lists n xs ys shorter a.1)))

abbrev forms_of : {A : Type 0} → ℕ → List A → List (Form A)
forms_of b els = map Object (numbers b) ++ (map Parameter (numbers b) ++ flat_map (λ f. map (Apply f) (lists_to b els)) (numbers b))

in_forms : {A : Type 0} (P : A → Type 0) (b : ℕ) (els : List A) → ((a : A) → P a → IsIn a els) → (t : Form A) → FormSmall P b t → IsIn t (forms_of b els)
in_forms P b els f (Object d) h = in_left (map Object (numbers b)) _ (Object d) (in_map Object (numbers b) d (in_numbers b d h))
in_forms P b els f (Parameter i) h = in_right (map Object (numbers b)) _ (Parameter i) (in_left (map Parameter (numbers b)) _ (Parameter i) (in_map Parameter (numbers b) i (in_numbers b i h)))
in_forms {A} P b els f (Apply g ts) h =
    in_right (map Object (numbers b)) _ (Apply g ts) (in_right (map Parameter (numbers b)) _ (Apply g ts)
    (in_flat (λ g. map (Apply g) (lists_to b els)) (numbers b) g (Apply g ts) (in_numbers b g h.0) (in_map (Apply g) (lists_to b els) ts (in_lists b els ts h.1 (each_weaker P (λ a. IsIn a els) f ts h.2)))))

abbrev inners : ℕ → List Inner
inners b = forms_of b (numbers b)

abbrev terms : ℕ → List Term
terms b = forms_of b (inners b)

in_inners : (b : ℕ) (u : Inner) → InnerSmall b u → IsIn u (inners b)
in_inners b = in_forms (λ d. d < b) b (numbers b) (in_numbers b)

in_terms : (b : ℕ) (t : Term) → TermSmall b t → IsIn t (terms b)
in_terms b = in_forms (InnerSmall b) b (inners b) (in_inners b)

abbrev relations : ℕ → List Relation
relations b = Equality ∷ map Named (numbers b)

in_relations : (b : ℕ) (r : Relation) → RelationSmall b r → IsIn r (relations b)
in_relations b (Named p) h = inr (in_map Named (numbers b) p (in_numbers b p h))
in_relations b Equality h = inl refl

abbrev with_signs : Relation → List Term → List Literal
with_signs r ts = record { relation = r; arguments = ts; positive = true } ∷ record { relation = r; arguments = ts; positive = false } ∷ []

abbrev literals : ℕ → List Literal
literals b = flat_map (λ r. flat_map (with_signs r) (lists_to b (terms b))) (relations b)

in_signs : (r : Relation) (ts : List Term) (sign : Bool) → IsIn (record { relation = r; arguments = ts; positive = sign }) (with_signs r ts)
in_signs r ts true = inl refl
in_signs r ts false = inr (inl refl)

in_literals : (b : ℕ) (l : Literal) → LiteralSmall b l → IsIn l (literals b)
in_literals b l h =
    in_flat (λ r. flat_map (with_signs r) (lists_to b (terms b))) (relations b) l.relation l (in_relations b l.relation h.0)
    (in_flat (with_signs l.relation) (lists_to b (terms b)) l.arguments l (in_lists b (terms b) l.arguments h.1 (each_weaker (TermSmall b) (λ t. IsIn t (terms b)) (in_terms b) l.arguments h.2)) (in_signs l.relation l.arguments l.positive))

-- ---- a set within another isn't longer

module _ {X : Type 0} (cmp : X → X → Ordering) (o : IsTotalOrder cmp) (tells : IsAntisymmetric cmp) where
  not_below : (x : X) → cmp x x ≡ Less → ⊥
  not_below x h = true≢false (sym (ap is_eq (tied_itself o x)) ∙ ap is_eq h)

  not_both : (x y : X) → cmp x y ≡ Less → cmp y x ≡ Less → ⊥
  not_both x y h k = true≢false (sym (ap is_lt h) ∙ ap is_lt (o.antisymm x y ∙ ap ordering_reverse k))

  no_longer : (xs zs : List X) → IsOrdered cmp xs → IsOrdered cmp zs → Within xs zs → length xs ≤ length zs
  no_longer [] zs a c w = omega arith
  no_longer (x ∷ xs) [] a c w = absurd (w x (inl refl))
  no_longer (x ∷ xs) (z ∷ zs) a c w =
      ⊎_elim
      (λ e. let rest : length xs ≤ length zs = no_longer xs zs a.1 c.1
      (λ y i. ⊎_elim (λ q. absurd (not_below x (subst (λ u. cmp x u ≡ Less) (sym q ∙ e) (each_in (λ y. cmp x y ≡ Less) xs y a.0 i)))) (λ j. j) (w y (inr i))) in omega arith)
      (λ i. let rest : suc (length xs) ≤ length zs = no_longer (x ∷ xs) zs a c.1
      (λ y j. ⊎_elim (λ q. absurd (above y j q i)) (λ k. k) (w y j)) in omega arith)
      (w x (inl refl))
    where
      above : (y : X) → IsIn y (x ∷ xs) → z ≡ y → IsIn x zs → ⊥
      above y (inl e) q i = not_below z (subst (λ u. cmp z u ≡ Less) (e ∙ sym q) (each_in (λ u. cmp z u ≡ Less) zs x c.0 i))
      above y (inr j) q i = not_both x z (subst (λ u. cmp x u ≡ Less) (sym q) (each_in (λ u. cmp x u ≡ Less) xs y a.0 j)) (each_in (λ u. cmp z u ≡ Less) zs x c.0 i)

unfoldable pub most : ℕ → ℕ
most b = length (set_of literal_cmp (literals b))

pub at_most : (b : ℕ) (kf : List Literal) → IsOrdered literal_cmp kf → Each (LiteralSmall b) kf → length kf ≤ most b
unfolding most
at_most b kf o a =
    no_longer literal_cmp literal_cmp_total literal_cmp_tells kf (set_of literal_cmp (literals b)) o (ordered_set_of literal_cmp_total literal_cmp_tells (literals b))
    (λ l i. set_of_in literal_cmp_total literal_cmp_tells (literals b) l (in_literals b l (each_in (LiteralSmall b) kf l a i)))
