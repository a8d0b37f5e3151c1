-- Terms of the same normal form differ from the same terms, so the same effects may hit them.
use Rattle.std.proofs.Common.{◌≡◌, ◌&&◌, ◌||◌, ◌==◌, ℕ, Bool, true, false, not, cond, is_lt, List, [], ◌∷◌, map, Option, Some, None, refl, sym, ap, ◌∙◌}
use Rattle.std.specs.List.{list_any}
use Rattle.pks_terms.specs.Syntax.{Object, Parameter, Apply, Inner, Term, term_of, Relation, Named, Equality, Literal}
use Rattle.pks_terms.specs.Orders.{term_cmp, literal_eq, in_order, literal, inequation}
use Rattle.pks_terms.specs.Signatures.{Signature}
use Rattle.pks_terms.specs.Databases.{Five, normal, normal_literal, is_known, is_evident, is_plain, differ, some_differ}
use Rattle.pks_terms.specs.Actions.{Target, Set, Unset, Clear, Assign, Effect}
use Rattle.pks_terms.specs.Spoiling.{some_fixed_differ, may_fire, may_make_true, may_make_false, may_change, some_may, may_be_changed, may_be_denied}
use Rattle.pks_laws.proofs.Holding.{eqb_comm}
use Rattle.pks_laws.proofs.Least.{in_order-map}

-- the lists are as long as each other, and R holds of each two in the same place
abbrev pub Related : {X : Type 0} → (X → X → Type 0) → List X → List X → Type 0
Related R [] [] = Unit {0}
Related R (x ∷ xs) (y ∷ ys) = R x y × Related R xs ys
Related R [] (y ∷ ys) = ⊥
Related R (x ∷ xs) [] = ⊥

module _ (s : Signature) where
  -- it doesn't matter which side stands first
  evident_swapped : (t u : Term) → is_evident s Equality (t ∷ u ∷ []) false ≡ is_evident s Equality (u ∷ t ∷ []) false
  evident_swapped (Object d) (Object e) = ap (λ b. not b) (eqb_comm d e)
  evident_swapped (Object d) (Parameter e) = refl
  evident_swapped (Object d) (Apply f us) = refl
  evident_swapped (Parameter d) (Object e) = refl
  evident_swapped (Parameter d) (Parameter e) = refl
  evident_swapped (Parameter d) (Apply f us) = refl
  evident_swapped (Apply f us) (Object d) = refl
  evident_swapped (Apply f us) (Parameter d) = refl
  evident_swapped (Apply f us) (Apply g vs) = refl

  evident-in_order : (f : Term → Term) (t u : Term) → is_evident s Equality (map f (in_order Equality (t ∷ u ∷ []))) false ≡ is_evident s Equality (f t ∷ f u ∷ []) false
  evident-in_order f t u =
      elim (is_lt (term_cmp t u)) as (λ c. is_evident s Equality (map f (cond c (u ∷ t ∷ []) (t ∷ u ∷ []))) false ≡ is_evident s Equality (f t ∷ f u ∷ []) false) [ true ↦ evident_swapped (f u) (f t) | false ↦ refl ]

  module _ (kf : List Literal) where
    -- the two have the same normal form
    abbrev pub AreAlike : Term → Term → Type 0
    AreAlike t u = normal kf t ≡ normal kf u

    known_alike : (l m : Literal) → normal_literal kf l ≡ normal_literal kf m → is_known kf l ≡ is_known kf m
    unfolding is_known
    known_alike l m e = ap (λ n. list_any (λ k. literal_eq (normal_literal kf k) n) kf) e

    normal-inequation : (t u : Term) → normal_literal kf (inequation t u) ≡ inequation (normal kf t) (normal kf u)
    unfolding normal_literal literal
    normal-inequation t u = λ i. record { relation = Equality; arguments = in_order-map (normal kf) Equality (t ∷ u ∷ []) i; positive = false }

    differ_alike : (t u v : Term) → AreAlike u v → differ s kf t u ≡ differ s kf t v
    unfolding differ is_plain literal
    differ_alike t u v e = λ i.
        known_alike (inequation t u) (inequation t v) (normal-inequation t u ∙ ap (inequation (normal kf t)) e ∙ sym (normal-inequation t v)) i
        || (evident-in_order (normal kf) t u ∙ ap (λ w. is_evident s Equality (normal kf t ∷ w ∷ []) false) e ∙ sym (evident-in_order (normal kf) t v)) i

    some_differ_alike : (ts us vs : List Term) → Related AreAlike us vs → some_differ s kf ts us ≡ some_differ s kf ts vs
    some_differ_alike [] [] [] a = refl
    some_differ_alike [] (u ∷ us) (v ∷ vs) a = refl
    some_differ_alike (t ∷ ts) [] [] a = refl
    some_differ_alike (t ∷ ts) (u ∷ us) (v ∷ vs) a = λ i. differ_alike t u v a.0 i || some_differ_alike ts us vs a.1 i
    some_differ_alike ts [] (v ∷ vs) a = absurd a
    some_differ_alike ts (u ∷ us) [] a = absurd a

    some_fixed_differ_alike : (ss : List (Option Term)) (us vs : List Term) → Related AreAlike us vs → some_fixed_differ s kf ss us ≡ some_fixed_differ s kf ss vs
    some_fixed_differ_alike [] [] [] a = refl
    some_fixed_differ_alike [] (u ∷ us) (v ∷ vs) a = refl
    some_fixed_differ_alike (Some t ∷ ss) [] [] a = refl
    some_fixed_differ_alike (None ∷ ss) [] [] a = refl
    some_fixed_differ_alike (Some t ∷ ss) (u ∷ us) (v ∷ vs) a = λ i. differ_alike t u v a.0 i || some_fixed_differ_alike ss us vs a.1 i
    some_fixed_differ_alike (None ∷ ss) (u ∷ us) (v ∷ vs) a = some_fixed_differ_alike ss us vs a.1
    some_fixed_differ_alike ss [] (v ∷ vs) a = absurd a
    some_fixed_differ_alike ss (u ∷ us) [] a = absurd a

    make_true_alike : (p : ℕ) (us vs : List Term) → Related AreAlike us vs → (x : Target) → may_make_true s kf p us x ≡ may_make_true s kf p vs x
    make_true_alike p us vs a (Set b) = ap (λ c. (b.predicate == p) && not c) (some_differ_alike b.arguments us vs a)
    make_true_alike p us vs a (Unset b) = refl
    make_true_alike p us vs a (Clear x) = refl
    make_true_alike p us vs a (Assign f ts v) = refl

    make_false_alike : (p : ℕ) (us vs : List Term) → Related AreAlike us vs → (x : Target) → may_make_false s kf p us x ≡ may_make_false s kf p vs x
    make_false_alike p us vs a (Unset b) = ap (λ c. (b.predicate == p) && not c) (some_differ_alike b.arguments us vs a)
    make_false_alike p us vs a (Clear x) = ap (λ c. (x.predicate == p) && not c) (some_fixed_differ_alike x.slots us vs a)
    make_false_alike p us vs a (Set b) = refl
    make_false_alike p us vs a (Assign f ts v) = refl

    change_alike : (f : ℕ) (us vs : List Inner) → Related AreAlike (map term_of us) (map term_of vs) → (x : Target) → may_change s kf f us x ≡ may_change s kf f vs x
    change_alike f us vs a (Assign g ts v) = ap (λ c. (g == f) && not c) (some_differ_alike (map term_of ts) (map term_of us) (map term_of vs) a)
    change_alike f us vs a (Set b) = refl
    change_alike f us vs a (Unset b) = refl
    change_alike f us vs a (Clear x) = refl

  module _ (d : Five) where
    some_may_alike : (p q : Target → Bool) → ((x : Target) → p x ≡ q x) → (es : List Effect) → some_may s d p es ≡ some_may s d q es
    some_may_alike p q h [] = refl
    some_may_alike p q h (e ∷ es) = λ i. (may_fire s d e && h e.target i) || some_may_alike p q h es i

    pub be_changed_alike : (f : ℕ) (us vs : List Inner) → Related (AreAlike d.kf) (map term_of us) (map term_of vs) → (es : List Effect) → may_be_changed s d es (Apply f us) ≡ may_be_changed s d es (Apply f vs)
    unfolding may_be_changed
    be_changed_alike f us vs a es = some_may_alike (may_change s d.kf f us) (may_change s d.kf f vs) (change_alike d.kf f us vs a) es

    pub be_denied_alike : (r : Relation) (us vs : List Term) (b : Bool) → Related (AreAlike d.kf) us vs → (es : List Effect) → may_be_denied s d es r us b ≡ may_be_denied s d es r vs b
    be_denied_alike (Named p) us vs true a es = some_may_alike (may_make_false s d.kf p us) (may_make_false s d.kf p vs) (make_false_alike d.kf p us vs a) es
    be_denied_alike (Named p) us vs false a es = some_may_alike (may_make_true s d.kf p us) (may_make_true s d.kf p vs) (make_true_alike d.kf p us vs a) es
    be_denied_alike Equality us vs b a es = refl
