-- Trivial literals: nothing comes of them, and what has the normal form of one is evident.
use Rattle.std.proofs.Common.{◌≡◌, ◌⊎◌, ◌==◌, ℕ, Bool, true, false, cond, not, List, [], ◌∷◌, map, flat_map, None, is_lt, refl, sym, ap, ◌∙◌, inl, inr, ⊎_elim, true≢false}
use Rattle.std.proofs.lemmas.Bool.{not-true, eqb-true}
use Rattle.pks_terms.specs.Sets.{one_replaced}
use Rattle.pks_terms.specs.Syntax.{Object, Parameter, Apply, Term, object, Relation, Named, Equality, Literal}
use Rattle.pks_terms.specs.Orders.{term_cmp, in_order, literal}
use Rattle.pks_terms.specs.Signatures.{Signature}
use Rattle.pks_terms.specs.Databases.{Five, told, normal, normal_literal, is_evident}
use Rattle.pks_terms.specs.Closure.{term_steps, applications_in, by_range}
use Rattle.pks_laws.proofs.Holding.{eqb_comm}
use Rattle.pks_laws.proofs.Least.{term_eq_itself}
use Rattle.pks_laws_symmetry.specs.Trivial.{is_so, is_trivial}

-- ---- trivial literals

-- the objects of a trivial literal
pub shape_of : (r : Relation) (ts : List Term) (b : Bool) → is_so r ts b ≡ true → (d : ℕ) × (e : ℕ) × (r ≡ Equality) × (ts ≡ Object d ∷ Object e ∷ []) × (b ≡ (d == e))
shape_of Equality (Object d ∷ Object e ∷ []) true h = (d, e, refl, refl, sym h)
shape_of Equality (Object d ∷ Object e ∷ []) false h = (d, e, refl, refl, sym (not-true (d == e) h))
shape_of (Named p) ts b h = absurd (true≢false (sym h))
shape_of Equality [] b h = absurd (true≢false (sym h))
shape_of Equality (Parameter i ∷ ts) b h = absurd (true≢false (sym h))
shape_of Equality (Apply f us ∷ ts) b h = absurd (true≢false (sym h))
shape_of Equality (Object d ∷ []) b h = absurd (true≢false (sym h))
shape_of Equality (Object d ∷ Parameter i ∷ ts) b h = absurd (true≢false (sym h))
shape_of Equality (Object d ∷ Apply f us ∷ ts) b h = absurd (true≢false (sym h))
shape_of Equality (Object d ∷ Object e ∷ t ∷ ts) b h = absurd (true≢false (sym h))

-- it gives no value, and no literal comes of it
pub untold : (r : Relation) (ts : List Term) (b : Bool) → is_so r ts b ≡ true → told r ts b ≡ None
unfolding told
untold r ts b h = let w = shape_of r ts b h in (λ i. told (w.2 i) (w.3 i) b) ∙ either w.0 w.1 b
  where
    either : (d e : ℕ) (b : Bool) → told Equality (Object d ∷ Object e ∷ []) b ≡ None
    either d e true = refl
    either d e false = refl

pub nothing_by_value : (kf : List Literal) (r : Relation) (ts : List Term) (b : Bool) → is_so r ts b ≡ true → map (λ us. literal r us b) (one_replaced (term_steps kf) ts) ≡ []
unfolding term_steps
nothing_by_value kf r ts b h = let w = shape_of r ts b h in ap (λ ts. map (λ us. literal r us b) (one_replaced (term_steps kf) ts)) w.3

pub no_application : (s : Signature) (d : Five) (r : Relation) (ts : List Term) (b : Bool) → is_so r ts b ≡ true → flat_map (by_range s d) (flat_map applications_in ts) ≡ []
no_application s d r ts b h = let w = shape_of r ts b h in ap (λ ts. flat_map (by_range s d) (flat_map applications_in ts)) w.3

-- ---- what has the normal form of a trivial literal is evident

abbrev swapped : List Term → List Term
swapped (x ∷ y ∷ []) = y ∷ x ∷ []
swapped [] = []
swapped (x ∷ []) = x ∷ []
swapped (x ∷ y ∷ z ∷ xs) = x ∷ y ∷ z ∷ xs

turned : (c : Bool) (t u : Term) (xs : List Term) → cond c (u ∷ t ∷ []) (t ∷ u ∷ []) ≡ xs → (t ∷ u ∷ [] ≡ xs) ⊎ (t ∷ u ∷ [] ≡ swapped xs)
turned true t u xs e = inr (ap swapped e)
turned false t u xs e = inl e

some_order : (ts xs : List Term) → in_order Equality ts ≡ xs → (ts ≡ xs) ⊎ (ts ≡ swapped xs)
some_order (t ∷ u ∷ []) xs e = turned (is_lt (term_cmp t u)) t u xs e
some_order [] xs e = inl e
some_order (t ∷ []) xs e = inl e
some_order (t ∷ u ∷ v ∷ ts) xs e = inl e

module _ (s : Signature) where
  objects_evident : (a b : ℕ) (c : Bool) → c ≡ (a == b) → is_evident s Equality (Object a ∷ Object b ∷ []) c ≡ true
  objects_evident a b true e = term_eq_itself (Object a) (Object b) (ap (λ x. object x) (eqb-true a b (sym e)))
  objects_evident a b false e = ap not (sym e)

  both_orders : (c : Bool) (t u : Term) (b : Bool) → is_evident s Equality (t ∷ u ∷ []) b ≡ true → is_evident s Equality (u ∷ t ∷ []) b ≡ true
      → (is_evident s Equality (cond c (u ∷ t ∷ []) (t ∷ u ∷ [])) b ≡ true) × (is_evident s Equality (swapped (cond c (u ∷ t ∷ []) (t ∷ u ∷ []))) b ≡ true)
  both_orders true t u b q r = (r, q)
  both_orders false t u b q r = (q, r)

  ordered_evident : (us : List Term) (a b : ℕ) (c : Bool) → c ≡ (a == b) → in_order Equality us ≡ in_order Equality (Object a ∷ Object b ∷ []) → is_evident s Equality us c ≡ true
  ordered_evident us a b c e q =
      let both = both_orders (is_lt (term_cmp (Object a) (Object b))) (Object a) (Object b) c (objects_evident a b c e) (objects_evident b a c (e ∙ eqb_comm a b)) in
      ⊎_elim
      (λ x. ap (λ ts. is_evident s Equality ts c) x ∙ both.0)
      (λ x. ap (λ ts. is_evident s Equality ts c) x ∙ both.1)
      (some_order us (in_order Equality (Object a ∷ Object b ∷ [])) q)

  pub evident_form : (kf : List Literal) (k l : Literal) → is_trivial k ≡ true → normal_literal kf k ≡ normal_literal kf l → is_evident s l.relation (map (normal kf) l.arguments) l.positive ≡ true
  unfolding normal_literal literal normal
  evident_form kf k l h e =
      let w = shape_of k.relation k.arguments k.positive h in
      let relation : l.relation ≡ Equality = sym (ap (λ (x : Literal). x.relation) e) ∙ w.2 in
      let sign : l.positive ≡ (w.0 == w.1) = sym (ap (λ (x : Literal). x.positive) e) ∙ w.4 in
      let order : in_order Equality (map (normal kf) l.arguments) ≡ in_order Equality (Object w.0 ∷ Object w.1 ∷ []) =
      ap (λ r. in_order r (map (normal kf) l.arguments)) (sym relation) ∙ sym (ap (λ (x : Literal). x.arguments) e) ∙ (λ i. in_order (w.2 i) (map (normal kf) (w.3 i))) in
      ap (λ r. is_evident s r (map (normal kf) l.arguments) l.positive) relation ∙ ordered_evident (map (normal kf) l.arguments) w.0 w.1 l.positive sign order
