-- What holds is true in a world of which the databases are true.
use Rattle.std.proofs.Common.{◌≡◌, ◌==◌, ℕ, Bool, true, false, cond, not, List, [], ◌∷◌, map, Option, Some, None, refl, sym, ap, ◌∙◌, subst, inl, inr, ⊎_elim, true≢false}
use Rattle.std.specs.Ordering.{is_lt}
use Rattle.std.specs.List.{list_all, slice_get}
use Rattle.std.specs.Option.{option_map_or}
use Rattle.pks_terms.proofs.Types.{objects_are_of}
use Rattle.std.proofs.lemmas.Bool.{or_cases, and_parts, and_from, cases_Bool, eqb-true, eq-eqb, ne_eqb, not-true, not_from_false, eqb-false}
use Rattle.pks_terms.specs.Signatures.{Shape, Signature, objects_of, object_is_of, is_foreign}
use Rattle.pks_terms.specs.Sets.{IsIn}
use Rattle.pks_terms.specs.Syntax.{Object, Parameter, Apply, Term, Relation, Named, Equality, Literal, Atom, negated}
use Rattle.pks_terms.specs.Orders.{term_cmp, term_eq, literal_eq, in_order, literal, inequation}
use Rattle.pks_terms.specs.Worlds.{World, value_of, relates, signed, true_in}
use Rattle.pks_terms.specs.Databases.{Entry, Five, same_objects, normal, normal_literal, is_known, is_evident, is_plain, differ, some_differ, fits, is_shut_out, is_closed_off, holds}
use Rattle.pks_terms.specs.Meaning.{IsWorld, is_instance, is_value_of, Meets, IsTrueIn}
use Rattle.pks_terms.proofs.ListLaws.{found, found_in}
use Rattle.pks_terms.proofs.OrderLaws.{same_term, same_literal}
use Rattle.pks_laws.proofs.Values.{AllTrue, same_objects_same, value_of-normal, values-normal}

pub eqb_comm : (m n : ℕ) → (m == n) ≡ (n == m)
eqb_comm m n =
    ⊎_elim
    (λ e. e ∙ sym (eq-eqb n m (sym (eqb-true m n e))))
    (λ e. e ∙ sym (ne_eqb n m (λ q. eqb-false m n e (sym q))))
    (cases_Bool (m == n))

pub relates-in_order : (w : World) (v : Term → ℕ) (r : Relation) (ts : List Term) → relates w r (map v (in_order r ts)) ≡ relates w r (map v ts)
relates-in_order w v Equality (t ∷ u ∷ []) =
    elim (is_lt (term_cmp t u)) as (λ b. relates w Equality (map v (cond b (u ∷ t ∷ []) (t ∷ u ∷ []))) ≡ (v t == v u)) [
      | true ↦ eqb_comm (v u) (v t)
      | false ↦ refl
    ]
relates-in_order w v Equality [] = refl
relates-in_order w v Equality (t ∷ []) = refl
relates-in_order w v Equality (t ∷ u ∷ x ∷ ts) = refl
relates-in_order w v (Named p) ts = refl

-- to put the sides of an equation in order changes nothing of its truth
pub true_in-literal : (w : World) (r : Relation) (ts : List Term) (b : Bool) → true_in w (literal r ts b) ≡ signed b (relates w r (map (value_of w) ts))
unfolding true_in literal
true_in-literal w r ts b = ap (signed b) (relates-in_order w (value_of w) r ts)

-- a literal is as true as one with arguments of the same values
pub true_in-alike : (w : World) (l : Literal) (ts : List Term) → map (value_of w) ts ≡ map (value_of w) l.arguments → true_in w (literal l.relation ts l.positive) ≡ true_in w l
unfolding true_in
true_in-alike w l ts e = true_in-literal w l.relation ts l.positive ∙ ap (λ ds. signed l.positive (relates w l.relation ds)) e

pub signed-not : (a b : Bool) → signed (not a) b ≡ not (signed a b)
signed-not true b = refl
signed-not false true = refl
signed-not false false = refl

pub true_in-negated : (w : World) (l : Literal) → true_in w (negated l) ≡ not (true_in w l)
unfolding true_in
true_in-negated w l = signed-not l.positive _

pub same_objects_itself : (ds es : List ℕ) → ds ≡ es → same_objects ds es ≡ true
same_objects_itself [] [] e = refl
same_objects_itself [] (x ∷ es) e = cc
same_objects_itself (d ∷ ds) [] e = cc
same_objects_itself (d ∷ ds) (x ∷ es) e = and_from (d == x) (same_objects ds es) (eq-eqb d x cc) (same_objects_itself ds es cc)

module _ (w : World) (kf : List Literal) (a : AllTrue w kf) where
  pub true_in-normal : (l : Literal) → true_in w (normal_literal kf l) ≡ true_in w l
  unfolding normal_literal
  true_in-normal l = true_in-alike w l (map (normal kf) l.arguments) (values-normal w kf a l.arguments)

  is_known_true : (l : Literal) → is_known kf l ≡ true → true_in w l ≡ true
  unfolding is_known
  is_known_true l h =
      let f = found (λ k. true_in w k ≡ true) (λ k. literal_eq (normal_literal kf k) (normal_literal kf l)) kf a h in
      sym (true_in-normal l) ∙ ap (true_in w) (sym (same_literal (normal_literal kf f.0) (normal_literal kf l) f.2)) ∙ true_in-normal f.0 ∙ f.1

  -- what fits a pattern is an instance of it
  pub fits_true : (ss : List (Option Term)) (ts : List Term) → fits kf ss ts ≡ true → is_instance w ss (map (value_of w) ts) ≡ true
  fits_true [] [] h = refl
  fits_true (None ∷ ss) (t ∷ ts) h = fits_true ss ts h
  fits_true (Some u ∷ ss) (t ∷ ts) h =
      let p = and_parts (term_eq (normal kf u) (normal kf t)) (fits kf ss ts) h in
      and_from _ _ (eq-eqb (value_of w u) (value_of w t) (sym (value_of-normal w kf a u) ∙ ap (value_of w) (same_term (normal kf u) (normal kf t) p.0) ∙ value_of-normal w kf a t)) (fits_true ss ts p.1)
  fits_true [] (t ∷ ts) h = absurd (true≢false (sym h))
  fits_true (None ∷ ss) [] h = absurd (true≢false (sym h))
  fits_true (Some u ∷ ss) [] h = absurd (true≢false (sym h))

module _ {s : Signature} (w : World) (i : IsWorld s w) (kf : List Literal) (a : AllTrue w kf) where
  -- what isn't one of a function's result type isn't a value of it
  foreign_true : (f d : ℕ) (ds : List ℕ) → is_foreign s f d ≡ true → w.value f ds ≡ d → ⊥
  unfolding is_foreign
  foreign_true f d ds h e =
      elim (slice_get s.functions f) as (λ o. slice_get s.functions f ≡ o → option_map_or (λ (x : Shape). not (object_is_of s x.result d)) o false ≡ true → ⊥) [
        | None ↦ λ q k. true≢false (sym k)
        | Some x ↦ λ q k. true≢false (sym (objects_are_of s x.result d (subst (λ v. IsIn v (objects_of s x.result)) e (i.typed f ds x q))) ∙ not-true _ k)
      ] refl h

  is_evident_true : (r : Relation) (ts : List Term) (b : Bool) → is_evident s r ts b ≡ true → signed b (relates w r (map (value_of w) ts)) ≡ true
  unfolding value_of
  is_evident_true Equality (t ∷ u ∷ []) true h = eq-eqb (value_of w t) (value_of w u) (ap (value_of w) (same_term t u h))
  is_evident_true Equality (Object d ∷ Object e ∷ []) false h = h
  is_evident_true Equality (Object d ∷ Parameter e ∷ []) false h = absurd (true≢false (sym h))
  is_evident_true Equality (Object d ∷ Apply f us ∷ []) false h = not_from_false _ (ne_eqb d _ (λ e. foreign_true f d _ h (sym e)))
  is_evident_true Equality (Parameter d ∷ u ∷ []) false h = absurd (true≢false (sym h))
  is_evident_true Equality (Apply f us ∷ Object d ∷ []) false h = not_from_false _ (ne_eqb _ d (foreign_true f d _ h))
  is_evident_true Equality (Apply f us ∷ Parameter e ∷ []) false h = absurd (true≢false (sym h))
  is_evident_true Equality (Apply f us ∷ Apply g vs ∷ []) false h = absurd (true≢false (sym h))
  is_evident_true Equality [] b h = absurd (true≢false (sym h))
  is_evident_true Equality (t ∷ []) b h = absurd (true≢false (sym h))
  is_evident_true Equality (t ∷ u ∷ v ∷ ts) b h = absurd (true≢false (sym h))
  is_evident_true (Named p) ts b h = absurd (true≢false (sym h))

  pub is_plain_true : (l : Literal) → is_plain s kf l ≡ true → true_in w l ≡ true
  unfolding is_plain true_in
  is_plain_true l h =
      ⊎_elim (is_known_true w kf a l)
      (λ e. ap (λ ds. signed l.positive (relates w l.relation ds)) (sym (values-normal w kf a l.arguments)) ∙ is_evident_true l.relation (map (normal kf) l.arguments) l.positive e)
      (or_cases (is_known kf l) _ h)

  -- two different terms have different values
  pub differ_true : (t u : Term) → differ s kf t u ≡ true → value_of w t ≡ value_of w u → ⊥
  unfolding differ
  differ_true t u h e =
      let n : not (value_of w t == value_of w u) ≡ true = sym (true_in-literal w Equality (t ∷ u ∷ []) false) ∙ is_plain_true (inequation t u) h in
      eqb-false (value_of w t) (value_of w u) (not-true _ n) e

  pub some_differ_true : (ts us : List Term) → some_differ s kf ts us ≡ true → map (value_of w) ts ≡ map (value_of w) us → ⊥
  some_differ_true (t ∷ ts) (u ∷ us) h e =
      ⊎_elim (λ d. differ_true t u d cc) (λ d. some_differ_true ts us d cc) (or_cases (differ s kf t u) (some_differ s kf ts us) h)
  some_differ_true [] us h e = absurd (true≢false (sym h))
  some_differ_true (t ∷ ts) [] h e = absurd (true≢false (sym h))

  -- what a region that the world meets shuts out is false
  pub is_shut_out_true : (p : ℕ) (ts : List Term) (e : Entry) → Meets w e → is_shut_out s kf p ts e ≡ true → w.truth p (map (value_of w) ts) ≡ false
  is_shut_out_true p ts e m h =
      let all = and_parts (e.pattern.predicate == p) _ h in
      let rest = and_parts (fits kf e.pattern.slots ts) _ all.1 in
      let same = eqb-true e.pattern.predicate p all.0 in
      ⊎_elim
      (λ t.
      let listed = found_in (is_value_of w e.pattern.predicate (map (value_of w) ts)) e.listed (m.closed (map (value_of w) ts) (fits_true w kf a e.pattern.slots ts rest.0) (ap (λ q. w.truth q (map (value_of w) ts)) same ∙ t)) in
      let alike = same_objects_same _ _ (and_parts (listed.0.predicate == e.pattern.predicate) _ listed.2).1 in
      absurd (some_differ_true listed.0.arguments ts (all_at e.listed listed.0 rest.1 listed.1) alike))
      (λ f. f)
      (cases_Bool (w.truth p (map (value_of w) ts)))
    where
      all_at : (bs : List Atom) (b : Atom) → list_all (λ c. some_differ s kf c.arguments ts) bs ≡ true → IsIn b bs → some_differ s kf b.arguments ts ≡ true
      all_at [] b h i = absurd i
      all_at (c ∷ bs) b h (inl q) = subst (λ (x : Atom). some_differ s kf x.arguments ts ≡ true) q (and_parts (some_differ s kf c.arguments ts) _ h).0
      all_at (c ∷ bs) b h (inr i) = all_at bs b (and_parts (some_differ s kf c.arguments ts) _ h).1 i

-- what holds is true
pub holds_true : {s : Signature} (w : World) (d : Five) → IsTrueIn s w d → (l : Literal) → holds s d l ≡ true → true_in w l ≡ true
unfolding holds true_in
holds_true {s = s} w d m l h =
    ⊎_elim (is_plain_true w m.world d.kf m.known l) (closed_off l.relation l.arguments l.positive) (or_cases (is_plain s d.kf l) _ h)
  where
    closed_off : (r : Relation) (ts : List Term) (b : Bool) → is_closed_off s d r ts b ≡ true → signed b (relates w r (map (value_of w) ts)) ≡ true
    closed_off (Named p) ts false k =
        let f = found (Meets w) (is_shut_out s d.kf p ts) d.lcw m.regions k in
        ap not (is_shut_out_true w m.world d.kf m.known p ts f.0 f.1 f.2)
    closed_off (Named p) ts true k = absurd (true≢false (sym k))
    closed_off Equality ts b k = absurd (true≢false (sym k))

-- what is derived false is false
pub denied_false : {s : Signature} (w : World) (d : Five) → IsTrueIn s w d → (l : Literal) → holds s d (negated l) ≡ true → true_in w l ≡ false
denied_false w d m l h = not-true (true_in w l) (sym (true_in-negated w l) ∙ holds_true w d m (negated l) h)
