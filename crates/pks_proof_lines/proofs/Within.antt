-- The reasons within a moment: where what is cited is so in a world, so is the fact.
use Rattle.std.proofs.Common.{◌≡◌, ◌&&◌, ◌||◌, ◌==◌, ℕ, zero, suc, Bool, true, false, not, List, [], ◌∷◌, map, slice_get, Option, Some, None, refl, sym, ap, ◌∙◌, subst, inl, inr, ⊎_elim, true≢false}
use Rattle.std.specs.List.{list_any}
use Rattle.std.specs.Option.{option_map_or, option_map}
use Rattle.std.proofs.lemmas.Bool.{or_cases, and_parts, and_from, cases_Bool, eqb-true, eq-eqb, ne_eqb, not-true, not_from_false, false_from_ne_true}
use Rattle.std.proofs.lemmas.Option.{none-some}
use Rattle.pks_terms.specs.Signatures.{Shape, Signature, fits_type, objects_of, object_is_of, is_foreign}
use Rattle.pks_terms.specs.Sets.{Each, IsIn, with_others}
use Rattle.pks_terms.specs.Syntax.{Object, Parameter, Apply, Term, object, Relation, Named, Equality, Literal, Atom, negated}
use Rattle.pks_terms.specs.Orders.{term_eq, literal_eq, equation, inequation}
use Rattle.pks_terms.specs.Worlds.{World, inner_value, value_of, relates, signed, true_in, all_true_in}
use Rattle.pks_terms.specs.Databases.{Entry, is_evident}
use Rattle.pks_terms.specs.Meaning.{IsWorld, is_instance, is_value_of, Meets}
use Rattle.pks_terms.specs.Problems.{Start, StartKf, StartKw, StartKv, StartKx, StartLcw, Problem, IsCompatible}
use Rattle.pks_terms.specs.Answers.{Keeps}
use Rattle.pks_terms.specs.Branching.{Choice, Act, BranchOn, CasesOn, Side, AsTrue, AsFalse, Is, IsSo}
use Rattle.pks_terms.proofs.ListLaws.{each_in, each_from_all, all_from_each, each_weaker, found, found_in, in_mapped, each_unmapped}
use Rattle.pks_terms.proofs.OrderLaws.{same_term, same_literal}
use Rattle.pks_terms.proofs.Types.{fits_itself, objects_are_of, are_objects_of}
use Rattle.pks_laws.proofs.Values.{same_objects_same}
use Rattle.pks_laws.proofs.Holding.{true_in-literal, true_in-negated}
use Rattle.pks_laws.proofs.Compatible.{compatible_kept}
use Rattle.pks_terms.specs.Proofs.{Fact, FactLit, FactKx, FactLcw, IsFactOf, nth}
use Rattle.pks_terms.specs.Judging.{Judge, fact_eq, is_cited, are_cited}
use Rattle.pks_terms.specs.Reasons.{some_cited_apart, said_by, is_given_item, says_side, is_same, is_only, is_other, others_ruled_out, objects_like, equates, is_in_range, has_fixed, leaves_out, is_left_out}
use Rattle.pks_proof_lines.proofs.Judged.{fact_eq_same, cited_true, cited_false, all_cited, group_found, region_found, inequation_true, some_apart_true}
use Rattle.pks_proof_lines.proofs.Groups.{one_apart, this_or_other, the_only, another}

-- ---- initial items

pub nth_in : {X : Type 0} (xs : List X) (n : ℕ) (x : X) → nth xs n ≡ Some x → IsIn x xs
nth_in xs zero x h = absurd (none-some x h)
nth_in xs (suc n) x h = got xs n x h
  where
    got : {X : Type 0} (xs : List X) (n : ℕ) (x : X) → slice_get xs n ≡ Some x → IsIn x xs
    got [] n x h = absurd (none-some x h)
    got (y ∷ ys) zero x h = inl (Rattle.std.proofs.lemmas.Option.same_Some y x h)
    got (y ∷ ys) (suc n) x h = inr (got ys n x h)

-- what a test of an element finds
pub with_nth : {X : Type 0} (q : X → Bool) (o : Option X) → option_map_or q o false ≡ true → (x : X) × (o ≡ Some x) × (q x ≡ true)
with_nth q None h = absurd (true≢false (sym h))
with_nth q (Some x) h = (x, refl, h)

-- given
pub given_true : (p : Problem) (w : World) → IsCompatible p w → (n m : ℕ) (f : Fact) → is_given_item p n m f ≡ true → (m ≡ 0) × IsFactOf w f
given_true p w c n m f h =
    let q = and_parts (m == 0) _ h in
    let x = with_nth (λ x. option_map_or (λ g. fact_eq g f) (said_by p x) false) (nth p.init n) q.1 in
    let g = with_nth (λ g. fact_eq g f) (said_by p x.0) x.2 in
    (eqb-true m 0 q.0, subst (IsFactOf w) (fact_eq_same g.0 f g.2) (said x.0 (each_in (Keeps p w) p.init x.0 (compatible_kept p w c) (nth_in p.init n x.0 x.1)) g.0 g.1))
  where
    out : (a b : Fact) → ◌≡◌ {A = Option Fact} (Some a) (Some b) → IsFactOf w a → IsFactOf w b
    out a b e t = subst (IsFactOf w) (Rattle.std.proofs.lemmas.Option.same_Some a b e) t

    said : (x : Start) → Keeps p w x → (g : Fact) → said_by p x ≡ Some g → IsFactOf w g
    said (StartKf l) k g e = out (FactLit l) g e k
    said (StartKx l) k g e = out (FactKx l) g e k
    said (StartLcw x) k g e = out (FactLcw _) g e k
    said (StartKw l) k g e = absurd (none-some g e)
    said (StartKv l) k g e = absurd (none-some g e)

module _ (j : Judge) (m : ℕ) (w : World) (right : Each (IsFactOf w) (j m)) where
  -- ---- sides

  any_literal : (l : Literal) (c : List Literal) → list_any (literal_eq l) c ≡ true → IsIn l c
  any_literal l [] h = absurd (true≢false (sym h))
  any_literal l (k ∷ c) h = ⊎_elim (λ e. inl (sym (same_literal l k e))) (λ e. inr (any_literal l c e)) (or_cases (literal_eq l k) _ h)

  -- where all are true but one, and not all, that one is false
  pub one_false : (c : List Literal) (q : Literal × List Literal) → IsIn q (with_others c) → Each (λ l. true_in w l ≡ true) q.1 → all_true_in w c ≡ false → true_in w q.0 ≡ false
  unfolding all_true_in
  one_false c q i a h =
      false_from_ne_true _ (λ t. true≢false (sym (all_from_each (true_in w) c (Rattle.pks_terms.proofs.ListLaws.each_of (λ l. true_in w l ≡ true) c
      (λ l k. ⊎_elim (λ e. ap (true_in w) (sym e) ∙ t) (λ k. each_in (λ l. true_in w l ≡ true) q.1 l a k) (this_or_other c q i l k)))) ∙ h))

  pub all_true_each : (c : List Literal) → all_true_in w c ≡ true → Each (λ l. true_in w l ≡ true) c
  unfolding all_true_in
  all_true_each c h = each_from_all (λ l. true_in w l ≡ true) (true_in w) (λ l t. t) c h

  -- side
  pub side_true : (c : Choice) (side : Side) → IsSo w c side → (l : Literal) → says_side j m c side l ≡ true → true_in w l ≡ true
  side_true (BranchOn c) AsTrue so l h = each_in (λ l. true_in w l ≡ true) c l (all_true_each c so) (any_literal l c h)
  side_true (BranchOn c) AsFalse so l h =
      let q = found_in (λ q. literal_eq l (negated q.0) && are_cited j m q.1) (with_others c) h in
      let b = and_parts (literal_eq l (negated q.0.0)) _ q.2 in
      ap (true_in w) (same_literal l (negated q.0.0) b.0) ∙ true_in-negated w q.0.0 ∙ ap not (one_false c q.0 q.1 (all_cited j m w right q.0.1 b.1) so)
  side_true (BranchOn c) (Is e) so l h = absurd so
  side_true (CasesOn t) (Is e) so l h =
      ap (true_in w) (same_literal l (equation t (object e)) h) ∙ true_in-literal w Equality (t ∷ object e ∷ []) true ∙ eq-eqb (value_of w t) (value_of w (object e)) (so ∙ at_object e)
    where
      at_object : (e : ℕ) → e ≡ value_of w (object e)
      at_object e = unfold value_of in refl
  side_true (CasesOn t) AsTrue so l h = absurd so
  side_true (CasesOn t) AsFalse so l h = absurd so
  side_true (Act i) side so l h = absurd so

  -- ---- groups

  -- only
  pub only_true : (l : Literal) → is_only j m l ≡ true → true_in w l ≡ true
  only_true l h =
      let g = group_found j m w right (λ g. list_any (λ q. literal_eq l q.0 && are_cited j m (map negated q.1)) (with_others g)) h in
      let q = found_in (λ q. literal_eq l q.0 && are_cited j m (map negated q.1)) (with_others g.0) g.2 in
      let b = and_parts (literal_eq l q.0.0) _ q.2 in
      ap (true_in w) (same_literal l q.0.0 b.0) ∙ the_only (true_in w) q.0.0 q.0.1 (one_apart (true_in w) g.0 q.0 q.1 ∙ g.1) (none q.0.1 b.1)
    where
      none : (ls : List Literal) → are_cited j m (map negated ls) ≡ true → list_any (true_in w) ls ≡ false
      none [] h = refl
      none (l ∷ ls) h = let q = and_parts (is_cited j m (negated l)) _ h in ap (λ b. b || list_any (true_in w) ls) (cited_false j m w right l q.0) ∙ none ls q.1

  -- others
  pub other_true : (l : Literal) → is_other j m l ≡ true → true_in w l ≡ true
  other_true l h =
      let g = group_found j m w right (λ g. list_any (λ q. literal_eq l (negated q.0) && list_any (is_cited j m) q.1) (with_others g)) h in
      let q = found_in (λ q. literal_eq l (negated q.0) && list_any (is_cited j m) q.1) (with_others g.0) g.2 in
      let b = and_parts (literal_eq l (negated q.0.0)) _ q.2 in
      ap (true_in w) (same_literal l (negated q.0.0) b.0) ∙ true_in-negated w q.0.0 ∙ ap not (another (true_in w) q.0.0 q.0.1 (one_apart (true_in w) g.0 q.0 q.1 ∙ g.1) (some q.0.1 b.1))
    where
      some : (ls : List Literal) → list_any (is_cited j m) ls ≡ true → list_any (true_in w) ls ≡ true
      some [] h = absurd (true≢false (sym h))
      some (l ∷ ls) h = ⊎_elim (λ e. ap (λ b. b || list_any (true_in w) ls) (cited_true j m w right l e)) (λ e. Rattle.std.proofs.lemmas.Bool.or_right _ _ (some ls e)) (or_cases (is_cited j m l) _ h)

  -- ---- regions

  fixed_instance : (ss : List (Option Term)) (ts : List Term) → has_fixed ss ts ≡ true → is_instance w ss (map (value_of w) ts) ≡ true
  fixed_instance [] [] h = refl
  fixed_instance [] (t ∷ ts) h = absurd (true≢false (sym h))
  fixed_instance (None ∷ ss) (t ∷ ts) h = fixed_instance ss ts h
  fixed_instance (None ∷ ss) [] h = absurd (true≢false (sym h))
  fixed_instance (Some u ∷ ss) (t ∷ ts) h =
      let q = and_parts (term_eq u t) _ h in and_from _ _ (eq-eqb (value_of w u) (value_of w t) (ap (value_of w) (same_term u t q.0))) (fixed_instance ss ts q.1)
  fixed_instance (Some u ∷ ss) [] h = absurd (true≢false (sym h))

  shut_out : (r : Relation) (ts : List Term) (b : Bool) (e : Entry) → Meets w e → leaves_out j m r ts b e ≡ true → signed b (relates w r (map (value_of w) ts)) ≡ true
  shut_out (Named p) ts false e meets h =
      let q = and_parts (e.pattern.predicate == p) _ h in
      let k = and_parts (has_fixed e.pattern.slots ts) _ q.1 in
      let same : e.pattern.predicate ≡ p = eqb-true _ _ q.0 in
      not_from_false _ (false_from_ne_true _ (λ t.
      let f = found_in (is_value_of w e.pattern.predicate (map (value_of w) ts)) e.listed (meets.closed (map (value_of w) ts) (fixed_instance e.pattern.slots ts k.0) (ap (λ n. w.truth n (map (value_of w) ts)) same ∙ t)) in
      some_apart_true j m w right f.0.arguments ts
      (each_in (λ (a : Atom). some_cited_apart j m a.arguments ts ≡ true) e.listed f.0 (each_from_all (λ (a : Atom). some_cited_apart j m a.arguments ts ≡ true) (λ a. some_cited_apart j m a.arguments ts) (λ a x. x) e.listed k.1) f.1)
      (same_objects_same _ _ (and_parts (f.0.predicate == e.pattern.predicate) _ f.2).1)))
  shut_out (Named p) ts true e meets h = absurd (true≢false (sym h))
  shut_out Equality ts b e meets h = absurd (true≢false (sym h))

  -- closed
  pub shut_out_true : (l : Literal) → is_left_out j m l ≡ true → true_in w l ≡ true
  unfolding true_in
  shut_out_true l h =
      let e = region_found j m w right (leaves_out j m l.relation l.arguments l.positive) h in
      shut_out l.relation l.arguments l.positive e.0 e.1 e.2

-- ---- values of the right types

module _ (s : Signature) (w : World) (i : IsWorld s w) where
  foreign_true : (f d : ℕ) (ds : List ℕ) → is_foreign s f d ≡ true → w.value f ds ≡ d → ⊥
  unfolding is_foreign
  foreign_true f d ds h e =
      elim (slice_get s.functions f) as (λ o. slice_get s.functions f ≡ o → option_map_or (λ (x : Shape). not (object_is_of s x.result d)) o false ≡ true → ⊥) [
        | None ↦ λ q k. true≢false (sym k)
        | Some x ↦ λ q k. true≢false (sym (objects_are_of s x.result d (subst (λ v. IsIn v (objects_of s x.result)) e (i.typed f ds x q))) ∙ not-true _ k)
      ] refl h

  evident_true : (r : Relation) (ts : List Term) (b : Bool) → is_evident s r ts b ≡ true → signed b (relates w r (map (value_of w) ts)) ≡ true
  unfolding value_of
  evident_true Equality (t ∷ u ∷ []) true h = eq-eqb (value_of w t) (value_of w u) (ap (value_of w) (same_term t u h))
  evident_true Equality (Object d ∷ Object e ∷ []) false h = h
  evident_true Equality (Object d ∷ Parameter e ∷ []) false h = absurd (true≢false (sym h))
  evident_true Equality (Object d ∷ Apply f us ∷ []) false h = not_from_false _ (ne_eqb d _ (λ e. foreign_true f d _ h (sym e)))
  evident_true Equality (Parameter d ∷ u ∷ []) false h = absurd (true≢false (sym h))
  evident_true Equality (Apply f us ∷ Object d ∷ []) false h = not_from_false _ (ne_eqb _ d (foreign_true f d _ h))
  evident_true Equality (Apply f us ∷ Parameter e ∷ []) false h = absurd (true≢false (sym h))
  evident_true Equality (Apply f us ∷ Apply g vs ∷ []) false h = absurd (true≢false (sym h))
  evident_true Equality [] b h = absurd (true≢false (sym h))
  evident_true Equality (t ∷ []) b h = absurd (true≢false (sym h))
  evident_true Equality (t ∷ u ∷ v ∷ ts) b h = absurd (true≢false (sym h))
  evident_true (Named p) ts b h = absurd (true≢false (sym h))

  -- same
  pub same_true : (l : Literal) → is_same s l ≡ true → true_in w l ≡ true
  unfolding true_in
  same_true l h = evident_true l.relation l.arguments l.positive h

  -- an object is one of its own type
  of_own_type : (d own : ℕ) → slice_get s.objects d ≡ Some own → IsIn d (objects_of s own)
  of_own_type d own q = are_objects_of s own d (unfold object_is_of in ap (λ o. option_map_or (λ x. fits_type s x own) o false) q ∙ fits_itself s own)

  -- the value of a term of a type is an object of it
  value_in_range : (t : Term) (e : ℕ) → IsIn e (objects_like s t) → IsIn (value_of w t) (objects_like s t)
  unfolding value_of
  value_in_range (Object d) e k =
      elim (slice_get s.objects d) as (λ o. slice_get s.objects d ≡ o → IsIn e (option_map_or (objects_of s) o []) → IsIn d (option_map_or (objects_of s) o [])) [
        | None ↦ λ q k. absurd k
        | Some own ↦ λ q k. of_own_type d own q
      ] refl k
  value_in_range (Parameter d) e k = absurd k
  value_in_range (Apply f ts) e k =
      elim (slice_get s.functions f) as (λ o. slice_get s.functions f ≡ o → IsIn e (option_map_or (objects_of s) (option_map (λ (x : Shape). x.result) o) []) → IsIn (w.value f (map (inner_value w) ts)) (option_map_or (objects_of s) (option_map (λ (x : Shape). x.result) o) [])) [
        | None ↦ λ q k. absurd k
        | Some x ↦ λ q k. i.typed f (map (inner_value w) ts) x q
      ] refl k

  module _ (j : Judge) (m : ℕ) (right : Each (IsFactOf w) (j m)) where
    last_left : (t : Term) (d : ℕ) (objects : List ℕ) → others_ruled_out j m t d objects ≡ true → IsIn (value_of w t) objects → value_of w t ≡ d
    last_left t d [] h k = absurd k
    last_left t d (e ∷ es) h (inl same) =
        let q = and_parts ((e == d) || is_cited j m (inequation t (object e))) _ h in
        ⊎_elim (λ x. sym same ∙ eqb-true e d x) (λ x. absurd (inequation_true j m w right t (object e) x (sym same ∙ at_object e))) (or_cases (e == d) _ q.0)
      where
        at_object : (e : ℕ) → e ≡ value_of w (object e)
        at_object e = unfold value_of in refl
    last_left t d (e ∷ es) h (inr k) = last_left t d es (and_parts ((e == d) || is_cited j m (inequation t (object e))) _ h).1 k

    any_number : (d : ℕ) (es : List ℕ) → list_any (λ e. e == d) es ≡ true → IsIn d es
    any_number d [] h = absurd (true≢false (sym h))
    any_number d (e ∷ es) h = ⊎_elim (λ x. inl (eqb-true e d x)) (λ x. inr (any_number d es x)) (or_cases (e == d) _ h)

    in_range : (r : Relation) (ts : List Term) (b : Bool) → equates s j m r ts b ≡ true → signed b (relates w r (map (value_of w) ts)) ≡ true
    in_range Equality (t ∷ Object d ∷ []) true h =
        let q = and_parts (list_any (λ e. e == d) (objects_like s t)) _ h in
        eq-eqb (value_of w t) (value_of w (Object d)) (last_left t d (objects_like s t) q.1 (value_in_range t d (any_number d (objects_like s t) q.0)) ∙ at_object d)
      where
        at_object : (e : ℕ) → e ≡ value_of w (object e)
        at_object e = unfold value_of in refl
    in_range Equality (t ∷ Object d ∷ []) false h = absurd (true≢false (sym h))
    in_range Equality (t ∷ Parameter d ∷ []) b h = absurd (true≢false (sym h))
    in_range Equality (t ∷ Apply f us ∷ []) b h = absurd (true≢false (sym h))
    in_range Equality [] b h = absurd (true≢false (sym h))
    in_range Equality (t ∷ []) b h = absurd (true≢false (sym h))
    in_range Equality (t ∷ Object d ∷ v ∷ ts) b h = absurd (true≢false (sym h))
    in_range Equality (t ∷ Parameter d ∷ v ∷ ts) b h = absurd (true≢false (sym h))
    in_range Equality (t ∷ Apply f us ∷ v ∷ ts) b h = absurd (true≢false (sym h))
    in_range (Named p) ts b h = absurd (true≢false (sym h))

    -- range
    pub range_true : (l : Literal) → is_in_range s j m l ≡ true → true_in w l ≡ true
    unfolding true_in
    range_true l h = in_range l.relation l.arguments l.positive h
