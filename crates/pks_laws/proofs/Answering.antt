-- What databases answer is so in worlds of which they are true.
use Rattle.std.proofs.Common.{◌≡◌, ◌&&◌, ◌==◌, Bool, true, false, cond, not, is_eq, is_some, List, [], ◌∷◌, map, refl, sym, ap, ◌∙◌, inl, inr, ⊎_elim, true≢false}
use Rattle.std.specs.List.{list_any, list_all}
use Rattle.std.specs.Cmp.{Equal-is}
use Rattle.std.specs.FinMap.{slice_cmp-IsAntisymmetric}
use Rattle.std.proofs.lemmas.Bool.{or_cases, and_parts, and_left, and_right}
use Rattle.pks_terms.specs.Signatures.{Signature}
use Rattle.pks_terms.specs.Sets.{IsIn}
use Rattle.pks_terms.specs.Syntax.{Object, Parameter, Apply, Term, as_object, Relation, Named, Equality, Literal, negated}
use Rattle.pks_terms.specs.Orders.{term_eq, literal_cmp, conj_cmp}
use Rattle.pks_terms.specs.Worlds.{World, value_of, relates, signed, true_in, all_true_in}
use Rattle.pks_terms.specs.Databases.{Five, normal, normal_literal, holds}
use Rattle.pks_terms.specs.Meaning.{IsTrueOf}
use Rattle.pks_terms.specs.Closure.{normal_conj}
use Rattle.pks_terms.specs.Queries.{Plain, Know, KnowWhether, KnowValue, Query, known_value, is_member, has_known_sides, is_decided, known_whether, answers_plain, answers}
use Rattle.pks_laws.specs.Saying.{IsSaidOf}
use Rattle.pks_terms.proofs.ListLaws.{found, found_in, and_true, all_set_of, all_alike}
use Rattle.pks_terms.proofs.OrderLaws.{same_term, literal_cmp_tells}
use Rattle.pks_laws.proofs.Values.{AllTrue, value_of-normal}
use Rattle.pks_laws.proofs.Holding.{true_in-normal, true_in-negated, holds_true, denied_false}

pub all_true_in-normal : (w : World) (kf : List Literal) → AllTrue w kf → (c : List Literal) → all_true_in w (normal_conj kf c) ≡ all_true_in w c
unfolding all_true_in
all_true_in-normal w kf a c = all_set_of literal_cmp literal_cmp_tells (true_in w) (map (normal_literal kf) c) ∙ all_alike (true_in w) (true_in w) (normal_literal kf) (true_in-normal w kf a) c

all_false_at : (w : World) (c : List Literal) (l : Literal) → IsIn l c → true_in w l ≡ false → all_true_in w c ≡ false
unfolding all_true_in
all_false_at w [] l i h = absurd i
all_false_at w (m ∷ ms) l (inl e) h = and_left (true_in w m) (list_all (true_in w) ms) (ap (true_in w) e ∙ h)
all_false_at w (m ∷ ms) l (inr i) h = and_right (true_in w m) (list_all (true_in w) ms) (all_false_at w ms l i h)

module _ {s : Signature} (w w' : World) (d : Five) (m : IsTrueOf s w w' d) where
  -- known values are the same in both worlds
  pub known_value_alike : (t : Term) → known_value d t ≡ true → value_of w t ≡ value_of w' t
  unfolding known_value value_of
  known_value_alike t h =
      sym (value_of-normal w d.kf m.first.known t)
      ∙ ⊎_elim
      (λ e. of_object (normal d.kf t) e)
      (λ e. let f = found (λ u. value_of w u ≡ value_of w' u) (λ u. term_eq (normal d.kf u) (normal d.kf t)) d.kv m.values e in
      let same = same_term (normal d.kf f.0) (normal d.kf t) f.2 in
      ap (value_of w) (sym same) ∙ value_of-normal w d.kf m.first.known f.0 ∙ f.1 ∙ sym (value_of-normal w' d.kf m.second.known f.0) ∙ ap (value_of w') same)
      (or_cases (is_some (as_object (normal d.kf t))) _ h)
      ∙ value_of-normal w' d.kf m.second.known t
    where
      of_object : (u : Term) → is_some (as_object u) ≡ true → value_of w u ≡ value_of w' u
      of_object (Object e) k = refl
      of_object (Parameter i) k = absurd (true≢false (sym k))
      of_object (Apply f ts) k = absurd (true≢false (sym k))

  pub is_member_alike : (c : List Literal) → is_member d c ≡ true → all_true_in w c ≡ all_true_in w' c
  unfolding is_member
  is_member_alike c h =
      let f = found (λ k. all_true_in w k ≡ all_true_in w' k) (λ k. is_eq (conj_cmp (normal_conj d.kf k) (normal_conj d.kf c))) d.kw m.whether h in
      let same = slice_cmp-IsAntisymmetric literal_cmp_tells (normal_conj d.kf f.0) (normal_conj d.kf c) ((Equal-is (conj_cmp (normal_conj d.kf f.0) (normal_conj d.kf c))).0 f.2) in
      sym (all_true_in-normal w d.kf m.first.known c) ∙ ap (all_true_in w) (sym same) ∙ all_true_in-normal w d.kf m.first.known f.0
      ∙ f.1 ∙ sym (all_true_in-normal w' d.kf m.second.known f.0) ∙ ap (all_true_in w') same ∙ all_true_in-normal w' d.kf m.second.known c

  not_alike : (a b : Bool) → not a ≡ not b → a ≡ b
  not_alike true true e = refl
  not_alike true false e = sym e
  not_alike false true e = sym e
  not_alike false false e = refl

  alone_alike : (l : Literal) → is_member d (l ∷ []) ≡ true → true_in w l ≡ true_in w' l
  unfolding all_true_in
  alone_alike l h = sym (and_true (true_in w l)) ∙ is_member_alike (l ∷ []) h ∙ and_true (true_in w' l)

  sides_alike : (r : Relation) (ts : List Term) (b : Bool) → has_known_sides d r ts ≡ true → signed b (relates w r (map (value_of w) ts)) ≡ signed b (relates w' r (map (value_of w') ts))
  sides_alike Equality (t ∷ u ∷ []) b h =
      let p = and_parts (known_value d t) (known_value d u) h in λ i. signed b (known_value_alike t p.0 i == known_value_alike u p.1 i)
  sides_alike Equality [] b h = absurd (true≢false (sym h))
  sides_alike Equality (t ∷ []) b h = absurd (true≢false (sym h))
  sides_alike Equality (t ∷ u ∷ x ∷ ts) b h = absurd (true≢false (sym h))
  sides_alike (Named p) ts b h = absurd (true≢false (sym h))

  pub is_decided_alike : (l : Literal) → is_decided s d l ≡ true → true_in w l ≡ true_in w' l
  unfolding is_decided true_in
  is_decided_alike l h =
      ⊎_elim
      (λ e. ⊎_elim
      (λ k. holds_true w d m.first l k ∙ sym (holds_true w' d m.second l k))
      (λ k. denied_false w d m.first l k ∙ sym (denied_false w' d m.second l k))
      (or_cases (holds s d l) _ e))
      (λ e. ⊎_elim
      (λ k. ⊎_elim (alone_alike l) (λ n. not_alike _ _ (sym (true_in-negated w l) ∙ alone_alike (negated l) n ∙ true_in-negated w' l)) (or_cases (is_member d (l ∷ [])) _ k))
      (sides_alike l.relation l.arguments l.positive)
      (or_cases _ (has_known_sides d l.relation l.arguments) e))
      (or_cases _ _ h)

  all_decided_alike : (c : List Literal) → list_all (is_decided s d) c ≡ true → all_true_in w c ≡ all_true_in w' c
  unfolding all_true_in
  all_decided_alike [] h = refl
  all_decided_alike (l ∷ ls) h = let p = and_parts (is_decided s d l) _ h in λ i. is_decided_alike l p.0 i && all_decided_alike ls p.1 i

  -- the worlds agree on what is known to be true or false
  pub known_whether_alike : (c : List Literal) → known_whether s d c ≡ true → all_true_in w c ≡ all_true_in w' c
  unfolding known_whether
  known_whether_alike c h =
      ⊎_elim (is_member_alike c)
      (λ e. ⊎_elim
      (λ k. let f = found_in (λ l. holds s d (negated l)) c k in
      all_false_at w c f.0 f.1 (denied_false w d m.first f.0 f.2) ∙ sym (all_false_at w' c f.0 f.1 (denied_false w' d m.second f.0 f.2)))
      (all_decided_alike c) (or_cases (list_any (λ l. holds s d (negated l)) c) _ e))
      (or_cases (is_member d c) _ h)

-- what an answered query says is so
pub answered_said : {s : Signature} (w w' : World) (d : Five) → IsTrueOf s w w' d → (q : Query) → q.denied ≡ false → answers s d q ≡ true → IsSaidOf w w' q.asks
answered_said {s = s} w w' d m q not_denied h = said q.asks (sym (ap (λ b. cond b (not (answers_plain s d q.asks)) (answers_plain s d q.asks)) not_denied) ∙ h)
  where
    said : (x : Plain) → answers_plain s d x ≡ true → IsSaidOf w w' x
    said (Know l) k = (holds_true w d m.first l k, holds_true w' d m.second l k)
    said (KnowWhether c) k = known_whether_alike w w' d m c k
    said (KnowValue t) k = known_value_alike w w' d m t k
