-- Closed databases have the normal form of each member, so what is known is found by its normal form.
use Rattle.std.proofs.Common.{◌≡◌, ◌≤◌, ℕ, Bool, true, false, cond, List, [], ◌∷◌, map, length, filter, filter_map, Option, Some, None, option_and_then, is_eq, is_lt, is_some, refl, sym, ap, ◌∙◌, subst, inl, inr, ⊎_elim, true≢false, arith}
use Rattle.std.specs.Prelude.{◌||◌}
use Rattle.std.specs.List.{list_any, cons_option}
use Rattle.std.specs.Option.{option_map_or}
use Rattle.std.specs.declared.cmp.Ordering.{Ordering}
use Rattle.std.specs.Cmp.{IsTotalOrder}
use Rattle.std.specs.declared.cmp.Ordering.TheVariants.{Less, Equal, Greater}
use Rattle.std.specs.Ordering.{ordering_reverse}
use Rattle.std.specs.FinMap.{IsAntisymmetric}
use Rattle.std.proofs.lemmas.Cmp.{tied_itself}
use Rattle.pks_terms.specs.Sets.{Each, IsIn, IsOrdered, all_some, one_replaced, set_of}
use Rattle.pks_terms.specs.Syntax.{Object, Parameter, Apply, Inner, Term, object, place, as_object, Relation, Named, Equality, Literal}
use Rattle.pks_terms.specs.Orders.{term_cmp, term_eq, literal_cmp, literal_eq, conj_cmp, in_order, literal}
use Rattle.pks_terms.specs.Totality.{term_cmp_total, literal_cmp_total, conj_cmp_total}
use Rattle.pks_terms.specs.Signatures.{Signature, HasValues}
use Rattle.pks_terms.specs.Databases.{Five, told, value_if_at, values_at, least, inner_normal, normal, normal_literal, is_known}
use Rattle.pks_terms.specs.Closure.{inner_steps, term_steps, by_value, is_application, rounds, normal_conj, tidied, first_clash, IsClosed}
use Rattle.pks_terms.specs.Queries.{known_value, is_member}
use Rattle.pks_terms.specs.Saturated.{IsSaturated}
use Rattle.pks_terms.proofs.Types.{both_ways}
use Rattle.pks_terms.proofs.ListLaws.{each_in, each_of, each_map, each_kept, each_set_of, found_in, any_in, in_map, in_mapped, in_appended}
use Rattle.pks_terms.proofs.OrderLaws.{term_cmp_tells, literal_cmp_tells, conj_cmp_tells, same_literal}
use Rattle.pks_terms.proofs.SetLaws.{ordered_set_of, in_set_of, set_of_in, same_members}
use Rattle.pks_laws.proofs.Values.{least_in}
use Rattle.pks_laws.proofs.Least.{in_left, in_right, in_filter_map, in_order_swapped, literal_eq_itself, normal_again, normal_literal_again, value_literal, one_value, addition_in}
use Rattle.pks_laws.proofs.Belonging.{saturated_end, end_of}
use Rattle.pks_terms.specs.Moments.{IsInOrder}
use Rattle.pks_laws.specs.Lookup.{is_among}

-- what holds wherever a step leads from where it holds, holds where steps lead one by one

module _ {X : Type 0} (step : X → List X) (norm : X → X) (reach : (Q : X → Type 0) → ((x y : X) → Q x → IsIn y (step x) → Q y) → (x : X) → Q x → Q (norm x)) where
  all_reach : (P : List X → Type 0) → ((xs ys : List X) → P xs → IsIn ys (one_replaced step xs) → P ys) → (xs : List X) → P xs → P (map norm xs)
  all_reach P closed [] p = p
  all_reach P closed (x ∷ xs) p =
      let first : P (norm x ∷ xs) = reach (λ y. P (y ∷ xs)) (λ y z q i. closed (y ∷ xs) (z ∷ xs) q (in_left (map (λ u. u ∷ xs) (step y)) (map (λ us. y ∷ us) (one_replaced step xs)) (z ∷ xs) (in_map (λ u. u ∷ xs) (step y) z i))) x p in
      all_reach (λ ys. P (norm x ∷ ys))
      (λ ys zs q i. closed (norm x ∷ ys) (norm x ∷ zs) q (in_right (map (λ u. u ∷ ys) (step (norm x))) (map (λ us. norm x ∷ us) (one_replaced step ys)) (norm x ∷ zs) (in_map (λ us. norm x ∷ us) (one_replaced step ys) zs i))) xs first

module _ (kf : List Literal) where
  least_there : (f : ℕ) (ds : List ℕ) (e : ℕ) → least (values_at kf f ds) ≡ Some e → IsIn e (values_at kf f ds)
  least_there f ds e q = least_in (λ x. IsIn x (values_at kf f ds)) (values_at kf f ds) e (each_of (λ x. IsIn x (values_at kf f ds)) (values_at kf f ds) (λ x i. i)) q

  map_same : (ds : List ℕ) → map (λ d. d) ds ≡ ds
  map_same [] = refl
  map_same (d ∷ ds) = ap (λ es. d ∷ es) (map_same ds)

  all_there : (ds : List ℕ) → all_some (map Some ds) ≡ Some ds
  all_there [] = refl
  all_there (d ∷ ds) = ap (λ o. elim o [ None ↦ None | Some ys ↦ Some (d ∷ ys) ]) (all_there ds)

  inner_reach : (Q : Inner → Type 0) → ((x y : Inner) → Q x → IsIn y (inner_steps kf x) → Q y) → (x : Inner) → Q x → Q (inner_normal kf x)
  inner_reach Q closed (Object d) q = q
  inner_reach Q closed (Parameter i) q = q
  inner_reach Q closed (Apply f ds) q =
      let here : Q (option_map_or Object (least (values_at kf f ds)) (Apply f ds)) =
      elim (least (values_at kf f ds)) as (λ o. least (values_at kf f ds) ≡ o → Q (option_map_or Object o (Apply f ds))) [
        | None ↦ λ r. q
        | Some e ↦ λ r. closed (Apply f ds) (Object e) q (in_map Object (values_at kf f ds) e (least_there f ds e r))
      ] refl in
      subst Q (sym ((λ i. option_map_or Object (option_and_then (λ ds. least (values_at kf f ds)) (all_some (map Some (map_same ds i)))) (Apply f (map_same ds i))) ∙ ap (λ o. option_map_or Object (option_and_then (λ ds. least (values_at kf f ds)) o) (Apply f ds)) (all_there ds))) here

  term_reach : (Q : Term → Type 0) → ((x y : Term) → Q x → IsIn y (term_steps kf x) → Q y) → (x : Term) → Q x → Q (normal kf x)
  unfolding term_steps normal
  term_reach Q closed (Object d) q = q
  term_reach Q closed (Parameter i) q = q
  term_reach Q closed (Apply f ts) q =
      let us = map (inner_normal kf) ts in
      let inside : Q (Apply f us) =
      all_reach (inner_steps kf) (inner_normal kf) inner_reach (λ vs. Q (Apply f vs))
      (λ vs ws r i. closed (Apply f vs) (Apply f ws) r (in_right (map Object (option_map_or (values_at kf f) (all_some (map as_object vs)) [])) (map (Apply f) (one_replaced (inner_steps kf) vs)) (Apply f ws) (in_map (Apply f) (one_replaced (inner_steps kf) vs) ws i))) ts q in
      elim (all_some (map as_object us)) as (λ o. all_some (map as_object us) ≡ o → Q (option_map_or Object (option_and_then (λ ds. least (values_at kf f ds)) o) (Apply f us))) [
        | None ↦ λ r. inside
        | Some ds ↦ λ r. elim (least (values_at kf f ds)) as (λ o. least (values_at kf f ds) ≡ o → Q (option_map_or Object o (Apply f us))) [
          | None ↦ λ k. inside
          | Some e ↦ λ k. closed (Apply f us) (Object e) inside
              (in_left (map Object (option_map_or (values_at kf f) (all_some (map as_object us)) [])) (map (Apply f) (one_replaced (inner_steps kf) us)) (Object e)
              (in_map Object (option_map_or (values_at kf f) (all_some (map as_object us)) []) e (subst (λ o. IsIn e (option_map_or (values_at kf f) o [])) (sym r) (least_there f ds e k))))
        ] refl
      ] refl

  -- ---- where what the known values add is there already

  -- one side of an equation replaced, whichever side stands first
  turned : (t u : Term) (us : List Term) → IsIn us (one_replaced (term_steps kf) (t ∷ u ∷ [])) → (vs : List Term) × IsIn vs (one_replaced (term_steps kf) (u ∷ t ∷ [])) × (in_order Equality vs ≡ in_order Equality us)
  turned t u us j =
      ⊎_elim
      (λ k. let r = in_mapped (λ y. y ∷ u ∷ []) (term_steps kf t) us k in (
        u ∷ r.0 ∷ [],
        in_right (map (λ y. y ∷ t ∷ []) (term_steps kf u)) (map (λ ys. u ∷ ys) (one_replaced (term_steps kf) (t ∷ []))) (u ∷ r.0 ∷ []) (in_map (λ ys. u ∷ ys) (one_replaced (term_steps kf) (t ∷ [])) (r.0 ∷ []) (in_left (map (λ y. y ∷ []) (term_steps kf t)) [] (r.0 ∷ []) (in_map (λ y. y ∷ []) (term_steps kf t) r.0 r.1))),
        in_order_swapped u r.0 ∙ ap (in_order Equality) r.2,
      ))
      (λ k.
      let r = in_mapped (λ ys. t ∷ ys) (one_replaced (term_steps kf) (u ∷ [])) us k in
      ⊎_elim
      (λ l. let q = in_mapped (λ y. y ∷ []) (term_steps kf u) r.0 l in (
        q.0 ∷ t ∷ [],
        in_left (map (λ y. y ∷ t ∷ []) (term_steps kf u)) (map (λ ys. u ∷ ys) (one_replaced (term_steps kf) (t ∷ []))) (q.0 ∷ t ∷ []) (in_map (λ y. y ∷ t ∷ []) (term_steps kf u) q.0 q.1),
        in_order_swapped q.0 t ∙ ap (λ vs. in_order Equality (t ∷ vs)) q.2 ∙ ap (in_order Equality) r.2,
      ))
      (λ l. absurd l) (in_appended (map (λ y. y ∷ []) (term_steps kf u)) [] r.0 r.1))
      (in_appended (map (λ y. y ∷ u ∷ []) (term_steps kf t)) (map (λ ys. t ∷ ys) (one_replaced (term_steps kf) (u ∷ []))) us j)

  module _ (has_steps : (l k : Literal) → IsIn l kf → IsIn k (by_value kf l) → IsIn k kf) where
    step_in : (r : Relation) (b : Bool) (ts us : List Term) → IsIn (literal r ts b) kf → IsIn us (one_replaced (term_steps kf) ts) → IsIn (literal r us b) kf
    unfolding by_value literal
    step_in (Named p) b ts us i j = has_steps (record { relation = Named p; arguments = ts; positive = b }) (record { relation = Named p; arguments = us; positive = b }) i (in_map (λ vs. literal (Named p) vs b) (one_replaced (term_steps kf) ts) us j)
    step_in Equality b (t ∷ u ∷ []) us i j = swapped (is_lt (term_cmp t u)) i
      where
        swapped : (c : Bool) → IsIn (record { relation = Equality; arguments = cond c (u ∷ t ∷ []) (t ∷ u ∷ []); positive = b }) kf → IsIn (record { relation = Equality; arguments = in_order Equality us; positive = b }) kf
        swapped false k = has_steps (record { relation = Equality; arguments = t ∷ u ∷ []; positive = b }) (record { relation = Equality; arguments = in_order Equality us; positive = b }) k (in_map (λ vs. literal Equality vs b) (one_replaced (term_steps kf) (t ∷ u ∷ [])) us j)
        swapped true k =
            let r = turned t u us j in
            has_steps (record { relation = Equality; arguments = u ∷ t ∷ []; positive = b }) (record { relation = Equality; arguments = in_order Equality us; positive = b }) k
            (subst (λ vs. IsIn (record { relation = Equality; arguments = vs; positive = b }) (map (λ vs. literal Equality vs b) (one_replaced (term_steps kf) (u ∷ t ∷ [])))) r.2
            (in_map (λ vs. literal Equality vs b) (one_replaced (term_steps kf) (u ∷ t ∷ [])) r.0 r.1))
    step_in Equality b [] us i j = absurd j
    step_in Equality b (t ∷ []) us i j = has_steps (record { relation = Equality; arguments = t ∷ []; positive = b }) (record { relation = Equality; arguments = in_order Equality us; positive = b }) i (in_map (λ vs. literal Equality vs b) (one_replaced (term_steps kf) (t ∷ [])) us j)
    step_in Equality b (t ∷ u ∷ v ∷ ts) us i j = has_steps (record { relation = Equality; arguments = t ∷ u ∷ v ∷ ts; positive = b }) (record { relation = Equality; arguments = in_order Equality us; positive = b }) i (in_map (λ vs. literal Equality vs b) (one_replaced (term_steps kf) (t ∷ u ∷ v ∷ ts)) us j)

    normals_in : (r : Relation) (b : Bool) (ts : List Term) → IsIn (literal r ts b) kf → IsIn (literal r (map (normal kf) ts) b) kf
    normals_in r b ts i = all_reach (term_steps kf) (normal kf) term_reach (λ us. IsIn (literal r us b) kf) (λ us vs j k. step_in r b us vs j k) ts i

    -- the normal form of a member is a member
    pub normal_in : (l : Literal) → IsInOrder l → IsIn l kf → IsIn (normal_literal kf l) kf
    unfolding normal_literal literal
    normal_in l ordered i = unfold literal in normals_in l.relation l.positive l.arguments (subst (λ ts. IsIn (record { relation = l.relation; arguments = ts; positive = l.positive }) kf) (sym ordered) i)

-- equal one way round, and the other
module _ {X : Type 0} (cmp : X → X → Ordering) (o : IsTotalOrder cmp) (tells : IsAntisymmetric cmp) where
  pub eq_turned : (x y : X) → is_eq (cmp x y) ≡ is_eq (cmp y x)
  eq_turned x y = ap is_eq (o.antisymm x y) ∙ same (cmp y x)
    where
      same : (r : Ordering) → is_eq (ordering_reverse r) ≡ is_eq r
      same Less = refl
      same Equal = refl
      same Greater = refl

  set_of_ordered : (xs : List X) → IsOrdered cmp xs → set_of cmp xs ≡ xs
  set_of_ordered xs h = same_members o tells (set_of cmp xs) xs (ordered_set_of o tells xs) h (in_set_of o tells xs) (set_of_in o tells xs)

  -- where each member is its own normal form, the member with this normal form is this normal form
  among_normal : (norm : X → X) (xs : List X) (x : X) → Each (λ y. norm y ≡ y) xs → list_any (λ y. is_eq (cmp (norm y) x)) xs ≡ is_among cmp x xs
  among_normal norm [] x a = refl
  among_normal norm (y ∷ ys) x a = λ i. (ap (λ z. is_eq (cmp z x)) a.0 ∙ eq_turned y x) i || among_normal norm ys x a.1 i

pub map_fixed : {X : Type 0} (f : X → X) (xs : List X) → Each (λ x. f x ≡ x) xs → map f xs ≡ xs
map_fixed f [] a = refl
map_fixed f (x ∷ xs) a = λ i. a.0 i ∷ map_fixed f xs a.1 i

module _ (s : Signature) (kf : List Literal) (one : (f : ℕ) (ds : List ℕ) (e e' : ℕ) → IsIn e (values_at kf f ds) → IsIn e' (values_at kf f ds) → e ≡ e') where
  pub literal_again : (l : Literal) → normal_literal kf (normal_literal kf l) ≡ normal_literal kf l
  literal_again = normal_literal_again s kf kf (λ x i. i) one

  conj_again : (c : List Literal) → normal_conj kf (normal_conj kf c) ≡ normal_conj kf c
  conj_again c =
      let b = normal_conj kf c in
      ap (set_of literal_cmp) (map_fixed (normal_literal kf) b (each_set_of (λ l. normal_literal kf l ≡ l) literal_cmp (map (normal_literal kf) c) (each_map (λ l. normal_literal kf l ≡ l) (normal_literal kf) c (each_of (λ l. normal_literal kf (normal_literal kf l) ≡ normal_literal kf l) c (λ l i. literal_again l)))))
      ∙ set_of_ordered literal_cmp literal_cmp_total literal_cmp_tells b (ordered_set_of literal_cmp_total literal_cmp_tells (map (normal_literal kf) c))

  pub term_again : (t : Term) → normal kf (normal kf t) ≡ normal kf t
  term_again = normal_again s kf kf (λ x i. i) one

  -- a literal is known where its normal form is a member
  known_found : (has_steps : (l k : Literal) → IsIn l kf → IsIn k (by_value kf l) → IsIn k kf) → Each IsInOrder kf → (l : Literal) → is_known kf l ≡ is_among literal_cmp (normal_literal kf l) kf
  unfolding is_known literal_eq
  known_found has_steps ordered l =
      both_ways (list_any (λ k. literal_eq (normal_literal kf k) (normal_literal kf l)) kf) (is_among literal_cmp (normal_literal kf l) kf)
      (λ h. let f = found_in (λ k. literal_eq (normal_literal kf k) (normal_literal kf l)) kf h in
      any_in (λ k. literal_eq (normal_literal kf l) k) kf (normal_literal kf f.0) (normal_in kf has_steps f.0 (each_in IsInOrder kf f.0 ordered f.1) f.1)
      (unfold literal_eq in literal_eq_itself (normal_literal kf l) (normal_literal kf f.0) (sym (same_literal (normal_literal kf f.0) (normal_literal kf l) f.2))))
      (λ h. let f = found_in (λ k. literal_eq (normal_literal kf l) k) kf h in
      let e = same_literal (normal_literal kf l) f.0 f.2 in
      any_in (λ k. literal_eq (normal_literal kf k) (normal_literal kf l)) kf f.0 f.1 (literal_eq_itself (normal_literal kf f.0) (normal_literal kf l) (ap (normal_literal kf) (sym e) ∙ literal_again l)))

-- ---- in closed databases

module _ (s : Signature) (inhabited : HasValues s) (d : Five) (closed : IsClosed s d) where
  abbrev end : Five
  end = rounds s closed.closes.count closed.from

  is_tidied : d ≡ tidied end
  is_tidied = (end_of s closed.from d closed.closes).1

  same_known : d.kf ≡ end.kf
  unfolding tidied
  same_known = ap (λ (x : Five). x.kf) is_tidied

  saturated : IsSaturated s end
  saturated = saturated_end s end closed.closes.last

  fine : first_clash s end ≡ None
  fine = (end_of s closed.from d closed.closes).0

  one_at_end : (f : ℕ) (ds : List ℕ) (e e' : ℕ) → IsIn e (values_at end.kf f ds) → IsIn e' (values_at end.kf f ds) → e ≡ e'
  one_at_end = one_value s end inhabited saturated fine

  -- each place has one value
  pub closed_one_value : (f : ℕ) (ds : List ℕ) (e e' : ℕ) → IsIn e (values_at d.kf f ds) → IsIn e' (values_at d.kf f ds) → e ≡ e'
  closed_one_value = subst (λ kf. (f : ℕ) (ds : List ℕ) (e e' : ℕ) → IsIn e (values_at kf f ds) → IsIn e' (values_at kf f ds) → e ≡ e') (sym same_known) one_at_end

  closed_steps : (l k : Literal) → IsIn l d.kf → IsIn k (by_value d.kf l) → IsIn k d.kf
  closed_steps = subst (λ kf. (l k : Literal) → IsIn l kf → IsIn k (by_value kf l) → IsIn k kf) (sym same_known) (addition_in s end inhabited saturated fine)

  pub closed_literal_again : (l : Literal) → normal_literal d.kf (normal_literal d.kf l) ≡ normal_literal d.kf l
  closed_literal_again = literal_again s d.kf closed_one_value

  pub closed_term_again : (t : Term) → normal d.kf (normal d.kf t) ≡ normal d.kf t
  closed_term_again = term_again s d.kf closed_one_value

  pub closed_normal_in : (l : Literal) → IsInOrder l → IsIn l d.kf → IsIn (normal_literal d.kf l) d.kf
  closed_normal_in = normal_in d.kf closed_steps

  pub closed_known : Each IsInOrder d.kf → (l : Literal) → is_known d.kf l ≡ is_among literal_cmp (normal_literal d.kf l) d.kf
  closed_known = known_found s d.kf closed_one_value closed_steps

  -- formulas and terms are in normal form
  formulas_normal : Each (λ c. normal_conj d.kf c ≡ c) d.kw
  unfolding tidied
  formulas_normal =
      subst (λ (x : Five). Each (λ c. normal_conj x.kf c ≡ c) x.kw) (sym is_tidied)
      (each_set_of (λ c. normal_conj end.kf c ≡ c) conj_cmp (map (normal_conj end.kf) end.kw) (each_map (λ c. normal_conj end.kf c ≡ c) (normal_conj end.kf) end.kw (each_of (λ c. normal_conj end.kf (normal_conj end.kf c) ≡ normal_conj end.kf c) end.kw (λ c i. conj_again s end.kf one_at_end c))))

  terms_normal : Each (λ t. normal d.kf t ≡ t) d.kv
  unfolding tidied
  terms_normal =
      subst (λ (x : Five). Each (λ t. normal x.kf t ≡ t) x.kv) (sym is_tidied)
      (each_set_of (λ t. normal end.kf t ≡ t) term_cmp (filter is_application (map (normal end.kf) end.kv)) (each_kept (λ t. normal end.kf t ≡ t) is_application (map (normal end.kf) end.kv) (each_map (λ t. normal end.kf t ≡ t) (normal end.kf) end.kv (each_of (λ t. normal end.kf (normal end.kf t) ≡ normal end.kf t) end.kv (λ t i. term_again s end.kf one_at_end t)))))

  pub closed_member : (c : List Literal) → is_member d c ≡ is_among conj_cmp (normal_conj d.kf c) d.kw
  unfolding is_member
  closed_member c = among_normal conj_cmp conj_cmp_total conj_cmp_tells (normal_conj d.kf) d.kw (normal_conj d.kf c) formulas_normal

  pub closed_value : (t : Term) → known_value d t ≡ (is_some (as_object (normal d.kf t)) || is_among term_cmp (normal d.kf t) d.kv)
  unfolding known_value term_eq
  closed_value t = ap (λ b. is_some (as_object (normal d.kf t)) || b) (among_normal term_cmp term_cmp_total term_cmp_tells (normal d.kf) d.kv (normal d.kf t) terms_normal)

-- ---- one literal gives the value

no_hits : {X Y : Type 0} (h : X → Option Y) (xs : List X) → ((x : X) (y : Y) → IsIn x xs → h x ≡ Some y → ⊥) → filter_map h xs ≡ []
no_hits h [] none = refl
no_hits {X} {Y} h (x ∷ xs) none =
    elim (h x) as (λ o. h x ≡ o → cons_option o (filter_map h xs) ≡ []) [
      | None ↦ λ q. no_hits h xs (λ z y i e. none z y (inr i) e)
      | Some y ↦ λ q. absurd (none x y (inl refl) q)
    ] refl

at_most_one : {X Y : Type 0} (cmp : X → X → Ordering) → IsTotalOrder cmp → (h : X → Option Y) (xs : List X) → IsOrdered cmp xs → ((x z : X) (y y' : Y) → IsIn x xs → IsIn z xs → h x ≡ Some y → h z ≡ Some y' → x ≡ z) → length (filter_map h xs) ≤ 1
at_most_one cmp o h [] a same = omega arith
at_most_one {X} {Y} cmp o h (x ∷ xs) a same =
    elim (h x) as (λ r. h x ≡ r → length (cons_option r (filter_map h xs)) ≤ 1) [
      | None ↦ λ q. at_most_one cmp o h xs a.1 (λ z u y y' i j e f. same z u y y' (inr i) (inr j) e f)
      | Some y ↦ λ q.
          let none : filter_map h xs ≡ [] =
          no_hits h xs (λ z y' i e. true≢false (sym (ap is_eq (tied_itself o x)) ∙ ap (λ u. is_eq (cmp x u)) (same x z y y' (inl refl) (inr i) q e) ∙ ap is_eq (each_in (λ u. cmp x u ≡ Less) xs z a.0 i))) in
          let l : length (filter_map h xs) ≡ 0 = ap length none in omega arith
    ] refl

pub one_value_alone : (kf : List Literal) → IsOrdered literal_cmp kf → ((f : ℕ) (ds : List ℕ) (e e' : ℕ) → IsIn e (values_at kf f ds) → IsIn e' (values_at kf f ds) → e ≡ e') → (f : ℕ) (ds : List ℕ) → length (values_at kf f ds) ≤ 1
unfolding values_at
one_value_alone kf ordered one f ds =
    let h : Literal → Option ℕ = λ l. option_and_then (value_if_at f ds) (told l.relation l.arguments l.positive) in
    let says : (l : Literal) (e : ℕ) → h l ≡ Some e → ◌≡◌ {A = Literal} l (record { relation = Equality; arguments = place f ds ∷ object e ∷ []; positive = true }) =
    λ l e q. ⊎_elim (λ k. k) (λ k. absurd k) (value_literal (l ∷ []) f ds e (in_filter_map h (l ∷ []) l e (inl refl) q)) in
    at_most_one literal_cmp literal_cmp_total h kf ordered (λ l m e e' i j q r. says l e q ∙ ap (λ x. let k : Literal = record { relation = Equality; arguments = place f ds ∷ object x ∷ []; positive = true } in k) (one f ds e e' (in_filter_map h kf l e i q) (in_filter_map h kf m e' j r)) ∙ sym (says m e' r))
