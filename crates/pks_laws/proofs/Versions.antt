-- In a problem of the first version all reads as before there were parents, costs and aims of other moments.
use Rattle.std.proofs.Common.{◌≡◌, ◌+◌, ◌==◌, ◌&&◌, ◌++◌, ℕ, zero, suc, max, Bool, true, false, cond, not, List, [], ◌∷◌, map, filter, flat_map, slice_get, unwrap_or, Option, Some, None, option_map, option_and_then, is_lt, refl, sym, ap, ◌∙◌, subst, arith, true≢false}
use Rattle.std.specs.List.{list_all}
use Rattle.std.specs.Option.{option_map_or}
use Rattle.std.proofs.lemmas.Option.{none-some, same_Some}
use Rattle.std.proofs.lemmas.Bool.{eqb-true}
use Rattle.pks_terms.specs.Sets.{Each, IsIn, all_some, with_others, one_replaced}
use Rattle.pks_terms.specs.Syntax.{Object, Parameter, Apply, Inner, Term, term_of, object, place, as_object, are_two_objects, Relation, Named, Equality, Literal, negated}
use Rattle.pks_terms.specs.Orders.{term_cmp, literal_cmp, literal, equation}
use Rattle.pks_terms.specs.Signatures.{Shape, Signature, type_of, fits_type, objects_of, range_of, object_is_of, is_foreign}
use Rattle.pks_terms.specs.Databases.{Five, values_at, least, inner_normal, normal, is_evident, holds}
use Rattle.pks_terms.specs.Closure.{inner_steps, term_steps, by_value, by_member, by_group, is_application, applications_in, is_last_left, by_range, additions, round, rounds}
use Rattle.pks_terms.specs.Queries.{answers}
use Rattle.pks_terms.specs.Actions.{Schema}
use Rattle.pks_terms.specs.Problems.{Aim, Now, AtStart, Always, Once, Problem}
use Rattle.pks_terms.specs.Settling.{History, last_moment}
use Rattle.pks_terms.specs.Aims.{is_met, met}
use Rattle.pks_terms.specs.Trees.{Tree, Goal, Impossible, Do, Branch, Cases, Chain, End, More, depth, chain_depth, cost, chain_cost, tree_cmp}
use Rattle.pks_terms.specs.Versions.{IsNow, query_in, IsFirstVersion, AreOneTyped, IsOneTyped}
use Rattle.pks_terms.proofs.ListLaws.{each_append, each_in, each_of, each_map, each_filter, each_flat_map, each_added, each_weaker}
use Rattle.pks_laws.proofs.Values.{least_in}
use Rattle.pks_laws.proofs.Least.{value_literal}
use Rattle.pks_terms.proofs.Types.{fits_itself, fits_alone, objects_are_of}

-- a type fits itself alone
pub first_fits : (p : Problem) → IsFirstVersion p → (own wanted : ℕ) → fits_type p.signature own wanted ≡ (own == wanted)
first_fits p v = fits_alone p.signature v.parents

-- ---- the cost is the depth

schema_cost : (scs : List Schema) (n : ℕ) → Each (λ sc. sc.cost ≡ 1) scs → (unwrap_or (slice_get scs n) (record { cost = 1; parameters = []; pre = []; effects = []; senses = []; adds = [] })).cost ≡ 1
schema_cost [] n a = refl
schema_cost (sc ∷ scs) zero a = a.0
schema_cost (sc ∷ scs) (suc n) a = schema_cost scs n a.1

mutual
  pub first_cost : (p : Problem) → Each (λ sc. sc.cost ≡ 1) p.schemas → (t : Tree) → cost p t ≡ depth t
  first_cost p a Goal = refl
  first_cost p a Impossible = refl
  first_cost p a (Do i t) = let c = schema_cost p.schemas i.action a in let d = first_cost p a t in omega arith
  first_cost p a (Branch c t u) = λ i. max (first_cost p a t i) (first_cost p a u i) + 1
  first_cost p a (Cases x k) = λ i. first_chain_cost p a k i + 1

  first_chain_cost : (p : Problem) → Each (λ sc. sc.cost ≡ 1) p.schemas → (k : Chain) → chain_cost p k ≡ chain_depth k
  first_chain_cost p a End = refl
  first_chain_cost p a (More e t k) = λ i. max (first_cost p a t i) (first_chain_cost p a k i)

-- the order of trees is that by depth
pub first_order : (p : Problem) → IsFirstVersion p → (t u : Tree) → tree_cmp (cost p) t u ≡ tree_cmp depth t u
first_order p v t u = λ i. tree_cmp (λ x. first_cost p v.costs x i) t u

-- ---- the goal is met where each query is answered at the end

pub first_met : (p : Problem) → IsFirstVersion p → (h : History) → met p h ≡ list_all (λ x. answers p.signature (last_moment h) (query_in x)) p.goal
unfolding met
first_met p v h = all_now p.goal v.aims
  where
    all_now : (xs : List Aim) → Each IsNow xs → list_all (is_met p.signature h) xs ≡ list_all (λ x. answers p.signature (last_moment h) (query_in x)) xs
    all_now [] a = refl
    all_now (Now q ∷ xs) a = ap (λ b. answers p.signature (last_moment h) q && b) (all_now xs a.1)
    all_now (AtStart q ∷ xs) a = absurd a.0
    all_now (Always q ∷ xs) a = absurd a.0
    all_now (Once q ∷ xs) a = absurd a.0

-- ---- between terms of one type, an application and an object are never told apart by their types

-- of an object of the function's result type
pub own_value : (s : Signature) (f d a : ℕ) → option_map (λ (x : Shape). x.result) (slice_get s.functions f) ≡ Some a → slice_get s.objects d ≡ Some a → is_foreign s f d ≡ false
unfolding is_foreign object_is_of
own_value s f d a r o =
    elim (slice_get s.functions f) as (λ x. option_map (λ (x : Shape). x.result) x ≡ Some a → option_map_or (λ (x : Shape). not (option_map_or (λ own. fits_type s own x.result) (slice_get s.objects d) false)) x false ≡ false) [
      | None ↦ λ q. absurd (none-some a q)
      | Some x ↦ λ q. let e : x.result ≡ a = same_Some x.result a q in
          ap (λ y. not (option_map_or (λ own. fits_type s own x.result) y false)) o ∙ ap (λ b. not b) (ap (λ y. fits_type s a y) e ∙ fits_itself s a)
    ] r

pub one_typed_evident : (s : Signature) (t u : Term) (a : ℕ) → type_of s t ≡ Some a → type_of s u ≡ Some a → is_evident s Equality (t ∷ u ∷ []) false ≡ are_two_objects t u
one_typed_evident s (Object d) (Object e) a p q = refl
one_typed_evident s (Object d) (Parameter i) a p q = refl
one_typed_evident s (Object d) (Apply f us) a p q = own_value s f d a q p
one_typed_evident s (Parameter i) u a p q = absurd (none-some a p)
one_typed_evident s (Apply f us) (Object d) a p q = own_value s f d a p q
one_typed_evident s (Apply f us) (Parameter i) a p q = refl
one_typed_evident s (Apply f us) (Apply g vs) a p q = refl

-- a normal form is of the term's type
pub normal_type : (s : Signature) (kf : List Literal) → Each (IsOneTyped s) kf → (t : Term) (a : ℕ) → type_of s t ≡ Some a → type_of s (normal kf t) ≡ Some a
unfolding normal
normal_type s kf typed (Object d) a h = h
normal_type s kf typed (Parameter i) a h = h
normal_type s kf typed (Apply f ts) a h =
    let us = map (inner_normal kf) ts in
    elim (all_some (map as_object us)) as (λ o. type_of s (option_map_or Object (option_and_then (λ ds. least (values_at kf f ds)) o) (Apply f us)) ≡ Some a) [
      | None ↦ h
      | Some ds ↦ elim (least (values_at kf f ds)) as (λ o. least (values_at kf f ds) ≡ o → type_of {A = Inner} s (option_map_or Object o (Apply f us)) ≡ Some a) [
        | None ↦ λ q. h
        | Some e ↦ λ q.
            let k = each_in (IsOneTyped s) kf (record { relation = Equality; arguments = place f ds ∷ object e ∷ []; positive = true }) typed
            (value_literal kf f ds e (least_in (λ x. IsIn x (values_at kf f ds)) (values_at kf f ds) e (each_of (λ x. IsIn x (values_at kf f ds)) (values_at kf f ds) (λ x i. i)) q)) in
            k.2 ∙ sym k.1 ∙ h
      ] refl
    ]

-- so in a database of one-typed equations the normal forms of a one-typed equation are told apart by two objects alone
pub first_differ : (s : Signature) (kf : List Literal) → Each (IsOneTyped s) kf → (t u : Term) (a : ℕ) → type_of s t ≡ Some a → type_of s u ≡ Some a → is_evident s Equality (normal kf t ∷ normal kf u ∷ []) false ≡ are_two_objects (normal kf t) (normal kf u)
first_differ s kf typed t u a p q = one_typed_evident s (normal kf t) (normal kf u) a (normal_type s kf typed t a p) (normal_type s kf typed u a q)

-- ---- the rounds add equations between terms of one type alone

module _ (s : Signature) (none : Each (λ o. o ≡ None) s.parents) where
  abbrev T : Literal → Type 0
  T = IsOneTyped s

  step_types : (kf : List Literal) → Each T kf → (t : Term) (a : ℕ) → type_of s t ≡ Some a → Each (λ u. type_of s u ≡ Some a) (term_steps kf t)
  unfolding term_steps
  step_types kf typed (Object d) a h = tt
  step_types kf typed (Parameter i) a h = tt
  step_types kf typed (Apply f ts) a h =
      let P : Term → Type 0 = λ u. type_of s u ≡ Some a in
      each_append P (map Object (option_map_or (values_at kf f) (all_some (map as_object ts)) [])) (map (Apply f) (one_replaced (inner_steps kf) ts))
      (elim (all_some (map as_object ts)) as (λ o. Each P (map Object (option_map_or (values_at kf f) o []))) [
        | None ↦ tt
        | Some ds ↦ each_map P Object (values_at kf f ds) (each_of (λ e. P (object e)) (values_at kf f ds) (λ e i. let k = each_in T kf (record { relation = Equality; arguments = place f ds ∷ object e ∷ []; positive = true }) typed (value_literal kf f ds e i) in k.2 ∙ sym k.1 ∙ h))
      ])
      (each_map P (Apply f) (one_replaced (inner_steps kf) ts) (each_of (λ us. P (Apply f us)) (one_replaced (inner_steps kf) ts) (λ us i. h)))

  pub ordered_typed : (t u : Term) (b : Bool) (a : ℕ) → type_of s t ≡ Some a → type_of s u ≡ Some a → T (literal Equality (t ∷ u ∷ []) b)
  unfolding literal
  ordered_typed t u b a p q = elim (is_lt (term_cmp t u)) as (λ c. AreOneTyped s Equality (cond c (u ∷ t ∷ []) (t ∷ u ∷ []))) [ true ↦ (a, q, p) | false ↦ (a, p, q) ]

  value_typed : (kf : List Literal) → Each T kf → (r : Relation) (ts : List Term) (b : Bool) → AreOneTyped s r ts → Each (λ us. T (literal r us b)) (one_replaced (term_steps kf) ts)
  unfolding literal
  value_typed kf typed (Named p) ts b h = each_of (λ us. T (literal (Named p) us b)) (one_replaced (term_steps kf) ts) (λ us i. tt)
  value_typed kf typed Equality (t ∷ u ∷ []) b h =
      let P : List Term → Type 0 = λ us. T (literal Equality us b) in
      each_append P (map (λ y. y ∷ u ∷ []) (term_steps kf t)) (map (λ ys. t ∷ ys) (map (λ y. y ∷ []) (term_steps kf u) ++ []))
      (each_map P (λ y. y ∷ u ∷ []) (term_steps kf t) (each_weaker (λ y. type_of s y ≡ Some h.0) (λ y. P (y ∷ u ∷ [])) (λ y k. ordered_typed y u b h.0 k h.2) (term_steps kf t) (step_types kf typed t h.0 h.1)))
      (each_map P (λ ys. t ∷ ys) (map (λ y. y ∷ []) (term_steps kf u) ++ [])
      (each_append (λ ys. P (t ∷ ys)) (map (λ y. y ∷ []) (term_steps kf u)) []
      (each_map (λ ys. P (t ∷ ys)) (λ y. y ∷ []) (term_steps kf u) (each_weaker (λ y. type_of s y ≡ Some h.0) (λ y. P (t ∷ y ∷ [])) (λ y k. ordered_typed t y b h.0 h.1 k) (term_steps kf u) (step_types kf typed u h.0 h.2))) tt))
  value_typed kf typed Equality [] b h = absurd h
  value_typed kf typed Equality (t ∷ []) b h = absurd h
  value_typed kf typed Equality (t ∷ u ∷ x ∷ ts) b h = absurd h

  others_typed : (ls : List Literal) → Each T ls → Each (λ q. T q.0 × Each T q.1) (with_others ls)
  others_typed [] a = tt
  others_typed (l ∷ ls) a = (
    (a.0, a.1),
    each_map (λ (q : Literal × List Literal). T q.0 × Each T q.1) (λ q. (q.0, l ∷ q.1)) (with_others ls) (each_weaker (λ q. T q.0 × Each T q.1) (λ q. T q.0 × Each T (l ∷ q.1)) (λ q k. (k.0, (a.0, k.1))) (with_others ls) (others_typed ls a.1)),
  )

  if_typed : (b : Bool) (ls : List Literal) → Each T ls → Each T (cond b ls [])
  if_typed true ls a = a
  if_typed false ls a = tt

  group_typed : (d : Five) (g : List Literal) → Each T g → Each T (by_group s d g)
  unfolding by_group
  group_typed d g a =
      each_flat_map T (by_member s d) (with_others g) (λ q i.
      let k = each_in (λ q. T q.0 × Each T q.1) (with_others g) q (others_typed g a) i in
      each_append T (cond (list_all (λ m. holds s d (negated m)) q.1) (q.0 ∷ []) []) (cond (holds s d q.0) (map negated q.1) []) (if_typed _ (q.0 ∷ []) (k.0, tt)) (if_typed (holds s d q.0) (map negated q.1) (each_map T negated q.1 k.1)))

  pub own_type : (a d : ℕ) → IsIn d (objects_of s a) → slice_get s.objects d ≡ Some a
  unfolding object_is_of
  own_type a d i = go (slice_get s.objects d) refl
    where
      is_of : object_is_of s a d ≡ true
      is_of = objects_are_of s a d i

      go : (o : Option ℕ) → slice_get s.objects d ≡ o → slice_get s.objects d ≡ Some a
      go None q = absurd (true≢false (sym is_of ∙ ap (λ o. option_map_or (λ own. fits_type s own a) o false) q))
      go (Some own) q = q ∙ ap Some (eqb-true own a (sym (fits_alone s none own a) ∙ sym (ap (λ o. option_map_or (λ own. fits_type s own a) o false) q) ∙ is_of))

  range_typed : (d : Five) (t : Term) → is_application t ≡ true → Each T (by_range s d t)
  unfolding by_range
  range_typed d (Object e) h = absurd (true≢false (sym h))
  range_typed d (Parameter i) h = absurd (true≢false (sym h))
  range_typed d (Apply f ts) h =
      each_map T (λ e. equation (Apply f ts) (object e)) (filter (is_last_left s d (Apply f ts) (range_of s (Apply f ts))) (range_of s (Apply f ts)))
      (each_filter (λ e. T (equation (Apply f ts) (object e))) (is_last_left s d (Apply f ts) (range_of s (Apply f ts))) (range_of s (Apply f ts)) (λ e i k. of_range e (slice_get s.functions f) refl i))
    where
      of_range : (e : ℕ) (o : Option Shape) → slice_get s.functions f ≡ o → IsIn e (option_map_or (λ (x : Shape). objects_of s x.result) o []) → T (equation (Apply f ts) (object e))
      of_range e None q j = absurd j
      of_range e (Some x) q j = ordered_typed (Apply f ts) (object e) true x.result (ap (option_map (λ (x : Shape). x.result)) q) (own_type x.result e j)

  all_applications : (t : Term) → Each (λ u. is_application u ≡ true) (applications_in t)
  all_applications (Object d) = tt
  all_applications (Parameter i) = tt
  all_applications (Apply f ts) = (refl, each_filter (λ u. is_application u ≡ true) is_application (map term_of ts) (λ u i k. k))

  pub additions_typed : (d : Five) → Each T d.kf → Each (Each T) d.kx → Each T (additions s d)
  unfolding additions by_value
  additions_typed d typed groups =
      each_append T (flat_map (by_value d.kf) d.kf) (flat_map (by_group s d) d.kx ++ flat_map (λ l. flat_map (by_range s d) (flat_map applications_in l.arguments)) d.kf)
      (each_flat_map T (by_value d.kf) d.kf (λ l i. each_map T (λ ts. literal l.relation ts l.positive) (one_replaced (term_steps d.kf) l.arguments) (value_typed d.kf typed l.relation l.arguments l.positive (each_in T d.kf l typed i))))
      (each_append T (flat_map (by_group s d) d.kx) (flat_map (λ l. flat_map (by_range s d) (flat_map applications_in l.arguments)) d.kf)
      (each_flat_map T (by_group s d) d.kx (λ g i. group_typed d g (each_in (Each T) d.kx g groups i)))
      (each_flat_map T (λ l. flat_map (by_range s d) (flat_map applications_in l.arguments)) d.kf (λ l i.
      each_flat_map T (by_range s d) (flat_map applications_in l.arguments) (λ t j.
      range_typed d t (each_in (λ u. is_application u ≡ true) (flat_map applications_in l.arguments) t (each_flat_map (λ u. is_application u ≡ true) applications_in l.arguments (λ u k. all_applications u)) j)))))

  pub round_typed : (d : Five) → Each T d.kf → Each (Each T) d.kx → Each T (round s d).kf
  unfolding round
  round_typed d typed groups = each_added T literal_cmp d.kf (additions s d) typed (additions_typed d typed groups)

  -- so in closing no two terms are told apart by their types
  pub rounds_typed : (n : ℕ) (d : Five) → Each T d.kf → Each (Each T) d.kx → Each T (rounds s n d).kf
  unfolding round
  rounds_typed zero d typed groups = typed
  rounds_typed (suc n) d typed groups = round_typed (rounds s n d) (rounds_typed n d typed groups) (subst (Each (Each T)) (sym (groups_stay n d)) groups)
    where
      groups_stay : (n : ℕ) (d : Five) → (rounds s n d).kx ≡ d.kx
      groups_stay zero d = refl
      groups_stay (suc n) d = groups_stay n d
