-- The leaves of a plan: there is one list of them, with a state for each leaf, and what is recalled at one was so.
use Rattle.std.proofs.Common.{◌≡◌, ◌<◌, ◌+◌, ◌==◌, ℕ, zero, suc, true, false, List, [], ◌∷◌, ◌++◌, length, Option, Some, None, option_map, if◌then◌else◌, refl, sym, ap, ap₂, ◌∙◌, subst, arith}
use Rattle.std.specs.List.{slice_get}
use Rattle.std.proofs.lemmas.Bool.{eqb-true}
use Rattle.std.proofs.lemmas.List.{length-append}
use Rattle.std.proofs.lemmas.Option.{none-some, same_Some}
use Rattle.pks_terms.specs.Syntax.{Term}
use Rattle.pks_terms.specs.Worlds.{World, value_of, all_true_in}
use Rattle.pks_terms.specs.Closure.{Outcome, Next, Clash, Closes}
use Rattle.pks_terms.specs.Actions.{Instance}
use Rattle.pks_terms.specs.Problems.{Problem, initial, IsCompatible, StartAlike}
use Rattle.pks_terms.specs.Typed.{IsTyped, AllJustified}
use Rattle.pks_terms.specs.Branching.{BranchOn, CasesOn, AsTrue, AsFalse, Is}
use Rattle.pks_terms.specs.Settling.{History, State, At, Stopped}
use Rattle.pks_terms.specs.Trees.{Tree, Goal, Impossible, Do, Branch, Cases, Chain, End, More, Acts, Takes, Derives, DerivesEach, start_state, IsPlan}
use Rattle.pks_terms.specs.Knowledge.{grounded, after_action, after_actions, SeeAlike, Alike}
use Rattle.pks_terms.specs.Remembering.{TrueAlong, PastFrom, PastEach}
use Rattle.pks_terms.specs.Recalled.{AreLeaves, AreLeavesOfEach, IsRecalled, leaf_count, leaf_count_in, leaf_of, leaf_of_case, IsTruePast}
use Rattle.pks_terms.proofs.ListLaws.{each_of}
use Rattle.pks_laws.proofs.GoodPlans.{plan_remembers}
use Rattle.pks_laws.proofs.Unique.{closes_one, acts_one, takes_one}

-- ---- one list

module _ (p : Problem) where
  mutual
    one_leaves : (t : Tree) (x : State) (xs ys : List State) → AreLeaves p x t xs → AreLeaves p x t ys → xs ≡ ys
    one_leaves Goal x xs ys a b = a ∙ sym b
    one_leaves Impossible x xs ys a b = a ∙ sym b
    one_leaves (Do i t) (At h) xs ys a b = one_leaves t b.0 xs ys (subst (λ y. AreLeaves p y t xs) (acts_one p h i a.0 b.0 a.1 b.1) a.2) b.2
    one_leaves (Do i t) Stopped xs ys a b = absurd a
    one_leaves (Branch c t u) (At h) xs ys a b =
        let yes = one_leaves t b.2.0 a.0 b.0 (subst (λ y. AreLeaves p y t a.0) (takes_one p h (BranchOn c) AsTrue a.2.0 b.2.0 a.2.1 b.2.1) a.2.2) b.2.2 in
        let others = one_leaves u b.3.0 a.1 b.1 (subst (λ y. AreLeaves p y u a.1) (takes_one p h (BranchOn c) AsFalse a.3.0 b.3.0 a.3.1 b.3.1) a.3.2) b.3.2 in
        a.4 ∙ (ap₂ (λ us vs. us ++ vs) yes others ∙ sym b.4)
    one_leaves (Branch c t u) Stopped xs ys a b = absurd a
    one_leaves (Cases x k) (At h) xs ys a b = one_of_each k h x xs ys a b
    one_leaves (Cases x k) Stopped xs ys a b = absurd a

    one_of_each : (k : Chain) (h : History) (x : Term) (xs ys : List State) → AreLeavesOfEach p h x k xs → AreLeavesOfEach p h x k ys → xs ≡ ys
    one_of_each End h x xs ys a b = a ∙ sym b
    one_of_each (More e t k) h x xs ys a b =
        let first = one_leaves t b.2.0 a.0 b.0 (subst (λ y. AreLeaves p y t a.0) (takes_one p h (CasesOn x) (Is e) a.2.0 b.2.0 a.2.1 b.2.1) a.2.2) b.2.2 in
        let others = one_of_each k h x a.1 b.1 a.3 b.3 in
        a.4 ∙ (ap₂ (λ us vs. us ++ vs) first others ∙ sym b.4)

  pub one_recalled : (t : Tree) (xs ys : List State) → IsRecalled p t xs → IsRecalled p t ys → xs ≡ ys
  one_recalled t xs ys a b =
      one_leaves t (start_state b.outcome) xs ys (subst (λ (o : Outcome). AreLeaves p (start_state o) t xs) (closes_one p.signature (initial p) a.outcome b.outcome a.closes b.closes) a.leaves) b.leaves

  -- ---- a state for each leaf

  mutual
    as_many : (t : Tree) (x : State) (xs : List State) → AreLeaves p x t xs → length xs ≡ leaf_count t
    as_many Goal x xs a = ap (λ (ys : List State). length ys) a
    as_many Impossible x xs a = ap (λ (ys : List State). length ys) a
    as_many (Do i t) (At h) xs a = as_many t a.0 xs a.2
    as_many (Do i t) Stopped xs a = absurd a
    as_many (Branch c t u) (At h) xs a = ap (λ (ys : List State). length ys) a.4 ∙ (length-append a.0 a.1 ∙ ap₂ (λ n m. n + m) (as_many t a.2.0 a.0 a.2.2) (as_many u a.3.0 a.1 a.3.2))
    as_many (Branch c t u) Stopped xs a = absurd a
    as_many (Cases x k) (At h) xs a = as_many_of_each k h x xs a
    as_many (Cases x k) Stopped xs a = absurd a

    as_many_of_each : (k : Chain) (h : History) (x : Term) (xs : List State) → AreLeavesOfEach p h x k xs → length xs ≡ leaf_count_in k
    as_many_of_each End h x xs a = ap (λ (ys : List State). length ys) a
    as_many_of_each (More e t k) h x xs a = ap (λ (ys : List State). length ys) a.4 ∙ (length-append a.0 a.1 ∙ ap₂ (λ n m. n + m) (as_many t a.2.0 a.0 a.2.2) (as_many_of_each k h x a.1 a.3))

  pub recalled_as_many : (t : Tree) (xs : List State) → IsRecalled p t xs → length xs ≡ leaf_count t
  recalled_as_many t xs a = as_many t (start_state a.outcome) xs a.leaves

  mutual
    some_leaves : (t : Tree) (x : State) → Derives p x t → (xs : List State) × AreLeaves p x t xs
    some_leaves Goal x d = (x ∷ [], refl)
    some_leaves Impossible x d = (x ∷ [], refl)
    some_leaves (Do i t) (At h) d = let r = some_leaves t d.1.0 d.1.2 in (r.0, (d.1.0, d.1.1, r.1))
    some_leaves (Do i t) Stopped d = absurd d
    some_leaves (Branch c t u) (At h) d =
        let r = some_leaves t d.2.0 d.2.2 in
        let q = some_leaves u d.3.0 d.3.2 in
        (r.0 ++ q.0, (r.0, q.0, (d.2.0, d.2.1, r.1), (d.3.0, d.3.1, q.1), refl))
    some_leaves (Branch c t u) Stopped d = absurd d
    some_leaves (Cases x k) (At h) d = some_of_each k h x d.3
    some_leaves (Cases x k) Stopped d = absurd d

    some_of_each : (k : Chain) (h : History) (x : Term) → DerivesEach p h x k → (xs : List State) × AreLeavesOfEach p h x k xs
    some_of_each End h x d = ([], refl)
    some_of_each (More e t k) h x d =
        let r = some_leaves t d.0.0 d.0.2 in
        let q = some_of_each k h x d.1 in
        (r.0 ++ q.0, (r.0, q.0, (d.0.0, d.0.1, r.1), q.1, refl))

  pub some_recalled : (t : Tree) → IsPlan p t → (xs : List State) × IsRecalled p t xs
  some_recalled t plan =
      let r = some_leaves t (start_state plan.outcome) plan.derives in
      (r.0, record { outcome = plan.outcome; closes = plan.closes; leaves = r.1 })

-- ---- the leaf that a run comes to

-- within the first of two lists, and behind it
get_first : {X : Type 0} (xs ys : List X) (n : ℕ) → n < length xs → slice_get (xs ++ ys) n ≡ slice_get xs n
get_first [] ys n h = absurd (omega (arith, h))
get_first (x ∷ xs) ys zero h = refl
get_first (x ∷ xs) ys (suc n) h = get_first xs ys n (omega (arith, h))

get_behind : {X : Type 0} (xs ys : List X) (n : ℕ) → slice_get (xs ++ ys) (length xs + n) ≡ slice_get ys n
get_behind [] ys n = let none : 0 + n ≡ n = omega arith in ap (λ m. slice_get ys m) none
get_behind (x ∷ xs) ys n = let more : suc (length xs) + n ≡ suc (length xs + n) = omega arith in ap (λ m. slice_get (x ∷ (xs ++ ys)) m) more ∙ get_behind xs ys n

-- the number is so much more than one that is there
more_than : (k : ℕ) (o : Option ℕ) (n : ℕ) → option_map (λ m. k + m) o ≡ Some n → (m : ℕ) × (o ≡ Some m) × (k + m ≡ n)
more_than k None n e = absurd (none-some n e)
more_than k (Some m) n e = (m, refl, same_Some (k + m) n e)

module _ (p : Problem) where
  mutual
    leaf_within : (t : Tree) (w : World) (n : ℕ) → leaf_of p t w ≡ Some n → n < leaf_count t
    leaf_within Goal w n e = let q = same_Some 0 n e in omega (arith, q)
    leaf_within Impossible w n e = let q = same_Some 0 n e in omega (arith, q)
    leaf_within (Do i t) w n e = leaf_within t (after_action p w (grounded w i)) n e
    leaf_within (Branch c t u) w n e =
        elim (all_true_in w c) as (λ b. (if b then leaf_of p t w else option_map (λ n. leaf_count t + n) (leaf_of p u w)) ≡ Some n → n < leaf_count t + leaf_count u) [
          | true ↦ λ k. let q = leaf_within t w n k in omega (arith, q)
          | false ↦ λ k. let m = more_than (leaf_count t) (leaf_of p u w) n k in let q = leaf_within u w m.0 m.1 in let s = m.2 in omega (arith, q, s)
        ] e
    leaf_within (Cases x k) w n e = case_within k (value_of w x) w n e

    case_within : (k : Chain) (e : ℕ) (w : World) (n : ℕ) → leaf_of_case p k e w ≡ Some n → n < leaf_count_in k
    case_within End e w n q = absurd (none-some n q)
    case_within (More o t k) e w n q =
        elim (o == e) as (λ b. (if b then leaf_of p t w else option_map (λ n. leaf_count t + n) (leaf_of_case p k e w)) ≡ Some n → n < leaf_count t + leaf_count_in k) [
          | true ↦ λ l. let r = leaf_within t w n l in omega (arith, r)
          | false ↦ λ l. let m = more_than (leaf_count t) (leaf_of_case p k e w) n l in let r = case_within k e w m.0 m.1 in let s = m.2 in omega (arith, r, s)
        ] q

  -- ---- what is recalled was so

  after_more : (w : World) (done : List Instance) (i : Instance) → after_actions p w (done ++ i ∷ []) ≡ after_action p (after_actions p w done) i
  after_more w [] i = refl
  after_more w (j ∷ done) i = after_more (after_action p w j) done i

  sees_itself : (w : World) (done : List Instance) → SeeAlike p w w done
  sees_itself w [] = tt
  sees_itself w (i ∷ done) = (refl, sees_itself (after_action p w i) done)

  -- what is known of the past where there is a history
  abbrev PastAt : State → List Instance → World → Tree → Type 0
  PastAt (At h) done w t = PastFrom p h done w t
  PastAt Stopped done w t = Unit {0}

  past_at : (y : State) (Q : State → Type 0) (done : List Instance) (w : World) (t : Tree) → ((g : History) → Q (At g) → PastFrom p g done w t) → Q y → PastAt y done w t
  past_at (At g) Q done w t k a = k g a
  past_at Stopped Q done w t k a = tt

  at_one : (g h : History) → Some (At g) ≡ Some (At h) → g ≡ h
  at_one g h e = cc

  not_stopped : {A : Type 0} (h : History) → Some Stopped ≡ Some (At h) → A
  not_stopped h e = absurd cc

  -- the leaf is in the first of two lists
  in_first : (t : Tree) (w : World) (ys zs xs : List State) (n : ℕ) (s : Option State) → xs ≡ ys ++ zs → length ys ≡ leaf_count t → leaf_of p t w ≡ Some n → slice_get xs n ≡ s → slice_get ys n ≡ s
  in_first t w ys zs xs n s e many leaf there =
      let q = leaf_within t w n leaf in
      sym (get_first ys zs n (omega (arith, q, many))) ∙ (ap (λ us. slice_get us n) (sym e) ∙ there)

  -- or in the second
  in_second : (k m n : ℕ) (ys zs xs : List State) (s : Option State) → xs ≡ ys ++ zs → length ys ≡ k → k + m ≡ n → slice_get xs n ≡ s → slice_get zs m ≡ s
  in_second k m n ys zs xs s e many sum there =
      let same : length ys + m ≡ n = omega (arith, many, sum) in
      sym (get_behind ys zs m) ∙ (ap₂ (λ us j. slice_get us j) (sym e) same ∙ there)

  module _ (w : World) (alike : StartAlike p w w) where
    self : (done : List Instance) → Alike p done w w
    self done = record { start = alike; same = sees_itself w done }

    at_leaf : (x : State) (done : List Instance) (xs : List State) (n : ℕ) (h : History) → (PastAt x done w Goal) → xs ≡ x ∷ [] → Some 0 ≡ Some n → slice_get xs n ≡ Some (At h) → TrueAlong p w h.start h.steps
    at_leaf x done xs n h past e leaf there = go x past (ap₂ (λ us j. slice_get us j) (sym e) (same_Some 0 n leaf) ∙ there)
      where
        go : (x : State) → PastAt x done w Goal → Some x ≡ Some (At h) → TrueAlong p w h.start h.steps
        go (At g) k q = subst (λ g. TrueAlong p w g.start g.steps) (at_one g h q) (k w (self done)).1
        go Stopped k q = not_stopped h q

    mutual
      true_leaf : (t : Tree) (x : State) (done : List Instance) (xs : List State) (n : ℕ) (h : History) → PastAt x done w t → AreLeaves p x t xs → leaf_of p t (after_actions p w done) ≡ Some n → slice_get xs n ≡ Some (At h) → TrueAlong p w h.start h.steps
      true_leaf Goal x done xs n h past a leaf there = at_leaf x done xs n h past a leaf there
      true_leaf Impossible (At g) done xs n h past a leaf there = at_leaf (At g) done xs n h past a leaf there
      true_leaf Impossible Stopped done xs n h past a leaf there = at_leaf Stopped done xs n h tt a leaf there
      true_leaf (Do i t) (At g) done xs n h past a leaf there =
          let v = after_actions p w done in
          let ground = grounded v i in
          true_leaf t a.0 (done ++ ground ∷ []) xs n h (past_at a.0 (λ y. Acts p g i y) (done ++ ground ∷ []) w t past.1 a.1) a.2 (ap (leaf_of p t) (after_more w done ground) ∙ leaf) there
      true_leaf (Do i t) Stopped done xs n h past a leaf there = absurd a
      true_leaf (Branch c t u) (At g) done xs n h past a leaf there =
          let v = after_actions p w done in
          elim (all_true_in v c) as (λ b. all_true_in v c ≡ b → (if b then leaf_of p t v else option_map (λ n. leaf_count t + n) (leaf_of p u v)) ≡ Some n → TrueAlong p w h.start h.steps) [
            | true ↦ λ so k. true_leaf t a.2.0 done a.0 n h (past_at a.2.0 (λ y. Takes p g (BranchOn c) AsTrue y) done w t (past.1 so) a.2.1) a.2.2 k (in_first t v a.0 a.1 xs n (Some (At h)) a.4 (as_many p t a.2.0 a.0 a.2.2) k there)
            | false ↦ λ so k.
                let m = more_than (leaf_count t) (leaf_of p u v) n k in
                true_leaf u a.3.0 done a.1 m.0 h (past_at a.3.0 (λ y. Takes p g (BranchOn c) AsFalse y) done w u (past.2 so) a.3.1) a.3.2 m.1 (in_second (leaf_count t) m.0 n a.0 a.1 xs (Some (At h)) a.4 (as_many p t a.2.0 a.0 a.2.2) m.2 there)
          ] refl leaf
      true_leaf (Branch c t u) Stopped done xs n h past a leaf there = absurd a
      true_leaf (Cases x k) (At g) done xs n h past a leaf there = true_case k x g done xs n h past.1 a leaf there
      true_leaf (Cases x k) Stopped done xs n h past a leaf there = absurd a

      true_case : (k : Chain) (x : Term) (g : History) (done : List Instance) (xs : List State) (n : ℕ) (h : History) → PastEach p g done w x k → AreLeavesOfEach p g x k xs → leaf_of_case p k (value_of (after_actions p w done) x) (after_actions p w done) ≡ Some n
          → slice_get xs n ≡ Some (At h) → TrueAlong p w h.start h.steps
      true_case End x g done xs n h past a leaf there = absurd (none-some n leaf)
      true_case (More o t k) x g done xs n h past a leaf there =
          let v = after_actions p w done in
          let e = value_of v x in
          elim (o == e) as (λ b. (o == e) ≡ b → (if b then leaf_of p t v else option_map (λ n. leaf_count t + n) (leaf_of_case p k e v)) ≡ Some n → TrueAlong p w h.start h.steps) [
            | true ↦ λ so l. true_leaf t a.2.0 done a.0 n h (past_at a.2.0 (λ y. Takes p g (CasesOn x) (Is o) y) done w t (past.0 (eqb-true o e so)) a.2.1) a.2.2 l (in_first t v a.0 a.1 xs n (Some (At h)) a.4 (as_many p t a.2.0 a.0 a.2.2) l there)
            | false ↦ λ so l.
                let m = more_than (leaf_count t) (leaf_of_case p k e v) n l in
                true_case k x g done a.1 m.0 h past.1 a.3 m.1 (in_second (leaf_count t) m.0 n a.0 a.1 xs (Some (At h)) a.4 (as_many p t a.2.0 a.0 a.2.2) m.2 there)
          ] refl leaf

-- a compatible world is alike to itself at the start
alike_itself : (p : Problem) (w : World) → IsCompatible p w → StartAlike p w w
alike_itself p w k = record { first = k; second = k; whether = each_of (λ c. all_true_in w c ≡ all_true_in w c) (initial p).kw (λ c i. refl); values = each_of (λ t. value_of w t ≡ value_of w t) (initial p).kv (λ t i. refl) }

pub recalled_true : (p : Problem) (t : Tree) (xs : List State) → AllJustified p → IsTyped p → IsPlan p t → IsRecalled p t xs → IsTruePast p t xs
recalled_true p t xs justified typed plan r = λ w compatible n leaf h there. true_leaf p w (alike_itself p w compatible) t (start_state r.outcome) [] xs n h (past r.outcome r.closes w compatible) r.leaves leaf there
  where
    derives : (o : Outcome) → Closes p.signature (initial p) o → Derives p (start_state o) t
    derives o c = subst (λ q. Derives p (start_state q) t) (closes_one p.signature (initial p) plan.outcome o plan.closes c) plan.derives

    past : (o : Outcome) → Closes p.signature (initial p) o → (w : World) → IsCompatible p w → PastAt p (start_state o) [] w t
    past (Next d) c w compatible = plan_remembers p justified typed t d c (derives (Next d) c) w compatible
    past (Clash l) c w compatible = tt
