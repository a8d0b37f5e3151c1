-- The witnesses along a search, and the trees that their bounds rule out.
use Rattle.std.proofs.Common.{◌≡◌, ◌≤◌, ◌<◌, ◌+◌, ◌-◌, ℕ, min, max, true, List, [], ◌∷◌, ◌++◌, length, get_or, take, drop, Option, Some, None, refl, sym, subst, ⊎_elim, arith, true≢false}
use Rattle.std.proofs.lemmas.Bool.{ltb-true, eqb-true, not-true, or_cases}
use Rattle.std.proofs.lemmas.Option.{none-some}
use Rattle.pks_terms.specs.Sets.{Each, IsIn}
use Rattle.pks_terms.specs.Syntax.{Term, Literal}
use Rattle.pks_terms.specs.Worlds.{World, value_of, all_true_in}
use Rattle.pks_terms.specs.Databases.{Five}
use Rattle.pks_terms.specs.Closure.{Next, Closes}
use Rattle.pks_terms.specs.Actions.{Instance}
use Rattle.pks_terms.specs.Problems.{Problem, initial}
use Rattle.pks_terms.specs.Typed.{IsTyped, AllJustified}
use Rattle.pks_terms.specs.Branching.{instances, Choice, Act, BranchOn, CasesOn, Side, AsTrue, AsFalse, Is, IsSo, IsMember}
use Rattle.pks_terms.specs.Settling.{History, last_moment, At}
use Rattle.pks_terms.specs.Trees.{Tree, Goal, Impossible, Do, Branch, Cases, depth, chain_depth, cost, Acts, Takes, Derives, IsBestOf}
use Rattle.pks_terms.specs.Knowledge.{grounded, after_action}
use Rattle.pks_terms.specs.Valid.{IsValid}
use Rattle.pks_terms.proofs.ListLaws.{each_append, each_in, each_weaker}
use Rattle.pks_laws.proofs.Choosing.{act_not_branch, act_not_cases, branch_not_act, branch_not_cases, cases_not_act, cases_not_branch}
use Rattle.pks_search_distance.specs.Runs.{Reaches, MayBeAt}
use Rattle.pks_search_distance.specs.Levels.{IsAtMost, IsBound}
use Rattle.pks_search_distance.proofs.Running.{start_may, acted_may, taken_may, reach_from, reach_branch, reach_cases}
use Rattle.pks_search_witness.specs.declared.witness.Witness.{Witness}
use Rattle.pks_search_witness.specs.Near.{world_in, IsCounted, is_above, is_beyond}
use Rattle.pks_history_forget.specs.Same.{IsLeftOf}
use Rattle.pks_search_nogoods.proofs.Costs.{depth_at_most_cost}
use Rattle.pks_search.specs.Limits.{IsBestWithin, IsCheapBy}
use Rattle.pks_search.specs.Near.{IsFirst, IsNear, AreNearAfter, ComeFrom, Becomes, IsKept, is_far, is_so}
use Rattle.pks_search.proofs.Looping.{in_list}
use Rattle.pks_search.proofs.Leaving.{left_may}
use Rattle.pks_search.proofs.Limited.{price}

-- ---- numbers

-- what is above n is at most nothing that n bounds
not_within : (o : Option ℕ) (n d : ℕ) → is_above o n ≡ true → IsAtMost o d → d ≤ n → ⊥
not_within None n d a m le = m
not_within (Some k) n d a m le = let above : n < k = ltb-true n k a in omega (arith, above, m, le)

at_is : (g h : History) → At g ≡ At h → g ≡ h
at_is g h e = cc

-- ---- one of them

-- where the goal is far from some, it is far from one of which that holds which holds of each
pub far_one : (P : Witness → Type 0) (xs : List Witness) (n : ℕ) → Each P xs → is_far xs n ≡ true → (x : Witness) × P x × (is_beyond x n ≡ true)
far_one P [] n k far = absurd (true≢false (sym far))
far_one P (x ∷ xs) n k far = ⊎_elim (λ e. (x, k.0, e)) (λ e. far_one P xs n k.1 e) (or_cases (is_beyond x n) (is_far xs n) far)

-- what comes of each
pub come_each : {A : Type 0} (R : A → A → Type 0) (P Q : A → Type 0) → ((x y : A) → R x y → P x → Q y) → (xs ys : List A) → Each P xs → ComeFrom R xs ys → Each Q ys
come_each R P Q f xs [] k from = tt
come_each R P Q f xs (y ∷ ys) k from = (f from.0.0 y from.0.2 (each_in P xs from.0.0 k from.0.1), come_each R P Q f xs ys k from.1)

-- one more of those that come from some
pub come_more : {A : Type 0} (R : A → A → Type 0) (xs ys : List A) (k : ℕ) (x y : A) → k < length xs → x ≡ get_or xs k x → R x y → ComeFrom R xs ys → ComeFrom R xs (ys ++ y ∷ [])
come_more {A = A} R xs ys k x y test e r from =
    let member : IsIn x xs = subst (λ z. IsIn z xs) (sym e) (in_list xs k x test) in
    each_append (λ b. (a : A) × IsIn a xs × R a b) ys (y ∷ []) from ((x, member, r), tt)

-- the first alone, and the others
pub each_first : (P : Witness → Type 0) (xs ys : List Witness) → ys ≡ take 1 xs → Each P xs → Each P ys
each_first P [] ys e k = subst (Each P) (sym e) tt
each_first P (x ∷ xs) ys e k = subst (Each P) (sym e) (k.0, tt)

pub each_other : (P : Witness → Type 0) (xs ys : List Witness) → ys ≡ drop 1 xs → Each P xs → Each P ys
each_other P [] ys e k = subst (Each P) (sym e) tt
each_other P (x ∷ xs) ys e k = subst (Each P) (sym e) k.1

-- a side that is so in a world by the test is so
pub so_there : (w : World) (c : Choice) (side : Side) → is_so w c side ≡ true → IsSo w c side
so_there w (BranchOn c) AsTrue k = k
so_there w (BranchOn c) AsFalse k = not-true (all_true_in w c) k
so_there w (BranchOn c) (Is d) k = absurd (true≢false (sym k))
so_there w (CasesOn t) AsTrue k = absurd (true≢false (sym k))
so_there w (CasesOn t) AsFalse k = absurd (true≢false (sym k))
so_there w (CasesOn t) (Is d) k = eqb-true (value_of w t) d k
so_there w (Act i) side k = absurd (true≢false (sym k))

module _ (p : Problem) where
  -- ---- letting go of the past

  pub left_near : (h rest : History) (xs : List Witness) → IsLeftOf p h rest → Each (IsNear p h) xs → Each (IsNear p rest) xs
  left_near h rest xs left = each_weaker (IsNear p h) (IsNear p rest) (λ x k. record { here = left_may p h rest (world_in x) left k.here; counted = k.counted }) xs

  pub near_counted : (h : History) (xs : List Witness) → Each (IsNear p h) xs → Each (IsCounted p) xs
  near_counted h = each_weaker (IsNear p h) (IsCounted p) (λ x k. k.counted)

  -- ---- the start

  pub first_near : (d : Five) (h : History) (xs : List Witness) → Closes p.signature (initial p) (Next d) → h ≡ record { start = d; steps = [] } → Each (IsFirst p) xs → Each (IsNear p h) xs
  first_near d h xs c e = each_weaker (IsFirst p) (IsNear p h) (λ x k. record { here = subst (λ g. MayBeAt p g (world_in x)) (sym e) (start_may p d (world_in x) c k.compatible); counted = k.counted }) xs

  module _ (j : AllJustified p) (s : IsTyped p) (h : History) where
    -- ---- after an action

    acted_one : (i : Instance) (x y : Witness) → IsIn i (instances p (last_moment h)) → (g : History) → Acts p h i (At g) → Becomes p i x y → IsNear p h x → IsNear p g y
    acted_one i x y member g acts b k =
        let w = world_in x in
        let r = acted_may p j s h w i (At g) k.here member acts in
        let moved : MayBeAt p g (after_action p w (grounded w i)) = subst (λ f. MayBeAt p f (after_action p w (grounded w i))) (sym (at_is g r.0 r.1)) r.2 in
        record { here = subst (λ v. MayBeAt p g v) (sym b.world) moved; counted = b.counted }

    pub acted_near : (i : Instance) (xs ys : List Witness) → IsIn i (instances p (last_moment h)) → Each (IsNear p h) xs → ComeFrom (Becomes p i) xs ys → AreNearAfter p h i ys
    acted_near i xs ys member k from g acts = come_each (Becomes p i) (IsNear p h) (IsNear p g) (λ x y b n. acted_one i x y member g acts b n) xs ys k from

    -- what the first became, and what the others become
    pub joined_near : (i : Instance) (xs ys zs all : List Witness) → IsIn i (instances p (last_moment h)) → Each (IsNear p h) xs → AreNearAfter p h i ys → ComeFrom (Becomes p i) xs zs → all ≡ ys ++ zs → AreNearAfter p h i all
    joined_near i xs ys zs all member k first from e g acts = subst (Each (IsNear p g)) (sym e) (each_append (IsNear p g) ys zs (first g acts) (acted_near i xs zs member k from g acts))

    -- ---- on a side

    taken_one : (c : Choice) (side : Side) (g : History) (x y : Witness) → IsMember (last_moment h) c → Takes p h c side (At g) → IsKept c side x y → IsNear p h x → IsNear p g y
    taken_one c side g x y member takes same k =
        let w = world_in x in
        let r = taken_may p h w c side (At g) k.here member (so_there w c side same.on) takes in
        let here : MayBeAt p g w = subst (λ f. MayBeAt p f w) (sym (at_is g r.0 r.1)) r.2 in
        let counted : IsBound p w y.needs = subst (IsBound p w) (sym same.needs) k.counted in
        record { here = subst (MayBeAt p g) (sym same.world) here; counted = subst (λ v. IsBound p v y.needs) (sym same.world) counted }

    pub taken_near : (c : Choice) (side : Side) (g : History) (xs ys : List Witness) → IsMember (last_moment h) c → Takes p h c side (At g) → Each (IsNear p h) xs → ComeFrom (IsKept c side) xs ys → Each (IsNear p g) ys
    taken_near c side g xs ys member takes = come_each (IsKept c side) (IsNear p h) (IsNear p g) (λ x y same k. taken_one c side g x y member takes same k) xs ys

    -- ---- trees that are ruled out

    -- where the goal is further than a tree is deep, it isn't derived
    too_far : (x : Witness) (n : ℕ) (t : Tree) → IsNear p h x → is_beyond x n ≡ true → Derives p (At h) t → depth t ≤ n → ⊥
    too_far x n t k far d deep = not_within x.needs n (depth t) far (k.counted (depth t) (reach_from p j s t h (world_in x) k.here d)) deep

    pub none_by : IsValid p → (x : Witness) (n limit : ℕ) → IsNear p h x → is_beyond x (min n limit) ≡ true → IsBestWithin p (At h) n limit None
    none_by v x n limit k far = λ t d.
        let deep : depth t ≤ n = d.0.1 in
        let cheap : cost p t ≤ limit = d.1 in
        let least : depth t ≤ cost p t = depth_at_most_cost p v t in
        too_far x (min n limit) t k far d.0.0 (omega (arith, deep, cheap, least))

    pub none_near : IsValid p → (xs : List Witness) (n limit : ℕ) → Each (IsNear p h) xs → is_far xs (min n limit) ≡ true → IsBestWithin p (At h) n limit None
    none_near v xs n limit k far = let one = far_one (IsNear p h) xs (min n limit) k far in none_by v one.0 n limit one.1 one.2

    -- nor is one whose root is no action and whose sides are too shallow
    too_far_aside : IsValid p → (x : Witness) (n limit m : ℕ) (t : Tree) → IsNear p h x → is_beyond x (min n (limit - 1)) ≡ true → depth t ≡ m + 1 → depth t ≤ n + 1 → cost p t ≤ limit → Reaches p (world_in x) m → ⊥
    too_far_aside v x n limit m t k far e deep cheap r =
        let least : depth t ≤ cost p t = depth_at_most_cost p v t in
        not_within x.needs (min n (limit - 1)) m far (k.counted m r) (omega (arith, e, deep, cheap, least))

    none_branching_by : IsValid p → (x : Witness) (n limit : ℕ) (c : List Literal) → IsNear p h x → is_beyond x (min n (limit - 1)) ≡ true → IsBestOf p (IsCheapBy p h (n + 1) limit (BranchOn c)) None
    none_branching_by v x n limit c k far = others
      where
        others : (t : Tree) → IsCheapBy p h (n + 1) limit (BranchOn c) t → ⊥
        others Goal d = none-some (BranchOn c) d.0.1
        others Impossible d = none-some (BranchOn c) d.0.1
        others (Do i t) d = branch_not_act i c d.0.1
        others (Cases z m) d = branch_not_cases z c d.0.1
        others (Branch b t u) d = too_far_aside v x n limit (max (depth t) (depth u)) (Branch b t u) k far refl d.0.0.1 d.1 (reach_branch p j s b t u h (world_in x) k.here d.0.0.0)

    pub none_branching : IsValid p → (xs : List Witness) (n limit : ℕ) (c : List Literal) → Each (IsNear p h) xs → is_far xs (min n (limit - 1)) ≡ true → IsBestOf p (IsCheapBy p h (n + 1) limit (BranchOn c)) None
    none_branching v xs n limit c k far = let one = far_one (IsNear p h) xs (min n (limit - 1)) k far in none_branching_by v one.0 n limit c one.1 one.2

    none_splitting_by : IsValid p → (x : Witness) (n limit : ℕ) (z : Term) → IsNear p h x → is_beyond x (min n (limit - 1)) ≡ true → IsBestOf p (IsCheapBy p h (n + 1) limit (CasesOn z)) None
    none_splitting_by v x n limit z k far = others
      where
        others : (t : Tree) → IsCheapBy p h (n + 1) limit (CasesOn z) t → ⊥
        others Goal d = none-some (CasesOn z) d.0.1
        others Impossible d = none-some (CasesOn z) d.0.1
        others (Do i t) d = cases_not_act i z d.0.1
        others (Branch c t u) d = cases_not_branch c z d.0.1
        others (Cases y m) d = too_far_aside v x n limit (chain_depth m) (Cases y m) k far refl d.0.0.1 d.1 (reach_cases p j s y m h (world_in x) k.here d.0.0.0)

    pub none_splitting : IsValid p → (xs : List Witness) (n limit : ℕ) (z : Term) → Each (IsNear p h) xs → is_far xs (min n (limit - 1)) ≡ true → IsBestOf p (IsCheapBy p h (n + 1) limit (CasesOn z)) None
    none_splitting v xs n limit z k far = let one = far_one (IsNear p h) xs (min n (limit - 1)) k far in none_splitting_by v one.0 n limit z one.1 one.2

module _ (p : Problem) (j : AllJustified p) (s : IsTyped p) (v : IsValid p) (h : History) where
  -- where the goal is further from the world after an action than the trees there are deep, no tree begins with it
  none_acting_by : (i : Instance) (x y : Witness) (n limit own : ℕ) → IsIn i (instances p (last_moment h)) → IsNear p h x → Becomes p i x y → is_beyond y (min n (limit - own)) ≡ true → own ≡ price p i → own ≤ limit
      → IsBestOf p (IsCheapBy p h (n + 1) limit (Act i)) None
  none_acting_by i x y n limit own member k b far e le = others
    where
      others : (t : Tree) → IsCheapBy p h (n + 1) limit (Act i) t → ⊥
      others Goal d = none-some (Act i) d.0.1
      others Impossible d = none-some (Act i) d.0.1
      others (Branch c t u) d = act_not_branch c i d.0.1
      others (Cases z m) d = act_not_cases z i d.0.1
      others (Do a u) d =
          let w = world_in x in
          let same : a ≡ i = cc d.0.1 in
          let q = d.0.0.0 in
          let acts : Acts p h i q.1.0 = subst (λ z. Acts p h z q.1.0) same q.1.1 in
          let r = acted_may p j s h w i q.1.0 k.here member acts in
          let there : Acts p h i (At r.0) = subst (λ z. Acts p h i z) r.1 acts in
          let near : IsNear p r.0 y = acted_one p j s h i x y member r.0 there b k in
          let derived : Derives p (At r.0) u = subst (λ z. Derives p z u) r.1 q.1.2 in
          let deep : depth u + 1 ≤ n + 1 = d.0.0.1 in
          let costs : price p i + cost p u ≤ limit = subst (λ z. price p z + cost p u ≤ limit) same d.1 in
          none_by p j s r.0 v y n (limit - own) near far u ((derived, omega (arith, deep)), omega (arith, costs, e, le))

  pub none_acting : (i : Instance) (xs ys : List Witness) (n limit own : ℕ) → IsIn i (instances p (last_moment h)) → Each (IsNear p h) xs → ComeFrom (Becomes p i) xs ys → is_far ys (min n (limit - own)) ≡ true → own ≡ price p i → own ≤ limit
      → IsBestOf p (IsCheapBy p h (n + 1) limit (Act i)) None
  none_acting i xs ys n limit own member k from far e le =
      let one = far_one (λ y. (x : Witness) × IsIn x xs × Becomes p i x y) ys (min n (limit - own)) from far in
      none_acting_by i one.1.0 one.0 n limit own member (each_in (IsNear p h) xs one.1.0 k one.1.1) one.1.2 one.2 e le
