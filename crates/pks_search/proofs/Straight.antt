-- Where the bound leaves no room for a branch, the last moment alone has the trees of a history.
use Rattle.std.proofs.Common.{◌≡◌, ◌≤◌, ◌<◌, ◌+◌, ◌-◌, ◌==◌, ℕ, min, max, true, List, [], ◌∷◌, ◌++◌, Option, Some, None, refl, sym, ◌∙◌, subst, inr, ⊎_elim, arith}
use Rattle.std.proofs.lemmas.Bool.{ltb-true, eqb-true, or_cases}
use Rattle.std.proofs.lemmas.Option.{none-some}
use Rattle.pks_terms.specs.Sets.{Each, IsIn}
use Rattle.pks_terms.specs.Worlds.{World}
use Rattle.pks_terms.specs.Databases.{Five}
use Rattle.pks_terms.specs.Closure.{Next, Clash}
use Rattle.pks_terms.specs.Actions.{Instance}
use Rattle.pks_terms.specs.Progress.{Progress}
use Rattle.pks_terms.specs.Problems.{Problem, schema_of}
use Rattle.pks_terms.specs.Typed.{IsTyped, AllJustified}
use Rattle.pks_terms.specs.Branching.{instances, Act}
use Rattle.pks_terms.specs.Settling.{History, last_of, last_moment, pushed, State, At, Stopped}
use Rattle.pks_terms.specs.Trees.{Tree, Goal, Impossible, Do, Branch, Cases, depth, chain_depth, cost, after_step, Acts, Derives, IsBestOf}
use Rattle.pks_terms.specs.Knowledge.{grounded, after_action}
use Rattle.pks_terms.specs.Valid.{IsValid}
use Rattle.pks_terms.specs.Versions.{IsNow}
use Rattle.pks_terms.specs.Moments.{AreMomentsOf}
use Rattle.pks_laws.proofs.Choosing.{act_not_branch, act_not_cases}
use Rattle.pks_laws.proofs.SearchStates.{last_of_it}
use Rattle.pks_search_distance.specs.Runs.{Reaches, MayBeAt}
use Rattle.pks_search_distance.specs.Levels.{IsAtMost}
use Rattle.pks_search_distance.proofs.Running.{acted_may, may_do, reach_branch, reach_cases}
use Rattle.pks_laws_forget.specs.Looks.{IsLook}
use Rattle.pks_laws_forget.proofs.Thinned.{without_none}
use Rattle.pks_laws_forget.proofs.Trees.{met_alike}
use Rattle.pks_search_witness.specs.declared.witness.Witness.{Witness}
use Rattle.pks_search_witness.specs.Near.{world_in, is_above}
use Rattle.pks_history_forget.specs.Same.{IsEndOf, IsLeftOf}
use Rattle.pks_search_nogoods.specs.Failing.{HasNoTree}
use Rattle.pks_search_nogoods.proofs.Costs.{depth_at_most_cost}
use Rattle.pks_search.specs.Limits.{IsCheapBy}
use Rattle.pks_search.specs.Near.{IsNear, AreNearAfter, is_far, is_tight}
use Rattle.pks_search.specs.Straight.{IsStraight, last_alone, HasTreesWithin}
use Rattle.pks_search.proofs.Witnessed.{far_one, left_near}
use Rattle.pks_search.proofs.Limited.{price}
use Rattle.pks_search.proofs.Unasked.{no_plain_twins}

not_stopped : (h : History) → At h ≡ Stopped → ⊥
not_stopped h e = cc

-- ---- the last moment

last_behind : (d : Five) (steps : List (Instance × Five)) (i : Instance) (e : Five) → last_of d (steps ++ (i, e) ∷ []) ≡ e
last_behind d [] i e = refl
last_behind d (step ∷ steps) i e = last_behind step.1 steps i e

last_end : (d : Five) (steps : List (Instance × Five)) → IsEndOf d steps (record { start = last_of d steps; steps = [] })
last_end d [] = refl
last_end d (step ∷ steps) = inr (last_end step.1 steps)

-- ---- straight trees are derived from the last moment

module _ (p : Problem) (plain : Each IsNow p.goal) where
  -- a straight tree is derived at each history with the same last moment
  pub alike : (t : Tree) → IsStraight t → (h g : History) → last_moment h ≡ last_moment g → Derives p (At h) t → Derives p (At g) t
  alike Goal k h g e d = sym (met_alike p plain h g e) ∙ d
  alike Impossible k h g e d = absurd (not_stopped h d)
  alike (Do i t) k h g e d =
      let a = d.1.1 in
      let next : Derives p (after_step g i a.outcome) t = elim a.outcome as (λ o. Derives p (after_step h i o) t → Derives p (after_step g i o) t) [
        | Next x ↦ λ y. alike t k (pushed h i x) (pushed g i x) (last_behind h.start h.steps i x ∙ sym (last_behind g.start g.steps i x)) y
        | Clash l ↦ λ y. y
      ] (subst (λ x. Derives p x t) a.gives d.1.2) in (
        subst (λ x. IsIn i (instances p x)) e d.0,
        (after_step g i a.outcome, record { outcome = a.outcome; progress = subst (λ x. Progress p.signature x (schema_of p i.action) i a.outcome) e a.progress; gives = refl }, next),
      )
  alike (Branch c t u) k h g e d = absurd k
  alike (Cases x m) k h g e d = absurd k

-- ---- no deeper than the goal is far, a tree is straight

-- no run of fewer than n actions leads from the world to the goal
abbrev IsAway : Problem → World → ℕ → Type 0
IsAway p w n = (k : ℕ) → Reaches p w k → n ≤ k

module _ (p : Problem) (j : AllJustified p) (s : IsTyped p) where
  straight : (t : Tree) (h : History) (w : World) (n : ℕ) → MayBeAt p h w → IsAway p w n → Derives p (At h) t → depth t ≤ n → IsStraight t
  straight Goal h w n m f d deep = tt
  straight Impossible h w n m f d deep = tt
  straight (Do i t) h w n m f d deep =
      let a = acted_may p j s h w i d.1.0 m d.0 d.1.1 in
      let away : IsAway p (after_action p w (grounded w i)) (n - 1) = λ k r.
      let short = r.short in
      let longer : n ≤ k + 1 = f (k + 1) (record { actions = grounded w i ∷ r.actions; run = (may_do p h w i m d.0, r.run); short = omega (arith, short); goal = r.goal }) in
      omega (arith, longer) in
      straight t a.0 (after_action p w (grounded w i)) (n - 1) a.2 away (subst (λ (x : State). Derives p x t) a.1 d.1.2) (omega (arith, deep))
  straight (Branch c t u) h w n m f d deep = let far : n ≤ max (depth t) (depth u) = f (max (depth t) (depth u)) (reach_branch p j s c t u h w m d) in omega (arith, far, deep)
  straight (Cases x c) h w n m f d deep = let far : n ≤ chain_depth c = f (chain_depth c) (reach_cases p j s x c h w m d) in omega (arith, far, deep)

-- where the bound is above what is one less
away_by : (o : Option ℕ) (n k : ℕ) → is_above o (n - 1) ≡ true → IsAtMost o k → n ≤ k
away_by None n k a m = absurd m
away_by (Some q) n k a m = let above : n - 1 < q = ltb-true (n - 1) q a in omega (arith, above, m)

-- nothing but actions fits into no depth
shallow : (t : Tree) → depth t ≤ 0 → IsStraight t
shallow Goal k = tt
shallow Impossible k = tt
shallow (Do i t) k = absurd (omega (arith, k))
shallow (Branch c t u) k = omega (arith, k)
shallow (Cases x c) k = omega (arith, k)

-- nor is there anything else at a clash
stopped_straight : (p : Problem) (t : Tree) → Derives p Stopped t → IsStraight t
stopped_straight p Goal d = absurd d
stopped_straight p Impossible d = tt
stopped_straight p (Do i t) d = absurd d
stopped_straight p (Branch c t u) d = absurd d
stopped_straight p (Cases x c) d = absurd d

module _ (p : Problem) (j : AllJustified p) (s : IsTyped p) (v : IsValid p) where
  -- no deeper than the goal is far
  far_straight : (xs : List Witness) (n : ℕ) (h : History) (t : Tree) → Each (IsNear p h) xs → is_far xs (n - 1) ≡ true → Derives p (At h) t → depth t ≤ n → IsStraight t
  far_straight xs n h t k far d deep =
      let one = far_one (IsNear p h) xs (n - 1) k far in
      let near : IsNear p h one.0 = one.1 in
      straight p j s t h (world_in one.0) n near.here (λ m r. away_by one.0.needs n m one.2 (near.counted m r)) d deep

  -- the bound leaves no room for a branch
  tight_straight : (xs : List Witness) (n limit : ℕ) (h : History) (t : Tree) → Each (IsNear p h) xs → is_tight xs (min n limit) ≡ true → Derives p (At h) t → depth t ≤ n → cost p t ≤ limit → IsStraight t
  tight_straight xs n limit h t k tight d deep cheap =
      let least : depth t ≤ cost p t = depth_at_most_cost p v t in
      let both : depth t ≤ min n limit = omega (arith, deep, cheap, least) in
      ⊎_elim
      (λ none. let zero : min n limit ≡ 0 = eqb-true (min n limit) 0 none in shallow t (omega (arith, both, zero)))
      (λ far. far_straight xs (min n limit) h t k far d both)
      (or_cases (min n limit == 0) (is_far xs (min n limit - 1)) tight)

  module _ (plain : Each IsNow p.goal) (h : History) where
    -- so the last moment alone has the same trees
    pub last_trees : (xs : List Witness) (n limit : ℕ) → AreMomentsOf p h → Each (IsNear p h) xs → is_tight xs (min n limit) ≡ true → HasTreesWithin p h (last_alone h) n limit
    last_trees xs n limit moments k tight =
        let left : IsLeftOf p h (last_alone h) = record { steps = h; without = without_none (IsLook p) h.start h.steps; end = last_end h.start h.steps } in record {
          moments = record { start = last_of_it p v h moments; steps = tt };
          short = omega arith;
          left = left;
          twins = λ v v' m. absurd (no_plain_twins p h v v' plain m);
          trees = λ t deep cheap. (
            λ d. alike p plain t (tight_straight xs n limit h t k tight d deep cheap) h (last_alone h) refl d,
            λ d. alike p plain t (tight_straight xs n limit (last_alone h) t (left_near p h (last_alone h) xs left k) tight d deep cheap) (last_alone h) h refl d,
          );
        }

    -- behind an action there are actions alone, where the bound leaves no room for more
    after_straight : (i : Instance) (a : List Witness) (n limit : ℕ) → AreNearAfter p h i a → is_tight a (min n limit) ≡ true → (y : State) (u : Tree) → Acts p h i y → Derives p y u → depth u ≤ n → cost p u ≤ limit → IsStraight u
    after_straight i a n limit near tight Stopped u acts d deep cheap = stopped_straight p u d
    after_straight i a n limit near tight (At g) u acts d deep cheap = tight_straight a n limit g u (near g acts) tight d deep cheap

    -- so no tree begins with it where the last moment alone has none
    pub none_straight : (i : Instance) (a : List Witness) (n limit own : ℕ) → AreNearAfter p h i a → is_tight a (min n (limit - own)) ≡ true → HasNoTree p (last_alone h) (n + 1) limit → own ≡ price p i → own ≤ limit → IsBestOf p (IsCheapBy p h (n + 1) limit (Act i)) None
    none_straight i a n limit own near tight none e le = others
      where
        others : (t : Tree) → IsCheapBy p h (n + 1) limit (Act i) t → ⊥
        others Goal d = none-some (Act i) d.0.1
        others Impossible d = none-some (Act i) d.0.1
        others (Branch c t u) d = act_not_branch c i d.0.1
        others (Cases z m) d = act_not_cases z i d.0.1
        others (Do b u) d =
            let same : b ≡ i = cc d.0.1 in
            let q = d.0.0.0 in
            let deep : depth u + 1 ≤ n + 1 = d.0.0.1 in
            let costs : price p i + cost p u ≤ limit = subst (λ z. price p z + cost p u ≤ limit) same d.1 in
            let alone : IsStraight u = after_straight i a n (limit - own) near tight q.1.0 u (subst (λ z. Acts p h z q.1.0) same q.1.1) q.1.2 (omega (arith, deep)) (omega (arith, costs, e, le)) in
            none (Do b u) ((alike p plain (Do b u) alone h (last_alone h) refl q, d.0.0.1), d.1)
