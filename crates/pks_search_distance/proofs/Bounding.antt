-- From levels to the bound.
use Rattle.std.proofs.Common.{◌≡◌, ◌≤◌, ◌+◌, ℕ, zero, suc, Some, None, subst, inl, inr, ◌⊎◌, ⊎_elim, arith}
use Rattle.pks_terms.specs.Worlds.{World}
use Rattle.pks_terms.specs.Problems.{Problem}
use Rattle.pks_search_distance.specs.Runs.{IsGoal, Reaches}
use Rattle.pks_search_distance.specs.Levels.{Chances, Allows, Grows, IsNext, IsBound, AreLevels}
use Rattle.pks_search_distance.proofs.Stepping.{Leads, next_allows, reaches_leads}

split : (a b : ℕ) → (a ≤ b) ⊎ (b + 1 ≤ a)
split zero b = inl (omega arith)
split (suc a) zero = inr (omega arith)
split (suc a) (suc b) = ⊎_elim (λ h. inl (omega (arith, h))) (λ h. inr (omega (arith, h))) (split a b)

module _ (p : Problem) (w : World) where
  -- all worlds that so many actions lead to are allowed
  abbrev pub Covers : Chances → ℕ → Type 0
  Covers m k = (n : ℕ) (v : World) → n ≤ k → Leads p w n v → Allows m v

  -- fewer don't lead to the goal
  abbrev pub AtLeast : ℕ → Type 0
  AtLeast k = (n : ℕ) (v : World) → Leads p w n v → IsGoal p v → k ≤ n

  pub covers_none : (m : Chances) → Allows m w → Covers m 0
  covers_none m a zero v h l = subst (Allows m) l a
  covers_none m a (suc n) v h l = absurd (omega (arith, h))

  pub least_none : AtLeast 0
  least_none n v l g = omega arith

  grows_allows : (m n : Chances) (v : World) → Grows m n → Allows m v → Allows n v
  grows_allows m n v g a = record { truth = λ p ds. g.truth (v.truth p ds) p ds (a.truth p ds); values = λ f ds. g.values f ds (v.value f ds) (a.values f ds) }

  pub covers_more : (m n : Chances) (k : ℕ) → IsNext p m n → Covers m k → Covers n (k + 1)
  covers_more m n k x c zero v h l = grows_allows m n v x.grows (c 0 v (omega arith) l)
  covers_more m n k x c (suc j) v h l = subst (Allows n) l.4 (next_allows p m n l.0 l.1 x (c j l.0 (omega (arith, h)) l.2) l.3)

  pub least_more : (m : Chances) (k : ℕ) → Covers m k → ((v : World) → Allows m v → IsGoal p v → ⊥) → AtLeast k → AtLeast (k + 1)
  least_more m k c far least n v l g =
      ⊎_elim (λ h. absurd (far v (c n v h l) g)) (λ h. h) (split n k)

  pub bound_some : (k : ℕ) → AtLeast k → IsBound p w (Some k)
  bound_some k least j r =
      let l = reaches_leads p w j r in
      let short : l.0 ≤ j = l.2 in
      let far : k ≤ l.0 = least l.0 l.1 l.3 l.4 in
      omega (arith, short, far)

  pub bound_none : (m : Chances) → IsNext p m m → Allows m w → ((v : World) → Allows m v → IsGoal p v → ⊥) → IsBound p w None
  bound_none m x a far j r =
      let l = reaches_leads p w j r in
      far l.1 (all l.0 l.1 l.3) l.4
    where
      all : (n : ℕ) (v : World) → Leads p w n v → Allows m v
      all zero v l = subst (Allows m) l a
      all (suc n) v l = subst (Allows m) l.4 (next_allows p m m l.0 l.1 x (all n l.0 l.2) l.3)

  -- no run beats the levels
  pub levels_hold : (level : ℕ → Chances) → AreLevels p w level → (k : ℕ) → ((v : World) → Allows (level k) v → IsGoal p v → ⊥) → Reaches p w k → ⊥
  levels_hold level l k far r =
      let q = reaches_leads p w k r in
      far q.1 (covers k q.0 q.1 q.2 q.3) q.4
    where
      covers : (k : ℕ) → Covers (level k) k
      covers zero = covers_none (level 0) l.first
      covers (suc k) =
          let next : k + 1 ≡ suc k = omega arith in
          subst (λ j. Covers (level j) j) next (covers_more (level k) (level (k + 1)) k (l.next k) (covers k))
