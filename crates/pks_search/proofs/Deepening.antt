-- The search over depths, one after another, with a limit on cost that falls.
use Rattle.std.proofs.Common.{◌≤◌, ◌+◌, inl, inr, ℕ, Option, Some, None, ⊎_elim, arith}
use Rattle.std.proofs.lemmas.Bool.{cases_lt}
use Rattle.pks_terms.specs.Problems.{Problem}
use Rattle.pks_terms.specs.Settling.{State}
use Rattle.pks_terms.specs.Trees.{Tree, depth, cost, IsBestAt}
use Rattle.pks_terms.specs.Valid.{IsValid}
use Rattle.pks_plan.proofs.Costs.{cost_most}
use Rattle.pks_search.specs.Limits.{IsBestWithin, IsLimitAt}
use Rattle.pks_search.proofs.Rooted.{cheaper}
use Rattle.pks_search_nogoods.proofs.Costs.{depth_at_most_cost, costs_at_most}

module _ (p : Problem) (x : State) where
  -- no tree of depth 16 costs more than 16 dearest actions
  pub limit_first : IsValid p → (full : ℕ) → full ≤ 16 → IsLimitAt p x 0 full 159984
  limit_first v full k = λ t d. let deep = d.1 in let most = cost_most p (costs_at_most p v) t in inl (omega arith)

  -- the best below a limit that is high enough is the best
  pub limit_best : (n full limit : ℕ) (o : Option Tree) → n ≤ full → IsLimitAt p x n full limit → IsBestWithin p x n limit o → IsBestAt p x n o
  limit_best n full limit None k f b = λ t d. let deep = d.1 in ⊎_elim (λ cheap. b t (d, cheap)) (λ r. b r.0 (r.1, r.2)) (f t (d.0, omega arith))
  limit_best n full limit (Some s) k f b = (
    b.0.0,
    λ t d. ⊎_elim (λ dear. let cheap = b.0.1 in inr (cheaper p s t (omega arith))) (λ cheap. b.1 t (d, cheap)) (cases_lt limit (cost p t)),
  )

  -- for the next depth the limit stays where no tree was found, and else it is what that tree costs
  pub limit_stays : (n full limit : ℕ) → IsLimitAt p x n full limit → IsLimitAt p x (n + 1) full limit
  limit_stays n full limit f = λ t d. ⊎_elim (λ cheap. inl cheap) (λ r. let deep = r.1.1 in inr (r.0, (r.1.0, omega arith), r.2)) (f t d)

  pub limit_falls : (n full : ℕ) (s : Tree) → IsBestAt p x n (Some s) → IsLimitAt p x (n + 1) full (cost p s)
  limit_falls n full s b = λ t d. let deep = b.0.1 in inr (s, (b.0.0, omega arith), omega arith)

  -- a tree that costs no more than the depth is the best at any depth, since deeper trees cost more
  pub none_deeper : IsValid p → (n full : ℕ) (s : Tree) → n ≤ full → cost p s ≤ n → IsBestAt p x n (Some s) → IsBestAt p x full (Some s)
  none_deeper v n full s k cheap b =
      let deep = b.0.1 in (
        (b.0.0, omega arith),
        λ t d. ⊎_elim (λ lt. let least = depth_at_most_cost p v t in inr (cheaper p s t (omega arith))) (λ ge. b.1 t (d.0, ge)) (cases_lt n (depth t)),
      )
