-- What a tree costs at most.
use Rattle.std.proofs.Common.{◌≤◌, ℕ, zero, suc, ◌*◌, List, [], ◌∷◌, slice_get, unwrap_or, arith}
use Rattle.pks_terms.specs.Sets.{Each}
use Rattle.pks_terms.specs.Actions.{Schema}
use Rattle.pks_terms.specs.Problems.{Problem}
use Rattle.pks_terms.specs.Trees.{Tree, Goal, Impossible, Do, Branch, Cases, Chain, End, More, depth, chain_depth, cost, chain_cost}

one_cost : (xs : List Schema) → Each (λ x. x.cost ≤ 9999) xs → (n : ℕ) → (unwrap_or (slice_get xs n) (record { cost = 1; parameters = []; pre = []; effects = []; senses = []; adds = [] })).cost ≤ 9999
one_cost [] each n = omega arith
one_cost (x ∷ xs) each zero = each.0
one_cost (x ∷ xs) each (suc n) = one_cost xs each.1 n

mutual
  pub cost_most : (p : Problem) → Each (λ x. x.cost ≤ 9999) p.schemas → (t : Tree) → cost p t ≤ depth t * 9999
  cost_most p each Goal = omega arith
  cost_most p each Impossible = omega arith
  cost_most p each (Do i t) = omega (arith, one_cost p.schemas each i.action, cost_most p each t)
  cost_most p each (Branch c t u) = omega (arith, cost_most p each t, cost_most p each u)
  cost_most p each (Cases x k) = omega (arith, chain_cost_most p each k)

  pub chain_cost_most : (p : Problem) → Each (λ x. x.cost ≤ 9999) p.schemas → (k : Chain) → chain_cost p k ≤ chain_depth k * 9999
  chain_cost_most p each End = omega arith
  chain_cost_most p each (More e t k) = omega (arith, cost_most p each t, chain_cost_most p each k)
