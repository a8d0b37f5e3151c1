-- In a valid problem each action costs something: a tree costs at least its depth.
use Rattle.std.proofs.Common.{◌≤◌, ℕ, zero, suc, List, [], ◌∷◌, slice_get, unwrap_or, arith}
use Rattle.pks_terms.specs.Sets.{Each}
use Rattle.pks_terms.specs.Actions.{Schema}
use Rattle.pks_terms.specs.Problems.{Problem}
use Rattle.pks_terms.specs.Trees.{Tree, Goal, Impossible, Do, Branch, Cases, Chain, End, More, depth, chain_depth, cost, chain_cost}
use Rattle.pks_terms.specs.Valid.{IsValid, IsSchemaText}
use Rattle.pks_terms.proofs.ListLaws.{each_weaker}

one_cost : (xs : List Schema) → Each (λ x. 1 ≤ x.cost) xs → (n : ℕ) → 1 ≤ (unwrap_or (slice_get xs n) (record { cost = 1; parameters = []; pre = []; effects = []; senses = []; adds = [] })).cost
one_cost [] each n = omega arith
one_cost (x ∷ xs) each zero = each.0
one_cost (x ∷ xs) each (suc n) = one_cost xs each.1 n

mutual
  depth_least : (p : Problem) → Each (λ x. 1 ≤ x.cost) p.schemas → (t : Tree) → depth t ≤ cost p t
  depth_least p each Goal = omega arith
  depth_least p each Impossible = omega arith
  depth_least p each (Do i t) = omega (arith, one_cost p.schemas each i.action, depth_least p each t)
  depth_least p each (Branch c t u) = omega (arith, depth_least p each t, depth_least p each u)
  depth_least p each (Cases x k) = omega (arith, chain_depth_least p each k)

  chain_depth_least : (p : Problem) → Each (λ x. 1 ≤ x.cost) p.schemas → (k : Chain) → chain_depth k ≤ chain_cost p k
  chain_depth_least p each End = omega arith
  chain_depth_least p each (More e t k) = omega (arith, depth_least p each t, chain_depth_least p each k)

-- a tree costs at least its depth
pub depth_at_most_cost : (p : Problem) → IsValid p → (t : Tree) → depth t ≤ cost p t
depth_at_most_cost p v t = depth_least p (each_weaker (IsSchemaText p.signature) (λ x. 1 ≤ x.cost) (λ x k. k.cost.0) p.schemas v.schemas.0) t

-- and each action at most 9,999
pub costs_at_most : (p : Problem) → IsValid p → Each (λ x. x.cost ≤ 9999) p.schemas
costs_at_most p v = each_weaker (IsSchemaText p.signature) (λ x. x.cost ≤ 9999) (λ x k. k.cost.1) p.schemas v.schemas.0
