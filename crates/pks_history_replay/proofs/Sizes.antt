-- How many nodes trees and cases have: each part has fewer than the whole.
use Rattle.std.specs.Prelude.{ℕ, ◌+◌}
use Rattle.pks_terms.specs.Trees.{Tree, Goal, Impossible, Do, Branch, Cases, Chain, End, More}

abbrev mutual
  -- of a tree
  pub size : Tree → ℕ
  size Goal = 0
  size Impossible = 0
  size (Do i t) = size t + 1
  size (Branch c t u) = size t + size u + 1
  size (Cases x k) = size_in k + 1

  -- of cases
  pub size_in : Chain → ℕ
  size_in End = 0
  size_in (More e t k) = size t + size_in k + 1
