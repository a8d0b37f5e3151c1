-- What stands in the table of finds.
use Rattle.std.specs.Prelude.{ℕ, ◌≡◌, ◌≤◌, Contains}
use Rattle.pks_terms.specs.declared.limits.TheConstants.{GREATEST_COST}
use Rattle.pks_terms.specs.Sets.{Each}
use Rattle.pks_terms.specs.Problems.{Problem}
use Rattle.pks_terms.specs.Trees.{depth, cost}
use Rattle.pks_plan.specs.TreeViews.{tree_of}
use Rattle.pks_search_nogoods.specs.Finds.{IsFound}
use Rattle.pks_search_nogoods.specs.declared.finds.Find.{Find}
use Rattle.pks_search_nogoods.specs.declared.finds.Finds.{Finds}

-- the tree was found at the entry's history, within its depth and some limit; what it costs and its depth stand beside it
pub record IsRightFind (p : Problem) (x : Find) : Type 0 where
  pub limit : ℕ
  pub found : IsFound p x.history x.depth limit (tree_of x.tree)
  pub costs : x.own_cost ≡ cost p (tree_of x.tree)
  pub deep : x.own_depth ≡ depth (tree_of x.tree)

-- each entry of the table is right
abbrev pub AreFound : Problem → Finds → Type 0
AreFound p f = (mark : ℕ) (x : Find) → Contains f.table.entries (mark, x) → IsRightFind p x

-- no action costs more than 9,999
abbrev pub AreCosts : Problem → Type 0
AreCosts p = Each (λ schema. schema.cost ≤ GREATEST_COST) p.schemas
