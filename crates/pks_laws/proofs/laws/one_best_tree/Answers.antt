use Rattle.std.specs.Prelude.{◌≤◌}
use Rattle.pks_terms.specs.Trees.{depth, IsPlan}
use Rattle.pks_laws.proofs.BestTree.{best_one}
use Rattle.pks_laws.proofs.laws.one_best_tree.Goals as goal

pub returns : goal.returns
returns c = λ p n a b k l. best_one p (λ t. IsPlan p t × (depth t ≤ n)) a b k l
