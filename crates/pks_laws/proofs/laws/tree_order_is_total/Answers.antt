use Rattle.pks_laws.proofs.TreeTotal.{tree_cmp_total}
use Rattle.pks_laws.proofs.laws.tree_order_is_total.Goals as goal

pub returns : goal.returns
returns c = λ size. tree_cmp_total size
