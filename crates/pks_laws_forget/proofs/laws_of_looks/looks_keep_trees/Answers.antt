use Rattle.pks_laws_forget.proofs.TreesWithoutLooks.{without_looks}
use Rattle.pks_laws_forget.proofs.laws_of_looks.looks_keep_trees.Goals as goal

pub returns : goal.returns
returns c = λ p h g t valid moments sets without. without_looks p valid h g t moments sets without
