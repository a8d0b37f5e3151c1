use Rattle.pks_laws_forget.proofs.Cut.{ordered_of}
use Rattle.pks_laws_symmetry.proofs.Trees.{equal_tree}
use Rattle.pks_laws_symmetry.proofs.laws.images_have_equal_trees.Goals as goal

pub returns : goal.returns
returns c = λ p f g h k t v s a m n o q d. equal_tree p f g h k t v s a m n (ordered_of p h o) (ordered_of p k q) d
