use Rattle.pks_laws_forget.proofs.Ended.{equal_trees}
use Rattle.pks_laws_forget.specs.Ends.{IsAtObjects}
use Rattle.pks_laws_forget.proofs.laws_of_ends.equal_ends_give_equal_trees.Goals as goal

pub returns : goal.returns
returns c = λ p h g t valid plain keeps m a f m' a' f' last ends. equal_trees p valid plain IsAtObjects keeps h g m a f m' a' f' last ends t
