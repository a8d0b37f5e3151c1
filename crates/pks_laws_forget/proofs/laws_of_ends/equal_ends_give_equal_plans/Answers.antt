use Rattle.pks_laws_forget.proofs.Ended.{equal_plans}
use Rattle.pks_laws_forget.specs.Ends.{IsAtObjects}
use Rattle.pks_laws_forget.proofs.laws_of_ends.equal_ends_give_equal_plans.Goals as goal

pub returns : goal.returns
returns c = λ p h g n o valid plain keeps m a f m' a' f' last ends. equal_plans p valid plain IsAtObjects keeps h g m a f m' a' f' last ends n o
