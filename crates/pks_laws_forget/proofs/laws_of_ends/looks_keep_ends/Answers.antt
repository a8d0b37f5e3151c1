use Rattle.pks_laws_forget.proofs.Looks.{looks_keep_ends}
use Rattle.pks_laws_forget.proofs.laws_of_ends.looks_keep_ends.Goals as goal

pub returns : goal.returns
returns c = λ p h g v m a looks. looks_keep_ends p v h g m a looks
