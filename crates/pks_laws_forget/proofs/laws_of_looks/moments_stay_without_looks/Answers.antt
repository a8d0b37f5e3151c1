use Rattle.pks_laws_forget.proofs.TreesWithoutLooks.{moments_without}
use Rattle.pks_laws_forget.proofs.laws_of_looks.moments_stay_without_looks.Goals as goal

pub returns : goal.returns
returns c = λ p h g moments sets without. moments_without p h g moments sets without
