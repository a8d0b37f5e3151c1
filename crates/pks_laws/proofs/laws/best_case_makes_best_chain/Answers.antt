use Rattle.pks_laws.proofs.Choosing.{best_more}
use Rattle.pks_laws.proofs.laws.best_case_makes_best_chain.Goals as goal

pub returns : goal.returns
returns c = λ p h n x e os y o c takes b f. best_more p h n x e os y o c takes b f
