use Rattle.pks_laws_forget.proofs.Cut.{settles}
use Rattle.pks_laws_forget.proofs.laws.settling_comes_to_an_end.Goals as goal

pub returns : goal.returns
returns c = λ p h valid moments sets. settles p h valid moments sets
