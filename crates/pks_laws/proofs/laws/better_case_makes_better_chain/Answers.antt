use Rattle.pks_laws.proofs.BestTree.{before_more}
use Rattle.pks_laws.proofs.laws.better_case_makes_better_chain.Goals as goal

pub returns : goal.returns
returns c = λ p e t u k m a b. before_more p e t u k m a b
