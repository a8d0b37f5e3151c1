use Rattle.pks_derive.proofs.Replaced.{derived_true}
use Rattle.pks_derive.proofs.laws.derived_adds_keep_truth.Goals as goal

pub returns : goal.returns
returns c = λ p w w' d i o typed m chosen seen progress. derived_true p w w' d i o typed m chosen seen progress
