use Rattle.pks_derive.proofs.Replaced.{replaced_true}
use Rattle.pks_derive.proofs.laws.adds_with_a_case_keep_truth.Goals as goal

pub returns : goal.returns
returns c = λ p w w' d i adds o typed m chosen justified seen progress. replaced_true p w w' d i adds o typed m chosen justified seen progress
