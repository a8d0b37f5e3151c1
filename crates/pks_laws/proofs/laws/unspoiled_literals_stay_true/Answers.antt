use Rattle.pks_laws.proofs.Changing.{unspoiled_stays}
use Rattle.pks_laws.proofs.laws.unspoiled_literals_stay_true.Goals as goal

pub returns : goal.returns
returns c = λ s w d es l m h t. unspoiled_stays w d m es l h t
