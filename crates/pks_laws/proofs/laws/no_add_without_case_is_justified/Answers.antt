use Rattle.pks_laws.proofs.Accepting.{all_justified}
use Rattle.pks_laws.proofs.laws.no_add_without_case_is_justified.Goals as goal

pub returns : goal.returns
returns c = λ p none. all_justified p none
