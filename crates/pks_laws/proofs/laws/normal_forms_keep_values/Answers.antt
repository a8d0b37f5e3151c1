use Rattle.pks_laws.proofs.Values.{value_of-normal}
use Rattle.pks_laws.proofs.laws.normal_forms_keep_values.Goals as goal

pub returns : goal.returns
returns c = λ s w d t m. value_of-normal w d.kf m.known t
