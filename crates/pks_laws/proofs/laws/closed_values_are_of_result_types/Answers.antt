use Rattle.pks_laws.proofs.Belonging.{closed_values}
use Rattle.pks_laws.proofs.laws.closed_values_are_of_result_types.Goals as goal

pub returns : goal.returns
returns c = λ s d inhabited c. closed_values s inhabited c.from d c.closes
