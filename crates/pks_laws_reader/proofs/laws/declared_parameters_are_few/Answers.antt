use Rattle.pks_reader_problem.proofs.Few.{small_within}
use Rattle.pks_laws_reader.proofs.laws.declared_parameters_are_few.Goals as goal

pub returns : goal.returns
returns c = λ s fs small. small_within s fs small
