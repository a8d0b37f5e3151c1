use Rattle.pks_reader_problem.proofs.Few.{scope_small}
use Rattle.pks_laws_reader.proofs.laws.declared_names_are_few.Goals as goal

pub returns : goal.returns
returns c = λ version domain. scope_small version domain
