use Rattle.pks_laws_reader.proofs.Naming.{problem_named}
use Rattle.pks_laws_reader.proofs.laws.faultless_files_name_each_thing.Goals as goal

pub returns : goal.returns
returns c = λ v d p is e. problem_named v d p is e
