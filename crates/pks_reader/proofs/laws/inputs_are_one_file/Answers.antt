use Rattle.pks_reader.proofs.Once.{one_file}
use Rattle.pks_reader.proofs.laws.inputs_are_one_file.Goals as goal

pub returns : goal.returns
returns c = one_file
