use Rattle.pks_run.proofs.SmallFiles.{read_names}
use Rattle.pks_run.proofs.laws.names_of_read_texts_are_short.Goals as goal

pub returns : goal.returns
returns c = λ text f read. read_names text f read
