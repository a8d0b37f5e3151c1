use Rattle.pks_run.proofs.SmallFiles.{read_formulas}
use Rattle.pks_run.proofs.laws.formulas_of_read_texts_are_small.Goals as goal

pub returns : goal.returns
returns c = λ text f read. read_formulas text f read
