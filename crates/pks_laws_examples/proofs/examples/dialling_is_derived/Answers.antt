use Rattle.pks_laws_examples.proofs.WorkedRows.{dial_derives}
use Rattle.pks_laws_examples.proofs.examples.dialling_is_derived.Goals as goal

pub returns : goal.returns
returns c = dial_derives
