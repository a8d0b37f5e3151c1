use Rattle.pks_laws_reader.proofs.Sentences.{literal_text}
use Rattle.pks_laws_reader.proofs.laws.faultless_literals_are_as_files_have_them.Goals as goal

pub returns : goal.returns
returns c = λ s v f shapes is e. literal_text s shapes v f is e
