use Rattle.pks_laws_explain.proofs.Readings.{reads}
use Rattle.pks_laws_explain.proofs.answers.each_text_reads_as_a_file_or_has_a_first_fault.Goals as goal

pub returns : goal.returns
returns c = λ text. reads text
