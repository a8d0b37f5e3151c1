use Rattle.pks_terms.specs.Answers.{text_for}
use Rattle.pks_reader.specs.Inputs.{Reads}
use Rattle.pks_laws_version1.specs.Files as files_then
use Rattle.pks_laws_version1.proofs.Answered.{answer_to, answer_back}
use Rattle.pks_laws_version1.proofs.ReadAlike.{reads_then, reads_now, answers_as}
use Rattle.pks_laws_version1.proofs.Replies.{first_read}
use Rattle.pks_laws_version1.proofs.files.answers_to_first_files_are_of_the_first_version.Goals as goal

pub returns : goal.returns
returns c = λ j input status text first.
    let good = first_read (text_for j input) first in (
      λ a. answers_as Reads files_then.Reads j input (reads_then (text_for j input) first) status text (answer_to Reads j input good status text a),
      λ a. answer_back Reads j input good status text (answers_as files_then.Reads Reads j input (reads_now (text_for j input) first) status text a),
    )
