-- An input is one file.
use Rattle.std.proofs.Common.{◌≡◌, ◌∙◌, sym, subst}
use Rattle.pks_terms.specs.Printed.{Text}
use Rattle.pks_terms.specs.Answers.{File}
use Rattle.pks_text.specs.Forms.{Forms, list_of}
use Rattle.pks_text.proofs.OneReading.{one_forms}
use Rattle.pks_reader.specs.Files.{FormsState}
use Rattle.pks_reader.proofs.Deciding.{one_problem}
use Rattle.pks_reader.specs.Inputs.{file_in, IsRead}

pub one_file : (input : Text) (f g : File) → IsRead input f → IsRead input g → f ≡ g
one_file input f g a b =
    let same : a.forms ≡ b.forms = one_forms input a.forms b.forms a.spelled.spelled b.spelled.spelled in
    let both = one_problem (list_of a.forms) a.problem b.problem a.named b.named a.states (subst (λ (hs : Forms). FormsState (list_of hs) b.problem b.named) (sym same) b.states) in
    let files : file_in input (list_of a.forms) a.problem a.named ≡ file_in input (list_of b.forms) b.problem b.named = λ i. file_in input (list_of (same i)) (both.0 i) (both.1 i) in
    a.gives ∙ files ∙ sym b.gives
