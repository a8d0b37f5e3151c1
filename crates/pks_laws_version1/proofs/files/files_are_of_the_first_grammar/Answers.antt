use Rattle.pks_laws_version1.proofs.Grammars.{file_to_now, file_to_old}
use Rattle.pks_laws_version1.proofs.files.files_are_of_the_first_grammar.Goals as goal

pub returns : goal.returns
returns c = λ fs. (λ is. file_to_now fs is, λ both. file_to_old fs both.0 both.1)
