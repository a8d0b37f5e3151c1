use Rattle.pks_laws_version1.proofs.Grammars.{to_old, to_now}
use Rattle.pks_laws_version1.proofs.files.forms_are_of_the_first_grammar.Goals as goal

pub returns : goal.returns
returns c = λ s f. (to_old s f, to_now s f)
