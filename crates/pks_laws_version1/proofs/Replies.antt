-- What is read of a text of the first version.
use Rattle.std.proofs.Common.{sym, ap, subst}
use Rattle.pks_terms.specs.Printed.{Text}
use Rattle.pks_terms.specs.Problems.{Problem}
use Rattle.pks_terms.specs.Answers.{File}
use Rattle.pks_terms.specs.Valid.{IsValid}
use Rattle.pks_terms.specs.Versions.{IsFirstVersion}
use Rattle.pks_text.specs.Forms.{list_of}
use Rattle.pks_reader.specs.Inputs.{IsRead}
use Rattle.pks_laws_version1.specs.Texts.{IsOfFirstVersion}
use Rattle.pks_laws_version1.proofs.Old.{first_states}

pub first_read : (text : Text) → IsOfFirstVersion text → (f : File) → IsRead text f → IsValid f.problem × IsFirstVersion f.problem
first_read text first f r =
    subst (λ (p : Problem). IsValid p × IsFirstVersion p) (sym (ap (λ (g : File). g.problem) r.gives)) (first_states (list_of r.forms) r.problem r.named r.states (first r.forms r.spelled))
