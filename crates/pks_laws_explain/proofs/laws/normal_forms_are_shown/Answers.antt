use Rattle.pks_laws_explain.proofs.Tidied.{tidied_shown}
use Rattle.pks_laws_explain.proofs.laws.normal_forms_are_shown.Goals as goal

pub returns : goal.returns
returns c = λ p path m d within s. tidied_shown p path m within d s
