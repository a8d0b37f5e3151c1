use Rattle.pks_laws.proofs.Versions.{first_fits}
use Rattle.pks_laws.proofs.laws.types_fit_alone_at_first.Goals as goal

pub returns : goal.returns
returns c = λ p own wanted v. first_fits p v own wanted
