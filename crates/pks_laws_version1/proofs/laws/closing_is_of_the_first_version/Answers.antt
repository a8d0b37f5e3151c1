use Rattle.pks_laws_version1.proofs.Rounds.{closes_first, closes_from_first}
use Rattle.pks_laws_version1.proofs.laws.closing_is_of_the_first_version.Goals as goal

pub returns : goal.returns
returns c = λ p d o f m. (closes_first p.signature f.parents d o m, closes_from_first p.signature f.parents d o m)
