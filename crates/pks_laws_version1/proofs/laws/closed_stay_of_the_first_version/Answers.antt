use Rattle.pks_laws_version1.proofs.Rounds.{closed_first}
use Rattle.pks_laws_version1.proofs.laws.closed_stay_of_the_first_version.Goals as goal

pub returns : goal.returns
returns c = λ p d e v f m closes. closed_first p.signature f.parents v.signature.values d e m closes
