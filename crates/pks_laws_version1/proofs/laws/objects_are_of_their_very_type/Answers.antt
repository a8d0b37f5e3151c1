use Rattle.pks_laws_version1.proofs.Rounds.{objects_same}
use Rattle.pks_laws_version1.proofs.laws.objects_are_of_their_very_type.Goals as goal

pub returns : goal.returns
returns c = λ p wanted f. objects_same p.signature f.parents wanted
