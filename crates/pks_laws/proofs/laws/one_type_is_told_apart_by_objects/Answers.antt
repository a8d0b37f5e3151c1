use Rattle.pks_laws.proofs.Versions.{first_differ}
use Rattle.pks_laws.proofs.laws.one_type_is_told_apart_by_objects.Goals as goal

pub returns : goal.returns
returns c = λ s kf t u a typed p q. first_differ s kf typed t u a p q
