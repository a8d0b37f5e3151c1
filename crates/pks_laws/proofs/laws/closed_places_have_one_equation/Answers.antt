use Rattle.pks_laws.proofs.NormalMembers.{closed_one_value, one_value_alone}
use Rattle.pks_laws.proofs.laws.closed_places_have_one_equation.Goals as goal

pub returns : goal.returns
returns c = λ s d f ds inhabited closed ordered. one_value_alone d.kf ordered (closed_one_value s inhabited d closed) f ds
