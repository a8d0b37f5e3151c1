use Rattle.pks_laws.proofs.NormalMembers.{closed_one_value}
use Rattle.pks_laws.proofs.laws.closed_places_have_one_value.Goals as goal

pub returns : goal.returns
returns c = λ s d f ds a b inhabited closed i j. closed_one_value s inhabited d closed f ds a b i j
