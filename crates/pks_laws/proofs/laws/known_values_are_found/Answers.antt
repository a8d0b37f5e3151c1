use Rattle.pks_laws.proofs.NormalMembers.{closed_value}
use Rattle.pks_laws.proofs.laws.known_values_are_found.Goals as goal

pub returns : goal.returns
returns c = λ s d t inhabited closed. closed_value s inhabited d closed t
