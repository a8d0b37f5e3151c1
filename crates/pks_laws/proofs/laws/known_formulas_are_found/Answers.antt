use Rattle.pks_laws.proofs.NormalMembers.{closed_member}
use Rattle.pks_laws.proofs.laws.known_formulas_are_found.Goals as goal

pub returns : goal.returns
returns c = λ s d c inhabited closed. closed_member s inhabited d closed c
