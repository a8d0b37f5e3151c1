use Rattle.pks_laws.proofs.NormalMembers.{closed_known}
use Rattle.pks_laws.proofs.laws.known_literals_are_found.Goals as goal

pub returns : goal.returns
returns c = λ s d l inhabited closed ordered. closed_known s inhabited d closed ordered l
