use Rattle.pks_laws.proofs.SearchStates.{takes_of}
use Rattle.pks_laws.proofs.laws.taking_sides_keeps_histories_of_signature.Goals as goal

pub returns : goal.returns
returns c = λ p h g c side v m member has takes. takes_of p v h g c side m member has takes
