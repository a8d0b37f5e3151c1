use Rattle.pks_laws.proofs.SearchStates.{last_of_it}
use Rattle.pks_laws.proofs.laws.last_moments_are_of_signature.Goals as goal

pub returns : goal.returns
returns c = λ p h v m. last_of_it p v h m
