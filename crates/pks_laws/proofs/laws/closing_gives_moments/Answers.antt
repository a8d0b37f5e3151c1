use Rattle.pks_laws.proofs.SearchStates.{closed_moment}
use Rattle.pks_laws.proofs.laws.closing_gives_moments.Goals as goal

pub returns : goal.returns
returns c = λ s d e inhabited m ordered c. closed_moment s inhabited d e m ordered c
