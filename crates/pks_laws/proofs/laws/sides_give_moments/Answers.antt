use Rattle.pks_laws.proofs.SearchStates.{side_moment}
use Rattle.pks_laws.proofs.laws.sides_give_moments.Goals as goal

pub returns : goal.returns
returns c = λ s d e c side inhabited m member has assumes. side_moment s inhabited d e c side m member has assumes
