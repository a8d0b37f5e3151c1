use Rattle.pks_laws.proofs.BelongingSteps.{side_of}
use Rattle.pks_laws.proofs.laws.sides_keep_signature.Goals as goal

pub returns : goal.returns
returns c = λ s d e c side inhabited m member has assumes. side_of s inhabited d e c side m member has assumes
