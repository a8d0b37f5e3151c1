use Rattle.pks_laws.proofs.TreesOf.{left_is_side}
use Rattle.pks_laws.proofs.laws.objects_left_are_sides.Goals as goal

pub returns : goal.returns
returns c = λ s d x e i. left_is_side s d x e i
