use Rattle.pks_laws_reader.proofs.Signed.{within_shapes}
use Rattle.pks_laws_reader.proofs.laws.shapes_stay_small_within_actions.Goals as goal

pub returns : goal.returns
returns c = λ s fs shapes. within_shapes s fs shapes
