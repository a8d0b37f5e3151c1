use Rattle.pks_laws.proofs.Changing.{fires_may}
use Rattle.pks_laws.proofs.laws.effects_that_fire_may_fire.Goals as goal

pub returns : goal.returns
returns c = λ s w d e m h. fires_may w d m e h
