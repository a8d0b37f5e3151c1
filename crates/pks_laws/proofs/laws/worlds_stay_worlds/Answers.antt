use Rattle.pks_laws.proofs.Staying.{worlds_stay}
use Rattle.pks_laws.proofs.laws.worlds_stay_worlds.Goals as goal

pub returns : goal.returns
returns c = λ p w d i typed m chosen. worlds_stay p typed w d i m.world m chosen
