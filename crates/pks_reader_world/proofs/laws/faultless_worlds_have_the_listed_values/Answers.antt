use Rattle.pks_reader_world.proofs.Once.{values_hold}
use Rattle.pks_reader_world.proofs.laws.faultless_worlds_have_the_listed_values.Goals as goal

pub returns : goal.returns
returns c = λ s fs e. values_hold s fs e
