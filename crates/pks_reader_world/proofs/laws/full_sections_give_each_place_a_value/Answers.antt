use Rattle.pks_reader_world.proofs.Covering.{full_covers, covers_full}
use Rattle.pks_reader_world.proofs.laws.full_sections_give_each_place_a_value.Goals as goal

pub returns : goal.returns
returns c = λ s given. (full_covers s given, covers_full s given)
