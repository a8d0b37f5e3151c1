use Rattle.pks_laws.proofs.Changing.{makes_false_may}
use Rattle.pks_laws.proofs.laws.atoms_made_false_may_be_made_false.Goals as goal

pub returns : goal.returns
returns c = λ s w d p ts x m h. makes_false_may w d m p ts x h
