use Rattle.pks_laws.proofs.Changing.{makes_true_may}
use Rattle.pks_laws.proofs.laws.atoms_made_true_may_be_made_true.Goals as goal

pub returns : goal.returns
returns c = λ s w d p ts x m h. makes_true_may w d m p ts x h
