use Rattle.pks_laws_progress.proofs.ClosingEnds.{closing_ends}
use Rattle.pks_laws_progress.proofs.laws.closing_comes_to_an_end.Goals as goal

pub returns : goal.returns
returns c = λ s d ordered. closing_ends s d ordered
