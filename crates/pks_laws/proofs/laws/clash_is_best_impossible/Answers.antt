use Rattle.pks_laws.proofs.Choosing.{best_stopped}
use Rattle.pks_laws.proofs.laws.clash_is_best_impossible.Goals as goal

pub returns : goal.returns
returns c = λ p n. best_stopped p n
