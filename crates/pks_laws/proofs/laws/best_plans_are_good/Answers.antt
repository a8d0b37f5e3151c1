use Rattle.pks_laws.proofs.Accepting.{best_good}
use Rattle.pks_laws.proofs.laws.best_plans_are_good.Goals as goal

pub returns : goal.returns
returns c = λ p n t w none v b k. best_good p n t w none v b k
