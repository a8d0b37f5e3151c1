use Rattle.pks_laws_forget.proofs.Fewer.{best_without, best_back}
use Rattle.pks_laws_forget.proofs.laws_of_looks.best_plans_stay_without_aims_met_for_good.Goals as goal

pub returns : goal.returns
returns c = λ p d n o inhabited closes. (best_without p inhabited d closes n o, best_back p inhabited d closes n o)
