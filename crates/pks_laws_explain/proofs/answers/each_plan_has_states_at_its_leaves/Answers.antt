use Rattle.pks_laws_explain.proofs.Leaves.{recalled}
use Rattle.pks_laws_explain.proofs.answers.each_plan_has_states_at_its_leaves.Goals as goal

pub returns : goal.returns
returns c = λ p t plan. recalled p t plan
