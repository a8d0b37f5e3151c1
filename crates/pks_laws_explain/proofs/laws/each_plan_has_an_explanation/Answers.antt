use Rattle.pks_laws_explain.proofs.Owed.{plan_explained}
use Rattle.pks_laws_explain.proofs.laws.each_plan_has_an_explanation.Goals as goal

pub returns : goal.returns
returns c = λ p t v all plan. plan_explained p t v all plan
