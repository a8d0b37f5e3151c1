use Rattle.pks_run_answer.proofs.OneReply.{good_reply}
use Rattle.pks_run_answer.proofs.laws.done_plans_are_good.Goals as goal

pub returns : goal.returns
returns c = λ j f x valid a. good_reply j f x valid a
