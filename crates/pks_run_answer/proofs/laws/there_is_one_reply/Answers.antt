use Rattle.pks_run_answer.proofs.OneReply.{one_reply}
use Rattle.pks_run_answer.proofs.laws.there_is_one_reply.Goals as goal

pub returns : goal.returns
returns c = λ j f v u x y a b. one_reply j f v u x y a b
