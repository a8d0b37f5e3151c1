use Rattle.pks_run_answer.proofs.OneReply.{told_reply}
use Rattle.pks_run_answer.proofs.laws.what_is_told_was_so.Goals as goal

pub returns : goal.returns
returns c = λ j f text valid a. told_reply j f text valid a
