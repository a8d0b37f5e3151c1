use Rattle.pks_laws_explain.proofs.Answered.{has_answer}
use Rattle.pks_laws_explain.proofs.answers.each_job_has_an_answer.Goals as goal

pub returns : goal.returns
returns c = λ job input. has_answer job input
