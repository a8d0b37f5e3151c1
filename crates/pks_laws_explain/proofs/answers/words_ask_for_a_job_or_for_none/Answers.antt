use Rattle.pks_laws_explain.proofs.Asked.{asked}
use Rattle.pks_laws_explain.proofs.answers.words_ask_for_a_job_or_for_none.Goals as goal

pub returns : goal.returns
returns c = λ words. asked words
