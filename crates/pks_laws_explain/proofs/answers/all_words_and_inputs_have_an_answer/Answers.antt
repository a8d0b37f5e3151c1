use Rattle.pks_laws_explain.proofs.Answered.{answered}
use Rattle.pks_laws_explain.proofs.answers.all_words_and_inputs_have_an_answer.Goals as goal

pub returns : goal.returns
returns c = λ words input. answered words input
