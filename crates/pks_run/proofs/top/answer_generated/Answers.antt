use Rattle.std.proofs.Common.{◌≤◌, ◌∙◌, ℕ, List, length, sym, subst}
use Rattle.pks_run.proofs.Generating.{generated_fits}
use Rattle.pks_run.proofs.top.answer_generated.Goals as goal

pub answer-requires-clause-short : goal.answer-requires-clause-short
answer-requires-clause-short c = subst (λ (t : List ℕ). length t ≤ 262144) (sym (c.deref.ensures.value ∙ c.in_ok-file.ensures)) (generated_fits c.args.n c.requires.most)

pub returns : goal.returns
returns c = λ input. c.in_ok-replied.ensures input (sym (c.deref.ensures.value ∙ c.in_ok-file.ensures))
