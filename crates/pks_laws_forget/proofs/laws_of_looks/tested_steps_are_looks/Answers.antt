use Rattle.pks_laws_forget.proofs.TestedLooks.{tested}
use Rattle.pks_laws_forget.proofs.laws_of_looks.tested_steps_are_looks.Goals as goal

pub returns : goal.returns
returns c = λ p before i after a b passes. tested p before i after a b passes
