use Rattle.pks_laws_forget.proofs.Tested.{tested}
use Rattle.pks_laws_forget.proofs.laws.tested_steps_hide_nothing.Goals as goal

pub returns : goal.returns
returns c = λ p before i after passes. tested p before i after passes
