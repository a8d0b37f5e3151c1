use Rattle.pks_laws_forget.proofs.TestedLooks.{unlooked_without}
use Rattle.pks_laws_forget.proofs.laws_of_looks.tested_looks_are_left_out.Goals as goal

pub returns : goal.returns
returns c = λ p h sets. unlooked_without p h.start h.steps sets.start sets.steps
