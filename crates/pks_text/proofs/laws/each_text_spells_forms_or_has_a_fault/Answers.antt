use Rattle.pks_text.proofs.Turning.{text_turns}
use Rattle.pks_text.proofs.laws.each_text_spells_forms_or_has_a_fault.Goals as goal

pub returns : goal.returns
returns c = λ text. text_turns text
