use Rattle.std.proofs.Common.{refl}
use Rattle.pks_terms.specs.Explained.{known_fact_text, reason_text, cites_text, proof_line_text, entry_text, explained_text}
use Rattle.pks_terms.specs.Printed.{literal_text}
use Rattle.pks_laws_examples.proofs.reasoned.poison_as_printed.Goals as goal

pub returns : goal.returns
unfolding explained_text entry_text proof_line_text known_fact_text reason_text cites_text literal_text Rattle.std.specs.Fmt.digits
returns c = refl
