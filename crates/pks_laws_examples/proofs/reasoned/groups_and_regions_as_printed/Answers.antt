use Rattle.std.proofs.Common.{refl}
use Rattle.pks_terms.specs.Explained.{known_fact_text}
use Rattle.pks_terms.specs.Printed.{term_text, literal_text, pattern_text}
use Rattle.pks_laws_examples.proofs.reasoned.groups_and_regions_as_printed.Goals as goal

pub returns : goal.returns
unfolding known_fact_text literal_text pattern_text term_text
returns c = (refl, refl)
