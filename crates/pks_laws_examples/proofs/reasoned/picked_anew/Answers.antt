use Rattle.std.proofs.Common.{refl}
use Rattle.pks_terms.specs.Orders.{term_cmp, term_eq, literal_cmp, literal_eq, literal}
use Rattle.pks_terms.specs.Signatures.{fits_type, objects_of}
use Rattle.pks_terms.specs.Actions.{literal_at}
use Rattle.pks_terms.specs.Problems.{initial}
use Rattle.pks_terms.specs.Accepting.{accepts}
use Rattle.pks_laws_examples.proofs.reasoned.picked_anew.Goals as goal

pub returns : goal.returns
unfolding accepts literal_eq literal_cmp term_cmp term_eq literal initial literal_at objects_of fits_type
returns c = (refl, refl, refl)
