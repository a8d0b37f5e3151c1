use Rattle.std.proofs.Common.{refl}
use Rattle.pks_terms.specs.Orders.{literal, literal_cmp, literal_eq, term_cmp, term_eq}
use Rattle.pks_terms.specs.Databases.{normal}
use Rattle.pks_terms.specs.Actions.{literal_at}
use Rattle.pks_laws_forget.proofs.laws.going_and_tidying_hide_nothing.Goals as goal

pub returns : goal.returns
unfolding literal literal_at literal_cmp literal_eq normal term_cmp term_eq
returns c = (refl, refl, refl)
