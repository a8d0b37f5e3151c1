use Rattle.std.proofs.Common.{refl}
use Rattle.pks_terms.specs.Orders.{literal, literal_cmp, literal_eq, term_cmp, term_eq}
use Rattle.pks_terms.specs.Databases.{normal, normal_literal, told, values_at}
use Rattle.pks_terms.specs.Actions.{literal_at}
use Rattle.pks_laws_forget.proofs.laws.going_may_hide_something.Goals as goal

pub returns : goal.returns
unfolding literal literal_at literal_cmp literal_eq normal normal_literal term_cmp term_eq told values_at
returns c = (refl, refl)
