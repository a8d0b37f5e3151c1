use Rattle.std.proofs.Common.{refl}
use Rattle.pks_terms.specs.Orders.{literal}
use Rattle.pks_terms.specs.Actions.{literal_at}
use Rattle.pks_laws_examples.proofs.reasoned.second_tub_owes_three.Goals as goal

pub returns : goal.returns
unfolding literal_at literal
returns c = refl
