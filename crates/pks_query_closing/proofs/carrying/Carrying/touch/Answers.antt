use Rattle.std.proofs.Common.{refl}
use Rattle.pks_query_closing.proofs.ByValue.{lists_nothing}
use Rattle.pks_query_closing.proofs.carrying.Carrying.touch.Goals as goal

pub returns : goal.returns
returns c = lists_nothing _ _ refl refl refl
