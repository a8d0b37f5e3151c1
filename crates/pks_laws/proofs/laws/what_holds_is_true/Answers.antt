use Rattle.pks_laws.proofs.Holding.{holds_true}
use Rattle.pks_laws.proofs.laws.what_holds_is_true.Goals as goal

pub returns : goal.returns
returns c = λ s w d l m h. holds_true w d m l h
