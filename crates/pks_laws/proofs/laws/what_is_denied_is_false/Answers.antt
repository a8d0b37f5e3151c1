use Rattle.pks_laws.proofs.Holding.{denied_false}
use Rattle.pks_laws.proofs.laws.what_is_denied_is_false.Goals as goal

pub returns : goal.returns
returns c = λ s w d l m h. denied_false w d m l h
