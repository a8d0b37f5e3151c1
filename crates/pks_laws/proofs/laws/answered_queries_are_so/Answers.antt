use Rattle.pks_laws.proofs.Answering.{answered_said}
use Rattle.pks_laws.proofs.laws.answered_queries_are_so.Goals as goal

pub returns : goal.returns
returns c = λ s w w' d q m not_denied h. answered_said w w' d m q not_denied h
