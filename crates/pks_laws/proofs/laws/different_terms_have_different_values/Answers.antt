use Rattle.pks_laws.proofs.Holding.{differ_true}
use Rattle.pks_laws.proofs.laws.different_terms_have_different_values.Goals as goal

pub returns : goal.returns
returns c = λ s w d t u m h. differ_true w m.world d.kf m.known t u h
