use Rattle.pks_laws.proofs.OneTypeAlong.{closed_one_typed}
use Rattle.pks_laws.proofs.laws.closed_keep_one_type_at_first.Goals as goal

pub returns : goal.returns
returns c = λ p d e v first m c. closed_one_typed p.signature first.parents v.signature.values d e m c
