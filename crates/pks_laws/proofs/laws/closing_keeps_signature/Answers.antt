use Rattle.pks_laws.proofs.Belonging.{closed_of}
use Rattle.pks_laws.proofs.laws.closing_keeps_signature.Goals as goal

pub returns : goal.returns
returns c = λ s d e inhabited m c. closed_of s inhabited d e c m
