use Rattle.pks_laws.proofs.Belonging.{closed_values}
use Rattle.pks_laws.proofs.BelongingSteps.{action_of}
use Rattle.pks_laws.proofs.laws.actions_keep_signature.Goals as goal

pub returns : goal.returns
returns c = λ p d e i v m closed fit progress. action_of p v d e i m (closed_values p.signature v.signature.values closed.from d closed.closes) fit progress
