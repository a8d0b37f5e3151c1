use Rattle.pks_laws.proofs.Versions.{rounds_typed}
use Rattle.pks_laws.proofs.laws.closing_keeps_one_type_at_first.Goals as goal

pub returns : goal.returns
returns c = λ p n d v typed groups. rounds_typed p.signature v.parents n d typed groups
