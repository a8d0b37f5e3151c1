use Rattle.pks_laws.proofs.Least.{rounds_within}
use Rattle.pks_laws.proofs.laws.closing_is_least.Goals as goal

pub returns : goal.returns
returns c = λ s big d n inhabited saturated fine within groups regions. rounds_within s big inhabited saturated fine n d within groups regions
