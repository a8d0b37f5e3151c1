use Rattle.pks_laws_progress.proofs.Keeping.{lasting_closed}
use Rattle.pks_laws_progress.proofs.laws.what_actions_keep_is_closed.Goals as goal

pub returns : goal.returns
returns c = λ s d k es inhabited closed ordered known groups regions. lasting_closed s d k es inhabited closed ordered known groups regions
