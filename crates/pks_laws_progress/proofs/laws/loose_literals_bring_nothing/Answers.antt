use Rattle.pks_laws_progress.proofs.Loose.{loose_closed}
use Rattle.pks_laws_progress.proofs.laws.loose_literals_bring_nothing.Goals as goal

pub returns : goal.returns
returns c = λ s k e ls inhabited saturated fine ordered known groups regions nothing undenied. loose_closed s k e ls inhabited saturated fine ordered known groups regions nothing undenied
