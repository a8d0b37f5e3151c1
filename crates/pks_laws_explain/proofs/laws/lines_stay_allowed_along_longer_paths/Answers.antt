use Rattle.pks_laws_explain.proofs.Longer.{lines_still_allowed}
use Rattle.pks_laws_explain.proofs.laws.lines_stay_allowed_along_longer_paths.Goals as goal

pub returns : goal.returns
returns c = λ p path more proof h. lines_still_allowed p path more proof h
