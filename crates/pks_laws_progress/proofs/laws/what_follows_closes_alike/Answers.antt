use Rattle.pks_laws_progress.proofs.Following.{closes_alike}
use Rattle.pks_laws_progress.proofs.laws.what_follows_closes_alike.Goals as goal

pub returns : goal.returns
returns c = λ s d a e n inhabited ordered put follows reached last fine. closes_alike s inhabited d a e n ordered put follows reached last fine
