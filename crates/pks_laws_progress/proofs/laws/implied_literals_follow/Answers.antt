use Rattle.pks_laws_progress.proofs.Following.{put_implied}
use Rattle.pks_laws_progress.proofs.laws.implied_literals_follow.Goals as goal

pub returns : goal.returns
returns c = λ s d a l follows implied. put_implied s d a l follows implied
