use Rattle.pks_search.proofs.Unasked.{later_twins}
use Rattle.pks_search.proofs.laws.later_moments_keep_twins.Goals as goal

pub returns : goal.returns
returns c = λ p before i h w w' stay m. later_twins p before i h w w' stay m
