use Rattle.std.proofs.Common.{length}
use Rattle.pks_postdict.proofs.settling.+with_links.Given as goal

abbrev pub decreases-with_links : goal.decreases-with_links
decreases-with_links l = length l.later.now
