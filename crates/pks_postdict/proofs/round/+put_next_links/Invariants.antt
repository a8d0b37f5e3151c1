use Rattle.std.proofs.Common.{length}
use Rattle.pks_postdict.proofs.round.+put_next_links.Given as goal

abbrev pub decreases-put_next_links : goal.decreases-put_next_links
decreases-put_next_links l = length l.later.now
