use Rattle.std.proofs.Common.{length}
use Rattle.pks_query_lookup.proofs.derived.Derived.+fits.Given as goal

abbrev pub decreases-fits : goal.decreases-fits
decreases-fits l = length l.slots.now
