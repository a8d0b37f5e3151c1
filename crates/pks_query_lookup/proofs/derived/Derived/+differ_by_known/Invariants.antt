use Rattle.std.proofs.Common.{length}
use Rattle.pks_query_lookup.proofs.derived.Derived.+differ_by_known.Given as goal

abbrev pub decreases-differ_by_known : goal.decreases-differ_by_known
decreases-differ_by_known l = length l.ts.now
