use Rattle.std.proofs.Common.{◌-◌, ◌^◌, length}
use Rattle.pks_terms.specs.Views.{signature_of}
use Rattle.pks_laws_progress.specs.Following.{Follows}
use Rattle.pks_query_lookup.specs.Fives.{five_of}
use Rattle.pks_query_closing.proofs.working.work_out.Given as goal

abbrev pub invariant-rounds : goal.invariant-rounds
invariant-rounds l = Follows (signature_of l.s) (five_of l.fn.five) (five_of l.d)

abbrev pub decreases-rounds : goal.decreases-rounds
decreases-rounds l = 2 ^ 64 - length l.d.kf
