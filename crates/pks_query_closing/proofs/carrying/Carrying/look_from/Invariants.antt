use Rattle.std.proofs.Common.{◌-◌, ◌^◌}
use Rattle.pks_terms.specs.Views.{signature_of}
use Rattle.pks_query_closing.specs.Carrying.{GoesOn}
use Rattle.pks_query_closing.proofs.carrying.Carrying.look_from.Given as goal

abbrev pub invariant-loop-k : goal.invariant-loop-k
invariant-loop-k l = GoesOn (signature_of l.s) l.fn.self l.self

abbrev pub decreases-loop-k : goal.decreases-loop-k
decreases-loop-k l = 2 ^ 64 - l.k
