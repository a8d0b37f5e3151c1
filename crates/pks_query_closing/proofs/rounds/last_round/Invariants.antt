use Rattle.std.proofs.Common.{◌≡◌, ◌-◌, ◌^◌, ℕ, length}
use Rattle.pks_terms.specs.Closure.{rounds}
use Rattle.pks_terms.specs.Views.{signature_of}
use Rattle.pks_query_lookup.specs.Fives.{five_of}
use Rattle.pks_query_closing.proofs.rounds.last_round.Given as goal

abbrev pub invariant-rounds : goal.invariant-rounds
invariant-rounds l = (n : ℕ) × (five_of l.d ≡ rounds (signature_of l.s) n (five_of l.fn.five))

abbrev pub decreases-rounds : goal.decreases-rounds
decreases-rounds l = 2 ^ 64 - length l.d.kf
