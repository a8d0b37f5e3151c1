use Rattle.std.proofs.Common.{◌≡◌, drop}
use Rattle.pks_terms.specs.Reasons.{are_barred}
use Rattle.pks_proof.specs.Doings.{would_of, effects_at, before_in, moment_in}
use Rattle.pks_proof.proofs.barring.are_barred.Given as goal

abbrev pub invariant-loop-e : goal.invariant-loop-e
invariant-loop-e l =
    are_barred (before_in l.d) (moment_in l.d) (would_of (before_in l.d) (moment_in l.d) l.doing) (effects_at l.d.instance.now (drop l.e-index l.effects))
    ≡ are_barred (before_in l.d) (moment_in l.d) (would_of (before_in l.d) (moment_in l.d) l.doing) (effects_at l.d.instance.now l.effects)
