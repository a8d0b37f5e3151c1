use Rattle.std.proofs.Common.{◌≡◌, drop}
use Rattle.pks_terms.specs.Views.{literal_of, target_of}
use Rattle.pks_proof.specs.Doings.{effects_at, effects_by, before_in, moment_in}
use Rattle.pks_proof.specs.Acts.{needed_from}
use Rattle.pks_proof.proofs.acting.some_needs.Given as goal

abbrev pub invariant-loop-i : goal.invariant-loop-i
invariant-loop-i l =
    needed_from (before_in l.d) (moment_in l.d) (effects_by l.d) (literal_of l.l) (target_of l.x) l.passed (effects_at l.d.instance.now (drop l.i l.effects))
    ≡ needed_from (before_in l.d) (moment_in l.d) (effects_by l.d) (literal_of l.l) (target_of l.x) l.others (effects_at l.d.instance.now l.effects)
