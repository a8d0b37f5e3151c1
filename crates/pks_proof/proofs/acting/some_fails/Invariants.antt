use Rattle.std.proofs.Common.{◌≡◌, drop}
use Rattle.std.specs.List.{list_any}
use Rattle.pks_terms.specs.Sets.{with_later}
use Rattle.pks_terms.specs.Views.{literal_of, target_of}
use Rattle.pks_proof.specs.Doings.{effects_at, effects_by, before_in, moment_in}
use Rattle.pks_proof.specs.Acts.{fails}
use Rattle.pks_proof.proofs.acting.some_fails.Given as goal

abbrev pub invariant-loop-i : goal.invariant-loop-i
invariant-loop-i l =
    list_any (fails (before_in l.d) (moment_in l.d) (effects_by l.d) (literal_of l.l) (target_of l.x)) (with_later (effects_at l.d.instance.now (drop l.i l.effects)))
    ≡ list_any (fails (before_in l.d) (moment_in l.d) (effects_by l.d) (literal_of l.l) (target_of l.x)) (with_later (effects_at l.d.instance.now l.effects))
