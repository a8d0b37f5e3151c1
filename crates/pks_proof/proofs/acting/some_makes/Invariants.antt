use Rattle.std.proofs.Common.{◌≡◌, drop}
use Rattle.std.specs.List.{list_any}
use Rattle.pks_terms.specs.Sets.{with_later}
use Rattle.pks_terms.specs.Views.{target_of}
use Rattle.pks_proof.specs.Doings.{effects_at, effects_by, before_in, moment_in}
use Rattle.pks_proof.specs.Acts.{makes}
use Rattle.pks_proof.proofs.acting.some_makes.Given as goal

abbrev pub invariant-loop-i : goal.invariant-loop-i
invariant-loop-i l =
    list_any (makes (before_in l.d) (moment_in l.d) (effects_by l.d) (target_of l.x)) (with_later (effects_at l.d.instance.now (drop l.i l.effects)))
    ≡ list_any (makes (before_in l.d) (moment_in l.d) (effects_by l.d) (target_of l.x)) (with_later (effects_at l.d.instance.now l.effects))
