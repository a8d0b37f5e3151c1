use Rattle.std.proofs.Common.{◌≡◌, drop}
use Rattle.std.specs.List.{list_any}
use Rattle.pks_terms.specs.Sets.{with_later}
use Rattle.pks_terms.specs.Views.{pattern_of}
use Rattle.pks_proof.specs.Doings.{effects_at, before_in, moment_in}
use Rattle.pks_proof.specs.Acts.{clears}
use Rattle.pks_proof.proofs.region.some_clears.Given as goal

abbrev pub invariant-loop-i : goal.invariant-loop-i
invariant-loop-i l =
    list_any (clears (before_in l.d) (moment_in l.d) (pattern_of l.y)) (with_later (effects_at l.d.instance.now (drop l.i l.effects)))
    ≡ list_any (clears (before_in l.d) (moment_in l.d) (pattern_of l.y)) (with_later (effects_at l.d.instance.now l.effects))
