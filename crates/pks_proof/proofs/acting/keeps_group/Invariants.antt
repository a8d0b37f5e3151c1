use Rattle.std.proofs.Common.{◌≡◌, drop}
use Rattle.pks_terms.specs.Views.{literals_in}
use Rattle.pks_terms.specs.Reasons.{keeps_group}
use Rattle.pks_proof.specs.Doings.{effects_by, before_in, moment_in}
use Rattle.pks_proof.proofs.acting.keeps_group.Given as goal

abbrev pub invariant-loop-l : goal.invariant-loop-l
invariant-loop-l l =
    keeps_group (before_in l.d) (moment_in l.d) (effects_by l.d) (literals_in (drop l.l-index l.g))
    ≡ keeps_group (before_in l.d) (moment_in l.d) (effects_by l.d) (literals_in l.g)
