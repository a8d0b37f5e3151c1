use Rattle.std.proofs.Common.{◌≡◌, drop}
use Rattle.pks_kf.specs.Known.{literals_of}
use Rattle.pks_kx.specs.Groups.{groups_of}
use Rattle.pks_laws_progress.specs.Loose.{bring_nothing}
use Rattle.pks_progress.proofs.loose.bring_nothing.Given as goal

abbrev pub invariant-loop-l : goal.invariant-loop-l
invariant-loop-l l = bring_nothing (literals_of l.kf) (groups_of l.kx) (literals_of (drop l.l-index l.literals)) ≡ bring_nothing (literals_of l.kf) (groups_of l.kx) (literals_of l.literals)
