use Rattle.std.proofs.Common.{◌≡◌}
use Rattle.pks_kx.specs.Groups.{groups_of}
use Rattle.pks_laws_progress.specs.Loose.{is_in_no_group}
use Rattle.pks_progress.proofs.loose.is_in_no_group.Given as goal

abbrev pub invariant-loop-g : goal.invariant-loop-g
invariant-loop-g l = is_in_no_group (groups_of l.g-iterator) l.p.0 ≡ is_in_no_group (groups_of l.kx) l.p.0
