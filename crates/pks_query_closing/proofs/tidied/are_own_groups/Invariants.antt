use Rattle.std.proofs.Common.{◌≡◌}
use Rattle.std.specs.List.{list_all}
use Rattle.pks_kf.specs.Known.{literals_of}
use Rattle.pks_kx.specs.Groups.{groups_of}
use Rattle.pks_query_closing.specs.Own.{is_own_group}
use Rattle.pks_query_closing.proofs.tidied.are_own_groups.Given as goal

abbrev pub invariant-loop-g : goal.invariant-loop-g
invariant-loop-g l = list_all (is_own_group (literals_of l.d.kf)) (groups_of l.g-iterator) ≡ list_all (is_own_group (literals_of l.d.kf)) (groups_of l.d.kx)
