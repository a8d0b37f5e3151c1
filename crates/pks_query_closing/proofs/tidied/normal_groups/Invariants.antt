use Rattle.std.proofs.Common.{◌≡◌, ◌++◌, map}
use Rattle.pks_terms.specs.Closure.{normal_group}
use Rattle.pks_kf.specs.Known.{literals_of}
use Rattle.pks_kx.specs.Groups.{groups_of}
use Rattle.pks_query_closing.proofs.tidied.normal_groups.Given as goal

abbrev pub invariant-loop-g : goal.invariant-loop-g
invariant-loop-g l = groups_of l.all.items ++ map (normal_group (literals_of l.d.kf)) (groups_of l.g-iterator) ≡ map (normal_group (literals_of l.d.kf)) (groups_of l.d.kx)
