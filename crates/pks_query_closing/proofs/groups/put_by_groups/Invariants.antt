use Rattle.std.proofs.Common.{◌≡◌, ◌++◌, map, flat_map}
use Rattle.pks_terms.specs.Closure.{by_group}
use Rattle.pks_terms.specs.Views.{literal_of, signature_of}
use Rattle.pks_kx.specs.Groups.{groups_of}
use Rattle.pks_query_lookup.specs.Fives.{five_of}
use Rattle.pks_query_closing.proofs.groups.put_by_groups.Given as goal

abbrev pub invariant-loop-g : goal.invariant-loop-g
invariant-loop-g l =
    map literal_of l.to.items ++ flat_map (by_group (signature_of l.s) (five_of l.d)) (groups_of l.g-iterator)
    ≡ map literal_of l.fn.to.items ++ flat_map (by_group (signature_of l.s) (five_of l.d)) (groups_of l.d.kx)
