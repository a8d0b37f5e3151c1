use Rattle.std.proofs.Common.{◌≡◌, ◌++◌, map, flat_map}
use Rattle.pks_terms.specs.Closure.{by_group, by_member}
use Rattle.pks_terms.specs.Views.{literal_of, signature_of}
use Rattle.pks_query_closing.specs.Reading.{others_from}
use Rattle.pks_query_lookup.specs.Fives.{five_of}
use Rattle.pks_query_closing.proofs.groups.put_by_group.Given as goal

abbrev pub invariant-loop-i : goal.invariant-loop-i
invariant-loop-i l =
    map literal_of l.to.items ++ flat_map (by_member (signature_of l.s) (five_of l.d)) (others_from l.i (map literal_of l.g))
    ≡ map literal_of l.fn.to.items ++ by_group (signature_of l.s) (five_of l.d) (map literal_of l.g)
