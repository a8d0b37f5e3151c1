use Rattle.std.proofs.Common.{◌≡◌, ◌++◌, map, flat_map}
use Rattle.pks_terms.specs.Closure.{by_range}
use Rattle.pks_terms.specs.Views.{literal_of, terms_of, signature_of}
use Rattle.pks_query_lookup.specs.Fives.{five_of}
use Rattle.pks_query_closing.proofs.ranges.put_each.Given as goal

abbrev pub invariant-loop-t : goal.invariant-loop-t
invariant-loop-t l =
    map literal_of l.to.items ++ flat_map (by_range (signature_of l.s) (five_of l.d)) (terms_of l.t-iterator)
    ≡ map literal_of l.fn.to.items ++ flat_map (by_range (signature_of l.s) (five_of l.d)) (terms_of l.set)
