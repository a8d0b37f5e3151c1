use Rattle.std.proofs.Common.{◌≡◌, ◌++◌, map, filter, take}
use Rattle.pks_terms.specs.Closure.{is_last_left}
use Rattle.pks_terms.specs.Views.{object_of, term_of, literal_of, signature_of}
use Rattle.pks_query_lookup.specs.Fives.{five_of}
use Rattle.pks_query_closing.specs.Reading.{value_is}
use Rattle.pks_query_closing.proofs.ranges.put_last.Given as goal

abbrev pub invariant-loop-e : goal.invariant-loop-e
invariant-loop-e l =
    map literal_of l.to.items ≡ map literal_of l.fn.to.items ++ map (value_is (term_of l.t)) (filter (is_last_left (signature_of l.s) (five_of l.d) (term_of l.t) (map object_of l.objects)) (map object_of (take l.e-index l.objects)))
