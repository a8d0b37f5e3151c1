use Rattle.std.proofs.Common.{◌≡◌, ◌++◌, map, filter, take}
use Rattle.pks_terms.specs.Closure.{is_application}
use Rattle.pks_terms.specs.Views.{inner_of, terms_of}
use Rattle.pks_query_closing.specs.Reading.{argument_term}
use Rattle.pks_query_closing.proofs.ranges.put_inners.Given as goal

abbrev pub invariant-loop-t : goal.invariant-loop-t
invariant-loop-t l =
    terms_of l.to.items ≡ terms_of l.fn.to.items ++ filter is_application (map argument_term (map inner_of (take l.t-index l.args)))
