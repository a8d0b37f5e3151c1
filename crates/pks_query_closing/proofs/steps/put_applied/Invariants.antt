use Rattle.std.proofs.Common.{◌≡◌, ◌++◌, map, take, slice_set}
use Rattle.pks_terms.specs.Syntax.{Apply}
use Rattle.pks_terms.specs.Views.{inner_of, term_of}
use Rattle.pks_query_lookup.specs.Reading.{first_inners}
use Rattle.pks_query_closing.proofs.steps.put_applied.Given as goal

abbrev pub invariant-loop-t : goal.invariant-loop-t
invariant-loop-t l =
    map term_of l.to.items ≡ map term_of l.fn.to.items ++ map (Apply l.fun.0) (map (slice_set (first_inners l.n l.args) l.i) (map inner_of (take l.t-index l.steps)))
