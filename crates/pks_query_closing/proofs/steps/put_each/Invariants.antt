use Rattle.std.proofs.Common.{◌≡◌, ◌++◌, map, take, slice_set}
use Rattle.pks_terms.specs.Sets.{Each}
use Rattle.pks_terms.specs.Views.{arguments_in, term_of}
use Rattle.pks_query_closing.proofs.steps.put_each.Given as goal

abbrev pub invariant-loop-t : goal.invariant-loop-t
invariant-loop-t l = record {
  same : Each (λ a. a.n ≡ l.n) l.fn.to.items → Each (λ a. a.n ≡ l.n) l.to.items;
  terms : map arguments_in l.to.items ≡ map arguments_in l.fn.to.items ++ map (slice_set (map term_of (take l.n l.items)) l.i) (map term_of (take l.t-index l.steps));
}
