use Rattle.std.proofs.Common.{◌≡◌, ◌++◌, map, take, drop}
use Rattle.pks_terms.specs.Sets.{Each}
use Rattle.pks_terms.specs.Views.{arguments_in, literal_of, places_of}
use Rattle.pks_query_closing.specs.Reading.{with_arguments}
use Rattle.pks_query_closing.proofs.steps.put_with.Given as goal

abbrev pub invariant-loop-a : goal.invariant-loop-a
invariant-loop-a l = record {
  same : Each (λ a. a.n ≡ places_of l.l.atom) (drop l.a-index l.all);
  put : map literal_of l.to.items ≡ map literal_of l.fn.to.items ++ map (with_arguments (literal_of l.l)) (map arguments_in (take l.a-index l.all));
}
