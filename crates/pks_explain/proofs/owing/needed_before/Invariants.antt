use Rattle.std.proofs.Common.{◌≡◌, ◌++◌, map, drop}
use Rattle.std.specs.List.{filter_map}
use Rattle.pks_terms.specs.Actions.{query_at}
use Rattle.pks_terms.specs.Explained.{literal_needed, needed_before}
use Rattle.pks_terms.specs.Views.{literals_in, query_of, given_of, instance_of, problem_of}
use Rattle.pks_explain.proofs.owing.needed_before.Given as goal

abbrev pub invariant-loop-q : goal.invariant-loop-q
invariant-loop-q l = literals_in l.literals.items ++ filter_map (λ q. literal_needed (query_at (given_of l.i) q)) (map query_of (drop l.q-index l.q-items)) ≡ needed_before (problem_of l.p) (instance_of l.i)
