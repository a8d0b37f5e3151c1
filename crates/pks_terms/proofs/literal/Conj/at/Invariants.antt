use Rattle.std.proofs.Common.{◌≡◌, ◌≤◌, map, drop}
use Rattle.pks_terms.specs.Sets.{added}
use Rattle.pks_terms.specs.Orders.{literal_cmp}
use Rattle.pks_terms.specs.Actions.{literal_at, conj_at}
use Rattle.pks_terms.specs.Counts.{ConjCounts, InstanceCounts}
use Rattle.pks_terms.specs.Views.{given_of, conj_of, literal_of}
use Rattle.pks_terms.proofs.literal.Conj.at.Given as goal

abbrev pub invariant-loop-k : goal.invariant-loop-k
invariant-loop-k l = record {
  count : l.all.n ≤ l.k;
  counts : ConjCounts l.self → InstanceCounts l.i → ConjCounts l.all;
  all : added literal_cmp (conj_of l.all) (map (literal_at (given_of l.i)) (map literal_of (drop l.k l.literals))) ≡ conj_at (given_of l.i) (conj_of l.self);
}
