use Rattle.std.proofs.Common.{◌++◌, ◌≡◌, drop, map}
use Rattle.pks_terms.specs.Views.{given_of, literals_in, query_of}
use Rattle.pks_search_distance.specs.Relaxed.{asked_at}
use Rattle.pks_search_distance.proofs.ground_actions.add_asked.Given as goal

abbrev pub invariant-loop-q : goal.invariant-loop-q
invariant-loop-q l = literals_in l.to.items ++ asked_at (given_of l.i) (map query_of (drop l.q-index l.pre)) ≡ literals_in l.fn.to.items ++ asked_at (given_of l.i) (map query_of l.pre)
