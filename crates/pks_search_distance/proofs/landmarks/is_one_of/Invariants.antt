use Rattle.std.proofs.Common.{◌≡◌, drop}
use Rattle.pks_terms.specs.Views.{literal_of, literals_in}
use Rattle.pks_search_distance.specs.Landmarks.{is_of_mark}
use Rattle.pks_search_distance.proofs.landmarks.is_one_of.Given as goal

abbrev pub invariant-loop-k : goal.invariant-loop-k
invariant-loop-k l = is_of_mark (literal_of l.l) (literals_in (drop l.k-index l.literals)) ≡ is_of_mark (literal_of l.l) (literals_in l.literals)
