use Rattle.std.proofs.Common.{◌≡◌, drop}
use Rattle.std.specs.List.{list_any}
use Rattle.pks_terms.specs.Views.{literals_in}
use Rattle.pks_search_distance.specs.Landmarks.{is_of_mark}
use Rattle.pks_search_distance.proofs.landmarks.asks_one.Given as goal

abbrev pub invariant-loop-l : goal.invariant-loop-l
invariant-loop-l at = list_any (λ l. is_of_mark l (literals_in at.literals)) (literals_in (drop at.l-index at.pre)) ≡ list_any (λ l. is_of_mark l (literals_in at.literals)) (literals_in at.pre)
