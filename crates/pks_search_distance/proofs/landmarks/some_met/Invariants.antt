use Rattle.std.proofs.Common.{◌≡◌, drop, map}
use Rattle.std.specs.List.{list_any}
use Rattle.pks_terms.specs.Views.{literals_in, effect_of}
use Rattle.pks_search_distance.specs.Counted.{may_meet}
use Rattle.pks_search_distance.proofs.landmarks.some_met.Given as goal

abbrev pub invariant-loop-l : goal.invariant-loop-l
invariant-loop-l l = list_any (may_meet (map effect_of l.effects)) (literals_in (drop l.l-index l.literals)) ≡ list_any (may_meet (map effect_of l.effects)) (literals_in l.literals)
