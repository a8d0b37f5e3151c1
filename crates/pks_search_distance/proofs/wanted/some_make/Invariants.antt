use Rattle.std.proofs.Common.{◌≡◌, drop, map}
use Rattle.std.specs.List.{list_any}
use Rattle.pks_terms.specs.Views.{literal_of, effect_of}
use Rattle.pks_search_distance.specs.Counted.{may_make}
use Rattle.pks_search_distance.proofs.wanted.some_make.Given as goal

abbrev pub invariant-loop-effect : goal.invariant-loop-effect
invariant-loop-effect l = list_any (λ e. may_make e.target (literal_of l.l)) (map effect_of (drop l.effect-index l.effects)) ≡ list_any (λ e. may_make e.target (literal_of l.l)) (map effect_of l.effects)
