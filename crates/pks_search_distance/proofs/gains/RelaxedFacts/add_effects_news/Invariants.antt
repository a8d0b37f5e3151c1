use Rattle.std.proofs.Common.{◌++◌, ◌≡◌, drop, map}
use Rattle.std.specs.List.{flat_map}
use Rattle.pks_terms.specs.Views.{effect_of}
use Rattle.pks_terms.specs.ValidProblems.{AssignsToPlace}
use Rattle.pks_terms.specs.Sets.{Each}
use Rattle.pks_world.specs.Contents.{world_of}
use Rattle.pks_search_distance.specs.Relaxed.{effect_news}
use Rattle.pks_search_distance.specs.Gained.{chances_of, new_of}
use Rattle.pks_search_distance.proofs.gains.RelaxedFacts.add_effects_news.Given as goal

abbrev pub invariant-loop-effect : goal.invariant-loop-effect
invariant-loop-effect l = (Each (λ e. AssignsToPlace e.target) (drop l.effect-index l.effects)) × (map new_of l.to.items ++ flat_map (effect_news (chances_of (world_of l.w) l.self)) (map effect_of (drop l.effect-index l.effects)) ≡ map new_of l.fn.to.items ++ flat_map (effect_news (chances_of (world_of l.w) l.self)) (map effect_of l.effects))
