use Rattle.std.proofs.Common.{◌≡◌, drop, map}
use Rattle.std.specs.List.{list_all}
use Rattle.pks_terms.specs.Views.{term_of, effect_of}
use Rattle.pks_laws_forget.specs.Transparent.{is_elsewhere}
use Rattle.pks_history_forget.proofs.touching.are_elsewhere.Given as goal

abbrev pub invariant-loop-e : goal.invariant-loop-e
invariant-loop-e l = list_all (λ e. is_elsewhere (term_of l.t) e.target) (map effect_of (drop l.e-index l.effects)) ≡ list_all (λ e. is_elsewhere (term_of l.t) e.target) (map effect_of l.effects)
