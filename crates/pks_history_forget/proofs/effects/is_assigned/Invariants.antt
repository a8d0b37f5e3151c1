use Rattle.std.proofs.Common.{◌≡◌, drop, map}
use Rattle.pks_terms.specs.ValidProblems.{ArePlaced}
use Rattle.pks_terms.specs.Views.{term_of, effect_of}
use Rattle.pks_query_lookup.specs.Fives.{five_of}
use Rattle.pks_laws_forget.specs.Testing.{is_assigned}
use Rattle.pks_history_forget.proofs.effects.is_assigned.Given as goal

abbrev pub invariant-loop-e : goal.invariant-loop-e
invariant-loop-e l = (ArePlaced (drop l.e-index l.effects)) × (is_assigned (five_of l.d) (map effect_of (drop l.e-index l.effects)) (term_of l.t) ≡ is_assigned (five_of l.d) (map effect_of l.effects) (term_of l.t))
