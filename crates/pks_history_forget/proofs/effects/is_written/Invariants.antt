use Rattle.std.proofs.Common.{◌≡◌, drop, map}
use Rattle.pks_terms.specs.ValidProblems.{ArePlaced}
use Rattle.pks_terms.specs.Views.{literal_of, effect_of}
use Rattle.pks_query_lookup.specs.Fives.{five_of}
use Rattle.pks_laws_forget.specs.Testing.{is_written}
use Rattle.pks_history_forget.proofs.effects.is_written.Given as goal

abbrev pub invariant-loop-e : goal.invariant-loop-e
invariant-loop-e l = (ArePlaced (drop l.e-index l.effects)) × (is_written (five_of l.d) (map effect_of (drop l.e-index l.effects)) (literal_of l.l) ≡ is_written (five_of l.d) (map effect_of l.effects) (literal_of l.l))
