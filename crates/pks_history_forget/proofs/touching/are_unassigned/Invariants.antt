use Rattle.std.proofs.Common.{◌≡◌, drop, map}
use Rattle.pks_terms.specs.Views.{terms_of, effect_of}
use Rattle.pks_laws_forget.specs.Testing.{are_unassigned}
use Rattle.pks_history_forget.proofs.touching.are_unassigned.Given as goal

abbrev pub invariant-loop-e : goal.invariant-loop-e
invariant-loop-e l = are_unassigned (map effect_of (drop l.e-index l.effects)) (terms_of l.ts) ≡ are_unassigned (map effect_of l.effects) (terms_of l.ts)
