use Rattle.std.proofs.Common.{◌≡◌, drop, map}
use Rattle.pks_terms.specs.Views.{literal_of, effect_of}
use Rattle.pks_laws_forget.specs.Testing.{is_untouched}
use Rattle.pks_history_forget.proofs.touching.is_untouched.Given as goal

abbrev pub invariant-loop-e : goal.invariant-loop-e
invariant-loop-e l = is_untouched (map effect_of (drop l.e-index l.effects)) (literal_of l.l) ≡ is_untouched (map effect_of l.effects) (literal_of l.l)
