use Rattle.std.proofs.Common.{◌≡◌, drop}
use Rattle.std.specs.List.{list_any}
use Rattle.pks_terms.specs.Justified.{is_target_on}
use Rattle.pks_justify.specs.Effects.{effects_of}
use Rattle.pks_justify.proofs.deciding.some_writes.Given as goal

abbrev pub invariant-loop-e : goal.invariant-loop-e
invariant-loop-e l = list_any (λ e. is_target_on l.p.0 e.target) (effects_of (drop l.e-index l.effects)) ≡ list_any (λ e. is_target_on l.p.0 e.target) (effects_of l.effects)
