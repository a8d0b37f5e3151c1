use Rattle.std.proofs.Common.{◌≡◌, drop}
use Rattle.std.specs.List.{list_any}
use Rattle.pks_terms.specs.Justified.{may_undo}
use Rattle.pks_terms.specs.Views.{target_of}
use Rattle.pks_justify.specs.Asked.{given_view}
use Rattle.pks_justify.specs.Effects.{effects_of}
use Rattle.pks_justify.proofs.undoing.may_be_undone.Given as goal

abbrev pub invariant-loop-e : goal.invariant-loop-e
invariant-loop-e l = list_any (λ f. may_undo (given_view l.g) (target_of l.first) f.target) (effects_of (drop l.e-index l.later)) ≡ list_any (λ f. may_undo (given_view l.g) (target_of l.first) f.target) (effects_of l.later)
