use Rattle.std.proofs.Common.{◌≡◌, drop, map}
use Rattle.std.specs.List.{list_all}
use Rattle.pks_terms.specs.Views.{literal_of, effect_of}
use Rattle.pks_laws_forget.specs.Staying.{leaves}
use Rattle.pks_history_forget.proofs.staying.all_leave.Given as goal

abbrev pub invariant-loop-e : goal.invariant-loop-e
invariant-loop-e l = list_all (λ e. leaves (literal_of l.l) e.target) (map effect_of (drop l.e-index l.effects)) ≡ list_all (λ e. leaves (literal_of l.l) e.target) (map effect_of l.effects)
