use Rattle.std.proofs.Common.{◌≡◌, drop, map}
use Rattle.pks_terms.specs.Views.{effect_of}
use Rattle.pks_progress.specs.Ahead.{assign_nothing}
use Rattle.pks_progress.proofs.loose.none_assigns.Given as goal

abbrev pub invariant-loop-e : goal.invariant-loop-e
invariant-loop-e l = assign_nothing (map effect_of (drop l.e-index l.written)) ≡ assign_nothing (map effect_of l.written)
