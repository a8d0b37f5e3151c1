use Rattle.std.proofs.Common.{◌↔◌, drop, map}
use Rattle.pks_terms.specs.Sets.{Each}
use Rattle.pks_terms.specs.Versions.{IsNow}
use Rattle.pks_terms.specs.Views.{aim_of}
use Rattle.pks_history_forget.proofs.cutting.are_now.Given as goal

abbrev pub invariant-loop-a : goal.invariant-loop-a
invariant-loop-a l = Each IsNow (map aim_of (drop l.a-index l.aims)) ↔ Each IsNow (map aim_of l.aims)
