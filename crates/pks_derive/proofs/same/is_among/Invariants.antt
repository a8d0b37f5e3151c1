use Rattle.std.proofs.Common.{◌≡◌, drop}
use Rattle.std.specs.List.{list_any}
use Rattle.pks_terms.specs.Shapes.{same_add}
use Rattle.pks_terms.specs.Views.{add_of}
use Rattle.pks_justify.specs.Cases.{adds_of}
use Rattle.pks_derive.proofs.same.is_among.Given as goal

abbrev pub invariant-loop-one : goal.invariant-loop-one
invariant-loop-one l = list_any (same_add (add_of l.add)) (adds_of (drop l.one-index l.adds)) ≡ list_any (same_add (add_of l.add)) (adds_of l.adds)
