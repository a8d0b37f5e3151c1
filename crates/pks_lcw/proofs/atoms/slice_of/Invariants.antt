use Rattle.std.proofs.Common.{◌≡◌, ◌++◌}
use Rattle.pks_lcw.proofs.atoms.slice_of.Given as goal

abbrev pub invariant-loop-a : goal.invariant-loop-a
invariant-loop-a l = l.all.items ++ l.a-iterator ≡ l.set
