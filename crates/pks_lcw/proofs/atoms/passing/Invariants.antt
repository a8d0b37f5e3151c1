use Rattle.std.proofs.Common.{List, ◌++◌, drop}
use Rattle.std.specs.Fn.{FnReturnsAt}
use Rattle.pks_terms.specs.Sets.{Each}
use Rattle.pks_pmap.specs.Keeping.{Keeps}
use Rattle.pks_pmap_set.specs.Members.{TakesAt}
use Rattle.pks_lcw.proofs.atoms.passing.Given as goal

abbrev pub invariant-loop-a : goal.invariant-loop-a
invariant-loop-a g l = record {
  callable : Each (TakesAt g.F.Fn l.test) (drop l.a-index l.atoms);
  kept : (zs : List _) → Keeps (FnReturnsAt g.F.Fn l.test) (drop l.a-index l.atoms) zs → Keeps (FnReturnsAt g.F.Fn l.test) l.atoms (l.kept.items ++ zs);
}
