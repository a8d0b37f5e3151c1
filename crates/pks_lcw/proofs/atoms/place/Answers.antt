use Rattle.std.proofs.Common.{arith}
use Rattle.std.specs.Ordering.{on}
use Rattle.pks_terms.specs.Orders.{atom_cmp}
use Rattle.pks_terms.specs.Views.{atom_of}
use Rattle.pks_lcw.proofs.Inserting.{count_below-le-length}
use Rattle.pks_lcw.proofs.atoms.place.Goals as goal

pub returns-after-loop-below-clause-within : goal.returns-after-loop-below-clause-within
returns-after-loop-below-clause-within c = omega (arith, count_below-le-length (on atom_of atom_cmp) c.args.a.now c.args.atoms.now)
