use Rattle.std.proofs.Common.{rules}
use Rattle.std.specs.Fn.{FnReturnsAt}
use Rattle.std.specs.Ordering.{on}
use Rattle.pks_terms.specs.Orders.{atom_cmp}
use Rattle.pks_terms.specs.Views.{atom_of}
use Rattle.pks_pmap.specs.Keeping.{Keeps}
use Rattle.pks_lcw.proofs.Kept.{ordered_keeps}
use Rattle.pks_lcw.proofs.atoms.AtomSet.kept.Goals as goal

pub from_ordered-requires : goal.from_ordered-requires
from_ordered-requires g c =
    let k : Keeps (FnReturnsAt g.F.Fn c.args.test) c.args.self.now c.in_ok-atoms.atoms.items = search rules in
    ordered_keeps (FnReturnsAt g.F.Fn c.args.test) (on atom_of atom_cmp) c.args.self.now c.in_ok-atoms.atoms.items k c.as_slice.ensures.ordered
