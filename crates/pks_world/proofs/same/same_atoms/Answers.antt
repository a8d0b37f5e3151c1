use Rattle.std.proofs.Common.{sym, ◌∙◌}
use Rattle.std.specs.Ordering.{on, eq_by_cmp}
use Rattle.pks_terms.specs.Orders.{atom_cmp}
use Rattle.pks_terms.specs.Views.{atom_of}
use Rattle.pks_world.proofs.Typing.{same_atom}
use Rattle.pks_world.proofs.Telling.{alike}
use Rattle.pks_world.proofs.same.same_atoms.Goals as goal

pub returns : goal.returns
returns c = λ yes. alike atom_of (on atom_of (eq_by_cmp atom_cmp)) (λ x y e. same_atom (atom_of x) (atom_of y) e) c.args.one.now.keys c.args.other.now.keys (sym c.eq.ensures ∙ yes)
