use Rattle.pks_terms.specs.Orders.{atom_cmp}
use Rattle.pks_terms.specs.Views.{atom_of}
use Rattle.pks_terms.proofs.SetLaws.{map-set_of}
use Rattle.pks_query.proofs.initial.known_atoms.Goals as goal

pub returns : goal.returns
returns c = map-set_of atom_of atom_cmp _ _ _ c.in_ok-set.ensures c.in_ok-atoms.ensures
