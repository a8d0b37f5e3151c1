use Rattle.pks_terms.specs.Orders.{atom_cmp}
use Rattle.pks_terms.specs.Views.{atom_of}
use Rattle.pks_terms.specs.Totality.{slice_cmp-map}
use Rattle.pks_query_closing.proofs.listing.cmp_lists.Goals as goal

pub returns : goal.returns
returns c = let e = slice_cmp-map atom_of atom_cmp c.args.a.now c.args.b.now in let a = c.as_slice.ensures.members in let b = c.as_slice-2.ensures.members in cc
