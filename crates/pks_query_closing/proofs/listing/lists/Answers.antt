use Rattle.std.proofs.Common.{◌∙◌}
use Rattle.pks_terms.specs.Orders.{atom_cmp}
use Rattle.pks_terms.specs.Views.{atom_of}
use Rattle.pks_pmap_set.proofs.Mapped.{is_member-map}
use Rattle.pks_query_closing.proofs.listing.lists.Goals as goal

pub returns : goal.returns
returns c = c.has.ensures ∙ is_member-map atom_of atom_cmp c.args.a.now c.args.list.now
