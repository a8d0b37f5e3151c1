use Rattle.std.proofs.Common.{◌∙◌, sym}
use Rattle.std.specs.FinMap.{slice_cmp-IsAntisymmetric}
use Rattle.pks_terms.proofs.OrderLaws.{atom_cmp_tells}
use Rattle.pks_lcw.specs.Entries.{atoms_of}
use Rattle.pks_query_closing.proofs.listing.is_same_list.Goals as goal

pub returns-in-Equal : goal.returns-in-Equal
returns-in-Equal c = λ _. slice_cmp-IsAntisymmetric atom_cmp_tells (atoms_of c.args.a.now) (atoms_of c.args.b.now) (sym c.cmp_lists.ensures ∙ c.in-Equal.is)
