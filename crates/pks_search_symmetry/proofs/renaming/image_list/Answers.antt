use Rattle.std.proofs.Common.{◌≡◌, ◌∙◌, [], map, ap}
use Rattle.pks_terms.specs.Orders.{atom_cmp}
use Rattle.pks_terms.specs.Views.{atom_of}
use Rattle.pks_terms.proofs.SetLaws.{map-set_of}
use Rattle.pks_lcw.specs.Entries.{atoms_of}
use Rattle.pks_laws_symmetry.specs.Renamed.{renamed_atom}
use Rattle.pks_search_symmetry.specs.Renaming.{image_by}
use Rattle.pks_search_symmetry.proofs.renaming.image_list.Goals as goal

pub returns : goal.returns
returns c =
    let images : atoms_of c.in_ok-all.all.items ≡ map (renamed_atom (image_by c.args.to.now)) (atoms_of c.args.list.now) =
    c.in_ok-all.ensures ∙ ap (λ es. map (renamed_atom (image_by c.args.to.now)) (atoms_of es)) c.as_slice-members.ensures.members in
    map-set_of atom_of atom_cmp _ _ _ c.in_ok-set.ensures images
