use Rattle.std.proofs.Common.{◌≡◌, ◌∙◌, List, [], map, true, sym, ap}
use Rattle.pks_terms.specs.declared.literal.PredAtom.{PredAtom}
use Rattle.pks_terms.specs.Orders.{atom_cmp}
use Rattle.pks_terms.specs.Closure.{normal_atom}
use Rattle.pks_terms.specs.Views.{atom_of}
use Rattle.pks_terms.proofs.SetLaws.{map-set_of}
use Rattle.pks_kf.specs.Known.{literals_of}
use Rattle.pks_lcw.specs.Entries.{atoms_of}
use Rattle.pks_query_lookup.specs.Own.{have_objects}
use Rattle.pks_query_lookup.proofs.OwnForms.{own_list}
use Rattle.pks_query_lookup.proofs.atoms.normal_list.Goals as goal

pub returns-then-have_objects : goal.returns-then-have_objects
returns-then-have_objects c =
    let list : List PredAtom = c.args.list.now in
    let objects : have_objects (atoms_of list) ≡ true = sym (c.have_objects.ensures ∙ ap (λ es. have_objects (atoms_of es)) c.as_slice-listed.ensures.members) ∙ c.if-have_objects.true in
    ap atoms_of c.in_ok-same.ensures ∙ own_list (literals_of c.args.by.now.kf) list c.as_slice-listed.ensures.ordered objects

pub returns : goal.returns
returns c =
    let list : List PredAtom = c.args.list.now in
    let forms : atoms_of c.in_ok-all.all.items ≡ map (normal_atom (literals_of c.args.by.now.kf)) (atoms_of list) =
    c.in_ok-all.ensures ∙ ap (λ es. map (normal_atom (literals_of c.args.by.now.kf)) (atoms_of es)) c.as_slice-listed.ensures.members in
    map-set_of atom_of atom_cmp _ _ _ c.in_ok-set.ensures forms
