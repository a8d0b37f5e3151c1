use Rattle.std.proofs.Common.{◌∙◌, sym, ap, true≢false}
use Rattle.std.specs.List.{list_all}
use Rattle.pks_terms.specs.Orders.{atom_cmp}
use Rattle.pks_terms.specs.Views.{atom_of}
use Rattle.pks_pmap_set.proofs.Mapped.{ordered-map}
use Rattle.pks_kf.specs.Known.{literals_of}
use Rattle.pks_lcw.specs.Entries.{atoms_of, entry_of}
use Rattle.pks_query_closing.specs.Own.{is_own_atom}
use Rattle.pks_query_closing.proofs.OwnSets.{own_region}
use Rattle.pks_query_closing.proofs.own.is_own_region.Goals as goal

pub returns-then-is_own_pattern : goal.returns-then-is_own_pattern
returns-then-is_own_pattern c = λ h.
    let kf = literals_of c.args.by.now.kf in
    let own = ap (λ es. list_all (is_own_atom kf) (atoms_of es)) (sym c.as_slice-listed.ensures.members) ∙ sym c.are_own_atoms.ensures ∙ h in
    own_region kf (entry_of c.args.e.now) (ordered-map atom_of atom_cmp c.args.e.now.list c.as_slice-listed.ensures.ordered) (sym c.is_own_pattern.ensures ∙ c.if-is_own_pattern.true) own

pub returns-else-is_own_pattern : goal.returns-else-is_own_pattern
returns-else-is_own_pattern c = λ h. absurd (true≢false (sym h ∙ c.if-is_own_pattern.false))
