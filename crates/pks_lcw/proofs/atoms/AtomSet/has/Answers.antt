use Rattle.std.proofs.Common.{◌≡◌, ◌∙◌, sym, ap, subst, List}
use Rattle.std.specs.Ordering.{on}
use Rattle.std.specs.Result.{is_ok}
use Rattle.std.proofs.lemmas.Cmp.{on_total}
use Rattle.pks_terms.specs.declared.literal.PredAtom.{PredAtom}
use Rattle.pks_terms.specs.Orders.{atom_cmp}
use Rattle.pks_terms.specs.Sets.{IsOrdered}
use Rattle.pks_terms.specs.Totality.{atom_cmp_total}
use Rattle.pks_terms.specs.Views.{atom_of}
use Rattle.pks_pmap_set.specs.Members.{is_member}
use Rattle.pks_lcw.proofs.Searching.{found}
use Rattle.pks_lcw.proofs.atoms.AtomSet.has.Goals as goal

pub returns : goal.returns
returns c =
    let xs : List PredAtom = c.as_slice.result.now in
    let ordered = subst (λ l. IsOrdered (on atom_of atom_cmp) l) (sym c.as_slice.ensures.members) c.as_slice.ensures.ordered in
    let e : is_ok c.binary_search.result ≡ is_member (on atom_of atom_cmp) c.args.a.now xs = found (on atom_of atom_cmp) (on_total atom_of atom_cmp_total) c.args.a.now xs c.binary_search.result ordered c.binary_search.ensures.bound c.binary_search.ensures.position in
    c.is_ok.ensures.value ∙ e ∙ ap (λ l. is_member (on atom_of atom_cmp) c.args.a.now l) c.as_slice.ensures.members
