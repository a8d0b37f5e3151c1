use Rattle.std.proofs.Common.{rules, ◌≡◌, sym, ap, ◌∙◌, subst}
use Rattle.std.specs.List.{insert}
use Rattle.std.specs.Ordering.{on}
use Rattle.std.specs.Rc.{rc_slice_items}
use Rattle.std.proofs.lemmas.Cmp.{on_total}
use Rattle.pks_terms.specs.Orders.{atom_cmp}
use Rattle.pks_terms.specs.Totality.{atom_cmp_total}
use Rattle.pks_terms.specs.Views.{atom_of}
use Rattle.pks_terms.specs.Sets.{IsOrdered, insert_in}
use Rattle.pks_pmap_set.proofs.Keys.{insert_in-present}
use Rattle.pks_terms.specs.Placing.{count_below}
use Rattle.pks_lcw.proofs.Inserting.{insert_in-absent, ordered_insert_in}
use Rattle.pks_lcw.proofs.atoms.AtomSet.add.Goals as goal

pub returns-then-has : goal.returns-then-has
returns-then-has c =
    let e = insert_in-present (on atom_of atom_cmp) (on_total atom_of atom_cmp_total) c.args.a c.args.self.now c.as_slice-atoms.ensures.ordered (sym c.has.ensures ∙ c.if-has.true) in
    rw e c.share.ensures

pub invariant_of-result : goal.invariant_of-result
invariant_of-result c =
    let old : c.in_ok-more.more.items ≡ c.args.self.now = search rules in
    let n : c.place.result ≡ count_below (on atom_of atom_cmp) c.args.a c.args.self.now = search rules in
    let r : rc_slice_items c.in_ok-slice.slice ≡ insert c.in_ok-more.more.items c.place.result c.args.a = search rules in
    let absent = insert_in-absent (on atom_of atom_cmp) c.args.a c.args.self.now (sym c.has.ensures ∙ c.if-has.false) in
    let e : rc_slice_items c.in_ok-slice.slice ≡ insert_in (on atom_of atom_cmp) c.args.a c.args.self.now = r ∙ ap (λ z. insert z c.place.result c.args.a) old ∙ ap (λ k. insert c.args.self.now k c.args.a) n ∙ sym absent in
    subst (IsOrdered (on atom_of atom_cmp)) (sym e) (ordered_insert_in (on atom_of atom_cmp) (on_total atom_of atom_cmp_total) c.args.a c.args.self.now c.as_slice-atoms.ensures.ordered)

pub returns : goal.returns
returns c =
    let old : c.in_ok-more.more.items ≡ c.args.self.now = search rules in
    let n : c.place.result ≡ count_below (on atom_of atom_cmp) c.args.a c.args.self.now = search rules in
    let r : rc_slice_items c.in_ok-slice.slice ≡ insert c.in_ok-more.more.items c.place.result c.args.a = search rules in
    let absent = insert_in-absent (on atom_of atom_cmp) c.args.a c.args.self.now (sym c.has.ensures ∙ c.if-has.false) in
    r ∙ ap (λ z. insert z c.place.result c.args.a) old ∙ ap (λ k. insert c.args.self.now k c.args.a) n ∙ sym absent
