use Rattle.std.proofs.Common.{◌≡◌, ◌∙◌, ap, sym, subst}
use Rattle.pks_terms.specs.Sets.{insert_in}
use Rattle.pks_terms.specs.Orders.{literal_cmp}
use Rattle.pks_terms.specs.Databases.{Five, normal_literal}
use Rattle.pks_terms.specs.Views.{literal_of}
use Rattle.pks_terms.proofs.SetLaws.{map-insert_in}
use Rattle.pks_kf.specs.Known.{literals_of}
use Rattle.pks_query_lookup.specs.declared.five.Five.{Five as DFive}
use Rattle.pks_query_lookup.specs.Tables.{GiveAlike}
use Rattle.pks_query_lookup.proofs.SameValues.{gives_nothing}
use Rattle.pks_query_lookup.specs.Forms.{AreForms}
use Rattle.pks_query_lookup.proofs.PutIn.{forms_put}
use Rattle.pks_query_lookup.proofs.derived.Derived.with_plain.Goals as goal

pub beside-requires : goal.beside-requires
beside-requires c =
    let kf = literals_of c.args.self.now.kf in
    subst (λ (d : DFive). GiveAlike (literals_of c.args.five.kf) (literals_of d.kf)) (sym c.self.view_is)
    (subst (λ ls. GiveAlike ls kf) (sym (ap (λ (x : Five). x.kf) c.requires.five)) (gives_nothing (literal_of c.args.l.now) kf c.requires.none))

pub invariant_of-result : goal.invariant_of-result
invariant_of-result c =
    let l = literal_of c.args.l.now in
    let kf = literals_of c.self.inside.normals.kf in
    let forms = literals_of c.self.inside.forms in
    let known : literals_of c.in_ok-normals.normals.kf ≡ insert_in literal_cmp l kf =
    ap (λ (d : DFive). literals_of d.kf) c.in_ok-normals.ensures ∙ ap (λ (x : Five). x.kf) c.requires.five ∙ ap (λ (d : DFive). insert_in literal_cmp l (literals_of d.kf)) (sym c.self.view_is) in
    let put : literals_of c.in_ok-forms.forms ≡ insert_in literal_cmp (normal_literal kf l) forms =
    ap literals_of c.in_ok-forms.ensures ∙ map-insert_in literal_of literal_cmp c.normal_literal.result c.self.inside.forms ∙ ap (λ m. insert_in literal_cmp m forms) c.normal_literal.ensures in
    subst (λ ks. AreForms ks (literals_of c.in_ok-forms.forms)) (sym known) (subst (AreForms (insert_in literal_cmp l kf)) (sym put) (forms_put kf forms l c.requires.none c.self.invariant))
