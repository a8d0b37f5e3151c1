use Rattle.std.proofs.Common.{◌≡◌, ◌∙◌, ap, sym}
use Rattle.pks_terms.specs.Orders.{literal_cmp}
use Rattle.pks_terms.specs.Databases.{is_known}
use Rattle.pks_terms.specs.Views.{literal_of}
use Rattle.pks_pmap_set.specs.Members.{is_member}
use Rattle.pks_pmap_set.proofs.Mapped.{is_member-map}
use Rattle.pks_kf.specs.Known.{literals_of}
use Rattle.pks_query_lookup.proofs.OwnForms.{own_literal}
use Rattle.pks_query_lookup.proofs.derived.Derived.is_known.Goals as goal

-- of a literal of objects alone
pub returns-then-is_of_objects : goal.returns-then-is_of_objects
returns-then-is_of_objects c =
    let l = c.args.l.now in
    let kf = literals_of c.self.inside.normals.kf in
    let forms = literals_of c.self.inside.forms in
    let known : c.has.result ≡ is_known kf (literal_of l) =
    c.has.ensures ∙ is_member-map literal_of literal_cmp l c.self.inside.forms ∙ ap (λ m. is_member literal_cmp m forms) (sym (own_literal kf (literal_of l) (sym c.if-is_of_objects.ensures))) ∙ c.self.invariant (literal_of l)
    in
    rw (← c.self.view_is) known

pub returns : goal.returns
returns c =
    let form = c.normal_literal.result in
    let kf = literals_of c.self.inside.normals.kf in
    let forms = literals_of c.self.inside.forms in
    let known : c.has-2.result ≡ is_known kf (literal_of c.args.l.now) =
    c.has-2.ensures ∙ is_member-map literal_of literal_cmp form c.self.inside.forms ∙ ap (λ m. is_member literal_cmp m forms) c.normal_literal.ensures ∙ c.self.invariant (literal_of c.args.l.now)
    in
    rw (← c.self.view_is) known
