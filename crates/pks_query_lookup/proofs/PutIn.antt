-- The set of the normal forms, when a literal is put in that gives no value.
use Rattle.std.proofs.Common.{◌≡◌, ◌||◌, false, List, [], ◌∷◌, is_some, is_eq, sym, ap, ◌∙◌}
use Rattle.std.specs.List.{list_any}
use Rattle.pks_terms.specs.Syntax.{Literal}
use Rattle.pks_terms.specs.Sets.{insert_in}
use Rattle.pks_terms.specs.Orders.{literal_cmp, literal_eq}
use Rattle.pks_terms.specs.Databases.{told, normal_literal, is_known}
use Rattle.pks_terms.proofs.ListLaws.{any_added}
use Rattle.pks_terms.proofs.OrderLaws.{literal_cmp_tells}
use Rattle.pks_pmap_set.specs.Members.{is_member}
use Rattle.pks_query_lookup.proofs.SameValues.{gives_nothing, literal_same}
use Rattle.pks_query_lookup.specs.Forms.{AreForms}
use Rattle.pks_query_lookup.proofs.FormLaws.{eq_turned}

pub forms_put : (kf forms : List Literal) (l : Literal) → is_some (told l.relation l.arguments l.positive) ≡ false → AreForms kf forms
    → AreForms (insert_in literal_cmp l kf) (insert_in literal_cmp (normal_literal kf l) forms)
unfolding is_known
forms_put kf forms l h known m =
    let more = insert_in literal_cmp l kf in
    let same = literal_same more kf (gives_nothing l kf h) in
    let n = normal_literal kf m in
    let own = normal_literal kf l in
    ap (λ x. is_member literal_cmp x (insert_in literal_cmp own forms)) (same m)
    ∙ any_added literal_cmp literal_cmp_tells (λ k. is_eq (literal_cmp n k)) forms (own ∷ [])
    ∙ (λ i. (eq_turned n own i || false) || known m i)
    ∙ sym (any_added literal_cmp literal_cmp_tells (λ k. literal_eq (normal_literal kf k) n) kf (l ∷ []))
    ∙ (λ i. list_any (λ k. literal_eq (sym (same k) i) (sym (same m) i)) more)
