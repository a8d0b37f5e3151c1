-- The set of the normal forms of known literals.
use Rattle.std.proofs.Common.{◌≡◌, Bool, true, false, cond, ◌||◌, List, [], ◌∷◌, map, filter, Ordering, Less, Equal, Greater, is_eq, refl, sym, ap, ◌∙◌}
use Rattle.std.specs.List.{list_any}
use Rattle.std.specs.Ordering.{on, ordering_reverse}
use Rattle.pks_terms.specs.declared.literal.Literal.{Literal as DLiteral}
use Rattle.pks_terms.specs.Syntax.{Literal}
use Rattle.pks_terms.specs.Sets.{added}
use Rattle.pks_terms.specs.Orders.{literal_cmp, literal_eq}
use Rattle.pks_terms.specs.Totality.{literal_cmp_total}
use Rattle.pks_terms.specs.Views.{literal_of}
use Rattle.pks_terms.specs.Databases.{normal_literal, is_known}
use Rattle.pks_terms.proofs.ListLaws.{or_swapped, any_added}
use Rattle.pks_terms.proofs.SetLaws.{map-added}
use Rattle.pks_terms.proofs.OrderLaws.{literal_cmp_tells, same_literal}
use Rattle.pks_pmap.specs.Keeping.{Keeps}
use Rattle.pks_pmap_set.specs.Members.{is_member}
use Rattle.pks_pmap_set.proofs.Mapped.{keeps-map}
use Rattle.pks_kf.specs.Known.{literals_of}
use Rattle.pks_query_lookup.specs.Forms.{is_normal, other_forms, AreForms}

same_reversed : (r : Ordering) → is_eq (ordering_reverse r) ≡ is_eq r
same_reversed Less = refl
same_reversed Equal = refl
same_reversed Greater = refl

pub eq_turned : (l k : Literal) → is_eq (literal_cmp l k) ≡ literal_eq k l
unfolding literal_eq
eq_turned l k = ap is_eq (literal_cmp_total.antisymm l k) ∙ same_reversed (literal_cmp k l)

or_thrice : (a b c : Bool) → ((a || b) || c) ≡ (a || (b || c))
or_thrice true b c = refl
or_thrice false b c = refl

module _ (kf : List Literal) (l : Literal) where
  forms_split : (ks : List Literal) → (is_member literal_cmp l (other_forms kf ks) || is_member literal_cmp l (filter (is_normal kf) ks)) ≡ list_any (λ k. literal_eq (normal_literal kf k) l) ks
  forms_split [] = refl
  forms_split (k ∷ ks) =
      let others = is_member literal_cmp l (other_forms kf ks) in
      let own = is_member literal_cmp l (filter (is_normal kf) ks) in
      elim (is_normal kf k) as (λ b. is_normal kf k ≡ b → (is_member literal_cmp l (cond b (other_forms kf ks) (normal_literal kf k ∷ other_forms kf ks)) || is_member literal_cmp l (cond b (k ∷ filter (is_normal kf) ks) (filter (is_normal kf) ks))) ≡ (literal_eq (normal_literal kf k) l || list_any (λ k. literal_eq (normal_literal kf k) l) ks)) [
        | true ↦ λ h.
            or_swapped others (is_eq (literal_cmp l k)) own
            ∙ (λ i. (eq_turned l k ∙ ap (λ x. literal_eq x l) (sym (same_literal (normal_literal kf k) k h))) i || forms_split ks i)
        | false ↦ λ h.
            or_thrice (is_eq (literal_cmp l (normal_literal kf k))) others own
            ∙ (λ i. eq_turned l (normal_literal kf k) i || forms_split ks i)
      ] refl

-- those kept that are their own normal form, and the normal forms of the others put in
pub all_forms : (A : DLiteral → Bool → Type 0) (xs kf own others forms : List DLiteral) → xs ≡ kf → ((x : DLiteral) (b : Bool) → A x b → b ≡ is_normal (literals_of kf) (literal_of x)) → Keeps A xs own
    → map literal_of others ≡ other_forms (literals_of kf) (literals_of kf) → forms ≡ added (on literal_of literal_cmp) own others → AreForms (literals_of kf) (literals_of forms)
unfolding is_known
all_forms A xs kf own others forms same says kept rest put m =
    let ks = literals_of kf in
    let l = normal_literal ks m in
    ap (λ fs. is_member literal_cmp l (map literal_of fs)) put
    ∙ ap (is_member literal_cmp l) (map-added literal_of literal_cmp own others)
    ∙ any_added literal_cmp literal_cmp_tells (λ k. is_eq (literal_cmp l k)) (map literal_of own) (map literal_of others)
    ∙ (λ i. is_member literal_cmp l (rest i) || is_member literal_cmp l ((keeps-map literal_of A (is_normal ks) says xs own kept ∙ ap (λ ys. filter (is_normal ks) (map literal_of ys)) same) i))
    ∙ forms_split ks l ks
