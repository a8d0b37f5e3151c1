-- What an index says of databases.
use Rattle.std.proofs.Common.{◌≡◌, Bool, cond, true, false, List, [], ◌∷◌, map, filter, refl, sym, ap, ◌∙◌, subst}
use Rattle.std.specs.Ordering.{on}
use Rattle.pks_terms.specs.Sets.{IsOrdered, insert_in, set_of}
use Rattle.pks_terms.specs.Orders.{literal_cmp, term_cmp, term_eq}
use Rattle.pks_terms.specs.Syntax.{Term, Literal}
use Rattle.pks_terms.specs.Totality.{literal_cmp_total}
use Rattle.pks_terms.specs.Databases.{Five}
use Rattle.pks_terms.specs.Views.{term_of, literal_of, literals_in}
use Rattle.pks_terms.proofs.ListLaws.{any_set_of}
use Rattle.pks_terms.proofs.OrderLaws.{term_cmp_tells, literal_cmp_tells}
use Rattle.pks_terms.proofs.SetLaws.{ordered_insert, ordered_filter}
use Rattle.pks_pmap_set.proofs.Mapped.{ordered-map}
use Rattle.pks_kf.specs.Known.{literals_of}
use Rattle.pks_kx.specs.Groups.{groups_of}
use Rattle.pks_lcw.specs.Entries.{entry_of, entries_of}
use Rattle.pks_query_lookup.specs.declared.five.Five.{Five as DFive}
use Rattle.pks_query_lookup.specs.Fives.{five_of}
use Rattle.pks_query_uses.specs.declared.uses.Uses.{Uses}
use Rattle.pks_query_uses.specs.Occurring.{in_literal, in_group, in_entry, is_among}
use Rattle.pks_query_uses.specs.Indexes.{items_at, IsIndexOf, PutsIn}
use Rattle.pks_query_uses.specs.Words.{AreUsesOf}
use Rattle.pks_query_uses.proofs.PlacingLaws.{filter_insert}

mapped_filter : {X Y : Type 0} (v : X → Y) (p : Y → Bool) (xs : List X) → map v (filter (λ x. p (v x)) xs) ≡ filter p (map v xs)
mapped_filter v p [] = refl
mapped_filter v p (x ∷ xs) =
    elim (p (v x)) as (λ b. map v (cond b (x ∷ filter (λ y. p (v y)) xs) (filter (λ y. p (v y)) xs)) ≡ cond b (v x ∷ filter p (map v xs)) (filter p (map v xs))) [
      | true ↦ ap (λ ys. v x ∷ ys) (mapped_filter v p xs)
      | false ↦ mapped_filter v p xs
    ]

pub uses_of : (d : DFive) (u : Uses) → IsOrdered (on literal_of literal_cmp) d.kf → IsIndexOf (λ l. in_literal (literal_of l)) d.kf u.literals → IsIndexOf (λ g. in_group (literals_in g)) d.kx u.groups → IsIndexOf (λ e. in_entry (entry_of e)) d.lcw u.entries → AreUsesOf (five_of d) u
uses_of d u h a b c = record {
  ordered = ordered-map literal_of literal_cmp d.kf h;
  literals = λ t. ap literals_of (a.gives t) ∙ mapped_filter literal_of (λ l. is_among (term_of t) (in_literal l)) d.kf;
  groups = λ t. ap groups_of (b.gives t) ∙ mapped_filter literals_in (λ g. is_among (term_of t) (in_group g)) d.kx;
  entries = λ t. ap entries_of (c.gives t) ∙ mapped_filter entry_of (λ e. is_among (term_of t) (in_entry e)) d.lcw;
}

pub uses_with : (l : Literal) (ts : List Term) (u v : Uses) (d : Five) → ts ≡ set_of term_cmp (in_literal l) → PutsIn u.literals v.literals ts l → v.groups ≡ u.groups → v.entries ≡ u.entries → AreUsesOf d u → AreUsesOf (record d { kf = insert_in literal_cmp l d.kf }) v
uses_with l ts u v d all puts groups entries a = record {
  ordered = ordered_insert literal_cmp_total literal_cmp_tells l d.kf a.ordered;
  literals = λ t.
      let p : Literal → Bool = λ m. is_among (term_of t) (in_literal m) in
      let here : IsOrdered literal_cmp (literals_of (items_at u.literals t)) = subst (IsOrdered literal_cmp) (sym (a.literals t)) (ordered_filter literal_cmp_total literal_cmp_tells p d.kf a.ordered) in
      puts.gives t here
      ∙ ap (λ b. cond b (insert_in literal_cmp l (literals_of (items_at u.literals t))) (literals_of (items_at u.literals t))) (ap (is_among (term_of t)) all ∙ any_set_of term_cmp term_cmp_tells (λ w. term_eq w (term_of t)) (in_literal l))
      ∙ ap (λ ls. cond (p l) (insert_in literal_cmp l ls) ls) (a.literals t)
      ∙ sym (filter_insert literal_cmp_total literal_cmp_tells p l d.kf a.ordered);
  groups = λ t. ap (λ m. groups_of (items_at m t)) groups ∙ a.groups t;
  entries = λ t. ap (λ m. entries_of (items_at m t)) entries ∙ a.entries t;
}
