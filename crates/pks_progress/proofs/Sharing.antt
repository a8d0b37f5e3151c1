-- Regions of which some last as they are.
use Rattle.std.proofs.Common.{◌≡◌, ◌⊎◌, Bool, true, false, not, ◌&&◌, ◌==◌, List, [], ◌∷◌, map, filter, Option, Some, None, Ordering, cond, if◌then◌else◌, refl, sym, ap, ◌∙◌, subst, inl, inr, ⊎_elim}
use Rattle.std.specs.List.{list_all, filter_map}
use Rattle.std.specs.Option.{option_map, option_and_then}
use Rattle.std.specs.Cmp.{IsTotalOrder}
use Rattle.std.specs.FinMap.{IsAntisymmetric}
use Rattle.std.proofs.lemmas.Bool.{and_parts}
use Rattle.std.proofs.lemmas.Option.{none-some, same_Some}
use Rattle.pks_terms.specs.Orders.{atom_cmp}
use Rattle.pks_terms.specs.Closure.{normal_atom}
use Rattle.pks_terms.specs.Sets.{IsIn, IsOrdered, insert_in, added, set_of}
use Rattle.pks_terms.specs.Syntax.{Atom, Pattern}
use Rattle.pks_terms.specs.Signatures.{Signature}
use Rattle.pks_terms.specs.Databases.{Entry, entry_cmp, Five, normal}
use Rattle.pks_terms.specs.Totality.{entry_cmp_total}
use Rattle.pks_terms.specs.Actions.{Effect, Set}
use Rattle.pks_terms.specs.Spoiling.{some_fixed_differ, are_stable}
use Rattle.pks_terms.specs.Progress.{entry_terms, widened_by, kept_entry}
use Rattle.pks_terms.proofs.ListLaws.{in_filtered, in_filter}
use Rattle.pks_terms.proofs.OrderLaws.{entry_cmp_tells}
use Rattle.pks_terms.proofs.SetLaws.{ordered_added, ordered_set_of, ordered_filter, in_added, added_in, in_set_of, set_of_in, same_members}
use Rattle.pks_laws.proofs.Least.{in_filter_map, in_filter_mapped}
use Rattle.pks_progress.specs.Kept.{atoms_set, widened_with, kept_with, is_elsewhere, stays, changed_with}
use Rattle.pks_progress.proofs.Lasting.{entries_alike}

-- members that f leaves as they are can be kept, and what f gives of the others put in
module _ {X : Type 0} {cmp : X → X → Ordering} (o : IsTotalOrder cmp) (tells : IsAntisymmetric cmp) (f : X → Option X) (p : X → Bool) (same : (x : X) → p x ≡ true → f x ≡ Some x) where
  unfoldable others : X → Option X
  others x = if p x then None else f x

  gives_others : (x z : X) → f x ≡ Some z → (p x ≡ true) ⊎ (others x ≡ Some z)
  unfolding others
  gives_others x z e = elim (p x) as (λ b. p x ≡ b → (p x ≡ true) ⊎ (cond b None (f x) ≡ Some z)) [ true ↦ λ h. inl h | false ↦ λ h. inr e ] refl

  others_give : (x z : X) → others x ≡ Some z → f x ≡ Some z
  unfolding others
  others_give x z = elim (p x) as (λ b. cond b None (f x) ≡ Some z → f x ≡ Some z) [ true ↦ λ e. absurd (none-some z e) | false ↦ λ e. e ]

  into_all : (xs : List X) (z : X) → IsIn z (filter p xs) ⊎ IsIn z (filter_map others xs) → IsIn z (filter_map f xs)
  into_all xs z =
      ⊎_elim (λ i. let r = in_filtered p xs z i in in_filter_map f xs z z r.0 (same z r.1)) (λ i. let r = in_filter_mapped others xs z i in in_filter_map f xs r.0 z r.1 (others_give r.0 z r.2))

  out_of_all : (xs : List X) (z : X) → IsIn z (filter_map f xs) → IsIn z (filter p xs) ⊎ IsIn z (filter_map others xs)
  out_of_all xs z i =
      let r = in_filter_mapped f xs z i in
      ⊎_elim (λ h. inl (subst (λ y. IsIn y (filter p xs)) (same_Some r.0 z (sym (same r.0 h) ∙ r.2)) (in_filter p xs r.0 r.1 h))) (λ e. inr (in_filter_map others xs r.0 z r.1 e)) (gives_others r.0 z r.2)

  pub kept_apart : (xs : List X) → IsOrdered cmp xs → added cmp (filter p xs) (filter_map (λ x. if p x then None else f x) xs) ≡ set_of cmp (filter_map f xs)
  unfolding others
  kept_apart xs h =
      same_members o tells (added cmp (filter p xs) (filter_map others xs)) (set_of cmp (filter_map f xs)) (ordered_added o tells (filter p xs) (filter_map others xs) (ordered_filter o tells p xs h)) (ordered_set_of o tells (filter_map f xs))
      (λ z i. set_of_in o tells (filter_map f xs) z (into_all xs z (in_added o tells (filter p xs) (filter_map others xs) z i)))
      (λ z i. added_in o tells (filter p xs) (filter_map others xs) z (out_of_all xs z (in_set_of o tells (filter_map f xs) z i)))

denied_is_false : (b : Bool) → not b ≡ true → b ≡ false
denied_is_false true h = sym h
denied_is_false false h = refl

-- an atom elsewhere leaves the list as it is
leaves : (s : Signature) (d : Five) (es : List Effect) (x : Pattern) (a : Atom) (listed : List Atom) → is_elsewhere s d.kf x a ≡ true → widened_by s d es x (Set a) listed ≡ Some listed
leaves s d es x a listed e =
    ap (λ b. if b then (if are_stable s d es (map (normal d.kf) a.arguments) then Some (insert_in atom_cmp (normal_atom d.kf a) listed) else None) else Some listed)
    (denied_is_false ((a.predicate == x.predicate) && not (some_fixed_differ s d.kf x.slots a.arguments)) e)

-- and so do such atoms
unwidened : (s : Signature) (d : Five) (es : List Effect) (x : Pattern) (atoms listed : List Atom) → list_all (is_elsewhere s d.kf x) atoms ≡ true → widened_with s d es x atoms listed ≡ Some listed
unwidened s d es x [] listed h = refl
unwidened s d es x (a ∷ atoms) listed h =
    let parts = and_parts (is_elsewhere s d.kf x a) (list_all (is_elsewhere s d.kf x) atoms) h in
    ap (λ (o : Option (List Atom)). option_and_then (widened_with s d es x atoms) o) (leaves s d es x a listed parts.0) ∙ unwidened s d es x atoms listed parts.1

-- a region that stays as it is
stays_same : (s : Signature) (d : Five) (es : List Effect) (atoms : List Atom) (r : Entry) → stays s d es atoms r ≡ true → kept_with s d es atoms r ≡ Some r
stays_same s d es atoms r h =
    let parts = and_parts (are_stable s d es (entry_terms r)) (list_all (is_elsewhere s d.kf r.pattern) atoms) h in
    let again : List Atom → Entry = λ listed. record { pattern = r.pattern; listed = listed } in
    ap (λ b. if b then option_map again (widened_with s d es r.pattern atoms r.listed) else None) parts.0 ∙ ap (option_map again) (unwidened s d es r.pattern atoms r.listed parts.1)

-- so what lasts is what stays, and the others in their new form
pub regions_kept : (s : Signature) (d : Five) (es : List Effect) (rs : List Entry)
    → IsOrdered entry_cmp rs
    → (some more : List Atom)
    → some ≡ atoms_set s d es
    → more ≡ atoms_set s d es
    → (same changed : List Entry)
    → same ≡ filter (stays s d es more) rs
    → changed ≡ filter_map (changed_with s d es some) rs
    → added entry_cmp same changed ≡ set_of entry_cmp (filter_map (kept_entry s d es) rs)
regions_kept s d es rs ordered some more first second same changed kept others =
    (λ i. added entry_cmp ((kept ∙ ap (λ (ys : List Atom). filter (stays s d es ys) rs) second) i) ((others ∙ ap (λ (ys : List Atom). filter_map (changed_with s d es ys) rs) first) i))
    ∙ kept_apart entry_cmp_total entry_cmp_tells (kept_with s d es (atoms_set s d es)) (stays s d es (atoms_set s d es)) (stays_same s d es (atoms_set s d es)) rs ordered
    ∙ ap (set_of entry_cmp) (entries_alike s d es (atoms_set s d es) refl rs)
