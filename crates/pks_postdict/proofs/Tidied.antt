-- Databases in normal form stay as they are when they are put in it again.
use Rattle.std.proofs.Common.{◌≡◌, ℕ, Bool, true, cond, List, [], ◌∷◌, map, filter, Option, Some, None, option_map, Ordering, refl, sym, ap, ◌∙◌}
use Rattle.std.specs.Cmp.{IsTotalOrder}
use Rattle.std.specs.FinMap.{IsAntisymmetric}
use Rattle.pks_terms.specs.Sets.{Each, IsIn, set_of}
use Rattle.pks_terms.specs.Syntax.{Term, Literal, Atom, Pattern}
use Rattle.pks_terms.specs.Orders.{term_cmp}
use Rattle.pks_terms.specs.Totality.{term_cmp_total, literal_cmp_total, conj_cmp_total, atom_cmp_total, entry_cmp_total}
use Rattle.pks_terms.specs.Signatures.{Signature, HasValues}
use Rattle.pks_terms.specs.Databases.{Entry, Five, values_at, normal, normal_literal}
use Rattle.pks_terms.specs.Closure.{is_application, rounds, in_sequence, normal_conj, normal_group, normal_atom, normal_pattern, normal_entry, tidied, IsClosed}
use Rattle.pks_terms.proofs.ListLaws.{each_of, each_map, each_kept, each_set_of, in_filtered}
use Rattle.pks_terms.proofs.OrderLaws.{term_cmp_tells, literal_cmp_tells, conj_cmp_tells, atom_cmp_tells, entry_cmp_tells}
use Rattle.pks_terms.proofs.SetLaws.{ordered_set_of, in_set_of, set_of_in, same_members}
use Rattle.pks_terms.proofs.Sequences.{each_in_sequence, in_sequence_twice}
use Rattle.pks_laws.proofs.Least.{one_value}
use Rattle.pks_laws.proofs.Belonging.{saturated_end, end_of}
use Rattle.pks_laws.proofs.NormalMembers.{map_fixed, literal_again, term_again}

filter_fixed : {X : Type 0} (p : X → Bool) (xs : List X) → Each (λ x. p x ≡ true) xs → filter p xs ≡ xs
filter_fixed p [] a = refl
filter_fixed p (x ∷ xs) a = ap (λ b. cond b (x ∷ filter p xs) (filter p xs)) a.0 ∙ ap (λ ys. x ∷ ys) (filter_fixed p xs a.1)

mapped_fixed : {X : Type 0} (f : X → X) → ((x : X) → f (f x) ≡ f x) → (xs : List X) → Each (λ x. f x ≡ x) (map f xs)
mapped_fixed f again xs = each_map (λ x. f x ≡ x) f xs (each_of (λ x. f (f x) ≡ f x) xs (λ x i. again x))

mapped_again : {X : Type 0} (f : X → X) → ((x : X) → f (f x) ≡ f x) → (xs : List X) → map f (map f xs) ≡ map f xs
mapped_again f again xs = map_fixed f (map f xs) (mapped_fixed f again xs)

-- ---- sets

module _ {X : Type 0} {cmp : X → X → Ordering} (o : IsTotalOrder cmp) (tells : IsAntisymmetric cmp) where
  set_again : (xs : List X) → set_of cmp (set_of cmp xs) ≡ set_of cmp xs
  set_again xs =
      let ys = set_of cmp xs in
      same_members o tells (set_of cmp ys) ys (ordered_set_of o tells ys) (ordered_set_of o tells xs) (in_set_of o tells ys) (set_of_in o tells ys)

  set_mapped_again : (f : X → X) → ((x : X) → f (f x) ≡ f x) → (xs : List X) → set_of cmp (map f (set_of cmp (map f xs))) ≡ set_of cmp (map f xs)
  set_mapped_again f again xs =
      ap (set_of cmp) (map_fixed f (set_of cmp (map f xs)) (each_set_of (λ x. f x ≡ x) cmp (map f xs) (mapped_fixed f again xs))) ∙ set_again (map f xs)

-- ---- normal forms of normal forms

module _ (s : Signature) (kf : List Literal) (one : (f : ℕ) (ds : List ℕ) (e e' : ℕ) → IsIn e (values_at kf f ds) → IsIn e' (values_at kf f ds) → e ≡ e') where
  conj_again : (c : List Literal) → normal_conj kf (normal_conj kf c) ≡ normal_conj kf c
  conj_again c = set_mapped_again literal_cmp_total literal_cmp_tells (normal_literal kf) (literal_again s kf one) c

  group_again : (g : List Literal) → normal_group kf (normal_group kf g) ≡ normal_group kf g
  group_again g =
      let ls = map (normal_literal kf) g in
      ap in_sequence (map_fixed (normal_literal kf) (in_sequence ls) (each_in_sequence (λ l. normal_literal kf l ≡ l) ls (mapped_fixed (normal_literal kf) (literal_again s kf one) g))) ∙ in_sequence_twice ls

  atom_again : (a : Atom) → normal_atom kf (normal_atom kf a) ≡ normal_atom kf a
  atom_again a = λ i. record { predicate = a.predicate; arguments = mapped_again (normal kf) (term_again s kf one) a.arguments i }

  slot_again : (o : Option Term) → option_map (normal kf) (option_map (normal kf) o) ≡ option_map (normal kf) o
  slot_again None = refl
  slot_again (Some t) = ap Some (term_again s kf one t)

  pattern_again : (p : Pattern) → normal_pattern kf (normal_pattern kf p) ≡ normal_pattern kf p
  pattern_again p = λ i. record { predicate = p.predicate; slots = mapped_again (option_map (normal kf)) slot_again p.slots i }

  entry_again : (e : Entry) → normal_entry kf (normal_entry kf e) ≡ normal_entry kf e
  entry_again e = λ i. record { pattern = pattern_again e.pattern i; listed = set_mapped_again atom_cmp_total atom_cmp_tells (normal_atom kf) atom_again e.listed i }

  values_again : (ts : List Term) → set_of term_cmp (filter is_application (map (normal kf) (set_of term_cmp (filter is_application (map (normal kf) ts))))) ≡ set_of term_cmp (filter is_application (map (normal kf) ts))
  values_again ts =
      let us = filter is_application (map (normal kf) ts) in
      let vs = set_of term_cmp us in
      let fixed : Each (λ t. normal kf t ≡ t) vs = each_set_of (λ t. normal kf t ≡ t) term_cmp us (each_kept (λ t. normal kf t ≡ t) is_application (map (normal kf) ts) (mapped_fixed (normal kf) (term_again s kf one) ts)) in
      let applied : Each (λ t. is_application t ≡ true) vs = each_set_of (λ t. is_application t ≡ true) term_cmp us (each_of (λ t. is_application t ≡ true) us (λ t i. (in_filtered is_application (map (normal kf) ts) t i).1)) in
      ap (λ ws. set_of term_cmp (filter is_application ws)) (map_fixed (normal kf) vs fixed)
      ∙ ap (set_of term_cmp) (filter_fixed is_application vs applied)
      ∙ set_again term_cmp_total term_cmp_tells us

tidied_again : (s : Signature) (d : Five) → ((f : ℕ) (ds : List ℕ) (e e' : ℕ) → IsIn e (values_at d.kf f ds) → IsIn e' (values_at d.kf f ds) → e ≡ e') → tidied (tidied d) ≡ tidied d
unfolding tidied
tidied_again s d one = λ i. record {
  kf = d.kf;
  kw = set_mapped_again conj_cmp_total conj_cmp_tells (normal_conj d.kf) (conj_again s d.kf one) d.kw i;
  kv = values_again s d.kf one d.kv i;
  kx = set_mapped_again conj_cmp_total conj_cmp_tells (normal_group d.kf) (group_again s d.kf one) d.kx i;
  lcw = set_mapped_again entry_cmp_total entry_cmp_tells (normal_entry d.kf) (entry_again s d.kf one) d.lcw i;
}

-- closed databases are in normal form
pub closed_tidied : (s : Signature) → HasValues s → (d : Five) → IsClosed s d → tidied d ≡ d
closed_tidied s inhabited d closed =
    let last = rounds s closed.closes.count closed.from in
    let end = end_of s closed.from d closed.closes in
    let one = one_value s last inhabited (saturated_end s last closed.closes.last) end.0 in
    ap tidied end.1 ∙ tidied_again s last one ∙ sym end.1
