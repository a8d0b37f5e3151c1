-- What stands under each mark after a put, and after what was met is made the last.
use Rattle.std.proofs.Common.{◌≡◌, ◌≤◌, ◌<◌, ◌+◌, ◌-◌, ◌⊎◌, ℕ, zero, suc, Bool, true, false, cond, List, [], ◌∷◌, take, length, slice_get, nat_eq, Option, Some, None, refl, sym, ap, ◌∙◌, subst, inl, inr, arith, true≢false}
use Rattle.std.proofs.lemmas.Bool.{eqb-true, eq-eqb}
use Rattle.std.proofs.lemmas.Bool.Decides.{eqb_tells}
use Rattle.std.proofs.lemmas.List.{take_all}
use Rattle.std.proofs.lemmas.Option.{none-some, same_Some}
use Rattle.std.specs.Option.{option_map_or}
use Rattle.std.specs.Map.{lookup, lookup_entry, remove_entry}
use Rattle.lru.specs.LruCache.{LruCache, promoted, put_entries, displaced}
use Rattle.lru.proofs.CallerLemmas.{Contains-lookup_entry}

-- under another mark
other_mark : (m k n : ℕ) → (m ≡ k → ⊥) → nat_eq k n ≡ true → nat_eq m n ≡ false
other_mark m k n apart e = elim (eqb_tells m n) [
  | inl same ↦ absurd (apart (same.1 ∙ sym (eqb-true k n e)))
  | inr other ↦ other.0
]

module _ {X : Type 0} where
  -- the value of the entry that is found
  found_value : (k : ℕ) (es : List (ℕ × X)) → lookup (nat_eq k) es ≡ option_map_or (λ (e : ℕ × X). let r : Option X = Some e.1 in r) (lookup_entry (nat_eq k) es) None
  found_value k [] = refl
  found_value k (f ∷ es) = elim (nat_eq k f.0) as (λ b. cond b (Some f.1) (lookup (nat_eq k) es) ≡ option_map_or (λ (e : ℕ × X). let r : Option X = Some e.1 in r) (cond b (Some f) (lookup_entry (nat_eq k) es)) None) [
    | true ↦ refl
    | false ↦ found_value k es
  ]

  -- taking one away leaves what stands under other marks
  removed_other : (m k : ℕ) → (m ≡ k → ⊥) → (es : List (ℕ × X)) → lookup (nat_eq m) (remove_entry (nat_eq k) es) ≡ lookup (nat_eq m) es
  removed_other m k apart [] = refl
  removed_other m k apart (f ∷ es) = elim (nat_eq k f.0) as (λ b. nat_eq k f.0 ≡ b → lookup (nat_eq m) (cond b es (f ∷ remove_entry (nat_eq k) es)) ≡ lookup (nat_eq m) (f ∷ es)) [
    | true ↦ λ e. sym (ap (λ b. cond b (Some f.1) (lookup (nat_eq m) es)) (other_mark m k f.0 apart e))
    | false ↦ λ e. ap (λ o. cond (nat_eq m f.0) (Some f.1) o) (removed_other m k apart es)
  ] refl

  -- the one that is found has the mark
  found_mark : (k : ℕ) (es : List (ℕ × X)) (e : ℕ × X) → lookup_entry (nat_eq k) es ≡ Some e → e.0 ≡ k
  found_mark k es e h = sym (eqb-true k e.0 (Contains-lookup_entry (nat_eq k) es e h).1)

  -- one at the front, and another behind it
  in_front : (m : ℕ) (n : ℕ) (x : X) (es : List (ℕ × X)) → (m ≡ n → ⊥) → lookup (nat_eq m) ((n, x) ∷ es) ≡ lookup (nat_eq m) es
  in_front m n x es apart = elim (eqb_tells m n) [
    | inl same ↦ absurd (apart same.1)
    | inr other ↦ ap (λ b. cond b (Some x) (lookup (nat_eq m) es)) other.0
  ]

  at_front : (m : ℕ) (n : ℕ) (x : X) (es : List (ℕ × X)) → m ≡ n → lookup (nat_eq m) ((n, x) ∷ es) ≡ Some x
  at_front m n x es same = ap (λ b. cond b (Some x) (lookup (nat_eq m) es)) (eq-eqb m n same)

  -- what was met is made the last: the same stands under each mark
  pub promoted_alike : (k : ℕ) (es : List (ℕ × X)) (m : ℕ) → lookup (nat_eq m) (promoted (nat_eq k) es) ≡ lookup (nat_eq m) es
  promoted_alike k es m = go (lookup_entry (nat_eq k) es) refl
    where
      go : (o : Option (ℕ × X)) → lookup_entry (nat_eq k) es ≡ o → lookup (nat_eq m) (option_map_or (λ e. e ∷ remove_entry (nat_eq k) es) o es) ≡ lookup (nat_eq m) es
      go None h = refl
      go (Some e) h = elim (eqb_tells m e.0) [
        | inl same ↦ at_front m e.0 e.1 (remove_entry (nat_eq k) es) same.1 ∙ sym (ap (λ j. lookup (nat_eq j) es) (same.1 ∙ found_mark k es e h) ∙ found_value k es ∙ ap (λ o. option_map_or (λ (f : ℕ × X). let r : Option X = Some f.1 in r) o None) h)
        | inr other ↦ in_front m e.0 e.1 (remove_entry (nat_eq k) es) other.1 ∙ removed_other m k (λ same. other.1 (same ∙ sym (found_mark k es e h))) es
      ]

  -- the one that is cut off from the end of a full table, or what stands under the mark still does
  cut_off : (m : ℕ) (y : X) (n : ℕ) (es : List (ℕ × X)) → length es ≤ n + 1 → lookup (nat_eq m) es ≡ Some y → (lookup (nat_eq m) (take n es) ≡ Some y) ⊎ (slice_get es n ≡ Some (m, y))
  cut_off m y n [] within h = absurd (none-some y h)
  cut_off m y zero (f ∷ g ∷ es) within h = absurd (omega arith)
  cut_off m y zero (f ∷ []) within h = elim (eqb_tells m f.0) [
    | inl same ↦ inr (λ i. Some (sym same.1 i, same_Some f.1 y (sym (at_front m f.0 f.1 [] same.1) ∙ h) i))
    | inr other ↦ absurd (none-some y (sym (in_front m f.0 f.1 [] other.1) ∙ h))
  ]
  cut_off m y (suc n) (f ∷ es) within h = elim (eqb_tells m f.0) [
    | inl same ↦ inl (at_front m f.0 f.1 (take n es) same.1 ∙ sym (at_front m f.0 f.1 es same.1) ∙ h)
    | inr other ↦ elim (cut_off m y n es (omega arith) (sym (in_front m f.0 f.1 es other.1) ∙ h)) [
      | inl stands ↦ inl (in_front m f.0 f.1 (take n es) other.1 ∙ stands)
      | inr last ↦ inr last
    ]
  ]

  -- what stands at a place stands under its mark, or another does
  some_there : (es : List (ℕ × X)) (n k : ℕ) (y : X) → slice_get es n ≡ Some (k, y) → lookup (nat_eq k) es ≡ None → ⊥
  some_there [] n k y h none = none-some (k, y) h
  some_there (f ∷ es) zero k y h none = none-some f.1 (sym none ∙ at_front k f.0 f.1 es (sym (ap (λ (e : ℕ × X). e.0) (same_Some f (k, y) h))))
  some_there (f ∷ es) (suc n) k y h none = elim (eqb_tells k f.0) [
    | inl same ↦ none-some f.1 (sym none ∙ at_front k f.0 f.1 es same.1)
    | inr other ↦ some_there es n k y h (sym (in_front k f.0 f.1 es other.1) ∙ none)
  ]

  module _ (c : LruCache ℕ X) (k : ℕ) (x : X) where
    -- a put leaves what stands under other marks, where there is room
    pub put_keeps : length c.entries < c.cap → (m : ℕ) → (m ≡ k → ⊥) → lookup (nat_eq m) (put_entries nat_eq c k x) ≡ lookup (nat_eq m) c.entries
    put_keeps room m apart = go (lookup_entry (nat_eq k) c.entries) refl
      where
        go : (o : Option (ℕ × X)) → lookup_entry (nat_eq k) c.entries ≡ o → lookup (nat_eq m) (option_map_or (λ e. (e.0, x) ∷ remove_entry (nat_eq k) c.entries) o ((k, x) ∷ take (c.cap - 1) c.entries)) ≡ lookup (nat_eq m) c.entries
        go None h = in_front m k x (take (c.cap - 1) c.entries) apart ∙ ap (lookup (nat_eq m)) (take_all (c.cap - 1) c.entries (omega arith))
        go (Some e) h = in_front m e.0 x (remove_entry (nat_eq k) c.entries) (λ same. apart (same ∙ found_mark k c.entries e h)) ∙ removed_other m k apart c.entries

    -- a put gives back what it puts out, and loses nothing else
    pub put_loses_none : length c.entries ≤ c.cap → (m : ℕ) (y : X) → lookup (nat_eq m) c.entries ≡ Some y → (lookup (nat_eq m) (put_entries nat_eq c k x) ≡ Some y) ⊎ (displaced nat_eq c k x ≡ Some (m, y))
    put_loses_none within m y there = elim (eqb_tells m k) [
      | inl same ↦ inr (ap (λ o. option_map_or (λ (old : X). let r : Option (ℕ × X) = Some (k, old) in r) o (slice_get c.entries (c.cap - 1))) (ap (λ j. lookup (nat_eq j) c.entries) (sym same.1) ∙ there) ∙ (λ i. Some (sym same.1 i, y)))
      | inr other ↦ go other.1 (lookup_entry (nat_eq k) c.entries) refl
    ]
      where
        go : (m ≡ k → ⊥) → (o : Option (ℕ × X)) → lookup_entry (nat_eq k) c.entries ≡ o → (lookup (nat_eq m) (option_map_or (λ e. (e.0, x) ∷ remove_entry (nat_eq k) c.entries) o ((k, x) ∷ take (c.cap - 1) c.entries)) ≡ Some y) ⊎ (displaced nat_eq c k x ≡ Some (m, y))
        go apart None h = elim (cut_off m y (c.cap - 1) c.entries (omega (arith, within)) there) [
          | inl stands ↦ inl (in_front m k x (take (c.cap - 1) c.entries) apart ∙ stands)
          | inr last ↦ inr (ap (λ o. option_map_or (λ (old : X). let r : Option (ℕ × X) = Some (k, old) in r) o (slice_get c.entries (c.cap - 1))) (found_value k c.entries ∙ ap (λ o. option_map_or (λ (f : ℕ × X). let r : Option X = Some f.1 in r) o None) h) ∙ last)
        ]
        go apart (Some e) h = inl (in_front m e.0 x (remove_entry (nat_eq k) c.entries) (λ same. apart (same ∙ found_mark k c.entries e h)) ∙ removed_other m k apart c.entries ∙ there)

    -- what is put out stood in the table
    pub put_out_stood : (m : ℕ) (y : X) → displaced nat_eq c k x ≡ Some (m, y) → lookup (nat_eq m) c.entries ≡ None → ⊥
    put_out_stood m y out none = go (lookup (nat_eq k) c.entries) refl out
      where
        go : (o : Option X) → lookup (nat_eq k) c.entries ≡ o → option_map_or (λ (old : X). let r : Option (ℕ × X) = Some (k, old) in r) o (slice_get c.entries (c.cap - 1)) ≡ Some (m, y) → ⊥
        go None h q = some_there c.entries (c.cap - 1) m y q none
        go (Some old) h q = none-some old (sym none ∙ ap (λ j. lookup (nat_eq j) c.entries) (sym (ap (λ (e : ℕ × X). e.0) (same_Some (k, old) (m, y) q))) ∙ h)
