-- What is right in a table stays so when one more is put in, and what falls out was right.
use Rattle.std.proofs.Common.{◌≡◌, ◌⊎◌, ℕ, nat_eq, Contains, ◌-◌, IfSome, Option, Some, None, slice_get, refl, sym, ap, subst, ⊎_elim}
use Rattle.std.specs.Option.{option_map_or}
use Rattle.std.specs.Map.{lookup}
use Rattle.std.proofs.lemmas.Option.{same_Some, slice_get_within, get_or_from_slice_get}
use Rattle.lru.specs.LruCache.{LruCache, lru_cache, put_entries, displaced}
use Rattle.lru.proofs.CallerLemmas.{Contains-lookup, Contains-put_entries}
use Rattle.pks_terms.specs.Problems.{Problem}
use Rattle.pks_search_nogoods.specs.Failing.{IsRight, AreRightIn}
use Rattle.pks_search_nogoods.specs.declared.failures.Failure.{Failure}

module _ (p : Problem) (table : LruCache ℕ Failure) (mark : ℕ) (new : Failure) (right : AreRightIn p table) where
  pub right_put : IsRight p new → (after : LruCache ℕ Failure) → (after ≡ lru_cache (put_entries nat_eq table mark new) table.cap) ⊎ (after ≡ table) → AreRightIn p after
  right_put is after ends m x there =
      ⊎_elim
      (λ put. ⊎_elim (λ was. right m x was) (λ q. subst (IsRight p) (sym q.0) is)
      (Contains-put_entries nat_eq table mark new (m, x) (subst (λ y. Contains y.entries (m, x)) put there)))
      (λ same. right m x (subst (λ y. Contains y.entries (m, x)) same there))
      ends

  pub right_fallen : (o : Option (ℕ × Failure)) → o ≡ displaced nat_eq table mark new → IfSome o (λ e. IsRight p e.1)
  right_fallen None e = tt
  right_fallen (Some e) q = go (lookup (nat_eq mark) table.entries) refl q
    where
      go : (o : Option Failure) → lookup (nat_eq mark) table.entries ≡ o → Some e ≡ option_map_or (λ old. let r : Option (ℕ × Failure) = Some (mark, old) in r) o (slice_get table.entries (table.cap - 1)) → IsRight p e.1
      go None q k = right e.0 e.1 (table.cap - 1, slice_get_within table.entries (table.cap - 1) e (sym k), get_or_from_slice_get table.entries (table.cap - 1) e e (sym k))
      go (Some old) q k =
          let found = Contains-lookup (nat_eq mark) table.entries old q in
          subst (IsRight p) (ap (λ (r : ℕ × Failure). r.1) (same_Some (mark, old) e (sym k))) (right found.0 old found.1)
