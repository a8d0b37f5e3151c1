-- What is right in the table of finds stays so when one more is put in.
use Rattle.std.proofs.Common.{◌≡◌, ◌⊎◌, ℕ, nat_eq, Contains, sym, subst, ⊎_elim}
use Rattle.lru.specs.LruCache.{LruCache, lru_cache, put_entries}
use Rattle.lru.proofs.CallerLemmas.{Contains-put_entries}
use Rattle.pks_terms.specs.Problems.{Problem}
use Rattle.pks_search_nogoods.specs.Noted.{IsRightFind}
use Rattle.pks_search_nogoods.specs.declared.finds.Find.{Find}

module _ (p : Problem) (table : LruCache ℕ Find) (mark : ℕ) (new : Find) where
  pub found_put : ((m : ℕ) (x : Find) → Contains table.entries (m, x) → IsRightFind p x) → IsRightFind p new → (after : LruCache ℕ Find) → (after ≡ lru_cache (put_entries nat_eq table mark new) table.cap) ⊎ (after ≡ table)
      → (m : ℕ) (x : Find) → Contains after.entries (m, x) → IsRightFind p x
  found_put right is after ends m x there =
      ⊎_elim
      (λ put. ⊎_elim (λ was. right m x was) (λ q. subst (IsRightFind p) (sym q.0) is)
      (Contains-put_entries nat_eq table mark new (m, x) (subst (λ y. Contains y.entries (m, x)) put there)))
      (λ same. right m x (subst (λ y. Contains y.entries (m, x)) same there))
      ends
