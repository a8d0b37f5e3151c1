-- What stands in a table of failed searches, as a map from marks, and what is done to it.
use Rattle.std.specs.Prelude.{ℕ, ◌<◌, ◌≡◌, ◌⊎◌, [], length, nat_eq, Option, Some, None}
use Rattle.std.specs.Map.{lookup}
use Rattle.pks_search_nogoods.specs.declared.failures.TheConstants.{FALLEN, LAST_MET}
use Rattle.lru.specs.LruCache.{LruCache, lru_cache, put_entries, displaced}
use Rattle.pks_search_nogoods.specs.declared.failures.Failure.{Failure}
use Rattle.pks_search_nogoods.specs.declared.failures.Failures.{Failures}

-- a table as it is seen: failures under marks, and how many there may be
abbrev pub Table : Type 0
Table = LruCache ℕ Failure

-- what stands under the mark
abbrev pub at_mark : Table → ℕ → Option Failure
at_mark table mark = lookup (nat_eq mark) table.entries

-- the same stands under each mark
abbrev pub StandAlike : Table → Table → Type 0
StandAlike old new = (m : ℕ) → at_mark new m ≡ at_mark old m

-- there is room for one more
abbrev pub HasRoom : Table → Type 0
HasRoom table = length table.entries < table.cap

-- the table with the failure put in: in place of the one under the same mark, or of the one that was met longest ago where there is no room
abbrev pub with_put : Table → ℕ → Failure → Table
with_put old mark x = lru_cache (put_entries nat_eq old mark x) old.cap

-- the failure is put in and another put out, or the table is as it was and nothing is put out
abbrev pub IsPut : ℕ → Failure → Table → Table → Option (ℕ × Failure) → Type 0
IsPut mark x old new out = ((new ≡ old) × (out ≡ None)) ⊎ ((new ≡ with_put old mark x) × (out ≡ displaced nat_eq old mark x))

-- where there is room, what stands under other marks stands there as it did
abbrev pub KeepsOthers : ℕ → Table → Table → Type 0
KeepsOthers mark old new = HasRoom old → (m : ℕ) → (m ≡ mark → ⊥) → at_mark new m ≡ at_mark old m

-- each failure stands as it did, or is the one that is put out
abbrev pub LosesNone : Table → Table → Option (ℕ × Failure) → Type 0
LosesNone old new out = (m : ℕ) (y : Failure) → at_mark old m ≡ Some y → (at_mark new m ≡ Some y) ⊎ (out ≡ Some (m, y))

-- ---- both tables

-- both are empty: there may be 4,096 failures in the first, and 65,536 in the one behind it
pub record AreEmpty (f : Failures) : Type 0 where
  pub last : f.last ≡ lru_cache [] LAST_MET
  pub fallen : f.fallen ≡ lru_cache [] FALLEN

-- the second is as it was, or what the first put out is put in there
abbrev pub IsPutBehind : Option (ℕ × Failure) → Table → Table → Type 0
IsPutBehind out old new = (new ≡ old) ⊎ ((m : ℕ) × (y : Failure) × (out ≡ Some (m, y)) × (new ≡ with_put old m y))

-- both are as they were, or the failure stands in the first and what that put out goes to the second, if there is memory
abbrev pub AreNoted : ℕ → Failure → Failures → Failures → Type 0
AreNoted mark x old new = ((new.last ≡ old.last) × (new.fallen ≡ old.fallen)) ⊎ ((new.last ≡ with_put old.last mark x) × IsPutBehind (displaced nat_eq old.last mark x) old.fallen new.fallen)

-- where there is room, nothing is lost: in the first but what stood under the same mark, in the second but what stood under a mark of the first
pub record KeepsNoted (mark : ℕ) (old new : Failures) : Type 0 where
  pub last : KeepsOthers mark old.last new.last
  pub fallen : HasRoom old.fallen → (m : ℕ) → at_mark old.last m ≡ None → at_mark new.fallen m ≡ at_mark old.fallen m
