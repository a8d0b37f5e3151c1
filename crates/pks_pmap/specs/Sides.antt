-- What holds of the two sides of a node. A side is its entries and its height.
use Rattle.std.specs.Prelude.{◌≡◌, ℕ, zero, suc, ◌+◌, ◌*◌, ◌^◌, ◌≤◌, ◌<◌, max, min, ◌-◌, List, ◌∷◌, ◌++◌, length}
use Rattle.std.specs.declared.cmp.Ordering.{Ordering}
use Rattle.pks_pmap.specs.Entries.{IsAscending, insert, remove}

-- neither height is more than this above the other
abbrev pub DifferByAtMost : ℕ → ℕ → ℕ → Type 0
DifferByAtMost by l r = (l ≤ r + by) × (r ≤ l + by)

-- a height is small for a number of entries
pub record IsFull (height len : ℕ) : Type 0 where
  pub linear : height ≤ len
  pub square : 2 ^ height ≤ (len + 1) * (len + 1)

-- a node of two sides and an entry between them stores its height and the number of its entries, and is balanced
pub record IsNode {K V : Type 0} (R : K → K → Ordering) (l : List (K × V) × ℕ) (e : K × V) (r : List (K × V) × ℕ) (height len : ℕ) : Type 0 where
  pub ascending : IsAscending R (l.0 ++ e ∷ r.0)
  pub is_height : height ≡ max l.1 r.1 + 1
  pub balanced : DifferByAtMost 1 l.1 r.1
  pub is_len : len ≡ length (l.0 ++ e ∷ r.0)
  pub full : IsFull height len

-- a count after one more, which stays at the greatest number of 64 bits
abbrev pub raised : ℕ → ℕ
raised m = min (m + 1) (2 ^ 64 - 1)

-- a count after so many more
abbrev pub raised_by : ℕ → ℕ → ℕ
raised_by zero m = m
raised_by (suc n) m = raised (raised_by n m)

-- t is a tree of the two sides, at most one higher than the higher side, and made from a count of nodes to another:
-- with one node where the sides differ by at most one, and else with at most three, or two where it is higher than both
pub record IsBalancing {K V : Type 0} (l : List (K × V) × ℕ) (e : K × V) (r : List (K × V) × ℕ) (old new : ℕ) (t : List (K × V) × ℕ) : Type 0 where
  pub entries : t.0 ≡ l.0 ++ e ∷ r.0
  pub not_lower : max l.1 r.1 ≤ t.1
  pub at_most_one_higher : t.1 ≤ max l.1 r.1 + 1
  pub few : new + t.1 ≤ old + max l.1 r.1 + 3
  pub one : DifferByAtMost 1 l.1 r.1 → (t.1 ≡ max l.1 r.1 + 1) × (new ≤ old + 1)

-- t is the tree d with the entry e in it, made from a count of nodes to another
pub record IsInsertion {K V : Type 0} (R : K → K → Ordering) (e : K × V) (d : List (K × V) × ℕ) (old new : ℕ) (t : List (K × V) × ℕ) : Type 0 where
  pub entries : t.0 ≡ insert R e d.0
  pub not_lower : d.1 ≤ t.1
  pub at_most_one_higher : t.1 ≤ d.1 + 1
  pub few : new + t.1 ≤ old + (3 * d.1 + 2)

-- t is the tree d without the entry at the key
pub record IsRemoval {K V : Type 0} (R : K → K → Ordering) (k : K) (d t : List (K × V) × ℕ) : Type 0 where
  pub entries : t.0 ≡ remove R k d.0
  pub not_higher : t.1 ≤ d.1
  pub at_most_one_lower : d.1 ≤ t.1 + 1

-- e is the first entry of d, and t the tree without it
pub record IsTakingFirst {K V : Type 0} (d : List (K × V) × ℕ) (e : K × V) (t : List (K × V) × ℕ) : Type 0 where
  pub entries : d.0 ≡ e ∷ t.0
  pub not_higher : t.1 ≤ d.1
  pub at_most_one_lower : d.1 ≤ t.1 + 1

-- t is a tree of the two sides with no entry between them
pub record IsGluing {K V : Type 0} (l r t : List (K × V) × ℕ) : Type 0 where
  pub entries : t.0 ≡ l.0 ++ r.0
  pub not_lower : DifferByAtMost 1 l.1 r.1 → max l.1 r.1 ≤ t.1
  pub at_most_one_higher : t.1 ≤ max l.1 r.1 + 1

-- t is a tree of the two sides, at most one higher than the higher side
pub record IsJoining {K V : Type 0} (l : List (K × V) × ℕ) (e : K × V) (r t : List (K × V) × ℕ) : Type 0 where
  pub entries : t.0 ≡ l.0 ++ e ∷ r.0
  pub not_lower : max l.1 r.1 ≤ t.1
  pub at_most_one_higher : t.1 ≤ max l.1 r.1 + 1
  pub even : DifferByAtMost 1 l.1 r.1 → t.1 ≡ max l.1 r.1 + 1

-- h is the greatest number whose power of two is at most the square of one more than n
pub record IsGreatestHeight (n h : ℕ) : Type 0 where
  pub fits : 2 ^ h ≤ (n + 1) * (n + 1)
  pub greatest : (i : ℕ) → 2 ^ i ≤ (n + 1) * (n + 1) → i ≤ h

-- a height is the least that has room for so many entries
pub record IsLeastHeight (height count : ℕ) : Type 0 where
  pub room : count + 1 ≤ 2 ^ height
  pub none : count ≡ 0 → height ≡ 0
  pub least : 0 < count → 2 ^ height ≤ 2 * count

-- t is the tree of the last so many of the old entries, and the new ones are those before them
pub record IsBuilt {K V : Type 0} (count : ℕ) (old new : List (K × V)) (made_before made : ℕ) (t : List (K × V) × ℕ) : Type 0 where
  pub entries : old ≡ new ++ t.0
  pub is_count : length t.0 ≡ count
  pub height : IsLeastHeight t.1 count
  pub counted : made ≡ raised_by count made_before
