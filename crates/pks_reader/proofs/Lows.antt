-- Bytes up to 127.
use Rattle.std.proofs.Common.{◌≡◌, ◌∙◌, ℕ, suc, ◌+◌, ◌<◌, ◌≤◌, length, drop, get_or, add-one, Bool, true, false, cond, nat_lt, List, [], ◌∷◌, Option, Some, None, option_map, refl, sym, ap, arith, IsUtf8}
use Rattle.std.specs.List.{AllByRecursion}
use Rattle.std.proofs.Math.Seq.{drop-cons}
use Rattle.std.proofs.lemmas.List.{drop_all}
use Rattle.std.proofs.lemmas.Option.{none-some}
use Rattle.std.proofs.lemmas.Bool.Decides.{nat_tests}
use Rattle.std.proofs.lemmas.List.Elements.{All-from_recursion}
use Rattle.std.proofs.lemmas.Str.Ascii.{IsAscii-from_all}
use Rattle.std.proofs.lemmas.Str.{IsUtf8-from_ascii}
use Rattle.pks_reader.specs.Inputs.{first_high}

map_none : (o : Option ℕ) → option_map suc o ≡ None → o ≡ None
map_none None e = refl
map_none (Some n) e = absurd (none-some (suc n) (sym e))

all_low : (bytes : List ℕ) → first_high bytes ≡ None → AllByRecursion (λ b. b < 128) bytes
all_low [] low = tt
all_low (b ∷ bytes) low = by_byte (nat_lt 127 b) refl low (λ later. all_low bytes later)
  where
    byte : nat_lt 127 b ≡ false → b < 128
    byte e = grind (arith, nat_tests)

    by_byte : (t : Bool) → nat_lt 127 b ≡ t → cond t (Some 0) (option_map suc (first_high bytes)) ≡ None → (first_high bytes ≡ None → AllByRecursion (λ b. b < 128) bytes) → AllByRecursion (λ b. b < 128) (b ∷ bytes)
    by_byte true is e later = absurd (none-some 0 (sym e))
    by_byte false is e later = (byte is, later (map_none (first_high bytes) e))

-- bytes up to 127 are a text
pub low_is_text : (bytes : List ℕ) → first_high bytes ≡ None → IsUtf8 bytes
low_is_text bytes low = IsUtf8-from_ascii bytes (IsAscii-from_all bytes (All-from_recursion (λ b. b < 128) bytes (all_low bytes low)))

-- ---- the walk over them

-- the place, counted from n on
abbrev pub behind : ℕ → Option ℕ → Option ℕ
behind n o = option_map (λ k. n + k) o

pub at_first : (o : Option ℕ) → behind 0 o ≡ o
at_first None = refl
at_first (Some k) = let same : 0 + k ≡ k = omega arith in ap (λ (n : ℕ). Some n) same

shifted : (n : ℕ) (o : Option ℕ) → behind n (option_map suc o) ≡ behind (n + 1) o
shifted n None = refl
shifted n (Some k) = let same : n + suc k ≡ (n + 1) + k = omega arith in ap (λ (m : ℕ). Some m) same

low_step : (n b : ℕ) (bytes : List ℕ) → nat_lt 127 b ≡ false → behind n (first_high (b ∷ bytes)) ≡ behind (n + 1) (first_high bytes)
low_step n b bytes low = ap (λ (t : Bool). behind n (cond t (Some 0) (option_map suc (first_high bytes)))) low ∙ shifted n (first_high bytes)

high_here : (n b : ℕ) (bytes : List ℕ) → nat_lt 127 b ≡ true → behind n (first_high (b ∷ bytes)) ≡ Some n
high_here n b bytes high = let same : n + 0 ≡ n = omega arith in ap (λ (t : Bool). behind n (cond t (Some 0) (option_map suc (first_high bytes)))) high ∙ ap (λ (m : ℕ). Some m) same

is_high : (b : ℕ) → 127 < b → nat_lt 127 b ≡ true
is_high b high = grind (arith, nat_tests)

is_low : (b : ℕ) → b ≤ 127 → nat_lt 127 b ≡ false
is_low b low = grind (arith, nat_tests)

module _ (input : List ℕ) (at i : ℕ) (walked : (at ≡ i) × (behind at (first_high (drop i input)) ≡ first_high input)) where
  here : i < length input → drop i input ≡ get_or input i 0 ∷ drop (i + 1) input
  here within = drop-cons input i 0 within ∙ ap (λ (n : ℕ). get_or input i 0 ∷ drop n input) (sym (add-one i))

  pub found_high : i < length input → 127 < get_or input i 0 → Some at ≡ first_high input
  found_high within high =
      sym (high_here at (get_or input i 0) (drop (i + 1) input) (is_high (get_or input i 0) high)) ∙ ap (λ (xs : List ℕ). behind at (first_high xs)) (sym (here within)) ∙ walked.1

  pub one_more : i < length input → get_or input i 0 ≤ 127 → (at + 1 ≡ i + 1) × (behind (at + 1) (first_high (drop (i + 1) input)) ≡ first_high input)
  one_more within low = (
    ap (λ (n : ℕ). n + 1) walked.0,
    sym (low_step at (get_or input i 0) (drop (i + 1) input) (is_low (get_or input i 0) low)) ∙ ap (λ (xs : List ℕ). behind at (first_high xs)) (sym (here within)) ∙ walked.1,
  )

  pub none_high : length input ≤ i → None ≡ first_high input
  none_high past = ap (λ (xs : List ℕ). behind at (first_high xs)) (sym (drop_all i input past)) ∙ walked.1
