-- A number of at most four digits that doesn't begin with 0 is from 1 to 9,999.
use Rattle.std.proofs.Common.{◌≡◌, ℕ, suc, ◌+◌, ◌-◌, ◌*◌, ◌≤◌, ◌==◌, nat_lt, true, false, not, ◌&&◌, List, [], ◌∷◌, length, take, arith}
use Rattle.std.specs.List.{list_all}
use Rattle.std.specs.Char.{is_ascii_digit}
use Rattle.std.proofs.lemmas.Bool.{false≢true, and_parts}
use Rattle.std.proofs.lemmas.Bool.Decides.{nat_tests}
use Rattle.std.proofs.lemmas.List.{take_all}
use Rattle.pks_reader_shape.specs.Words.{is_number}
use Rattle.pks_reader_problem.specs.Stated.{numeral}

digit : (b : ℕ) → is_ascii_digit b ≡ true → (48 ≤ b) × (b ≤ 57)
digit b e = grind (arith, nat_tests)

leading : (b : ℕ) → (is_ascii_digit b && not (b == 48)) ≡ true → 49 ≤ b
leading b e = grind (arith, nat_tests)

few : (n : ℕ) → nat_lt 4 (suc n) ≡ false → n ≤ 3
few n e = grind (arith, nat_tests)

-- the greatest number with as many digits behind the others
abbrev greatest : ℕ → List ℕ → ℕ
greatest n [] = n
greatest n (b ∷ bytes) = greatest (n * 10 + 9) bytes

digits_between : (n most : ℕ) (bytes : List ℕ) → list_all is_ascii_digit bytes ≡ true → (1 ≤ n) × (n ≤ most) → (1 ≤ numeral n bytes) × (numeral n bytes ≤ greatest most bytes)
digits_between n most [] e between = between
digits_between n most (b ∷ bytes) e between =
    let both = and_parts (is_ascii_digit b) (list_all is_ascii_digit bytes) e in
    let d = digit b both.0 in
    digits_between (n * 10 + (b - 48)) (most * 10 + 9) bytes both.1 (omega (arith, d, between))

three_digits : (bytes : List ℕ) → length bytes ≤ 3 → greatest 9 bytes ≤ 9999
three_digits [] e = omega arith
three_digits (c ∷ []) e = omega arith
three_digits (c ∷ d ∷ []) e = omega arith
three_digits (c ∷ d ∷ f ∷ []) e = omega arith
three_digits (c ∷ d ∷ f ∷ g ∷ bytes) e = absurd (omega (arith, e))

pub cost_between : (text : List ℕ) → is_number text ≡ true → nat_lt 4 (length text) ≡ false → (1 ≤ numeral 0 (take 4 text)) × (numeral 0 (take 4 text) ≤ 9999)
cost_between [] e short = absurd (false≢true e)
cost_between (b ∷ bytes) e short =
    let both = and_parts (is_ascii_digit b && not (b == 48)) (list_all is_ascii_digit bytes) e in
    let low = leading b both.0 in
    let high = digit b (and_parts (is_ascii_digit b) (not (b == 48)) both.0).0 in
    let n = digits_between (0 * 10 + (b - 48)) 9 bytes both.1 (omega (arith, low, high)) in
    let most = three_digits bytes (few (length bytes) short) in
    rw (take_all 3 bytes (few (length bytes) short)) (omega (arith, n, most))
