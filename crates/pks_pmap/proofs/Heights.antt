-- A tree of height h has so many entries that 2 ^ h is at most the square of one more than their number.
use Rattle.std.proofs.Common.{◌⊎◌, inl, inr, ◌≡◌, ℕ, suc, ◌+◌, ◌*◌, ◌^◌, ◌≤◌, ◌<◌, max, List, ◌∷◌, ◌++◌, length, refl, subst, arith, length-append}
use Rattle.std.proofs.Math.Pow.{pow_mono}
use Rattle.std.proofs.Math.Nat.{pow-suc}
use Rattle.std.proofs.lemmas.Nat.{mul-le}
use Rattle.pks_pmap.specs.Sides.{IsFull, DifferByAtMost}

double_square : (x y a : ℕ) → x ≤ y → 2 ^ a ≤ x * x → 2 ^ suc (suc a) ≤ (x + y) * (x + y)
double_square x y a le p =
    let q : (x + x) * (x + x) ≤ (x + y) * (x + y) = mul-le (x + x) (x + x) (x + y) (x + y) (omega arith) (omega arith) in
    let e : 2 ^ suc (suc a) ≡ 2 ^ a * 2 * 2 = rw (pow-suc, pow-suc) refl in
    omega (arith, q, e, p)

pub square_grows : (x y a b h : ℕ) → 2 ^ a ≤ x * x → 2 ^ b ≤ y * y → a ≤ b + 1 → b ≤ a + 1 → h ≤ suc (max a b) → 2 ^ h ≤ (x + y) * (x + y)
square_grows x y a b h p q ab ba hh = go (Rattle.std.proofs.lemmas.Bool.cases_order x y)
  where
    from_x : x ≤ y → 2 ^ h ≤ (x + y) * (x + y)
    from_x le = omega (arith, double_square x y a le p, pow_mono {i = h} {j = suc (suc a)} (omega arith))

    from_y : y ≤ x → 2 ^ h ≤ (x + y) * (x + y)
    from_y le = omega (arith, double_square y x b le q, pow_mono {i = h} {j = suc (suc b)} (omega arith))

    go : (x ≡ y) ⊎ ((x < y) ⊎ (y < x)) → 2 ^ h ≤ (x + y) * (x + y)
    go (inl e) = from_x (omega arith)
    go (inr (inl l)) = from_x (omega arith)
    go (inr (inr l)) = from_y (omega arith)

pub full_node : {K V : Type 0} (l : List (K × V)) (e : K × V) (r : List (K × V)) (a b : ℕ) → IsFull a (length l) → IsFull b (length r) → DifferByAtMost 1 a b → IsFull (max a b + 1) (length (l ++ e ∷ r))
full_node l e r a b f g d =
    let n : length l + 1 + (length r + 1) ≡ length (l ++ e ∷ r) + 1 = omega (arith, length-append l (e ∷ r)) in
    record {
      linear = omega (arith, n, f.linear, g.linear);
      square = subst (λ m. 2 ^ (max a b + 1) ≤ m * m) n (square_grows (length l + 1) (length r + 1) a b (max a b + 1) f.square g.square d.0 d.1 (omega arith));
    }
