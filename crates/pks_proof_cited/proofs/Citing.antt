-- Tests of what is cited, number by number.
use Rattle.std.proofs.Common.{◌≡◌, ◌||◌, ◌-◌, ℕ, zero, suc, Bool, false, List, ◌∷◌, slice_get, Option, Some, None, refl, arith}
use Rattle.std.specs.List.{list_any, cons_option}
use Rattle.std.specs.Option.{option_map_or, option_and_then}
use Rattle.pks_terms.specs.Proofs.{Fact, Proof, nth}
use Rattle.pks_terms.specs.Judging.{fact_then, by_cited}

-- some value that comes of a list passes
any_value : {Y : Type 0} (q : Y → Bool) (o : Option Y) (ys : List Y) → list_any q (cons_option o ys) ≡ (option_map_or q o false || list_any q ys)
any_value q None ys = refl
any_value q (Some y) ys = refl

-- some cited fact passes: that of the first number, or of a later one
pub any_cited : (q : Fact → Bool) (proof : Proof) (m n : ℕ) (ns : List ℕ) → list_any q (by_cited proof (n ∷ ns) m) ≡ (option_map_or q (option_and_then (fact_then m) (nth proof n)) false || list_any q (by_cited proof ns m))
any_cited q proof m n ns = any_value q (option_and_then (fact_then m) (nth proof n)) (by_cited proof ns m)

-- the element of a number, by its index
pub nth_before : {X : Type 0} (xs : List X) (n : ℕ) → (n ≡ 0 → ⊥) → nth xs n ≡ slice_get xs (n - 1)
nth_before xs zero h = absurd (h refl)
nth_before xs (suc n) h = let e : suc n - 1 ≡ n = omega arith in rw e refl
