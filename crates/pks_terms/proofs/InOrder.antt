-- A literal put in at its place.
use Rattle.std.proofs.Common.{◌≡◌, ◌∙◌, ℕ, zero, suc, List, [], ◌∷◌, map, insert, cond, refl, ap}
use Rattle.std.specs.declared.cmp.Ordering.TheVariants.{Less, Equal, Greater}
use Rattle.std.specs.Ordering.{is_gt}
use Rattle.pks_terms.specs.Sets.{Each}
use Rattle.pks_terms.specs.Syntax.{Literal}
use Rattle.pks_terms.specs.Orders.{literal_cmp}
use Rattle.pks_terms.specs.Closure.{put_in}
use Rattle.pks_terms.specs.Placing.{count_below}
use Rattle.pks_terms.specs.Views.{literal_of}
use Rattle.pks_terms.specs.declared.literal.Literal.{Literal as CodeLiteral}

at_place : (l : CodeLiteral) (xs : List CodeLiteral) → map literal_of (insert xs (count_below literal_cmp (literal_of l) (map literal_of xs)) l) ≡ put_in (literal_of l) (map literal_of xs)
at_place l [] = refl
at_place l (x ∷ xs) =
    elim (literal_cmp (literal_of l) (literal_of x)) as (λ o. map literal_of (insert (x ∷ xs) (cond (is_gt o) (suc (count_below literal_cmp (literal_of l) (map literal_of xs))) 0) l)
    ≡ elim o as (λ _. List Literal) [ Less ↦ literal_of l ∷ literal_of x ∷ map literal_of xs | Equal ↦ literal_of l ∷ literal_of x ∷ map literal_of xs | Greater ↦ literal_of x ∷ put_in (literal_of l) (map literal_of xs) ]) [
      | Less ↦ refl
      | Equal ↦ refl
      | Greater ↦ ap (λ (ls : List Literal). literal_of x ∷ ls) (at_place l xs)
    ]

-- what is put in behind those that are below it
pub put_in_place : (l : CodeLiteral) (xs : List CodeLiteral) (n : ℕ) → n ≡ count_below literal_cmp (literal_of l) (map literal_of xs) → map literal_of (insert xs n l) ≡ put_in (literal_of l) (map literal_of xs)
put_in_place l xs n is = ap (λ (k : ℕ). map literal_of (insert xs k l)) is ∙ at_place l xs

-- what holds of each literal holds of each with one more
pub each_put_in : (P : CodeLiteral → Type 0) (l : CodeLiteral) (xs : List CodeLiteral) (n : ℕ) → Each P xs → P l → Each P (insert xs n l)
each_put_in P l xs zero before now = (now, before)
each_put_in P l [] (suc n) before now = (now, before)
each_put_in P l (x ∷ xs) (suc n) before now = (before.0, each_put_in P l xs n before.1 now)
