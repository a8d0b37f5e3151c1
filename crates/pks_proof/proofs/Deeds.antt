-- Actions beside a moment.
use Rattle.std.proofs.Common.{◌≡◌, ◌-◌, ℕ, zero, suc, Bool, false, List, slice_get, Option, Some, None, refl, sym, ap, ◌∙◌, subst, arith}
use Rattle.std.specs.Option.{option_map, option_map_or}
use Rattle.pks_terms.specs.Actions.{Effect}
use Rattle.pks_terms.specs.Problems.{Problem}
use Rattle.pks_terms.specs.Settling.{effects_of}
use Rattle.pks_terms.specs.Proofs.{Path, deeds}
use Rattle.pks_terms.specs.Judging.{Judge}
use Rattle.pks_terms.specs.Accepting.{from_moment, to_moment}
use Rattle.pks_proof.specs.declared.barring.Transition.{Transition}
use Rattle.pks_proof.specs.Doings.{effects_by, before_in, moment_in}
use Rattle.pks_proof.specs.Lines.{IsDeedAt}

mapped_or : {X Y : Type 0} (f : X → Y) (q : Y → Bool) (o : Option X) → option_map_or q (option_map f o) false ≡ option_map_or (λ x. q (f x)) o false
mapped_or f q None = refl
mapped_or f q (Some x) = refl

-- a test of the action that follows the moment
pub deed_from_is : (p : Problem) (path : Path) (j : Judge) (m : ℕ) (d : Transition) (q : Judge → ℕ → List Effect → Bool) → IsDeedAt p path j m d
    → q (before_in d) (moment_in d) (effects_by d) ≡ from_moment p path m (λ es. q j m es)
deed_from_is p path j m d q x =
    ap (λ k. q k (moment_in d) (effects_by d)) x.judge
    ∙ ap (λ n. q j n (effects_by d)) x.moment
    ∙ ap (λ o. option_map_or (q j m) o false) (sym x.effects)
    ∙ mapped_or (effects_of p) (q j m) (slice_get (deeds path) m)

-- a test of the action that leads to the moment
pub deed_to_is : (p : Problem) (path : Path) (j : Judge) (m : ℕ) (d : Transition) (q : Judge → ℕ → List Effect → Bool) → (m ≡ 0 → ⊥) → IsDeedAt p path j (m - 1) d
    → q (before_in d) (moment_in d) (effects_by d) ≡ to_moment p path m (λ k es. q j k es)
deed_to_is p path j zero d q h x = absurd (h refl)
deed_to_is p path j (suc m) d q h x = let e : suc m - 1 ≡ m = omega arith in deed_from_is p path j m d q (subst (λ k. IsDeedAt p path j k d) e x)
