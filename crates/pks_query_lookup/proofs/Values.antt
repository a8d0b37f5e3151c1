-- The least of values.
use Rattle.std.proofs.Common.{◌≡◌, ℕ, cond, nat_lt, List, ◌∷◌, Option, Some, None, refl, ap, arith}
use Rattle.std.proofs.lemmas.Grind.{common_steps}
use Rattle.pks_terms.specs.Databases.{least}
use Rattle.pks_query_lookup.specs.Reading.{lower}

pub lower-none : (a : Option ℕ) → lower a None ≡ a
lower-none None = refl
lower-none (Some d) = refl

lowest : (a b c : ℕ) → cond (nat_lt (cond (nat_lt c b) c b) a) (cond (nat_lt c b) c b) a ≡ cond (nat_lt c (cond (nat_lt b a) b a)) c (cond (nat_lt b a) b a)
lowest a b c = grind (arith, common_steps)

pub lower_assoc : (a b c : Option ℕ) → lower a (lower b c) ≡ lower (lower a b) c
lower_assoc None b c = refl
lower_assoc (Some a) None c = refl
lower_assoc (Some a) (Some b) None = refl
lower_assoc (Some a) (Some b) (Some c) = ap Some (lowest a b c)

pub least_cons : (d : ℕ) (ds : List ℕ) → least (d ∷ ds) ≡ lower (Some d) (least ds)
least_cons d ds = elim (least ds) as (λ o. ◌≡◌ {A = Option ℕ} (Some (elim o [ None ↦ d | Some e ↦ cond (nat_lt e d) e d ])) (lower (Some d) o)) [ None ↦ refl | Some e ↦ refl ]
