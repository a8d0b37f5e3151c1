-- What one more add gives.
use Rattle.std.proofs.Common.{◌≡◌, ◌++◌, ◌∙◌, ◌+◌, ◌<◌, ℕ, true, false, cond, List, [], ◌∷◌, map, length, drop, get_or, ap, sym, refl, append_assoc, add-one, filter, flat_map}
use Rattle.std.proofs.Math.Seq.{drop-cons}
use Rattle.pks_terms.specs.declared.schema.Adds.{Adds}
use Rattle.pks_terms.specs.Syntax.{Inner, Pattern}
use Rattle.pks_terms.specs.Signatures.{Signature}
use Rattle.pks_terms.specs.Databases.{Five}
use Rattle.pks_terms.specs.Closure.{normal_pattern}
use Rattle.pks_terms.specs.Actions.{Add, Effect, pattern_at}
use Rattle.pks_terms.specs.Spoiling.{are_stable}
use Rattle.pks_terms.specs.Progress.{fixed_terms, added_region}
use Rattle.pks_terms.specs.Views.{add_of}
use Rattle.pks_progress_adds.specs.declared.deed.Deed.{Deed}
use Rattle.pks_progress_adds.specs.Deeds.{is_applied, if_applied, given_by}

module _ {X : Type 0} (gives : Deed → Add → List X) (x : Deed) where
  pub given_more : (a : Adds) (adds : List Adds) → given_by gives x (a ∷ adds) ≡ if_applied gives x (add_of a) ++ given_by gives x adds
  given_more a adds =
      elim (is_applied x (add_of a)) as (λ b. flat_map (gives x) (cond b (add_of a ∷ filter (is_applied x) (map add_of adds)) (filter (is_applied x) (map add_of adds))) ≡ cond b (gives x (add_of a)) [] ++ flat_map (gives x) (filter (is_applied x) (map add_of adds))) [
        | true ↦ refl
        | false ↦ refl
      ]

  pub one_more :
      (adds : List Adds) (i : ℕ) (d : Adds) (old new : List X)
      → i < length adds
      → new ≡ old ++ if_applied gives x (add_of (get_or adds i d))
      → old ++ given_by gives x (drop i adds) ≡ given_by gives x adds
      → new ++ given_by gives x (drop (i + 1) adds) ≡ given_by gives x adds
  one_more adds i d old new lt e h =
      let a = get_or adds i d in
      let rest = drop (i + 1) adds in
      let front : drop i adds ≡ a ∷ rest = drop-cons adds i d lt ∙ ap (λ n. a ∷ drop n adds) (sym (add-one i)) in
      let all : given_by gives x (drop i adds) ≡ if_applied gives x (add_of a) ++ given_by gives x rest = ap (given_by gives x) front ∙ given_more a rest in
      ap (λ ys. ys ++ given_by gives x rest) e ∙ (append_assoc old (if_applied gives x (add_of a)) (given_by gives x rest) ∙ (ap (λ ys. old ++ ys) (sym all) ∙ h))

-- the region of a pattern in normal form whose fixed terms are stable
pub region_made :
    (s : Signature) (d : Five) (es : List Effect) (given : List Inner) (x y : Pattern)
    → y ≡ normal_pattern d.kf (pattern_at given x)
    → are_stable s d es (fixed_terms y.slots) ≡ true
    → record { pattern = y; listed = [] } ∷ [] ≡ added_region s d es given x
region_made s d es given x y e h =
    sym (ap (λ b. cond b (record { pattern = y; listed = [] } ∷ []) []) h) ∙ ap (λ z. cond (are_stable s d es (fixed_terms z.slots)) (record { pattern = z; listed = [] } ∷ []) []) e
