-- Effects one by one, and tests in another order.
use Rattle.std.proofs.Common.{arith, zero, suc, ◌≡◌, ℕ, ◌+◌, ◌<◌, Bool, true, false, cond, ◌&&◌, ◌||◌, not, List, [], ◌∷◌, ◌++◌, map, take, drop, length, get_or, refl, sym, ap, ◌∙◌, append_assoc}
use Rattle.std.specs.List.{list_any}
use Rattle.std.proofs.lemmas.List.{drop_more, take_more, map_push}
use Rattle.std.proofs.lemmas.List.Folds.{list_all-append, list_any-append}
use Rattle.pks_terms.specs.Signatures.{Signature}
use Rattle.pks_terms.specs.Databases.{Five}
use Rattle.pks_terms.specs.declared.schema.Effect.{Effect as DEffect}
use Rattle.pks_terms.specs.Actions.{Effect, effect_at}
use Rattle.pks_terms.specs.Views.{effect_of}
use Rattle.pks_terms.specs.Spoiling.{may_fire}
use Rattle.pks_terms.specs.Sets.{Each, with_others}
use Rattle.pks_terms.proofs.ListLaws.{map-map, map_alike}
use Rattle.pks_postdict_rules.specs.declared.change.Change.{Change}
use Rattle.pks_postdict_rules.specs.Changes.{given_in, some_effects}
use Rattle.pks_postdict_rules.specs.Targets.{others_after}

-- no effect does what none does
pub none_may : (s : Signature) (d : Five) (es : List Effect) → false ≡ list_any (λ e. may_fire s d e && false) es
none_may s d [] = refl
none_may s d (e ∷ es) = elim (may_fire s d e) as (λ b. false ≡ ((b && false) || list_any (λ e. may_fire s d e && false) es)) [ true ↦ none_may s d es | false ↦ none_may s d es ]

-- the last of three tests may come first
pub fires_last : (a b c : Bool) → (a && (b && c)) ≡ (c && (a && b))
fires_last true true true = refl
fires_last true true false = refl
fires_last true false true = refl
fires_last true false false = refl
fires_last false b true = refl
fires_last false b false = refl

-- where there is nothing to give, a test gives nothing
pub nothing_given : {X : Type 0} (b : Bool) → ◌≡◌ {A = List X} [] (cond b [] [])
nothing_given true = refl
nothing_given false = refl

pub each_at : {X : Type 0} (P : X → Type 0) (xs : List X) (k : ℕ) (d : X) → Each P xs → k < length xs → P (get_or xs k d)
each_at P [] k d a h = absurd (omega arith)
each_at P (x ∷ xs) zero d a h = a.0
each_at P (x ∷ xs) (suc k) d a h = each_at P xs k d a.1 (omega arith)

module _ {X Y : Type 0} (f : X → Y) (xs : List X) where
  -- the next element, and the others
  pub others_more : (k : ℕ) (d : X) → k < length xs
      → others_after (map f (take k xs)) (map f (drop k xs)) ≡ (f (get_or xs k d), map f (take k xs) ++ map f (drop (k + 1) xs)) ∷ others_after (map f (take (k + 1) xs)) (map f (drop (k + 1) xs))
  others_more k d h =
      let y = f (get_or xs k d) in
      let done = map f (take k xs) in
      let rest = map f (drop (k + 1) xs) in
      let more : map f (take (k + 1) xs) ≡ done ++ y ∷ [] = ap (map f) (take_more xs k d h) ∙ map_push f (take k xs) (get_or xs k d) in
      ap (λ (zs : List X). others_after done (map f zs)) (drop_more xs k d h)
      ∙ ap (λ qs. (y, done ++ rest) ∷ qs)
      (map-map (λ p. (p.0, y ∷ p.1)) (λ p. (p.0, done ++ p.1)) (with_others rest)
      ∙ map_alike (λ p. (p.0, done ++ y ∷ p.1)) (λ p. (p.0, (done ++ y ∷ []) ++ p.1)) (λ q. ap (λ ys. (q.0, ys)) (sym (append_assoc done (y ∷ []) q.1))) (with_others rest)
      ∙ ap (λ (zs : List Y). others_after zs rest) (sym more))

same_pairs : {X : Type 0} (ps : List (X × List X)) → map (λ p. (p.0, p.1)) ps ≡ ps
same_pairs [] = refl
same_pairs (p ∷ ps) = ap (λ qs. p ∷ qs) (same_pairs ps)

-- before the first element there is none
pub others_start : {X : Type 0} (xs : List X) → others_after [] xs ≡ with_others xs
others_start xs = same_pairs (with_others xs)

pub ruleset tests = (list_all-append, list_any-append, nothing_given)

-- what is given where one test passes and the other does not
pub given_so : {X : Type 0} (b m : Bool) (xs : List X) → b ≡ true → m ≡ false → xs ≡ cond (b && not m) xs []
given_so {X} b m xs p q = sym (ap (λ c. cond (c && not m) xs []) p ∙ ap (λ c. cond (not c) xs []) q)

-- the next effect, and the others
pub effects_more : (c : Change) (xs : List DEffect) (k : ℕ) (d : DEffect) → k < length xs
    → others_after (some_effects c (take k xs)) (some_effects c (drop k xs)) ≡ (effect_at (given_in c) (effect_of (get_or xs k d)), some_effects c (take k xs) ++ some_effects c (drop (k + 1) xs)) ∷ others_after (some_effects c (take (k + 1) xs)) (some_effects c (drop (k + 1) xs))
effects_more c xs k d h =
    let same : (ys : List DEffect) → map (λ e. effect_at (given_in c) (effect_of e)) ys ≡ some_effects c ys = λ ys. sym (map-map effect_of (effect_at (given_in c)) ys) in
    let f : DEffect → Effect = λ e. effect_at (given_in c) (effect_of e) in
    (λ i. others_after (sym (same (take k xs)) i) (sym (same (drop k xs)) i))
    ∙ others_more f xs k d h
    ∙ (λ i. (f (get_or xs k d), same (take k xs) i ++ same (drop (k + 1) xs) i) ∷ others_after (same (take (k + 1) xs) i) (same (drop (k + 1) xs) i))
