-- Whether an object is of a type.
use Rattle.std.proofs.Common.{◌≡◌, ℕ, zero, suc, ◌+◌, ◌≤◌, ◌||◌, Bool, true, false, List, [], ◌∷◌, map, length, drop, slice_get, Bor, refl, sym, ap, ◌∙◌, add-one}
use Rattle.std.specs.Option.{option_map_or}
use Rattle.std.proofs.lemmas.List.{drop_all}
use Rattle.std.proofs.lemmas.Bool.{false≢true}
use Rattle.pks_reader_names.specs.Tables.{entries_of}
use Rattle.pks_reader_names.specs.Scopes.{Scope, fits}
use Rattle.pks_reader_names.specs.Declarations.{has_object}

-- an object of the type
pub has_found : (s : Scope) (owns : List ℕ) (i wanted : ℕ) → option_map_or (λ own. fits s own wanted) (slice_get owns i) false ≡ true → true ≡ has_object s (drop i owns) wanted
has_found s [] i wanted e = absurd (false≢true e)
has_found s (o ∷ os) zero wanted e = sym (ap (λ (b : Bool). b || has_object s os wanted) e)
has_found s (o ∷ os) (suc i) wanted e = has_found s os i wanted e

skipped : (s : Scope) (owns : List ℕ) (i wanted : ℕ) → option_map_or (λ own. fits s own wanted) (slice_get owns i) false ≡ false → has_object s (drop (suc i) owns) wanted ≡ has_object s (drop i owns) wanted
skipped s [] zero wanted e = refl
skipped s [] (suc i) wanted e = refl
skipped s (o ∷ os) zero wanted e = sym (ap (λ (b : Bool). b || has_object s os wanted) e)
skipped s (o ∷ os) (suc i) wanted e = skipped s os i wanted e

-- an object of another type
pub has_skipped : (s : Scope) (owns : List ℕ) (i wanted : ℕ) → option_map_or (λ own. fits s own wanted) (slice_get owns i) false ≡ false → has_object s (drop (i + 1) owns) wanted ≡ has_object s (drop i owns) wanted
has_skipped s owns i wanted e = ap (λ (n : ℕ). has_object s (drop n owns) wanted) (add-one i) ∙ skipped s owns i wanted e

-- there are none behind the last
pub has_none : (s : Scope) (owns : List ℕ) (i wanted : ℕ) → length owns ≤ i → has_object s (drop i owns) wanted ≡ false
has_none s owns i wanted end = ap (λ (os : List ℕ). has_object s os wanted) (drop_all i owns end)

-- as many are said as there are entries
pub owns_length : (es : List (Bor (List ℕ) × ℕ)) → length (entries_of (map (λ e. (e.0.now, e.1)) es)) ≡ length es
owns_length [] = refl
owns_length (e ∷ es) = ap suc (owns_length es)
