-- A map as the list of its entries, each a key and its value, in strict order of their keys.
use Rattle.std.specs.Prelude.{◌≡◌, List, [], ◌∷◌, Option, Some, None, if◌then◌else◌}
use Rattle.std.specs.declared.cmp.Ordering.{Ordering}
use Rattle.std.specs.declared.cmp.Ordering.TheVariants.{Less}
use Rattle.std.specs.Ordering.{match_ordering, is_gt}

-- each element has P
abbrev pub Each : {X : Type 0} → (X → Type 0) → List X → Type 0
Each P [] = Unit {0}
Each P (x ∷ xs) = P x × Each P xs

-- each key is below all later keys
abbrev pub IsAscending : {K V : Type 0} → (K → K → Ordering) → List (K × V) → Type 0
IsAscending R [] = Unit {0}
IsAscending R (e ∷ es) = Each (λ f. R e.0 f.0 ≡ Less) es × IsAscending R es

-- the value at the key
abbrev pub get : {K V : Type 0} → (K → K → Ordering) → K → List (K × V) → Option V
get R k [] = None
get R k (e ∷ es) = match_ordering (R k e.0) (get R k es) (Some e.1) (get R k es)

-- the first entry whose key is not below k
abbrev pub first_from : {K V : Type 0} → (K → K → Ordering) → K → List (K × V) → Option (K × V)
first_from R k [] = None
first_from R k (e ∷ es) = if is_gt (R k e.0) then first_from R k es else Some e

-- the entries with e in its place, where it takes the place of an entry with an equal key
abbrev pub insert : {K V : Type 0} → (K → K → Ordering) → K × V → List (K × V) → List (K × V)
insert R e [] = e ∷ []
insert R e (f ∷ es) = match_ordering (R e.0 f.0) (e ∷ f ∷ es) (e ∷ es) (f ∷ insert R e es)

-- the entries without the one at the key
abbrev pub remove : {K V : Type 0} → (K → K → Ordering) → K → List (K × V) → List (K × V)
remove R k [] = []
remove R k (e ∷ es) = match_ordering (R k e.0) (e ∷ es) es (e ∷ remove R k es)
