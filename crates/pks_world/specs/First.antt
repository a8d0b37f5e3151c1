-- The world in which nothing is true and each place has the least value that it may have.
use Rattle.std.specs.Prelude.{ℕ, Bool, true, false, ◌≡◌, ◌⊎◌, List, [], ◌∷◌, map, take, Some, is_some, ◌<◌, unwrap_or, slice_get, if◌then◌else◌}
use Rattle.std.specs.List.{list_any}
use Rattle.std.specs.Option.{option_map_or}
use Rattle.pks_terms.specs.Syntax.{Term, place}
use Rattle.pks_terms.specs.Orders.{term_eq}
use Rattle.pks_terms.specs.Signatures.{Shape, Signature, objects_of}
use Rattle.pks_terms.specs.Worlds.{World}
use Rattle.pks_terms.specs.Meaning.{AreOfTypes, IsWorld}
use Rattle.pks_terms.specs.declared.ids.ObjId.{ObjId}
use Rattle.pks_terms.specs.declared.term.Term as term
use Rattle.pks_terms.specs.Views.{object_of}
use Rattle.pks_world.specs.declared.worlds.World.{World as DWorld}
use Rattle.pks_world.specs.Contents.{world_of, places_of, has_place, kept_at}

-- the first number, or 0 where there is none
abbrev pub first_of : List ℕ → ℕ
first_of [] = 0
first_of (d ∷ ds) = d

-- the least object of the function's result type
abbrev pub least_value : Signature → ℕ → ℕ
least_value s f = option_map_or (λ x. first_of (objects_of s x.result)) (slice_get s.functions f) 0

-- no atom is true, and each place has the least object of its result type
abbrev pub first_world : Signature → World
first_world s = record { truth = λ p ds. false; value = λ f ds. least_value s f }

-- each place of the signature is listed
abbrev pub AreAllPlaces : Signature → List Term → Type 0
AreAllPlaces s places = (f : ℕ) (ds : List ℕ) (x : Shape) → slice_get s.functions f ≡ Some x → AreOfTypes s x.arguments ds → has_place places (place f ds) ≡ true

-- a world of the signature: its atoms and values are typed, and a value is kept for each place
pub record IsWorldOf (s : Signature) (w : DWorld) : Type 0 where
  pub typed : IsWorld s (world_of w)
  pub places : AreAllPlaces s (places_of w)

-- ---- how it is filled, function by function

-- the values that are kept
abbrev pub Kept : Type 0
Kept = List (term.Term × ObjId)

-- the places that pass have the value d, and each other place what it had
abbrev pub Writes : (Term → Bool) → ℕ → Kept → Kept → Type 0
Writes test d old new = (f : ℕ) (ds : List ℕ) → kept_at new (place f ds) ≡ (if test (place f ds) then Some d else kept_at old (place f ds))

-- the place is f at d and one of es, of which the first n count
abbrev pub is_in_row : ℕ → ℕ → ObjId → List ObjId → Term → Bool
is_in_row f n d es t = list_any (λ e. term_eq (place f (map object_of (take n (d ∷ e ∷ [])))) t) es

-- the place is f at one of ds and one of es, of which the first n count
abbrev pub is_in_rows : ℕ → ℕ → List ObjId → List ObjId → Term → Bool
is_in_rows f n ds es t = list_any (λ d. is_in_row f n d es t) ds

-- the objects that may be the argument of this number, and 0 where there is no such argument
abbrev pub argument_range : Signature → List ℕ → ℕ → List ℕ
argument_range s types k = option_map_or (objects_of s) (slice_get types k) (0 ∷ [])

-- each place has what it had, or is one of f and has the value d
abbrev pub WritesOnly : ℕ → ℕ → Kept → Kept → Type 0
WritesOnly f d old new = (g : ℕ) (ds : List ℕ) → (kept_at new (place g ds) ≡ kept_at old (place g ds)) ⊎ ((g ≡ f) × (kept_at new (place g ds) ≡ Some d))

-- each place of f with arguments of these types has the value d
abbrev pub WritesAll : Signature → ℕ → List ℕ → ℕ → Kept → Type 0
WritesAll s f types d new = (ds : List ℕ) → AreOfTypes s types ds → kept_at new (place f ds) ≡ Some d

-- each place has the least value of its function, where it has one
abbrev pub AreLeast : Signature → Kept → Type 0
AreLeast s kept = (f : ℕ) (ds : List ℕ) → unwrap_or (kept_at kept (place f ds)) (least_value s f) ≡ least_value s f

-- each place of the first n functions has a value
abbrev pub AreFilled : Signature → ℕ → Kept → Type 0
AreFilled s n kept = (f : ℕ) (ds : List ℕ) (x : Shape) → f < n → slice_get s.functions f ≡ Some x → AreOfTypes s x.arguments ds → is_some (kept_at kept (place f ds)) ≡ true
