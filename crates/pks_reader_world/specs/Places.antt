-- Whether each place of a signature has a value.
use Rattle.std.specs.Prelude.{ℕ, Bool, true, ◌≡◌, ◌&&◌, ◌+◌, List, [], ◌∷◌, ◌++◌, Some, slice_get}
use Rattle.std.specs.List.{list_all}
use Rattle.pks_terms.specs.Syntax.{place}
use Rattle.pks_terms.specs.Signatures.{Shape, Signature, objects_of}
use Rattle.pks_terms.specs.Meaning.{AreOfTypes}
use Rattle.pks_reader_world.specs.Facts.{Given}

-- f has a value at these objects followed by any objects of these types
abbrev pub all_given : Signature → Given → ℕ → List ℕ → List ℕ → Bool
all_given s given f ds [] = given (place f ds)
all_given s given f ds (a ∷ tys) = list_all (λ d. all_given s given f (ds ++ d ∷ []) tys) (objects_of s a)

-- each of these functions, the first of which has the number n, has all its values
abbrev pub have_values : Signature → Given → ℕ → List Shape → Bool
have_values s given n [] = true
have_values s given n (x ∷ xs) = all_given s given n [] x.arguments && have_values s given (n + 1) xs

-- each place of the signature has a value
unfoldable pub is_full : Signature → Given → Bool
is_full s given = have_values s given 0 s.functions

-- the same, place by place
abbrev pub IsFull : Signature → Given → Type 0
IsFull s given = (f : ℕ) (ds : List ℕ) (x : Shape) → slice_get s.functions f ≡ Some x → AreOfTypes s x.arguments ds → given (place f ds) ≡ true
