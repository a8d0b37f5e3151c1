-- Whether atoms and places are those of a signature, with objects of the types that are wanted.
use Rattle.std.specs.Prelude.{ℕ, Bool, true, false, ◌&&◌, List, [], ◌∷◌, slice_get}
use Rattle.std.specs.Option.{option_map_or}
use Rattle.pks_terms.specs.Syntax.{Form, Object, Parameter, Apply, Inner, Atom}
use Rattle.pks_terms.specs.Signatures.{Signature, object_is_of}

-- it is an object of the type
abbrev pub is_object_of : {A : Type 0} → Signature → ℕ → Form A → Bool
is_object_of s a (Object d) = object_is_of s a d
is_object_of s a (Parameter i) = false
is_object_of s a (Apply f ts) = false

-- they are objects of the types, one by one
abbrev pub are_objects_of : {A : Type 0} → Signature → List ℕ → List (Form A) → Bool
are_objects_of s [] [] = true
are_objects_of s (a ∷ tys) (t ∷ ts) = is_object_of s a t && are_objects_of s tys ts
are_objects_of s tys ts = false

-- the atom is of a declared predicate and has objects of its types
abbrev pub is_typed_atom : Signature → Atom → Bool
is_typed_atom s a = option_map_or (λ x. are_objects_of s x.arguments a.arguments) (slice_get s.predicates a.predicate) false

-- f at the arguments is a place of the signature, and the object one that it may have as its value
abbrev pub is_typed_place : Signature → ℕ → List Inner → ℕ → Bool
is_typed_place s f ts d = option_map_or (λ x. are_objects_of s x.arguments ts && object_is_of s x.result d) (slice_get s.functions f) false
