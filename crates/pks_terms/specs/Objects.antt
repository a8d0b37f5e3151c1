-- Terms and literals that speak of objects alone.
use Rattle.std.specs.Prelude.{Bool, true, false, ◌&&◌, is_some, List}
use Rattle.std.specs.List.{list_all}
use Rattle.pks_terms.specs.Syntax.{Form, Object, Parameter, Apply, Term, as_object, Relation, Named, Equality, Literal}

-- the term is an object
abbrev pub is_object : {A : Type 0} → Form A → Bool
is_object t = is_some (as_object t)

-- each of the terms is an object
abbrev pub are_objects : {A : Type 0} → List (Form A) → Bool
are_objects ts = list_all (λ t. is_some (as_object t)) ts

-- a function at objects
abbrev pub is_place : Term → Bool
is_place (Object d) = false
is_place (Parameter i) = false
is_place (Apply f ts) = are_objects ts

-- a predicate, not equality
abbrev pub is_named : Relation → Bool
is_named (Named p) = true
is_named Equality = false

-- a predicate at objects, or the negation of one
abbrev pub is_of_objects : Literal → Bool
is_of_objects l = is_named l.relation && are_objects l.arguments
