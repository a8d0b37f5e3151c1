-- The forms of a list, place by place.
use Rattle.std.specs.Prelude.{ℕ, List, [], ◌∷◌, ◌++◌, map, take, drop}
use Rattle.std.specs.Option.{option_map_or}
use Rattle.pks_terms.specs.Syntax.{Object, Parameter, Apply, Term, Literal, as_object}
use Rattle.pks_terms.specs.Sets.{all_some, choices_from}
use Rattle.pks_terms.specs.Databases.{values_at}

-- the lists with each element from k on in some form
abbrev pub choices_after : {X : Type 0} → (X → List X) → ℕ → List X → List (List X)
choices_after forms k xs = map (λ ys. take k xs ++ ys) (choices_from (map forms (drop k xs)))

-- a term, and of an application to objects its values
abbrev pub with_values : List Literal → Term → List Term
with_values kf (Object d) = Object d ∷ []
with_values kf (Parameter i) = Parameter i ∷ []
with_values kf (Apply f ts) = Apply f ts ∷ map Object (option_map_or (values_at kf f) (all_some (map as_object ts)) [])
