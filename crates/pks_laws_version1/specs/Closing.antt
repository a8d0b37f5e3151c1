-- Closing by the rules of the first version: a type fits itself alone, so a function's values are the objects whose type is its result type.
use Rattle.std.specs.Prelude.{ℕ, zero, suc, ◌==◌, ◌≡◌, List, [], ◌∷◌, ◌++◌, map, slice_get}
use Rattle.std.specs.List.{filter, flat_map}
use Rattle.std.specs.Option.{option_map_or}
use Rattle.pks_terms.specs.Sets.{added}
use Rattle.pks_terms.specs.Syntax.{Form, Object, Parameter, Apply, Term, object, Literal}
use Rattle.pks_terms.specs.Orders.{literal_cmp, equation}
use Rattle.pks_terms.specs.Signatures.{Signature, objects_from}
use Rattle.pks_terms.specs.Databases.{Five}
use Rattle.pks_terms.specs.Closure.{by_value, by_group, applications_in, is_last_left, Outcome, outcome}
use Rattle.pks_laws_version1.specs.LookingUp.{without_functions}

-- the objects of a type, in order
abbrev pub objects_of : Signature → ℕ → List ℕ
objects_of s wanted = objects_from (λ own. own == wanted) 0 s.objects

-- the objects that may be the value of a term: itself, or those of the function's result type
abbrev pub range_of : {A : Type 0} → Signature → Form A → List ℕ
range_of s (Object d) = d ∷ []
range_of s (Parameter i) = []
range_of s (Apply f ts) = option_map_or (λ x. objects_of s x.result) (slice_get s.functions f) []

-- the value of an application for which all other objects of its type are shut out
abbrev pub by_range : Signature → Five → Term → List Literal
by_range s d t = let objects = range_of s t in map (λ e. equation t (object e)) (filter (is_last_left (without_functions s) d t objects) objects)

-- all that a round adds: by known values, by groups, by the last value left for each application that occurs
abbrev pub additions : Signature → Five → List Literal
additions s d =
    flat_map (by_value d.kf) d.kf ++ (flat_map (by_group (without_functions s) d) d.kx ++ flat_map (λ l. flat_map (by_range s d) (flat_map applications_in l.arguments)) d.kf)

-- one round: the known literals with what the rules add to them
abbrev pub round : Signature → Five → Five
round s d = record d { kf = added literal_cmp d.kf (additions s d) }

-- so many rounds
abbrev pub rounds : Signature → ℕ → Five → Five
rounds s zero d = d
rounds s (suc n) d = round s (rounds s n d)

-- the end of the rounds is the round that the next one equals
pub record Closes (s : Signature) (d : Five) (o : Outcome) : Type 0 where
  pub count : ℕ
  pub last : round s (rounds s count d) ≡ rounds s count d
  pub gives : o ≡ outcome (without_functions s) (rounds s count d)
