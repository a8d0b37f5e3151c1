-- Going through all ways to take one element of each list, and through the instances of actions.
use Rattle.std.specs.Prelude.{ℕ, suc, ◌≡◌, ◌+◌, ◌<◌, List, [], ◌∷◌, ◌++◌, map, drop, length, Option, Some, None, slice_get, if◌then◌else◌}
use Rattle.std.specs.List.{list_all, flat_map, cons_option}
use Rattle.std.specs.Option.{option_map_or}
use Rattle.pks_terms.specs.Syntax.{Inner}
use Rattle.pks_terms.specs.Signatures.{Signature}
use Rattle.pks_terms.specs.Databases.{Five}
use Rattle.pks_terms.specs.Queries.{Query, answers}
use Rattle.pks_terms.specs.Actions.{Schema, Instance, query_at}
use Rattle.pks_terms.specs.Problems.{Problem}
use Rattle.pks_terms.specs.Branching.{candidates}

-- what the end gives of each way, where these elements are taken already
abbrev pub walked : {X Y : Type 0} → (List X → List Y) → List X → List (List X) → List Y
walked end given [] = end given
walked end given (xs ∷ xss) = flat_map (λ x. walked end (given ++ x ∷ []) xss) xs

-- the instance alone, where its preconditions are answered
abbrev pub allowed_at : Signature → Five → List Query → ℕ → List Inner → List Instance
allowed_at s d pre act given = if list_all (λ q. answers s d (query_at given q)) pre then record { action = act; arguments = given } ∷ [] else []

-- what may stand for each parameter after so many
abbrev pub lists_after : Signature → Five → Schema → ℕ → List (List Inner)
lists_after s d sc n = drop n (map (candidates s d) sc.parameters)

-- the instances that begin with these arguments and are choices
abbrev pub begun : Problem → Five → Instance → List Instance
begun p d i = option_map_or (λ sc. walked (allowed_at p.signature d sc.pre i.action) i.arguments (lists_after p.signature d sc (length i.arguments))) (slice_get p.schemas i.action) []

-- an action without arguments
abbrev pub bare : ℕ × Schema → Instance
bare a = record { action = a.0; arguments = [] }

-- the instance with one more argument
abbrev pub longer : Instance → Inner → Instance
longer i t = record { action = i.action; arguments = i.arguments ++ t ∷ [] }

-- the number for each element
abbrev pub for_each : {X : Type 0} → ℕ → List X → ℕ
for_each n [] = 0
for_each n (x ∷ xs) = n + for_each n xs

-- how many beginnings there are, one argument being taken from each list
abbrev pub count_beginnings : {X : Type 0} → List (List X) → ℕ
count_beginnings [] = 1
count_beginnings (xs ∷ xss) = suc (for_each (count_beginnings xss) xs)

-- how many beginnings these arguments have among them, counting themselves
abbrev pub steps_from : Problem → Five → Instance → ℕ
steps_from p d i = option_map_or (λ sc. count_beginnings (lists_after p.signature d sc (length i.arguments))) (slice_get p.schemas i.action) 1

-- the same of several
abbrev pub steps_in : Problem → Five → List Instance → ℕ
steps_in p d [] = 0
steps_in p d (i ∷ is) = steps_from p d i + steps_in p d is

-- a beginning gives way to what is found and to longer beginnings
pub record GoesOn (p : Problem) (d : Five) (i : Instance) (old new : List Instance) (found : Option Instance) : Type 0 where
  -- no choice is lost, none comes in, and none moves
  pub left : begun p d i ++ flat_map (begun p d) old ≡ cons_option found (flat_map (begun p d) new)
  -- the walk comes nearer to its end
  pub fewer : steps_in p d new < steps_from p d i + steps_in p d old

-- a walk gives the first of what is left, or nothing where nothing is left
abbrev pub IsNext : {X : Type 0} → List X → List X → Option X → Type 0
IsNext old new None = (old ≡ []) × (new ≡ [])
IsNext old new (Some x) = old ≡ x ∷ new
