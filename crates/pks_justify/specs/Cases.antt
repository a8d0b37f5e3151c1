-- The program's cases and answers, as the definitions have them.
use Rattle.std.specs.Prelude.{ℕ, ◌+◌, List, [], ◌∷◌, map, Option, Some, None}
use Rattle.std.specs.Option.{option_map_or}
use Rattle.pks_terms.specs.declared.schema.Adds.{Adds}
use Rattle.pks_terms.specs.declared.schema.Schema.{Schema as DSchema}
use Rattle.pks_justify.specs.declared.cases.Unjustified.{Unjustified}
use Rattle.pks_terms.specs.Actions.{Add, Schema}
use Rattle.pks_terms.specs.Views.{add_of, schema_of}
use Rattle.pks_justify.specs.declared.cases.Case as declared
use Rattle.pks_justify.specs.declared.cases.Case.TheVariants as declared_is
use Rattle.pks_terms.specs.Justified.{Case, J1, J2, J3, J4, J5, J6, J7, J8, case_of}

-- a case
abbrev pub case_view : declared.Case → Case
case_view declared_is.J1 = J1
case_view declared_is.J2 = J2
case_view declared_is.J3 = J3
case_view declared_is.J4 = J4
case_view declared_is.J5 = J5
case_view declared_is.J6 = J6
case_view declared_is.J7 = J7
case_view declared_is.J8 = J8

-- the adds of a list
abbrev pub adds_of : List Adds → List Add
adds_of xs = map add_of xs

-- the number of the first add without a case, the first of them having the number n
abbrev pub first_without_case : Schema → ℕ → List Add → Option ℕ
first_without_case sc n [] = None
first_without_case sc n (a ∷ rest) = option_map_or (λ k. first_without_case sc (n + 1) rest) (case_of sc a) (Some n)

-- the actions of a list
abbrev pub schemas_of : List DSchema → List Schema
schemas_of xs = map schema_of xs

-- the action, and the number of the add in it
abbrev pub unjustified_view : Unjustified → ℕ × ℕ
unjustified_view u = (u.action.0, u.effect)

-- the first add without a case, the first of the actions having the number n
abbrev pub first_unjustified : ℕ → List Schema → Option (ℕ × ℕ)
first_unjustified n [] = None
first_unjustified n (sc ∷ rest) = option_map_or (λ k. Some (n, k)) (first_without_case sc 1 sc.adds) (first_unjustified (n + 1) rest)
