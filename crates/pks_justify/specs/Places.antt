-- What a valid problem gives of its actions.
use Rattle.std.specs.Prelude.{◌<◌, ◌^◌, List, length}
use Rattle.pks_terms.specs.declared.schema.Effect.{Effect}
use Rattle.pks_terms.specs.declared.schema.Schema.{Schema}
use Rattle.pks_terms.specs.Sets.{Each}
use Rattle.pks_terms.specs.ValidProblems.{AssignsToPlace}

-- each assignment is to a function at its arguments
abbrev pub AssignToPlaces : List Effect → Type 0
AssignToPlaces es = Each (λ e. AssignsToPlace e.target) es

-- so it is in each action
abbrev pub AllAssignToPlaces : List Schema → Type 0
AllAssignToPlaces xs = Each (λ x. AssignToPlaces x.effects) xs

-- the adds of each action can be numbered in 32 bits
abbrev pub AreNumbered : List Schema → Type 0
AreNumbered xs = Each (λ x. length x.adds < 2 ^ 32) xs
