-- A house of three rooms: one goes from room to room, tidies, and airs a room that then is untidy again. Of its rooms some are known to be tidy.
use Rattle.std.specs.Prelude.{ℕ, true, false, List, [], ◌∷◌, None}
use Rattle.pks_terms.specs.Signatures.{Signature}
use Rattle.pks_terms.specs.Syntax.{Object, Parameter, Apply, object, Named, Equality, Literal}
use Rattle.pks_terms.specs.Databases.{Entry, Five}
use Rattle.pks_terms.specs.Actions.{Set, Unset, Assign, Effect, Schema, Instance}
use Rattle.pks_terms.specs.Problems.{Problem}

-- the room is tidy, or untidy
abbrev pub tidy : ℕ → Literal
tidy d = record { relation = Named 0; arguments = object d ∷ []; positive = true }

abbrev pub untidy : ℕ → Literal
untidy d = record { relation = Named 0; arguments = object d ∷ []; positive = false }

-- one is in the room
abbrev pub here : ℕ → Literal
here d = record { relation = Equality; arguments = Apply 0 [] ∷ object d ∷ []; positive = true }

-- one isn't there
abbrev pub not_here : ℕ → Literal
not_here d = record { relation = Equality; arguments = Apply 0 [] ∷ object d ∷ []; positive = false }

-- the room in which one is is tidy
abbrev pub tidy_here : Literal
tidy_here = record { relation = Named 0; arguments = Apply 0 [] ∷ []; positive = true }

-- an action on a room with the effect
abbrev pub deed : Effect → Schema
deed e = record { cost = 1; parameters = 0 ∷ []; pre = []; effects = e ∷ []; senses = []; adds = [] }

abbrev pub house_signature : Signature
house_signature = record { types = 1; parents = None ∷ []; objects = 0 ∷ 0 ∷ 0 ∷ []; predicates = record { arguments = 0 ∷ []; result = 0 } ∷ []; functions = record { arguments = []; result = 0 } ∷ [] }

abbrev pub house : Problem
house = record {
  version = 2;
  signature = house_signature;
  schemas = deed (record { condition = []; target = Assign 0 [] (Parameter 0) })
      ∷ deed (record { condition = []; target = Set (record { predicate = 0; arguments = Parameter 0 ∷ [] }) })
      ∷ deed (record { condition = record { relation = Named 0; arguments = Parameter 0 ∷ []; positive = true } ∷ []; target = Unset (record { predicate = 0; arguments = Parameter 0 ∷ [] }) })
      ∷ deed (record { condition = []; target = Set (record { predicate = 0; arguments = Apply 0 [] ∷ [] }) })
      ∷ [];
  init = [];
  goal = [];
}

-- to go to the room, to tidy it, to air it, and to tidy the room where one is
abbrev pub go : ℕ → Instance
go d = record { action = 0; arguments = Object d ∷ [] }

abbrev pub tidying : ℕ → Instance
tidying d = record { action = 1; arguments = Object d ∷ [] }

abbrev pub airing : ℕ → Instance
airing d = record { action = 2; arguments = Object d ∷ [] }

abbrev pub tidying_here : Instance
tidying_here = record { action = 3; arguments = Object 0 ∷ [] }

-- databases with these literals, groups and regions
abbrev pub knowing : List Literal → List (List Literal) → List Entry → Five
knowing kf kx lcw = record { kf = kf; kw = []; kv = []; kx = kx; lcw = lcw }

-- that no room is tidy but those of which it is told
abbrev pub others_untidy : Entry
others_untidy = record { pattern = record { predicate = 0; slots = None ∷ [] }; listed = [] }
