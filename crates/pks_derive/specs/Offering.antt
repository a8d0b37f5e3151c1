-- Adds that are offered one after another.
use Rattle.std.specs.Prelude.{cond, not, ◌&&◌, is_some, List, [], ◌∷◌, ◌++◌, Option, Some, None}
use Rattle.std.specs.List.{list_any}
use Rattle.pks_terms.specs.declared.schema.Adds.{Adds}
use Rattle.pks_terms.specs.Actions.{Add, Schema}
use Rattle.pks_terms.specs.Justified.{case_of}
use Rattle.pks_terms.specs.Shapes.{same_add}
use Rattle.pks_terms.specs.Views.{add_of}

-- the add that was made, if one was
abbrev pub made : Option Adds → List Add
made None = []
made (Some a) = add_of a ∷ []

-- the adds with one that goes last, where it has a case and isn't equal to one of them
abbrev pub with_offered : Schema → List Add → Add → List Add
with_offered sc adds a = cond (is_some (case_of sc a) && not (list_any (same_add a) adds)) (adds ++ a ∷ []) adds
