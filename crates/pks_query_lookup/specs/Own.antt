-- Atoms that are their own normal forms, whatever is known.
use Rattle.std.specs.Prelude.{Bool, List}
use Rattle.std.specs.List.{list_all}
use Rattle.pks_terms.specs.Syntax.{Atom}
use Rattle.pks_terms.specs.Objects.{are_objects}

-- each argument of each of the atoms is an object
abbrev pub have_objects : List Atom → Bool
have_objects = list_all (λ a. are_objects a.arguments)
