-- What a set of groups says.
use Rattle.std.specs.Prelude.{List, map}
use Rattle.pks_terms.specs.Syntax.{Literal}
use Rattle.pks_terms.specs.Views.{literals_in}
use Rattle.pks_terms.specs.declared.literal.Literal.{Literal as DLiteral}

-- each group as the list of its literals
abbrev pub groups_of : List (List DLiteral) → List (List Literal)
groups_of kx = map literals_in kx
