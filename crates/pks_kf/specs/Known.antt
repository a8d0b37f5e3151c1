-- What a set of literals says.
use Rattle.std.specs.Prelude.{List, map}
use Rattle.pks_terms.specs.Syntax.{Literal}
use Rattle.pks_terms.specs.Views.{literal_of}
use Rattle.pks_terms.specs.declared.literal.Literal.{Literal as DLiteral}

-- the literals that the values say
abbrev pub literals_of : List DLiteral → List Literal
literals_of kf = map literal_of kf
