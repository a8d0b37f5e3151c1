-- What a set of formulas says.
use Rattle.std.specs.Prelude.{List, map}
use Rattle.pks_terms.specs.Syntax.{Literal}
use Rattle.pks_terms.specs.Views.{conj_of}
use Rattle.pks_terms.specs.declared.literal.Conj.{Conj}

-- each formula as the set of its literals
abbrev pub formulas_of : List Conj → List (List Literal)
formulas_of kw = map conj_of kw
