-- Literals that hold whatever is known.
use Rattle.std.specs.Prelude.{Bool, true, false, not, ◌==◌, List, [], ◌∷◌}
use Rattle.pks_terms.specs.Syntax.{Object, Term, Relation, Equality, Literal}

-- an object is itself, or isn't another one
abbrev pub is_so : Relation → List Term → Bool → Bool
is_so Equality (Object d ∷ Object e ∷ []) true = d == e
is_so Equality (Object d ∷ Object e ∷ []) false = not (d == e)
is_so r ts b = false

-- a literal that says this
abbrev pub is_trivial : Literal → Bool
is_trivial l = is_so l.relation l.arguments l.positive
