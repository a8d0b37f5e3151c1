-- Which terms occur in literals, groups and regions.
use Rattle.std.specs.Prelude.{Bool, List, [], ◌∷◌, ◌++◌, map, Option}
use Rattle.std.specs.List.{list_any, flat_map}
use Rattle.std.specs.Option.{option_map_or}
use Rattle.pks_terms.specs.Syntax.{Object, Inner, Term, term_of, Literal, Atom}
use Rattle.pks_terms.specs.Orders.{term_eq, arguments_of}
use Rattle.pks_terms.specs.Databases.{Entry}

-- an argument as a term, and the objects within it
abbrev pub terms_within : Inner → List Term
terms_within t = term_of t ∷ map Object (arguments_of t)

-- a term, and those that stand within it
abbrev pub terms_in : Term → List Term
terms_in t = t ∷ flat_map terms_within (arguments_of t)

-- those of a literal
abbrev pub in_literal : Literal → List Term
in_literal l = flat_map terms_in l.arguments

-- those of the literals of a group
abbrev pub in_group : List Literal → List Term
in_group g = flat_map in_literal g

-- those of a slot, where it is fixed
abbrev pub in_slot : Option Term → List Term
in_slot o = option_map_or terms_in o []

-- those of an atom
abbrev pub in_atom : Atom → List Term
in_atom a = flat_map terms_in a.arguments

-- those at the fixed slots of a region and in its listed atoms
abbrev pub in_entry : Entry → List Term
in_entry e = flat_map in_slot e.pattern.slots ++ flat_map in_atom e.listed

-- the term is one of these
abbrev pub is_among : Term → List Term → Bool
is_among t ts = list_any (λ u. term_eq u t) ts
