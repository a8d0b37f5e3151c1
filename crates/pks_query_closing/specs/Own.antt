-- Members that are their own normal forms.
use Rattle.std.specs.Prelude.{Bool, true, not, ◌&&◌, List, [], ◌∷◌}
use Rattle.std.specs.List.{list_all}
use Rattle.std.specs.Ordering.{is_eq, is_gt}
use Rattle.pks_terms.specs.Syntax.{Object, Term, Literal, Atom, Pattern}
use Rattle.pks_terms.specs.Orders.{literal_cmp, term_eq, pattern_cmp}
use Rattle.pks_terms.specs.Databases.{normal}
use Rattle.pks_terms.specs.Closure.{is_application, normal_pattern}
use Rattle.pks_pmap_set.specs.Members.{rises}
use Rattle.pks_query_lookup.specs.Forms.{is_normal}

-- none of the literals is above the next, beginning with l
abbrev pub never_falls_from : Literal → List Literal → Bool
never_falls_from l [] = true
never_falls_from l (m ∷ ms) = not (is_gt (literal_cmp l m)) && never_falls_from m ms

-- none of the literals is above the next
abbrev pub never_falls : List Literal → Bool
never_falls [] = true
never_falls (l ∷ ls) = never_falls_from l ls

-- a set of literals that are their own normal forms
abbrev pub is_own_formula : List Literal → List Literal → Bool
is_own_formula kf c = list_all (is_normal kf) c && rises literal_cmp c

-- literals in order that are their own normal forms
abbrev pub is_own_group : List Literal → List Literal → Bool
is_own_group kf g = list_all (is_normal kf) g && never_falls g

-- an application that is its own normal form
abbrev pub is_own_application : List Literal → Term → Bool
is_own_application kf t = is_application t && term_eq (normal kf t) t

-- the pattern is its own normal form
abbrev pub is_own_pattern : List Literal → Pattern → Bool
is_own_pattern kf p = is_eq (pattern_cmp (normal_pattern kf p) p)

-- an object, or another term that is its own normal form
abbrev pub is_own_term : List Literal → Term → Bool
is_own_term kf (Object d) = true
is_own_term kf t = term_eq (normal kf t) t

-- each argument of the atom is its own normal form
abbrev pub is_own_atom : List Literal → Atom → Bool
is_own_atom kf a = list_all (is_own_term kf) a.arguments
