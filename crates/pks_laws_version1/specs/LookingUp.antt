-- Looking up by the rules of the first version: two terms are different where their normal forms are two different objects.
use Rattle.std.specs.Prelude.{ℕ, Bool, true, false, ◌&&◌, ◌||◌, ◌==◌, List, [], ◌∷◌, map}
use Rattle.std.specs.List.{list_any, list_all}
use Rattle.pks_terms.specs.Syntax.{Term, Relation, Named, Equality, Literal, are_two_objects}
use Rattle.pks_terms.specs.Orders.{term_eq, inequation}
use Rattle.pks_terms.specs.Signatures.{Signature}
use Rattle.pks_terms.specs.Databases.{Entry, Five, normal, is_known, fits}
use Rattle.pks_terms.specs.Problems.{Problem}

-- of normal forms: the same on both sides of =; or, on those of its negation, two different objects
abbrev pub is_evident : Relation → List Term → Bool → Bool
is_evident Equality (t ∷ u ∷ []) true = term_eq t u
is_evident Equality (t ∷ u ∷ []) false = are_two_objects t u
is_evident r ts b = false

-- known or evident
abbrev pub is_plain : List Literal → Literal → Bool
is_plain kf l = is_known kf l || is_evident l.relation (map (normal kf) l.arguments) l.positive

-- t != u holds
abbrev pub differ : List Literal → Term → Term → Bool
differ kf t u = is_plain kf (inequation t u)

-- two lists of arguments differ at some position
abbrev pub some_differ : List Literal → List Term → List Term → Bool
some_differ kf (t ∷ ts) (u ∷ us) = differ kf t u || some_differ kf ts us
some_differ kf ts us = false

-- by the entry, p at these arguments is false
abbrev pub is_shut_out : List Literal → ℕ → List Term → Entry → Bool
is_shut_out kf p ts e =
    (e.pattern.predicate == p) && (fits kf e.pattern.slots ts && list_all (λ a. some_differ kf a.arguments ts) e.listed)

-- the negation of an atom that some region shuts out
abbrev pub is_closed_off : Five → Relation → List Term → Bool → Bool
is_closed_off d (Named p) ts false = list_any (is_shut_out d.kf p ts) d.lcw
is_closed_off d r ts b = false

-- the literal holds
abbrev pub holds : Five → Literal → Bool
holds d l = is_plain d.kf l || is_closed_off d l.relation l.arguments l.positive

-- Rules with one text in both versions are those of `pks_terms` over the signature without its functions: they ask it only whether an object is foreign to a function, and there none is.
abbrev pub without_functions : Signature → Signature
without_functions s = record s { functions = [] }

-- the problem over this signature
abbrev pub nothing_foreign : Problem → Problem
nothing_foreign p = record p { signature = without_functions p.signature }
