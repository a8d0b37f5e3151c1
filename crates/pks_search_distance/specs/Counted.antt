-- Which of the goal's literals are counted, and which of them an action may make true.
use Rattle.std.specs.Prelude.{ℕ, Bool, true, false, not, ◌&&◌, ◌||◌, ◌==◌, ◌≡◌, ◌+◌, max, List, [], ◌∷◌, if◌then◌else◌}
use Rattle.std.specs.List.{list_any}
use Rattle.pks_terms.specs.Sets.{Each}
use Rattle.pks_terms.specs.Syntax.{Form, Object, Parameter, Apply, Inner, Term, Relation, Named, Equality, Literal, Atom}
use Rattle.pks_terms.specs.Objects.{is_object, are_objects, is_place}
use Rattle.pks_terms.specs.Worlds.{World, true_in}
use Rattle.pks_terms.specs.Actions.{Target, Set, Unset, Clear, Assign, Effect}
use Rattle.pks_terms.specs.Problems.{Aim}
use Rattle.pks_search_distance.specs.Runs.{IsAim}
use Rattle.pks_search_distance.specs.Relaxed.{GroundAction}

-- they are two different objects
abbrev pub are_different : {A : Type 0} → Form A → Form A → Bool
are_different (Object d) (Object e) = not (d == e)
are_different t u = false

-- somewhere in the lists two different objects stand at the same place
abbrev pub are_apart : {A : Type 0} → List (Form A) → List (Form A) → Bool
are_apart [] us = false
are_apart (t ∷ ts) [] = false
are_apart (t ∷ ts) (u ∷ us) = are_different t u || are_apart ts us

-- the relation is a predicate and the terms are objects, or it says of a place and an object that they are, or aren't, equal
abbrev pub is_plain : Relation → List Term → Bool
is_plain (Named p) ts = are_objects ts
is_plain Equality (t ∷ u ∷ []) = is_place t && is_object u
is_plain Equality ts = false

-- the atom may be the predicate at the terms
abbrev pub may_be : Atom → Relation → List Term → Bool
may_be a (Named p) ts = (a.predicate == p) && not (are_apart a.arguments ts)
may_be a Equality ts = false

-- f at the arguments may be the place
abbrev pub may_hit : ℕ → List Inner → Term → Bool
may_hit f ts (Object d) = false
may_hit f ts (Parameter i) = false
may_hit f ts (Apply g us) = (f == g) && not (are_apart ts us)

-- the relation is that of the predicate
abbrev pub is_of : Relation → ℕ → Bool
is_of (Named p) q = q == p
is_of Equality q = false

-- giving f at the arguments the value may make the equation, or inequation, true
abbrev pub may_equate : ℕ → List Inner → Term → Bool → Relation → List Term → Bool
may_equate f ts value b (Named p) us = false
may_equate f ts value b Equality (t ∷ u ∷ []) = may_hit f ts t && not (b && are_different value u)
may_equate f ts value b Equality us = false

-- the target may make the plain literal true
abbrev pub may_make : Target → Literal → Bool
may_make (Set a) l = l.positive && may_be a l.relation l.arguments
may_make (Unset a) l = not l.positive && may_be a l.relation l.arguments
may_make (Clear x) l = not l.positive && is_of l.relation x.predicate
may_make (Assign f ts value) l = may_equate f ts value l.positive l.relation l.arguments

-- the effects may make the literal true: of one that isn't plain nothing better is said
abbrev pub may_meet : List Effect → Literal → Bool
may_meet es l = not (is_plain l.relation l.arguments) || list_any (λ e. may_make e.target l) es

-- how many of the literals the effects may make true
abbrev pub meets : List Effect → List Literal → ℕ
meets es [] = 0
meets es (l ∷ ls) = (if may_meet es l then 1 else 0) + meets es ls

-- the most of the literals that one of the ground actions may make true
abbrev pub most_met : List GroundAction → List Literal → ℕ
most_met [] ls = 0
most_met (x ∷ xs) ls = max (meets x.effects ls) (most_met xs ls)

-- where the aims are so and the first literals are true, the second ones are
abbrev pub AddsWanted : List Aim → List Literal → List Literal → Type 0
AddsWanted aims old new = (w : World) → Each (IsAim w) aims → Each (λ l. true_in w l ≡ true) old → Each (λ l. true_in w l ≡ true) new
