-- Literals from which nothing follows by the rules.
use Rattle.std.specs.Prelude.{ℕ, Bool, false, not, is_some, ◌&&◌, ◌||◌, ◌==◌, List}
use Rattle.std.specs.List.{list_all}
use Rattle.pks_terms.specs.Syntax.{as_object, Relation, Named, Equality, Literal}
use Rattle.pks_terms.specs.Orders.{literal_cmp}
use Rattle.pks_laws.specs.Lookup.{is_among}

-- it is the predicate p
abbrev pub is_predicate : ℕ → Relation → Bool
is_predicate p (Named q) = q == p
is_predicate p Equality = false

-- no literal of a group says or denies the predicate
abbrev pub is_in_no_group : List (List Literal) → ℕ → Bool
is_in_no_group kx p = list_all (λ g. list_all (λ m. not (is_predicate p m.relation)) g) kx

-- it is a predicate, and one that is in no group
abbrev pub is_ungrouped : List (List Literal) → Relation → Bool
is_ungrouped kx (Named p) = is_in_no_group kx p
is_ungrouped kx Equality = false

-- it says or denies at objects a predicate that is in no group
abbrev pub is_loose : List (List Literal) → Literal → Bool
is_loose kx l = is_ungrouped kx l.relation && list_all (λ t. is_some (as_object t)) l.arguments

-- each of the literals is among those known, or is loose
abbrev pub bring_nothing : List Literal → List (List Literal) → List Literal → Bool
bring_nothing kf kx ls = list_all (λ l. is_among literal_cmp l kf || is_loose kx l) ls
