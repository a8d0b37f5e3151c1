-- What initial items say, for the walks of the code.
use Rattle.std.specs.Prelude.{ℕ, Bool, true, false, not, ◌||◌, ◌==◌, List, map, Option, Some, None, if◌then◌else◌}
use Rattle.std.specs.List.{list_any}
use Rattle.std.specs.Option.{option_map_or, option_and_then}
use Rattle.std.specs.Ordering.{is_eq}
use Rattle.pks_terms.specs.declared.problem.InitItem.{InitItem}
use Rattle.pks_terms.specs.Syntax.{Named, Equality, Literal, Atom}
use Rattle.pks_terms.specs.Orders.{atom_cmp}
use Rattle.pks_terms.specs.Problems.{Start, known_start}
use Rattle.pks_terms.specs.Views.{start_of}
use Rattle.pks_terms.specs.Reasons.{is_listed}

-- the initial items
abbrev pub starts_of : List InitItem → List Start
starts_of items = map (λ i. start_of i.start) items

-- the atom of a positive literal
abbrev pub positive_atom : Literal → Option Atom
positive_atom l = elim l.relation [ Named q ↦ if l.positive then Some (record { predicate = q; arguments = l.arguments }) else None | Equality ↦ None ]

-- the atom that an item says to be true
abbrev pub atom_said : Start → Option Atom
atom_said x = option_and_then positive_atom (known_start x)

-- the item says that the atom is true
abbrev pub says : Start → Atom → Bool
says x a = option_map_or (λ b. is_eq (atom_cmp b a)) (atom_said x) false

-- one of the items says so
abbrev pub is_said : List Start → Atom → Bool
is_said xs a = list_any (λ x. says x a) xs

-- the atom that the item says to be true is of another predicate, or listed
abbrev pub is_taken : ℕ → List Atom → Start → Bool
is_taken p atoms x = option_map_or (λ a. not (a.predicate == p) || is_listed atoms a) (atom_said x) true
