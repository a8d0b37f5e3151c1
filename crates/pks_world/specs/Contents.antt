-- What a world of the program says, and worlds with one thing changed.
use Rattle.std.specs.Prelude.{ℕ, Bool, List, map, Option, slice_get, unwrap_or, option_map, if◌then◌else◌}
use Rattle.std.specs.List.{list_any}
use Rattle.std.specs.Option.{option_map_or}
use Rattle.std.specs.Ordering.{is_eq}
use Rattle.std.specs.Map.{lookup, keys_of}
use Rattle.pks_terms.specs.Syntax.{Object, Term, Atom, place}
use Rattle.pks_terms.specs.Orders.{term_eq, atom_cmp}
use Rattle.pks_terms.specs.Worlds.{World}
use Rattle.pks_terms.specs.declared.ids.ObjId.{ObjId}
use Rattle.pks_terms.specs.declared.term.Term as term
use Rattle.pks_terms.specs.declared.literal.PredAtom.{PredAtom}
use Rattle.pks_terms.specs.Views.{object_of, term_of, atom_of}
use Rattle.pks_world.specs.declared.worlds.World.{World as DWorld}

-- p at the objects
abbrev pub ground : ℕ → List ℕ → Atom
ground p ds = record { predicate = p; arguments = map Object ds }

-- the atoms are equal
abbrev pub atom_eq : Atom → Atom → Bool
atom_eq a b = is_eq (atom_cmp a b)

-- whether the atom is listed
abbrev pub is_listed : List PredAtom → Atom → Bool
is_listed listed a = list_any (λ b. atom_eq a (atom_of b)) listed

-- a place and the value that is kept for it
abbrev pub kept_of : term.Term × ObjId → Term × ℕ
kept_of x = (term_of x.0, x.1.0)

-- the value that is kept for a place
abbrev pub kept_at : List (term.Term × ObjId) → Term → Option ℕ
kept_at kept t = option_map object_of (lookup (λ u. term_eq t (term_of u)) kept)

-- the value of a function at places for which none is kept
abbrev pub value_elsewhere : List ObjId → ℕ → ℕ
value_elsewhere others f = option_map_or object_of (slice_get others f) 0

-- the atoms that are listed are true, and a place has the value that is kept for it
unfoldable pub world_of : DWorld → World
world_of w = record {
  truth = λ p ds. is_listed w.atoms.keys (ground p ds);
  value = λ f ds. unwrap_or (kept_at w.values.entries (place f ds)) (value_elsewhere w.others.items f);
}

-- the places for which a value is kept
unfoldable pub places_of : DWorld → List Term
places_of w = map term_of (keys_of w.values.entries)

-- a value is kept for the place
abbrev pub has_place : List Term → Term → Bool
has_place places t = list_any (term_eq t) places

-- the world in which one atom is as said, and all else as it was
abbrev pub with_truth : World → Atom → Bool → World
with_truth w a b = record w { truth = λ p ds. if atom_eq a (ground p ds) then b else w.truth p ds }

-- the world in which one place has this value, and all else is as it was
abbrev pub with_value : World → Term → ℕ → World
with_value w t d = record w { value = λ f ds. if term_eq t (place f ds) then d else w.value f ds }
