-- What observations of the program say, and how the instances of a pattern are gone through.
use Rattle.std.specs.Prelude.{ℕ, ◌≡◌, List, [], ◌∷◌, map, take, Option, Some, None, slice_get, if◌then◌else◌}
use Rattle.std.specs.List.{flat_map}
use Rattle.pks_terms.specs.Sets.{Each}
use Rattle.pks_terms.specs.Syntax.{Term, Atom}
use Rattle.pks_terms.specs.Orders.{number_of}
use Rattle.pks_terms.specs.Signatures.{Signature, objects_of}
use Rattle.pks_terms.specs.Worlds.{World, value_of}
use Rattle.pks_terms.specs.Actions.{Seen, SeenWhether, SeenValue, SeenAll}
use Rattle.pks_terms.specs.declared.literal.PredAtom.{PredAtom}
use Rattle.pks_terms.specs.Views.{term_of, conj_of, atom_of, pattern_of}
use Rattle.pks_world.specs.declared.observe.Seen as seen
use Rattle.pks_world.specs.declared.observe.Seen.TheVariants as seen_is
use Rattle.pks_world.specs.Contents.{ground}

-- the objects of an atom
abbrev pub objects_in : PredAtom → List ℕ
objects_in a = map number_of (atom_of a).arguments

-- what was sensed, and what was found
abbrev pub seen_of : seen.Seen → Seen
seen_of (seen_is.Whether c b) = SeenWhether (conj_of c) b
seen_of (seen_is.Value t d) = SeenValue (term_of t) d.0
seen_of (seen_is.All x atoms) = SeenAll (pattern_of x) (map objects_in atoms)

-- the atoms that were found are of the pattern's predicate, at objects
abbrev pub AreGround : seen.Seen → Type 0
AreGround (seen_is.Whether c b) = Unit {0}
AreGround (seen_is.Value t d) = Unit {0}
AreGround (seen_is.All x atoms) = Each (λ a. atom_of a ≡ ground x.pred.0 (objects_in a)) atoms

-- ---- the instances of a pattern, object by object

-- the objects that may stand at a slot of this type, and 0 where there is none
abbrev pub range_at : Signature → World → Option ℕ → Option (Option Term) → List ℕ
range_at s w (Some a) (Some None) = objects_of s a
range_at s w (Some a) (Some (Some t)) = value_of w t ∷ []
range_at s w a slot = 0 ∷ []

-- the objects that may stand at the slot of this number
abbrev pub slot_range : Signature → World → List ℕ → List (Option Term) → ℕ → List ℕ
slot_range s w types slots k = range_at s w (slice_get types k) (slice_get slots k)

-- the atom, where it is true
abbrev pub true_at : World → ℕ → List ℕ → List Atom
true_at w p ds = if w.truth p ds then ground p ds ∷ [] else []

-- the true atoms at d, e and one more object, of which the first n count
abbrev pub row : World → ℕ → ℕ → ℕ → ℕ → List ℕ → List Atom
row w p n d e fs = flat_map (λ f. true_at w p (take n (d ∷ e ∷ f ∷ []))) fs

-- those at d and two more
abbrev pub plane : World → ℕ → ℕ → ℕ → List ℕ → List ℕ → List Atom
plane w p n d es fs = flat_map (λ e. row w p n d e fs) es

-- those at three
abbrev pub grid : World → ℕ → ℕ → List ℕ → List ℕ → List ℕ → List Atom
grid w p n ds es fs = flat_map (λ d. plane w p n d es fs) ds
