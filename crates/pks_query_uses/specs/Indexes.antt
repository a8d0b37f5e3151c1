-- Lists kept at terms.
use Rattle.std.specs.Prelude.{◌≡◌, ◌++◌, List, [], ◌∷◌, Option, Vec, if◌then◌else◌}
use Rattle.std.specs.List.{filter, flat_map}
use Rattle.std.specs.Option.{option_map_or}
use Rattle.std.specs.Global.{Global}
use Rattle.std.specs.Ordering.{on}
use Rattle.std.specs.BTreeMap.{BTreeMap, get}
use Rattle.pks_terms.specs.declared.term.Term.{Term as DTerm}
use Rattle.pks_terms.specs.declared.literal.Literal.{Literal as DLiteral}
use Rattle.pks_terms.specs.Syntax.{Term, Literal}
use Rattle.pks_terms.specs.Orders.{term_cmp, term_eq, literal_cmp}
use Rattle.pks_terms.specs.Sets.{IsOrdered, insert_in}
use Rattle.pks_terms.specs.Views.{term_of, literals_in}
use Rattle.pks_query_uses.specs.Occurring.{is_among}

-- what an index has at each term
abbrev pub Index : Type 0 → Type 0
Index X = BTreeMap DTerm (Vec X Global)

-- what was found, or nothing
abbrev pub found_items : {X : Type 0} → Option (Vec X Global) → List X
found_items o = option_map_or (λ v. v.items) o []

-- what the index has at a term
abbrev pub items_at : {X : Type 0} → Index X → DTerm → List X
items_at m t = found_items (get (on term_of term_cmp) m t)

-- x as often as the term is one of these
abbrev pub as_often : {X : Type 0} → X → Term → List Term → List X
as_often x t ts = flat_map (λ u. if term_eq u t then x ∷ [] else []) ts

-- new has at each term what old has there, and then x as often as the term is one of these
pub record Puts {X : Type 0} (old new : Index X) (ts : List Term) (x : X) : Type 0 where
  pub gives : (t : DTerm) → items_at new t ≡ items_at old t ++ as_often x (term_of t) ts

-- new has at each term what old has there, and then x if the term is one of these
pub record PutsOnce {X : Type 0} (old new : Index X) (ts : List Term) (x : X) : Type 0 where
  pub gives : (t : DTerm) → items_at new t ≡ items_at old t ++ (if is_among (term_of t) ts then x ∷ [] else [])

-- at each term the index has those of the items in which it occurs, in order
pub record IsIndexOf {X : Type 0} (terms : X → List Term) (items : List X) (m : Index X) : Type 0 where
  pub gives : (t : DTerm) → items_at m t ≡ filter (λ x. is_among (term_of t) (terms x)) items

-- new has at each term that is one of these what old has there and the literal in its place, and elsewhere what old has
pub record PutsIn (old new : Index DLiteral) (ts : List Term) (l : Literal) : Type 0 where
  pub gives : (t : DTerm) → IsOrdered literal_cmp (literals_in (items_at old t))
      → literals_in (items_at new t) ≡ (if is_among (term_of t) ts then insert_in literal_cmp l (literals_in (items_at old t)) else literals_in (items_at old t))
