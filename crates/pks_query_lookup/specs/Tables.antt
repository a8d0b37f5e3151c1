-- Tables of the values that literals give.
use Rattle.std.specs.Prelude.{◌≡◌, ◌<◌, ◌≤◌, ◌++◌, ℕ, List, [], ◌∷◌, map, length, Option, Vec, if◌then◌else◌}
use Rattle.std.specs.Global.{Global}
use Rattle.std.specs.Ordering.{on, is_eq}
use Rattle.std.specs.Option.{option_map_or}
use Rattle.std.specs.BTreeMap.{BTreeMap, get}
use Rattle.pks_terms.specs.declared.ids.ObjId.{ObjId}
use Rattle.pks_terms.specs.declared.term.Inner as inner
use Rattle.pks_terms.specs.declared.term.Inner.TheVariants as inner_is
use Rattle.pks_terms.specs.Syntax.{Apply, Literal}
use Rattle.pks_terms.specs.Orders.{inner_cmp, number_of, arguments_of}
use Rattle.pks_terms.specs.Views.{object_of, inner_of}
use Rattle.pks_terms.specs.Databases.{Told, values_at}

-- the objects that a table has at each key
abbrev pub Table : Type 0
Table = BTreeMap inner.Inner (Vec ObjId Global)

-- f at the objects, as a key
abbrev pub key_at : ℕ → List ℕ → inner.Inner
key_at f ds = inner_is.App (record { 0 = f }) (length ds) (map (λ d. record { 0 = d }) ds)

-- the objects that were found, or none
abbrev pub found_objects : Option (Vec ObjId Global) → List ℕ
found_objects o = option_map_or (λ v. map object_of v.items) o []

-- the objects that the table has at a key
abbrev pub objects_at : Table → inner.Inner → List ℕ
objects_at t k = found_objects (get (on inner_of inner_cmp) t k)

-- the objects that the table has for f at the objects
unfoldable pub values_in : Table → ℕ → List ℕ → List ℕ
values_in t f ds = objects_at t (key_at f ds)

-- the place that a key says, and a value at it
abbrev pub told_of : inner.Inner × ObjId → Told
told_of p = (number_of (inner_of p.0), arguments_of (inner_of p.0), p.1.0)

-- the key says a function at two objects at most
pub record IsKey (k : inner.Inner) : Type 0 where
  pub applies : inner_of k ≡ Apply (number_of (inner_of k)) (arguments_of (inner_of k))
  pub short : length (arguments_of (inner_of k)) ≤ 2

-- new has the object d at the key after what old has there, and elsewhere what old has
abbrev pub Puts : Table → Table → inner.Inner → ObjId → Type 0
Puts old new k d = (f : ℕ) (ds : List ℕ) → values_in new f ds ≡ values_in old f ds ++ (if is_eq (inner_cmp (inner_of k) (Apply f ds)) then d.0 ∷ [] else [])

-- new has at each place what old has there, and after it the values that the literals give
abbrev pub Adds : Table → Table → List Literal → Type 0
Adds old new ls = (f : ℕ) (ds : List ℕ) → values_in new f ds ≡ values_in old f ds ++ values_at ls f ds

-- the literals give no values at more than two objects
abbrev pub AreShort : List Literal → Type 0
AreShort ls = (f : ℕ) (ds : List ℕ) → 2 < length ds → values_at ls f ds ≡ []

-- the table lacks the values that the rest of the literals give, and has those of the others
pub record IsTableBut (rest kf : List Literal) (t : Table) : Type 0 where
  pub gives : (f : ℕ) (ds : List ℕ) → values_in t f ds ++ values_at rest f ds ≡ values_at kf f ds
  pub short : (f : ℕ) (ds : List ℕ) → 2 < length ds → values_at rest f ds ≡ values_at kf f ds

-- the table has at each place the values that the literals give there, and they give none at more than two objects
pub record IsTableOf (kf : List Literal) (t : Table) : Type 0 where
  pub gives : (f : ℕ) (ds : List ℕ) → values_in t f ds ≡ values_at kf f ds
  pub short : AreShort kf

-- at each place both lists of literals give the same values
pub record GiveAlike (kf other : List Literal) : Type 0 where
  pub alike : (f : ℕ) (ds : List ℕ) → values_at kf f ds ≡ values_at other f ds
