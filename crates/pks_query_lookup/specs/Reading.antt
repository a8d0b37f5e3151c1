-- Words for reading values out of literals.
use Rattle.std.specs.Prelude.{ℕ, cond, nat_lt, List, map, take, Option, Some, None}
use Rattle.pks_terms.specs.declared.ids.ObjId.{ObjId}
use Rattle.pks_terms.specs.declared.term.Inner as inner
use Rattle.pks_terms.specs.Syntax.{Inner}
use Rattle.pks_terms.specs.Views.{object_of, inner_of}

-- the lower of two values, where there are two
abbrev pub lower : Option ℕ → Option ℕ → Option ℕ
lower None o = o
lower (Some d) None = Some d
lower (Some d) (Some e) = Some (cond (nat_lt e d) e d)

-- the first objects of an array
abbrev pub first_objects : ℕ → List ObjId → List ℕ
first_objects n ds = map object_of (take n ds)

-- the first arguments of an array
abbrev pub first_inners : ℕ → List inner.Inner → List Inner
first_inners n ts = map inner_of (take n ts)
