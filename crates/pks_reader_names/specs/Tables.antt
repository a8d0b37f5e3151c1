-- Names that are declared, with what is said of them. A name has the number of its place.
use Rattle.std.specs.Prelude.{ℕ, nat_lt, List, [], ◌∷◌, length, Option, Some, None, bytes_eq, if◌then◌else◌, is_some, position}
use Rattle.std.specs.Map.{keys_of}
use Rattle.pks_terms.specs.declared.codes.TheConstants.{DECLARED_TWICE, LONG_NAME}
use Rattle.pks_reader_shape.specs.Files.{Fault}

-- names in the order of declaration, each with what is said of it
abbrev pub Table : Type 0 → Type 0
Table X = List (List ℕ × X)

-- what is said of a name
abbrev pub entry_of : {X : Type 0} → Table X → List ℕ → Option X
entry_of [] name = None
entry_of (e ∷ es) name = if bytes_eq name e.0 then Some e.1 else entry_of es name

-- what is said of each name, in order
abbrev pub entries_of : {X : Type 0} → Table X → List X
entries_of [] = []
entries_of (e ∷ es) = e.1 ∷ entries_of es

-- the number of a name is its place among the names
abbrev pub number_of : {X : Type 0} → Table X → List ℕ → Option ℕ
number_of table name = position (bytes_eq name) (keys_of table)

-- a name keeps what was said of it first
abbrev pub declare : {X : Type 0} → Table X → List ℕ → X → Table X
declare [] name x = (name, x) ∷ []
declare (e ∷ es) name x = if bytes_eq name e.0 then e ∷ es else e ∷ declare es name x

-- ---- faults of single words

-- a name has more than 64 bytes
abbrev pub too_long : List ℕ → ℕ → List Fault
too_long name at = if nat_lt 64 (length name) then (at, LONG_NAME) ∷ [] else []

-- what a name stands for isn't declared
abbrev pub unknown : {X : Type 0} → ℕ → ℕ → Option X → List Fault
unknown at code None = (at, code) ∷ []
unknown at code (Some x) = []

-- a name is declared already
abbrev pub twice : {X : Type 0} → Table X → List ℕ → ℕ → List Fault
twice table name at = if is_some (entry_of table name) then (at, DECLARED_TWICE) ∷ [] else []
