-- What is declared, and the types of terms.
use Rattle.std.specs.Prelude.{ℕ, Bool, ◌==◌, List, [], ◌∷◌, length, Option, option_map, if◌then◌else◌}
use Rattle.pks_terms.specs.Signatures.{Shape, Signature, fits_type}
use Rattle.pks_text.specs.Forms.{Form, Word, Listing}
use Rattle.pks_reader_shape.specs.Words.{is_variable}
use Rattle.pks_reader_shape.specs.Walk.{head_of}
use Rattle.pks_reader_names.specs.Tables.{Table, entry_of, entries_of}

-- the types with their parents, the objects and the parameters with their types, the predicates and functions with their shapes
pub record Scope : Type 0 where
  pub types : Table (Option ℕ)
  pub objects : Table ℕ
  pub predicates : Table Shape
  pub functions : Table Shape
  pub parameters : Table ℕ

-- the signature that is declared
abbrev pub signature_in : Scope → Signature
signature_in s = record {
  types = length s.types;
  parents = entries_of s.types;
  objects = entries_of s.objects;
  predicates = entries_of s.predicates;
  functions = entries_of s.functions;
}

-- the first type is the second or below it
abbrev pub fits : Scope → ℕ → ℕ → Bool
fits s own wanted = fits_type (signature_in s) own wanted

-- the name behind a `?`
abbrev pub name_in : List ℕ → List ℕ
name_in [] = []
name_in (b ∷ name) = if b == 63 then name else b ∷ name

-- the type of a term, where what it names is declared
abbrev pub type_of : Scope → Form → Option ℕ
type_of s (Word text at) = if is_variable text then entry_of s.parameters (name_in text) else entry_of s.objects text
type_of s (Listing parts at end) = option_map (λ x. x.result) (entry_of s.functions (head_of parts))
