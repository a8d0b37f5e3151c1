-- The least of some faults, and what a domain declares.
use Rattle.std.specs.Prelude.{ℕ, Bool, ◌||◌, ◌&&◌, ◌==◌, nat_lt, List, [], ◌∷◌, Option, Some, None, codes, if◌then◌else◌}
use Rattle.pks_text.specs.Forms.{Forms}
use Rattle.pks_reader_shape.specs.Files.{Fault}
use Rattle.pks_reader_names.specs.Scopes.{Scope}
use Rattle.pks_reader_names.specs.Parts.{section}
use Rattle.pks_reader_names.specs.Declarations.{types_in, objects_in, predicates_in, functions_in}

-- ---- the least fault: by place, and at one place by code

-- the first comes before the second
abbrev pub is_before : Fault → Fault → Bool
is_before f g = nat_lt f.0 g.0 || ((f.0 == g.0) && nat_lt f.1 g.1)

-- the lesser of what was found so far and a fault
abbrev pub noted : Option Fault → Fault → Option Fault
noted None f = Some f
noted (Some g) f = if is_before f g then Some f else Some g

-- the least of what was found so far and these
abbrev pub all_noted : Option Fault → List Fault → Option Fault
all_noted found [] = found
all_noted found (f ∷ fs) = all_noted (noted found f) fs

-- the least fault
abbrev pub least : List Fault → Option Fault
least fs = all_noted None fs

-- ---- the sections of a domain and of a problem

-- what a domain declares, by its sections
unfoldable pub scope_of : ℕ → Forms → Scope
scope_of version domain =
    let types = types_in (section (codes "types") domain) in
    record {
      types = types;
      objects = objects_in version types (section (codes "objects") domain);
      predicates = predicates_in types (section (codes "predicates") domain);
      functions = functions_in types (section (codes "functions") domain);
      parameters = [];
    }
