-- What is declared and what was found, as they lie in memory.
use Rattle.std.specs.Prelude.{ℕ, List, [], ◌∷◌, map, Option, option_map}
use Rattle.std.specs.Borrow.{Bor}
use Rattle.std.specs.HashMap.{HashMap}
use Rattle.pks_terms.specs.Views.{shape_of}
use Rattle.pks_reader_shape.specs.Files.{Fault}
use Rattle.pks_reader_shape.specs.declared.report.Refusal.{Refusal}
use Rattle.pks_reader_names.specs.Tables.{Table}
use Rattle.pks_reader_names.specs.Scopes as scopes
use Rattle.pks_reader_names.specs.declared.report.Report.{Report}
use Rattle.pks_reader_names.specs.declared.scope.Scope.{Scope}

-- the place and the code of a refusal
abbrev pub fault_of : Refusal → Fault
fault_of r = (r.at, r.code)

-- the least fault so far
abbrev pub found_of : Report → Option Fault
found_of r = option_map fault_of r.least

-- names with what is said of them
abbrev pub names_of : {X S : Type 0} → HashMap (Bor (List ℕ)) X S → Table X
names_of m = map (λ e. (e.0.now, e.1)) m.entries

-- what is said of each name, seen by a view
abbrev pub seen : {X Y : Type 0} → (X → Y) → Table X → Table Y
seen v [] = []
seen v (e ∷ es) = (e.0, v e.1) ∷ seen v es

-- what is declared
abbrev pub scope_view : Scope → scopes.Scope
scope_view s = record {
  types = names_of s.declared.now.types;
  objects = names_of s.declared.now.objects;
  predicates = seen shape_of (names_of s.declared.now.predicates);
  functions = seen shape_of (names_of s.declared.now.functions);
  parameters = names_of s.parameters.now;
}
