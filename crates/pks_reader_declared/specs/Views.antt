-- What a domain declares, as it lies in memory.
use Rattle.std.specs.Prelude.{[]}
use Rattle.pks_terms.specs.Views.{shape_of}
use Rattle.pks_reader_names.specs.Scopes.{Scope}
use Rattle.pks_reader_names.specs.Views.{names_of, seen}
use Rattle.pks_reader_names.specs.declared.scope.Declared.{Declared}

-- without parameters
abbrev pub declared_view : Declared → Scope
declared_view d = record {
  types = names_of d.types;
  objects = names_of d.objects;
  predicates = seen shape_of (names_of d.predicates);
  functions = seen shape_of (names_of d.functions);
  parameters = [];
}
