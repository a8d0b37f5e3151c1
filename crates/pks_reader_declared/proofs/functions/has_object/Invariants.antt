use Rattle.std.proofs.Common.{◌≡◌, drop}
use Rattle.pks_reader_names.specs.Tables.{entries_of}
use Rattle.pks_reader_names.specs.Declarations.{has_object}
use Rattle.pks_reader_names.specs.Views.{scope_view}
use Rattle.pks_reader_declared.proofs.functions.has_object.Given as goal

abbrev pub invariant-loop-i : goal.invariant-loop-i
invariant-loop-i l = has_object (scope_view l.scope) (drop l.i (entries_of (scope_view l.scope).objects)) l.wanted ≡ has_object (scope_view l.scope) (entries_of (scope_view l.scope).objects) l.wanted
