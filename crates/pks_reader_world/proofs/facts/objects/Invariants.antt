use Rattle.std.proofs.Common.{◌≡◌, drop}
use Rattle.pks_terms.specs.Views.{types_of}
use Rattle.pks_text.specs.FormViews.{forms_view}
use Rattle.pks_reader_names.specs.Meaning.{all_noted}
use Rattle.pks_reader_names.specs.Views.{found_of, scope_view}
use Rattle.pks_reader_world.specs.Facts.{objects_faults}
use Rattle.pks_reader_world.proofs.facts.objects.Given as goal

abbrev pub invariant-loop-i : goal.invariant-loop-i
invariant-loop-i l = all_noted (found_of l.report) (objects_faults (scope_view l.scope) (drop l.i (types_of l.wanted)) (forms_view (drop l.i l.words))) ≡ all_noted (found_of l.fn.report) (objects_faults (scope_view l.scope) (types_of l.wanted) (forms_view l.words))
