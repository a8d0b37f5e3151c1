use Rattle.std.proofs.Common.{◌≡◌, ◌++◌, map, drop}
use Rattle.pks_terms.specs.Sets.{Each}
use Rattle.pks_terms.specs.Counts.{AimCounts}
use Rattle.pks_terms.specs.Views.{aim_of}
use Rattle.pks_text.specs.FormViews.{forms_view}
use Rattle.pks_reader_names.specs.Parts.{each}
use Rattle.pks_reader_names.specs.Meaning.{all_noted}
use Rattle.pks_reader_names.specs.Sentences.{parts_faults, aim_faults}
use Rattle.pks_reader_names.specs.Views.{found_of, scope_view}
use Rattle.pks_reader_problem.specs.Stated.{all, aim_in}
use Rattle.pks_reader_problem.proofs.lists.aims.Given as goal

abbrev pub invariant-loop-i : goal.invariant-loop-i
invariant-loop-i l = record {
  faults : all_noted (found_of l.report) (each (aim_faults (scope_view l.scope)) (forms_view (drop l.i l.forms))) ≡ all_noted (found_of l.fn.report) (parts_faults 16 (aim_faults (scope_view l.scope)) (forms_view l.forms));
  says : map aim_of l.aims.items ++ all (aim_in (scope_view l.scope)) (forms_view (drop l.i l.forms)) ≡ all (aim_in (scope_view l.scope)) (forms_view l.forms);
  counts : Each AimCounts l.aims.items;
}
