use Rattle.std.proofs.Common.{◌≡◌, ◌++◌, map, drop}
use Rattle.pks_terms.specs.Sets.{Each}
use Rattle.pks_terms.specs.Counts.{AddCounts}
use Rattle.pks_terms.specs.Views.{add_of}
use Rattle.pks_text.specs.FormViews.{forms_view}
use Rattle.pks_reader_names.specs.Parts.{each}
use Rattle.pks_reader_names.specs.Meaning.{all_noted}
use Rattle.pks_reader_names.specs.Sentences.{parts_faults, add_faults}
use Rattle.pks_reader_names.specs.Views.{found_of, scope_view}
use Rattle.pks_reader_problem.specs.Spans.{bytes_in}
use Rattle.pks_reader_problem.specs.Stated.{all, add_in, bytes_of}
use Rattle.pks_reader_problem.proofs.lists.adds.Given as goal

abbrev pub invariant-loop-i : goal.invariant-loop-i
invariant-loop-i l = record {
  faults : all_noted (found_of l.report) (each (add_faults (scope_view l.scope)) (forms_view (drop l.i l.forms))) ≡ all_noted (found_of l.fn.report) (parts_faults 16 (add_faults (scope_view l.scope)) (forms_view l.forms));
  says : map add_of l.adds.items ++ all (add_in (scope_view l.scope)) (forms_view (drop l.i l.forms)) ≡ all (add_in (scope_view l.scope)) (forms_view l.forms);
  counts : Each AddCounts l.adds.items;
  spans : map (λ a. bytes_in a.span) l.adds.items ++ all bytes_of (forms_view (drop l.i l.forms)) ≡ all bytes_of (forms_view l.forms);
}
