use Rattle.std.proofs.Common.{◌≡◌, ◌++◌, None, map, drop}
use Rattle.pks_terms.specs.Sets.{Each}
use Rattle.pks_terms.specs.Counts.{InitCounts}
use Rattle.pks_terms.specs.Views.{start_of}
use Rattle.pks_text.specs.FormViews.{forms_view}
use Rattle.pks_reader_names.specs.Parts.{each}
use Rattle.pks_reader_names.specs.Meaning.{all_noted}
use Rattle.pks_reader_names.specs.Sentences.{start_faults}
use Rattle.pks_reader_names.specs.Views.{found_of, scope_view}
use Rattle.pks_reader_problem.specs.Spans.{bytes_in}
use Rattle.pks_reader_problem.specs.Stated.{all, start_in, bytes_of}
use Rattle.pks_reader_problem.proofs.lists.starts.Given as goal

abbrev pub invariant-loop-i : goal.invariant-loop-i
invariant-loop-i l = record {
  faults : all_noted (found_of l.report) (each (start_faults (scope_view l.scope)) (forms_view (drop l.i l.forms))) ≡ all_noted (found_of l.fn.report) (each (start_faults (scope_view l.scope)) (forms_view l.forms));
  says : found_of l.report ≡ None → map (λ i. start_of i.start) l.starts.items ++ all (start_in (scope_view l.scope)) (forms_view (drop l.i l.forms)) ≡ all (start_in (scope_view l.scope)) (forms_view l.forms);
  counts : Each (λ i. InitCounts i.start) l.starts.items;
  spans : map (λ i. bytes_in i.span) l.starts.items ++ all bytes_of (forms_view (drop l.i l.forms)) ≡ all bytes_of (forms_view l.forms);
}
