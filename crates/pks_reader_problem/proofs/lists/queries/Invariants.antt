use Rattle.std.proofs.Common.{◌≡◌, ◌++◌, map, drop}
use Rattle.pks_terms.specs.Sets.{Each}
use Rattle.pks_terms.specs.Counts.{QueryCounts}
use Rattle.pks_terms.specs.Views.{query_of}
use Rattle.pks_text.specs.FormViews.{forms_view}
use Rattle.pks_reader_names.specs.Parts.{each}
use Rattle.pks_reader_names.specs.Meaning.{all_noted}
use Rattle.pks_reader_names.specs.Sentences.{parts_faults, query_faults}
use Rattle.pks_reader_names.specs.Views.{found_of, scope_view}
use Rattle.pks_reader_problem.specs.Stated.{all, query_in}
use Rattle.pks_reader_problem.proofs.lists.queries.Given as goal

abbrev pub invariant-loop-i : goal.invariant-loop-i
invariant-loop-i l = record {
  faults : all_noted (found_of l.report) (each (query_faults (scope_view l.scope)) (forms_view (drop l.i l.forms))) ≡ all_noted (found_of l.fn.report) (parts_faults 16 (query_faults (scope_view l.scope)) (forms_view l.forms));
  says : map query_of l.queries.items ++ all (query_in (scope_view l.scope)) (forms_view (drop l.i l.forms)) ≡ all (query_in (scope_view l.scope)) (forms_view l.forms);
  counts : Each QueryCounts l.queries.items;
}
