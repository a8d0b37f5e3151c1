use Rattle.std.proofs.Common.{◌≡◌, ◌≤◌, ◌-◌, ◌++◌, map, take, drop}
use Rattle.pks_terms.specs.Sets.{Each}
use Rattle.pks_terms.specs.Counts.{QueryCounts}
use Rattle.pks_terms.specs.Views.{query_of}
use Rattle.pks_text.specs.FormViews.{forms_view}
use Rattle.pks_reader_names.specs.Parts.{each}
use Rattle.pks_reader_names.specs.Meaning.{all_noted}
use Rattle.pks_reader_names.specs.Sentences.{parts_faults, query_faults}
use Rattle.pks_reader_names.specs.Views.{found_of, scope_view}
use Rattle.pks_reader_problem.specs.Stated.{first, query_in}
use Rattle.pks_reader_problem.proofs.sentences.first_queries.Given as goal

abbrev pub invariant-loop-i : goal.invariant-loop-i
invariant-loop-i l = record {
  faults : all_noted (found_of l.report) (each (query_faults (scope_view l.scope)) (forms_view (drop l.i l.forms))) ≡ all_noted (found_of l.fn.report) (parts_faults 4 (query_faults (scope_view l.scope)) (forms_view l.forms));
  few : l.given.n ≤ l.i;
  count : l.given.n ≤ 4;
  says : map query_of (take l.given.n l.given.queries) ++ first (4 - l.i) (query_in (scope_view l.scope)) (forms_view (drop l.i l.forms)) ≡ first 4 (query_in (scope_view l.scope)) (forms_view l.forms);
  counts : Each QueryCounts (take l.given.n l.given.queries);
}
