use Rattle.std.proofs.Common.{◌≡◌, ◌≤◌, length, map, drop}
use Rattle.pks_terms.specs.Sets.{Each}
use Rattle.pks_terms.specs.Closure.{all_put_in, in_sequence}
use Rattle.pks_terms.specs.Counts.{LiteralCounts}
use Rattle.pks_terms.specs.Views.{literal_of}
use Rattle.pks_text.specs.FormViews.{forms_view}
use Rattle.pks_reader_names.specs.Parts.{each}
use Rattle.pks_reader_names.specs.Meaning.{all_noted}
use Rattle.pks_reader_names.specs.Terms.{literal_faults}
use Rattle.pks_reader_names.specs.Views.{found_of, scope_view}
use Rattle.pks_reader_problem.specs.Stated.{all, literal_in}
use Rattle.pks_reader_problem.proofs.lists.in_sequence.Given as goal

abbrev pub invariant-loop-i : goal.invariant-loop-i
invariant-loop-i l = record {
  faults : all_noted (found_of l.report) (each (literal_faults (scope_view l.scope)) (forms_view (drop l.i l.forms))) ≡ all_noted (found_of l.fn.report) (each (literal_faults (scope_view l.scope)) (forms_view l.forms));
  says : length l.forms ≤ 16 → all_put_in (map literal_of l.literals.items) (all (literal_in (scope_view l.scope)) (forms_view (drop l.i l.forms))) ≡ in_sequence (all (literal_in (scope_view l.scope)) (forms_view l.forms));
  counts : Each LiteralCounts l.literals.items;
}
