use Rattle.std.proofs.Common.{◌≡◌, ◌≤◌, ◌-◌, drop}
use Rattle.pks_terms.specs.Sets.{added}
use Rattle.pks_terms.specs.Orders.{literal_cmp}
use Rattle.pks_terms.specs.Counts.{ConjCounts}
use Rattle.pks_terms.specs.Views.{conj_of}
use Rattle.pks_text.specs.FormViews.{forms_view}
use Rattle.pks_reader_names.specs.Parts.{each}
use Rattle.pks_reader_names.specs.Meaning.{all_noted}
use Rattle.pks_reader_names.specs.Terms.{literal_faults}
use Rattle.pks_reader_names.specs.Views.{found_of, scope_view}
use Rattle.pks_reader_problem.specs.Stated.{first, literal_in, conj_in}
use Rattle.pks_reader_problem.proofs.literals.each_literal.Given as goal

abbrev pub invariant-loop-i : goal.invariant-loop-i
invariant-loop-i l = record {
  faults : all_noted (found_of l.report) (each (literal_faults (scope_view l.scope)) (forms_view (drop l.i l.forms))) ≡ all_noted (found_of l.fn.report) (each (literal_faults (scope_view l.scope)) (forms_view l.forms));
  count : l.conj.n ≤ l.i;
  says : added literal_cmp (conj_of l.conj) (first (4 - l.i) (literal_in (scope_view l.scope)) (forms_view (drop l.i l.forms))) ≡ conj_in (scope_view l.scope) (forms_view l.forms);
  counts : ConjCounts l.conj;
}
