use Rattle.std.proofs.Common.{rules, ◌≡◌}
use Rattle.pks_terms.specs.Views.{start_of}
use Rattle.pks_text.specs.FormViews.{form_view}
use Rattle.pks_reader_names.specs.Sentences.{start_faults}
use Rattle.pks_reader_names.specs.Views.{found_of, scope_view}
use Rattle.pks_reader_names.proofs.Noting.{noted_step, drop_view}
use Rattle.pks_reader_problem.specs.Stated.{start_in}
use Rattle.pks_reader_problem.proofs.Faultless.{none_before}
use Rattle.pks_reader_problem.proofs.Growing.{pushed, each_pushed}
use Rattle.pks_reader_problem.proofs.lists.starts.Goals as goal

pub loop-i-preserved : goal.loop-i-preserved
loop-i-preserved c = record {
  faults = search (rules, noted_step, drop_view);
  says = λ none.
      let none_yet = none_before (found_of c.loop-i.report) (found_of c.start.new.report) (start_faults (scope_view c.args.scope.now) (form_view c.index-forms-i.result)) c.in_ok-start.ensures.faults none in
      let so_far = c.loop-i.invariant.says none_yet in
      let one : start_of c.in_ok-start.start ≡ start_in (scope_view c.args.scope.now) (form_view c.index-forms-i.result) = c.in_ok-start.ensures.says none in
      search (rules, pushed, drop_view);
  counts = search (rules, each_pushed);
  spans = search (rules, pushed, drop_view);
}
