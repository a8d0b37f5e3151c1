use Rattle.std.proofs.Common.{sym, ◌∙◌, arith}
use Rattle.pks_text.specs.FormViews.{form_view}
use Rattle.pks_reader_names.specs.Views.{found_of, scope_view}
use Rattle.pks_reader_names.proofs.Noting.{drop_view, noted_both}
use Rattle.pks_reader_world.specs.Facts.{true_faults}
use Rattle.pks_reader_world.proofs.Typed.{none_found}
use Rattle.pks_reader_world.proofs.facts.truths.Goals as goal

pub loop-form-preserved : goal.loop-form-preserved
loop-form-preserved c =
    let s = scope_view c.args.scope.now in
    let left = drop_view c.args.forms.now c.loop-form.form-index c.form-item.result c.loop-form-test.true c.form-item.is in
    let noted = c.in_ok-truth.ensures.faults in
    let so_far = c.loop-form.invariant.faults in
    record {
      faults = grind (arith, noted_both, left, noted, so_far);
      says = λ none.
          let before = none_found (found_of c.loop-form.report) (true_faults s (form_view c.form-item.result)) (sym noted ∙ none) in
          let put = c.in_ok-truth.ensures.says none in
          let then = c.loop-form.invariant.says before.0 in
          grind (arith, left, put, then);
      ready = c.truth.ensures.ready;
    }
