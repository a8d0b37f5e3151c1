use Rattle.std.proofs.Common.{sym, ◌∙◌, arith}
use Rattle.pks_text.specs.FormViews.{form_view}
use Rattle.pks_reader_names.specs.Views.{found_of, scope_view}
use Rattle.pks_reader_names.proofs.Noting.{drop_view, noted_both}
use Rattle.pks_reader_world.specs.Facts.{value_faults}
use Rattle.pks_reader_world.specs.Views.{given_of}
use Rattle.pks_reader_world.proofs.Typed.{none_found}
use Rattle.pks_reader_world.proofs.facts.values.Goals as goal

pub loop-form-preserved : goal.loop-form-preserved
loop-form-preserved c =
    let s = scope_view c.args.scope.now in
    let left = drop_view c.args.forms.now c.loop-form.form-index c.form-item.result c.loop-form-test.true c.form-item.is in
    let noted = c.in_ok-value.ensures.faults in
    let given = c.in_ok-value.ensures.given in
    let so_far = c.loop-form.invariant in
    record {
      faults = let total = so_far.faults in grind (arith, noted_both, left, noted, given, total);
      given = let total = so_far.given in grind (arith, left, given, total);
      says = λ none.
          let before = none_found (found_of c.loop-form.report) (value_faults s (given_of c.loop-form.given) (form_view c.form-item.result)) (sym noted ∙ none) in
          let put = c.in_ok-value.ensures.says none in
          let then = so_far.says before.0 in
          grind (arith, left, put, then);
      ready = c.value.ensures.ready;
    }
