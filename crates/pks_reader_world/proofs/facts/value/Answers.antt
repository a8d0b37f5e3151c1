use Rattle.pks_text.specs.FormViews.{form_view}
use Rattle.pks_reader_names.specs.Views.{found_of, scope_view}
use Rattle.pks_reader_world.specs.Facts.{value_faults}
use Rattle.pks_reader_world.specs.Views.{given_of}
use Rattle.pks_reader_world.proofs.Typed.{faultless, value_is}
use Rattle.pks_reader_world.proofs.facts.value.Goals as goal

pub put_value-requires-clause-typed : goal.put_value-requires-clause-typed
put_value-requires-clause-typed c =
    let s = scope_view c.args.scope.now in
    let f = form_view c.args.form.now in
    let given = given_of c.args.given.now in
    value_is s c.requires.ready.valid given f (faultless (found_of c.args.report.now) (found_of c.entry.new.report) (value_faults s given f) c.refusal.result c.in_ok-entry.ensures.faults c.refusal.ensures c.if-is_none.ensures)
