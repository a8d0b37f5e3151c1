use Rattle.pks_text.specs.FormViews.{form_view}
use Rattle.pks_reader_names.specs.Views.{found_of, scope_view}
use Rattle.pks_reader_world.specs.Facts.{true_faults}
use Rattle.pks_reader_world.proofs.Typed.{faultless, truth_is}
use Rattle.pks_reader_world.proofs.facts.truth.Goals as goal

pub put_atom-requires-clause-typed : goal.put_atom-requires-clause-typed
put_atom-requires-clause-typed c =
    let s = scope_view c.args.scope.now in
    let f = form_view c.args.form.now in
    truth_is s c.requires.ready.valid f (faultless (found_of c.args.report.now) (found_of c.atom.new.report) (true_faults s f) c.refusal.result c.atom.ensures c.refusal.ensures c.if-is_none.ensures)
