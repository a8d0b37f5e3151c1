use Rattle.std.proofs.Common.{◌≡◌, drop}
use Rattle.pks_text.specs.FormViews.{forms_view}
use Rattle.pks_reader_names.specs.Declarations.{actions_among}
use Rattle.pks_reader_declared.proofs.actions.actions_among.Given as goal

abbrev pub invariant-loop-i : goal.invariant-loop-i
invariant-loop-i l = actions_among (forms_view (drop l.i l.forms)) ≡ actions_among (forms_view l.forms)
