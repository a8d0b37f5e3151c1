use Rattle.std.proofs.Common.{◌∙◌, sym}
use Rattle.pks_text.specs.FormViews.{form_view}
use Rattle.pks_reader_shape.proofs.Deciding.{of_the_sort, none_same}
use Rattle.pks_reader_shape.proofs.walk.fault_in.Goals as goal

pub returns-clause-none : goal.returns-clause-none
returns-clause-none c =
    let law = of_the_sort c.args.version c.args.sort (form_view c.args.form.now) in
    let same = none_same c.walk_form.result in
    (λ none. law.0 (sym c.walk_form.ensures ∙ same.0 none), λ is. same.1 (c.walk_form.ensures ∙ law.1 is))
