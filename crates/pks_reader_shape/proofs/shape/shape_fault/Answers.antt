use Rattle.std.proofs.Common.{map, ap, sym, ◌∙◌}
use Rattle.pks_text.specs.FormViews.{form_view}
use Rattle.pks_reader_shape.specs.Refusals.{refusing}
use Rattle.pks_reader_shape.specs.Files.{shape_fault}
use Rattle.pks_reader_shape.proofs.Refusing.{none_refused}
use Rattle.pks_reader_shape.proofs.Deciding.{none_same}
use Rattle.pks_reader_shape.proofs.Shaping.{file_of, of_file}
use Rattle.pks_reader_shape.proofs.shape.shape_fault.Goals as goal

pub returns-clause-none : goal.returns-clause-none
returns-clause-none c =
    let fs = map form_view c.args.top.now in
    let same = none_same c.first_fault.result in (
      λ none. file_of c.args.end fs (none_refused (shape_fault c.args.end fs) (sym c.first_fault.ensures ∙ same.0 none)),
      λ is. same.1 (c.first_fault.ensures ∙ ap refusing (of_file c.args.end fs is)),
    )
