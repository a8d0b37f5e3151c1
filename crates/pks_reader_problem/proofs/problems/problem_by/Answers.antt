use Rattle.std.proofs.Common.{◌∙◌, refl, ap, codes}
use Rattle.pks_text.specs.Forms.{Forms}
use Rattle.pks_text.specs.FormViews.{form_view, forms_view}
use Rattle.pks_reader_names.specs.Parts.{behind_head, section}
use Rattle.pks_reader_declared.specs.Views.{declared_view}
use Rattle.pks_reader_problem.specs.Stated.{all, start_in, aim_in}
use Rattle.pks_reader_problem.proofs.Whole.{problem_says}
use Rattle.pks_reader_problem.proofs.problems.problem_by.Goals as goal

pub returns-clause-says : goal.returns-clause-says
returns-clause-says c =
    let s = declared_view c.args.declared.now in
    problem_says c.args.version s (forms_view c.args.domain.now) (behind_head (form_view c.args.form.now))
    (record { version = c.args.version; signature = c.in_ok-signature.signature; names = c.in_ok-names.names; schemas = c.in_ok-actions.actions.schemas; init = c.in_ok-items.items.init; init_span = c.section_span.result; problem_span = c.span_of.result; goal = c.in_ok-items.items.goal })
    refl c.in_ok-signature.ensures.says c.in_ok-actions.ensures.says
    (c.in_ok-items.ensures.init ∙ ap (λ (fs : Forms). all (start_in s) (section (codes "init") fs)) c.behind_head.ensures)
    (c.in_ok-items.ensures.goal ∙ ap (λ (fs : Forms). all (aim_in s) (section (codes "goal") fs)) c.behind_head.ensures)
