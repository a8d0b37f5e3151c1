use Rattle.std.proofs.Common.{◌≡◌, ◌∙◌, None, [], sym, rules}
use Rattle.pks_text.specs.FormViews.{forms_view}
use Rattle.pks_reader_shape.proofs.Refusing.{none_refused}
use Rattle.pks_reader_names.specs.Sentences.{parts_faults, aim_faults}
use Rattle.pks_reader_names.specs.Views.{found_of, names_of}
use Rattle.pks_reader_declared.specs.Views.{declared_view}
use Rattle.pks_reader_problem.specs.Stated.{all, start_in}
use Rattle.pks_reader_problem.proofs.Faultless.{none_before}
use Rattle.pks_reader_problem.proofs.problems.items.Goals as goal

pub returns-clause-init : goal.returns-clause-init
returns-clause-init c =
    let s = declared_view c.args.declared.now in
    let empty : names_of c.new-none.result ≡ [] = search rules in
    let none : found_of c.aims.new.report ≡ None = none_refused (found_of c.aims.new.report) (sym c.refusal.ensures ∙ c.in-None.is) in
    let before = none_before (found_of c.starts.new.report) (found_of c.aims.new.report) (parts_faults 16 (aim_faults (record s { parameters = names_of c.new-none.result })) (forms_view c.section-2.result.now)) c.in_ok-goal.ensures.faults none in
    c.in_ok-init.ensures.says before ∙ (λ i. all (start_in (record s { parameters = empty i })) (c.section.ensures i))
