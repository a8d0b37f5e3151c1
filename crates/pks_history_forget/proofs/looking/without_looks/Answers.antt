use Rattle.std.proofs.Common.{sym, ◌∙◌}
use Rattle.pks_terms.specs.Views.{problem_of}
use Rattle.pks_history_forget.proofs.Unlooking.{none_goes}
use Rattle.pks_history_forget.proofs.looking.without_looks.Goals as goal

pub returns-then-not-later_look : goal.returns-then-not-later_look
returns-then-not-later_look c =
    let h = c.args.h.now in
    c.in_ok-whole.ensures ∙ sym (none_goes (problem_of c.args.p.now) h.start h.steps (sym c.later_look.ensures ∙ c.if-not-later_look.true))
