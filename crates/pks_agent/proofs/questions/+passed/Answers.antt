use Rattle.std.proofs.Common.{◌∙◌, ap, sym, drop, take, length, ◌-◌}
use Rattle.pks_plan.specs.TreeViews.{tree_of}
use Rattle.pks_agent.specs.Rooms.{question_count}
use Rattle.pks_agent.proofs.Fronts.{behind_more}
use Rattle.pks_agent.proofs.questions.+passed.Goals as goal

pub behind-returns-in-Branch : goal.behind-returns-in-Branch
behind-returns-in-Branch t c =
    let yes' = tree_of c.in-Branch.yes.value in
    let no' = tree_of c.in-Branch.no.value in
    let first = c.behind-in-Branch.ensures ∙ ap (λ y. drop (question_count (tree_of y)) (take (length c.args.questions.now - 1) (drop 1 c.args.questions.now))) c.deref-in-Branch-2.ensures in
    c.behind-in-Branch-2.ensures ∙ ap (λ y. drop (question_count (tree_of y)) c.behind-in-Branch.result.now) c.deref-in-Branch.ensures ∙ ap (drop (question_count no')) first
    ∙ behind_more c.args.questions.now (question_count yes') (question_count no') ∙ ap (λ y. drop (question_count (tree_of y)) c.args.questions.now) (sym c.in-Branch.is)
