use Rattle.std.proofs.Common.{refl, subst}
use Rattle.pks_terms.specs.Views.{problem_of}
use Rattle.pks_run_answer.specs.Replies.{IsPlanned}
use Rattle.pks_run_answer.proofs.leads.accepted_lead.Goals as goal

pub returns-in-Plan : goal.returns-in-Plan
returns-in-Plan c = (c.requires.fine, subst (IsPlanned (problem_of c.args.f.now.problem) c.args.depth) c.in-Plan.is c.in_ok-found.ensures)

pub returns-in-NoPlan : goal.returns-in-NoPlan
returns-in-NoPlan c =
    let none = subst (IsPlanned (problem_of c.args.f.now.problem) c.args.depth) c.in-NoPlan.is c.in_ok-found.ensures in
    (c.requires.fine, (c.args.depth, refl, none.0, none.1))
