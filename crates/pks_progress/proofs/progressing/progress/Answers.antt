use Rattle.std.proofs.Common.{sym, subst, ◌∙◌}
use Rattle.pks_terms.specs.Sets.{Each}
use Rattle.pks_terms.specs.Closure.{IsClosed}
use Rattle.pks_terms.specs.Moments.{IsInOrder}
use Rattle.pks_terms.specs.Views.{instance_of, problem_of}
use Rattle.pks_laws.proofs.Instances.{arguments_alike}
use Rattle.pks_kf.specs.Known.{literals_of}
use Rattle.pks_query_lookup.specs.Fives.{five_of}
use Rattle.pks_progress_interference.specs.EffectViews.{effects_in}
use Rattle.pks_query.specs.Steps.{outcome_of}
use Rattle.pks_progress.specs.Ahead.{PutsIn, five_ahead}
use Rattle.pks_progress.proofs.Stepping.{step_progress, step_moment, step_true}
use Rattle.pks_progress.proofs.progressing.progress.Goals as goal

pub grown_or_still-requires-clause-closed : goal.grown_or_still-requires-clause-closed
grown_or_still-requires-clause-closed c = subst (λ x. IsClosed (problem_of c.args.p.now).signature (five_of x)) (sym c.lookup.ensures) c.requires.moment.closed

pub grown_or_still-requires-clause-sides : goal.grown_or_still-requires-clause-sides
grown_or_still-requires-clause-sides c = subst (λ x. Each IsInOrder (literals_of x.kf)) (sym c.lookup.ensures) c.requires.moment.ordered.known

pub grown_or_still-requires-clause-puts : goal.grown_or_still-requires-clause-puts
grown_or_still-requires-clause-puts c =
    let s = (problem_of c.args.p.now).signature in
    let put = c.in_ok-put.put in
    subst (λ x. PutsIn s (five_of x) (effects_in c.effects_of.result) (five_of put.kept) (literals_of put.literals.items) (five_of put.five)) (sym c.lookup.ensures)
    (subst (λ es. PutsIn s (five_of c.args.d.now) es (five_of put.kept) (literals_of put.literals.items) (five_of put.five)) (sym c.effects_of.ensures) c.in_ok-put.ensures.puts)

pub returns-clause-progress : goal.returns-clause-progress
returns-clause-progress c =
    step_progress (problem_of c.args.p.now) (five_of c.args.d.now) (five_ahead c.in_ok-ahead.ahead) (instance_of c.args.i.now) (outcome_of c.in_ok-step.step) (c.in_ok-ahead.ensures.five ∙ c.in_ok-put.ensures.five) c.in_ok-step.ensures

pub returns-clause-moment : goal.returns-clause-moment
returns-clause-moment c =
    let o = outcome_of c.in_ok-step.step in
    step_moment (problem_of c.args.p.now) (five_of c.args.d.now) (instance_of c.args.i.now) o c.requires.valid.says c.requires.moment c.requires.choice
    (step_progress (problem_of c.args.p.now) (five_of c.args.d.now) (five_ahead c.in_ok-ahead.ahead) (instance_of c.args.i.now) o (c.in_ok-ahead.ensures.five ∙ c.in_ok-put.ensures.five) c.in_ok-step.ensures)

pub returns-clause-keeps_truth : goal.returns-clause-keeps_truth
returns-clause-keeps_truth c =
    let o = outcome_of c.in_ok-step.step in
    step_true (problem_of c.args.p.now) (five_of c.args.d.now) (instance_of c.args.i.now) o c.requires.valid.says c.requires.choice c.requires.justified
    (step_progress (problem_of c.args.p.now) (five_of c.args.d.now) (five_ahead c.in_ok-ahead.ahead) (instance_of c.args.i.now) o (c.in_ok-ahead.ensures.five ∙ c.in_ok-put.ensures.five) c.in_ok-step.ensures)

pub returns-clause-arguments_agree : goal.returns-clause-arguments_agree
returns-clause-arguments_agree c =
    λ w w' m. arguments_alike w w' (problem_of c.args.p.now) (five_of c.args.d.now) m.values (instance_of c.args.i.now) c.requires.choice

pub returns-in_err-put-clause-arguments_agree : goal.returns-in_err-put-clause-arguments_agree
returns-in_err-put-clause-arguments_agree c =
    λ w w' m. arguments_alike w w' (problem_of c.args.p.now) (five_of c.args.d.now) m.values (instance_of c.args.i.now) c.requires.choice

pub returns-in_err-ahead-clause-arguments_agree : goal.returns-in_err-ahead-clause-arguments_agree
returns-in_err-ahead-clause-arguments_agree c =
    λ w w' m. arguments_alike w w' (problem_of c.args.p.now) (five_of c.args.d.now) m.values (instance_of c.args.i.now) c.requires.choice

pub returns-in_err-step-clause-arguments_agree : goal.returns-in_err-step-clause-arguments_agree
returns-in_err-step-clause-arguments_agree c =
    λ w w' m. arguments_alike w w' (problem_of c.args.p.now) (five_of c.args.d.now) m.values (instance_of c.args.i.now) c.requires.choice
