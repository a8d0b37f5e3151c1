use Rattle.std.proofs.Common.{[], ◌∙◌, sym, append-nil}
use Rattle.pks_terms.specs.Talk.{world_answers}
use Rattle.pks_agent.proofs.AlongRuns.{plan_led}
use Rattle.pks_agent.proofs.Beginning.{begins_run}
use Rattle.pks_agent.proofs.laws.fit_answers_begin_a_run.Goals as goal

pub returns : goal.returns
returns c = λ p names t w valid own short none plan compatible answers fit text comes first.
    let led = plan_led p names valid own short t w none plan compatible in
    (led.1, begins_run p names t w led.0 fit first.0 [] (sym (append-nil (world_answers p names t w) ∙ first.1)))
