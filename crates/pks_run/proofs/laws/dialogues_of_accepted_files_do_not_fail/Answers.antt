use Rattle.pks_terms.specs.Talk.{talk}
use Rattle.pks_agent.specs.Memory.{peer_answers}
use Rattle.pks_agent.proofs.Serving.{never_fails}
use Rattle.pks_run.proofs.SmallFiles.{accepted_short}
use Rattle.pks_run.proofs.laws.dialogues_of_accepted_files_do_not_fail.Goals as goal

pub returns : goal.returns
returns c = λ j input f t x result accepted plan deep none few safe fault e.
    never_fails x result (talk f.problem.signature f.names t (peer_answers x)) none few (accepted_short j input f accepted t plan deep (peer_answers x)) safe fault e
