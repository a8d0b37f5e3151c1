use Rattle.pks_agent.proofs.Beginning.{talk_begins}
use Rattle.pks_agent.proofs.laws.more_answers_keep_what_was_told.Goals as goal

pub returns : goal.returns
returns c = λ p names t given more. talk_begins p.signature names t given more
