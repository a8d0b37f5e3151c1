use Rattle.pks_run.proofs.Sending.{memory_conversed}
use Rattle.pks_run.proofs.lead.lead_text.Goals as goal

pub returns-in-Err-clause-told : goal.returns-in-Err-clause-told
returns-in-Err-clause-told g c = λ input has. memory_conversed c.args.depth input (g.K.Sink.written c.args.sink.now) (g.S.Source.left c.args.source.now)
