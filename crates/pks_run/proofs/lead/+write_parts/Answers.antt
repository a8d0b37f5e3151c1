use Rattle.pks_run.proofs.Parts.{parts_front}
use Rattle.pks_run.proofs.lead.+write_parts.Goals as goal

pub returns-in-Ok-clause-err : goal.returns-in-Ok-clause-err
returns-in-Ok-clause-err g t c =
    parts_front c.write_parts.result (g.K.Sink.written c.args.sink.now) (g.K.Sink.written c.write_all.new.sink) (g.K.Sink.written c.write_parts.new.sink) c.args.parts.now _ c.in-len1-up.len_at_least c.in-Ok.ensures.ok
    c.write_parts.ensures.err
