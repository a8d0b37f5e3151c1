use Rattle.pks_query_lookup.specs.Fives.{five_of}
use Rattle.pks_run_words.specs.JobViews.{job_of}
use Rattle.pks_run_answer.proofs.Accepting.{world_refuses}
use Rattle.pks_run_answer.proofs.accept.accept.Goals as goal

pub returns-in-Err-world_for-clause-refused : goal.returns-in-Err-world_for-clause-refused
returns-in-Err-world_for-clause-refused c =
    world_refuses (job_of c.args.job) c.args.f.now (five_of c.in-Ok.first) c.in-Err-world_for.turned c.in-Ok.ensures.begins c.in-Err-world_for.ensures.refused
