-- The status for the verdict of a reply.
use Rattle.pks_run_answer.specs.declared.reply.Verdict.{Verdict}
use Rattle.pks_run_answer.specs.declared.reply.Verdict.TheVariants as verdict_is
use Rattle.pks_run.specs.declared.status.Status.{Status}
use Rattle.pks_run.specs.declared.status.Status.TheVariants.{Done, NoPlan, Refused}

-- what is said of the job is said by the status
abbrev pub status_for : Verdict → Status
status_for verdict_is.Done = Done
status_for verdict_is.NoPlan = NoPlan
status_for verdict_is.Refused = Refused
