use Rattle.pks_run.proofs.SmallFiles.{accepted_short}
use Rattle.pks_run.proofs.laws.dialogues_of_accepted_files_are_short.Goals as goal

pub returns : goal.returns
returns c = λ j input f t answers accepted plan deep. accepted_short j input f accepted t plan deep answers
