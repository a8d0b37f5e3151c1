use Rattle.pks_laws_version1.proofs.Old.{first_states}
use Rattle.pks_laws_version1.proofs.files.first_files_state_problems_of_the_first_version.Goals as goal

pub returns : goal.returns
returns c = λ fs p n s v. first_states fs p n s v
