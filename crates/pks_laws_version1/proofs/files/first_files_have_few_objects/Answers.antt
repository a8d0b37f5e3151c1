use Rattle.pks_laws_version1.proofs.Old.{few_objects}
use Rattle.pks_laws_version1.proofs.files.first_files_have_few_objects.Goals as goal

pub returns : goal.returns
returns c = λ fs p n s v. few_objects fs p n s v
