use Rattle.pks_laws_version1.proofs.Old.{no_parents}
use Rattle.pks_laws_version1.proofs.files.types_of_first_files_have_no_parents.Goals as goal

pub returns : goal.returns
returns c = λ fs d p file. no_parents fs d p file
