use Rattle.pks_laws_version1.proofs.Old.{empty_same}
use Rattle.pks_laws_version1.proofs.files.empty_types_are_as_in_the_first_version.Goals as goal

pub returns : goal.returns
returns c = λ s result none. empty_same s none result
