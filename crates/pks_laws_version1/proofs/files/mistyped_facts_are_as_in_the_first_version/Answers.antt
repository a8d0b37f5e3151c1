use Rattle.pks_laws_version1.proofs.Old.{misfit_same}
use Rattle.pks_laws_version1.proofs.files.mistyped_facts_are_as_in_the_first_version.Goals as goal

pub returns : goal.returns
returns c = λ s wanted own at none. misfit_same s none wanted own at
