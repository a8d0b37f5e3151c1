use Rattle.pks_laws_version1.proofs.Old.{fits_same}
use Rattle.pks_laws_version1.proofs.files.types_without_parents_fit_themselves_alone.Goals as goal

pub returns : goal.returns
returns c = λ s own wanted none. fits_same s none own wanted
