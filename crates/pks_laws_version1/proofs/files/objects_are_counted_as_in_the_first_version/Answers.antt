use Rattle.pks_laws_version1.proofs.Old.{limit_same}
use Rattle.pks_laws_version1.proofs.files.objects_are_counted_as_in_the_first_version.Goals as goal

pub returns : goal.returns
returns c = λ types fs. limit_same types fs
