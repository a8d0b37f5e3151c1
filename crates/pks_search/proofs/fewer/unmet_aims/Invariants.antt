use Rattle.std.proofs.Common.{◌≡◌, ◌++◌, drop}
use Rattle.pks_terms.specs.Views.{signature_of}
use Rattle.pks_search.specs.Fewer.{unmet_aims}
use Rattle.pks_search.proofs.fewer.unmet_aims.Given as goal

abbrev pub invariant-loop-aim : goal.invariant-loop-aim
invariant-loop-aim l = l.others.items ++ unmet_aims (signature_of l.s) l.h (drop l.aim-index l.aims) ≡ unmet_aims (signature_of l.s) l.h l.aims
