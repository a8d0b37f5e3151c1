use Rattle.std.proofs.Common.{◌≡◌, drop}
use Rattle.pks_terms.specs.Objects.{are_objects}
use Rattle.pks_terms.specs.Views.{terms_of}
use Rattle.pks_terms.proofs.objects.are_objects.Given as goal

abbrev pub invariant-loop-t : goal.invariant-loop-t
invariant-loop-t l = are_objects (terms_of (drop l.t-index l.ts)) ≡ are_objects (terms_of l.ts)
