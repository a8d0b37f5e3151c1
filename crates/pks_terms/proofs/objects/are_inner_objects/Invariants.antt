use Rattle.std.proofs.Common.{◌≡◌, drop, map}
use Rattle.pks_terms.specs.Objects.{are_objects}
use Rattle.pks_terms.specs.Views.{inner_of}
use Rattle.pks_terms.proofs.objects.are_inner_objects.Given as goal

abbrev pub invariant-loop-t : goal.invariant-loop-t
invariant-loop-t l = are_objects (map inner_of (drop l.t-index l.ts)) ≡ are_objects (map inner_of l.ts)
