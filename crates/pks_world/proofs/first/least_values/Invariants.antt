use Rattle.std.proofs.Common.{◌≡◌, map, take}
use Rattle.pks_terms.specs.Signatures.{objects_of}
use Rattle.pks_terms.specs.Views.{object_of, signature_of}
use Rattle.pks_world.specs.First.{first_of}
use Rattle.pks_world.proofs.first.least_values.Given as goal

abbrev pub invariant-loop-shape : goal.invariant-loop-shape
invariant-loop-shape l = map object_of l.values.items ≡ map (λ x. first_of (objects_of (signature_of l.s) x.result.0)) (take l.shape-index l.shape-items)
