use Rattle.std.proofs.Common.{◌≡◌, ◌++◌, map, drop}
use Rattle.pks_terms.specs.Signatures.{fits_type, objects_from, objects_of}
use Rattle.pks_terms.specs.Views.{object_of, signature_of}
use Rattle.pks_terms.proofs.problem.Signature.objects_of.Given as goal

abbrev pub invariant-loop-i : goal.invariant-loop-i
invariant-loop-i l = map object_of l.objects.items ++ objects_from (λ own. fits_type (signature_of l.self) own l.of.0) l.i (map (λ t. t.0) (drop l.i l.own-items)) ≡ objects_of (signature_of l.self) l.of.0
