use Rattle.std.proofs.Common.{◌≡◌, ◌++◌, map, drop}
use Rattle.pks_terms.specs.Syntax.{Object}
use Rattle.pks_terms.specs.Views.{object_of, inner_of}
use Rattle.pks_branch.proofs.candidates.push_objects.Given as goal

abbrev pub invariant-loop-d : goal.invariant-loop-d
invariant-loop-d l = map inner_of l.to.items ++ map Object (map object_of (drop l.d-index l.objects)) ≡ map inner_of l.fn.to.items ++ map Object (map object_of l.objects)
