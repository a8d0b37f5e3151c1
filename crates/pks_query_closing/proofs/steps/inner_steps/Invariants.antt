use Rattle.std.proofs.Common.{◌≡◌, map, take}
use Rattle.pks_terms.specs.Syntax.{Object}
use Rattle.pks_terms.specs.Views.{object_of, inner_of}
use Rattle.pks_query_closing.proofs.steps.inner_steps.Given as goal

abbrev pub invariant-loop-d : goal.invariant-loop-d
invariant-loop-d l = map inner_of l.steps.items ≡ map Object (map object_of (take l.d-index l.d-items))
