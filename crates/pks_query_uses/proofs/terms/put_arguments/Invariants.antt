use Rattle.std.proofs.Common.{◌≡◌, ◌++◌, map, flat_map, take}
use Rattle.pks_terms.specs.Views.{inner_of, terms_of}
use Rattle.pks_query_uses.specs.Occurring.{terms_within}
use Rattle.pks_query_uses.proofs.terms.put_arguments.Given as goal

abbrev pub invariant-loop-t : goal.invariant-loop-t
invariant-loop-t l = terms_of l.to.items ≡ terms_of l.fn.to.items ++ flat_map terms_within (map inner_of (take l.t-index l.ts))
