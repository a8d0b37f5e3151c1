use Rattle.std.proofs.Common.{◌≡◌, ◌++◌, flat_map, take}
use Rattle.pks_terms.specs.Views.{terms_of}
use Rattle.pks_query_uses.specs.Occurring.{terms_in}
use Rattle.pks_query_uses.proofs.terms.put_terms.Given as goal

abbrev pub invariant-loop-t : goal.invariant-loop-t
invariant-loop-t l = terms_of l.to.items ≡ terms_of l.fn.to.items ++ flat_map terms_in (terms_of (take l.t-index l.ts))
