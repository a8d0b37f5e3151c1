use Rattle.std.proofs.Common.{◌≡◌, ◌++◌, take}
use Rattle.pks_terms.specs.Views.{literals_in, terms_of}
use Rattle.pks_query_uses.specs.Occurring.{in_group}
use Rattle.pks_query_uses.proofs.items.put_group.Given as goal

abbrev pub invariant-loop-l : goal.invariant-loop-l
invariant-loop-l l = terms_of l.to.items ≡ terms_of l.fn.to.items ++ in_group (literals_in (take l.l-index l.g))
