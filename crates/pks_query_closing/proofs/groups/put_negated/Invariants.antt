use Rattle.std.proofs.Common.{◌≡◌, ◌++◌, map, take}
use Rattle.pks_terms.specs.Syntax.{negated}
use Rattle.pks_terms.specs.Views.{literal_of}
use Rattle.pks_query_closing.proofs.groups.put_negated.Given as goal

abbrev pub invariant-loop-l : goal.invariant-loop-l
invariant-loop-l l = map literal_of l.to.items ≡ map literal_of l.fn.to.items ++ map negated (map literal_of (take l.l-index l.ls))
