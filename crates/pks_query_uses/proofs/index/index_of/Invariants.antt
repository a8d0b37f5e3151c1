use Rattle.pks_query_uses.proofs.IndexLaws.{IsIndexBut}
use Rattle.pks_query_uses.proofs.index.index_of.Given as goal

abbrev pub invariant-loop-x : goal.invariant-loop-x
invariant-loop-x g l = IsIndexBut g.T.Indexed.terms l.x-iterator l.fn.items l.index
