use Rattle.pks_terms.specs.Views.{terms_of}
use Rattle.pks_query_uses.proofs.IndexLaws.{PutsBut}
use Rattle.pks_query_uses.proofs.index.put_at_each.Given as goal

abbrev pub invariant-loop-t : goal.invariant-loop-t
invariant-loop-t g l = PutsBut (terms_of l.t-iterator) l.fn.index l.index (terms_of l.ts) l.x
