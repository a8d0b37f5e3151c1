use Rattle.pks_terms.specs.Views.{terms_of, literal_of}
use Rattle.pks_query_uses.proofs.PlacingLaws.{PutsInBut}
use Rattle.pks_query_uses.proofs.placing.put_at_all.Given as goal

abbrev pub invariant-loop-t : goal.invariant-loop-t
invariant-loop-t l = PutsInBut (terms_of l.t-iterator) l.fn.index l.index (terms_of l.ts) (literal_of l.l)
