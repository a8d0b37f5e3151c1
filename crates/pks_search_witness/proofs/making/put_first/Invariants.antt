use Rattle.pks_terms.specs.Views.{signature_of}
use Rattle.pks_world.specs.First.{IsWorldOf}
use Rattle.pks_search_witness.proofs.making.put_first.Given as goal

abbrev pub invariant-loop-l : goal.invariant-loop-l
invariant-loop-l l = IsWorldOf (signature_of l.p.signature) l.w
