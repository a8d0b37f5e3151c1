use Rattle.pks_terms.specs.Views.{signature_of}
use Rattle.pks_world.specs.First.{IsWorldOf}
use Rattle.pks_search_witness.proofs.making.put_atoms.Given as goal

abbrev pub invariant-loop-item : goal.invariant-loop-item
invariant-loop-item l = IsWorldOf (signature_of l.p.signature) l.w
