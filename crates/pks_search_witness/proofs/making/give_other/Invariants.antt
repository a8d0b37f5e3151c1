use Rattle.pks_terms.specs.Views.{signature_of}
use Rattle.pks_world.specs.First.{IsWorldOf}
use Rattle.pks_search_witness.proofs.making.give_other.Given as goal

abbrev pub invariant-loop-d : goal.invariant-loop-d
invariant-loop-d l = IsWorldOf (signature_of l.p.signature) l.w
