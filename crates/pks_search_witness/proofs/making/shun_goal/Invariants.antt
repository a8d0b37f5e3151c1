use Rattle.pks_terms.specs.Views.{signature_of}
use Rattle.pks_world.specs.First.{IsWorldOf}
use Rattle.pks_search_witness.proofs.making.shun_goal.Given as goal

abbrev pub invariant-loop-a : goal.invariant-loop-a
invariant-loop-a l = IsWorldOf (signature_of l.p.signature) l.w
