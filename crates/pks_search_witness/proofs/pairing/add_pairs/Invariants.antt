use Rattle.pks_terms.specs.Sets.{Each}
use Rattle.pks_terms.specs.Views.{problem_of}
use Rattle.pks_search_witness.specs.Apart.{AreFirst}
use Rattle.pks_search_witness.proofs.pairing.add_pairs.Given as goal

abbrev pub invariant-loop-l : goal.invariant-loop-l
invariant-loop-l l = Each (AreFirst (problem_of l.p)) l.twins.items

abbrev pub invariant-loop-turn : goal.invariant-loop-turn
invariant-loop-turn l = Each (AreFirst (problem_of l.p)) l.twins.items
