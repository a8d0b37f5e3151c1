use Rattle.std.proofs.Common.{◌≡◌, drop}
use Rattle.std.specs.List.{list_any}
use Rattle.pks_terms.specs.Views.{atom_of}
use Rattle.pks_terms.specs.Rewriting.{swaps_atom}
use Rattle.pks_lcw.specs.Entries.{atoms_of}
use Rattle.pks_proof_cited.specs.CitedViews.{judge_of}
use Rattle.pks_proof_cited.proofs.swapping.becomes_some.Given as goal

abbrev pub invariant-loop-b : goal.invariant-loop-b
invariant-loop-b l =
    list_any (swaps_atom (judge_of l.c) l.c.moment (atom_of l.a)) (atoms_of (drop l.b-index l.atoms))
    ≡ list_any (swaps_atom (judge_of l.c) l.c.moment (atom_of l.a)) (atoms_of l.atoms)
