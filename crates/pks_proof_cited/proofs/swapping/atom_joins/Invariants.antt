use Rattle.std.proofs.Common.{◌≡◌, drop}
use Rattle.pks_terms.specs.Orders.{atom_cmp}
use Rattle.pks_terms.specs.Views.{atom_of}
use Rattle.pks_terms.specs.Rewriting.{swaps_atom}
use Rattle.pks_lcw.specs.Entries.{atoms_of}
use Rattle.pks_proof_cited.specs.CitedViews.{judge_of}
use Rattle.pks_proof_cited.specs.Exchanges.{joins}
use Rattle.pks_proof_cited.proofs.swapping.atom_joins.Given as goal

abbrev pub invariant-loop-i : goal.invariant-loop-i
invariant-loop-i l =
    joins (swaps_atom (judge_of l.c) l.c.moment (atom_of l.a)) atom_cmp (atoms_of l.left) (atoms_of (drop l.i l.h))
    ≡ joins (swaps_atom (judge_of l.c) l.c.moment (atom_of l.a)) atom_cmp (atoms_of l.g) (atoms_of l.h)
