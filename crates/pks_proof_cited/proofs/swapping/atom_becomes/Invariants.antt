use Rattle.std.proofs.Common.{◌≡◌, drop}
use Rattle.pks_terms.specs.Orders.{atom_cmp}
use Rattle.pks_terms.specs.Views.{atom_of}
use Rattle.pks_terms.specs.Rewriting.{swaps_atom}
use Rattle.pks_lcw.specs.Entries.{atoms_of}
use Rattle.pks_proof_cited.specs.CitedViews.{judge_of}
use Rattle.pks_proof_cited.specs.Exchanges.{leaves}
use Rattle.pks_proof_cited.proofs.swapping.atom_becomes.Given as goal

abbrev pub invariant-loop-i : goal.invariant-loop-i
invariant-loop-i l =
    leaves (λ a. swaps_atom (judge_of l.c) l.c.moment a (atom_of l.b)) atom_cmp (atoms_of (drop l.i l.g)) (atoms_of l.left)
    ≡ leaves (λ a. swaps_atom (judge_of l.c) l.c.moment a (atom_of l.b)) atom_cmp (atoms_of l.g) (atoms_of l.h)
