use Rattle.std.proofs.Common.{◌≡◌, ◌||◌, drop}
use Rattle.std.specs.List.{list_all}
use Rattle.pks_terms.specs.Views.{pattern_of}
use Rattle.pks_terms.specs.Reasons.{is_listed, is_new_atom}
use Rattle.pks_lcw.specs.Entries.{atoms_of}
use Rattle.pks_proof.specs.Doings.{effects_by, before_in, moment_in}
use Rattle.pks_proof.proofs.region.are_known_atoms.Given as goal

abbrev pub invariant-loop-b : goal.invariant-loop-b
invariant-loop-b l =
    list_all (λ b. is_listed (atoms_of l.listed) b || is_new_atom (before_in l.d) (moment_in l.d) (effects_by l.d) (pattern_of l.x) b) (atoms_of (drop l.b-index l.atoms))
    ≡ list_all (λ b. is_listed (atoms_of l.listed) b || is_new_atom (before_in l.d) (moment_in l.d) (effects_by l.d) (pattern_of l.x) b) (atoms_of l.atoms)
