use Rattle.std.proofs.Common.{◌≡◌, drop}
use Rattle.std.specs.List.{list_any}
use Rattle.pks_terms.specs.Views.{target_of}
use Rattle.pks_terms.specs.Reasons.{is_set_form}
use Rattle.pks_lcw.specs.Entries.{atoms_of}
use Rattle.pks_proof.specs.Doings.{effects_by, before_in, moment_in}
use Rattle.pks_proof.proofs.region.some_set_form.Given as goal

abbrev pub invariant-loop-b : goal.invariant-loop-b
invariant-loop-b l =
    list_any (is_set_form (before_in l.d) (moment_in l.d) (effects_by l.d) (target_of l.target)) (atoms_of (drop l.b-index l.atoms))
    ≡ list_any (is_set_form (before_in l.d) (moment_in l.d) (effects_by l.d) (target_of l.target)) (atoms_of l.atoms)
