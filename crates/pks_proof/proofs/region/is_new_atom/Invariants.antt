use Rattle.std.proofs.Common.{◌≡◌, ◌&&◌, drop, not}
use Rattle.std.specs.List.{list_any}
use Rattle.pks_terms.specs.Views.{atom_of, pattern_of}
use Rattle.pks_terms.specs.Reasons.{would_widen, is_barred, is_set_form}
use Rattle.pks_proof.specs.Doings.{effects_at, effects_by, before_in, moment_in}
use Rattle.pks_proof.proofs.region.is_new_atom.Given as goal

abbrev pub invariant-loop-e : goal.invariant-loop-e
invariant-loop-e l =
    list_any (λ e. not (is_barred (before_in l.d) (moment_in l.d) (would_widen (before_in l.d) (moment_in l.d) (pattern_of l.x)) e) && is_set_form (before_in l.d) (moment_in l.d) (effects_by l.d) e.target (atom_of l.b)) (effects_at l.d.instance.now (drop l.e-index l.effects))
    ≡ list_any (λ e. not (is_barred (before_in l.d) (moment_in l.d) (would_widen (before_in l.d) (moment_in l.d) (pattern_of l.x)) e) && is_set_form (before_in l.d) (moment_in l.d) (effects_by l.d) e.target (atom_of l.b)) (effects_at l.d.instance.now l.effects)
