use Rattle.std.proofs.Common.{◌≡◌, drop}
use Rattle.std.specs.List.{flat_map}
use Rattle.pks_terms.specs.Spoiling.{are_stable}
use Rattle.pks_terms.specs.Views.{signature_of}
use Rattle.pks_lcw.specs.Entries.{atoms_of}
use Rattle.pks_query_lookup.specs.Fives.{five_of}
use Rattle.pks_progress_interference.specs.EffectViews.{effects_in}
use Rattle.pks_progress.proofs.regions.atoms_are_stable.Given as goal

abbrev pub invariant-loop-a : goal.invariant-loop-a
invariant-loop-a l =
    are_stable (signature_of l.s) (five_of l.d) (effects_in l.es) (flat_map (λ a. a.arguments) (atoms_of (drop l.a-index l.atoms)))
    ≡ are_stable (signature_of l.s) (five_of l.d) (effects_in l.es) (flat_map (λ a. a.arguments) (atoms_of l.atoms))
