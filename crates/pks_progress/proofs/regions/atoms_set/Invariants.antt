use Rattle.std.proofs.Common.{◌≡◌, ◌++◌, map, drop}
use Rattle.pks_terms.specs.Actions.{effect_at}
use Rattle.pks_terms.specs.Views.{effect_of, given_of, signature_of}
use Rattle.pks_lcw.specs.Entries.{atoms_of}
use Rattle.pks_query_lookup.specs.Fives.{five_of}
use Rattle.pks_progress_interference.specs.EffectViews.{effects_in}
use Rattle.pks_progress.specs.Kept.{atoms_set}
use Rattle.pks_progress.proofs.regions.atoms_set.Given as goal

abbrev pub invariant-loop-e : goal.invariant-loop-e
invariant-loop-e l =
    atoms_of l.atoms.items ++ atoms_set (signature_of l.s) (five_of l.d) (map (effect_at (given_of l.es.instance.now)) (map effect_of (drop l.e-index l.es.written.now)))
    ≡ atoms_set (signature_of l.s) (five_of l.d) (effects_in l.es)
