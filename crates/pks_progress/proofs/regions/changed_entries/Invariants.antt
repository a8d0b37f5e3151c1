use Rattle.std.proofs.Common.{◌≡◌, ◌++◌}
use Rattle.std.specs.List.{filter_map}
use Rattle.pks_terms.specs.Views.{signature_of}
use Rattle.pks_lcw.specs.Entries.{atoms_of, entries_of}
use Rattle.pks_query_lookup.specs.Fives.{five_of}
use Rattle.pks_progress_interference.specs.EffectViews.{effects_in}
use Rattle.pks_progress.specs.Kept.{changed_with}
use Rattle.pks_progress.proofs.regions.changed_entries.Given as goal

abbrev pub invariant-loop-r : goal.invariant-loop-r
invariant-loop-r l =
    entries_of l.changed.items ++ filter_map (changed_with (signature_of l.s) (five_of l.d) (effects_in l.es) (atoms_of l.atoms)) (entries_of l.r-iterator)
    ≡ filter_map (changed_with (signature_of l.s) (five_of l.d) (effects_in l.es) (atoms_of l.atoms)) (entries_of l.d.lcw)
