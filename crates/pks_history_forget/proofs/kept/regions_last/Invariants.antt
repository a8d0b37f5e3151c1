use Rattle.std.proofs.Common.{◌≡◌}
use Rattle.std.specs.List.{list_all}
use Rattle.pks_lcw.specs.Entries.{entries_of}
use Rattle.pks_query_lookup.specs.Fives.{five_of}
use Rattle.pks_laws_forget.specs.Testing.{lasts_as_region}
use Rattle.pks_history_forget.proofs.kept.regions_last.Given as goal

abbrev pub invariant-loop-r : goal.invariant-loop-r
invariant-loop-r l =
    list_all (lasts_as_region (five_of l.after)) (entries_of l.r-iterator)
    ≡ list_all (lasts_as_region (five_of l.after)) (entries_of l.before.lcw)
