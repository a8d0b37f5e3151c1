use Rattle.std.proofs.Common.{◌≡◌}
use Rattle.std.specs.List.{list_all}
use Rattle.pks_lcw.specs.Entries.{entries_of}
use Rattle.pks_query_lookup.specs.Fives.{five_of}
use Rattle.pks_search_symmetry.specs.Renaming.{image_by}
use Rattle.pks_search_symmetry.specs.Going.{region_goes}
use Rattle.pks_search_symmetry.proofs.images.regions_go.Given as goal

abbrev pub invariant-loop-r : goal.invariant-loop-r
invariant-loop-r l =
    list_all (region_goes (image_by l.to) (five_of l.e)) (entries_of l.r-iterator)
    ≡ list_all (region_goes (image_by l.to) (five_of l.e)) (entries_of l.d.lcw)
