use Rattle.std.proofs.Common.{◌≡◌}
use Rattle.std.specs.List.{list_all}
use Rattle.pks_kf.specs.Known.{literals_of}
use Rattle.pks_query_lookup.specs.Fives.{five_of}
use Rattle.pks_search_symmetry.specs.Renaming.{image_by}
use Rattle.pks_search_symmetry.specs.Going.{literal_goes}
use Rattle.pks_search_symmetry.proofs.images.known_go.Given as goal

abbrev pub invariant-loop-l : goal.invariant-loop-l
invariant-loop-l l =
    list_all (literal_goes (image_by l.to) (five_of l.e)) (literals_of l.l-iterator)
    ≡ list_all (literal_goes (image_by l.to) (five_of l.e)) (literals_of l.d.kf)
