use Rattle.std.proofs.Common.{◌≡◌}
use Rattle.std.specs.List.{list_all}
use Rattle.pks_kx.specs.Groups.{groups_of}
use Rattle.pks_query_lookup.specs.Fives.{five_of}
use Rattle.pks_search_symmetry.specs.Renaming.{image_by}
use Rattle.pks_search_symmetry.specs.Going.{group_goes}
use Rattle.pks_search_symmetry.proofs.images.groups_go.Given as goal

abbrev pub invariant-loop-g : goal.invariant-loop-g
invariant-loop-g l =
    list_all (group_goes (image_by l.to) (five_of l.e)) (groups_of l.g-iterator)
    ≡ list_all (group_goes (image_by l.to) (five_of l.e)) (groups_of l.d.kx)
