use Rattle.std.proofs.Common.{◌≡◌, map, drop}
use Rattle.pks_terms.specs.Closure.{all_put_in}
use Rattle.pks_terms.specs.Views.{literals_in}
use Rattle.pks_laws_symmetry.specs.Renamed.{renamed_literal, renamed_group}
use Rattle.pks_search_symmetry.specs.Renaming.{image_by}
use Rattle.pks_search_symmetry.proofs.renaming.group.Given as goal

abbrev pub invariant-loop-l : goal.invariant-loop-l
invariant-loop-l l =
    all_put_in (literals_in l.all.items) (map (renamed_literal (image_by l.to)) (literals_in (drop l.l-index l.l-items)))
    ≡ renamed_group (image_by l.to) (literals_in l.g)
