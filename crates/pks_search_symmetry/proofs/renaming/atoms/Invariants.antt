use Rattle.std.proofs.Common.{◌≡◌, map, take}
use Rattle.pks_lcw.specs.Entries.{atoms_of}
use Rattle.pks_laws_symmetry.specs.Renamed.{renamed_atom}
use Rattle.pks_search_symmetry.specs.Renaming.{image_by}
use Rattle.pks_search_symmetry.proofs.renaming.atoms.Given as goal

abbrev pub invariant-loop-a : goal.invariant-loop-a
invariant-loop-a l = atoms_of l.all.items ≡ map (renamed_atom (image_by l.to)) (atoms_of (take l.a-index l.list))
