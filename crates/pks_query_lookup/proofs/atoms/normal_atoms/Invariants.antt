use Rattle.std.proofs.Common.{◌≡◌, map, take}
use Rattle.pks_terms.specs.Closure.{normal_atom}
use Rattle.pks_kf.specs.Known.{literals_of}
use Rattle.pks_lcw.specs.Entries.{atoms_of}
use Rattle.pks_query_lookup.proofs.atoms.normal_atoms.Given as goal

abbrev pub invariant-loop-a : goal.invariant-loop-a
invariant-loop-a l = atoms_of l.all.items ≡ map (normal_atom (literals_of l.by.kf)) (atoms_of (take l.a-index l.atoms))
