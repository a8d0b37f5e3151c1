use Rattle.std.proofs.Common.{◌≡◌, drop}
use Rattle.std.specs.List.{list_all}
use Rattle.pks_kf.specs.Known.{literals_of}
use Rattle.pks_lcw.specs.Entries.{atoms_of}
use Rattle.pks_query_closing.specs.Own.{is_own_atom}
use Rattle.pks_query_closing.proofs.own.are_own_atoms.Given as goal

abbrev pub invariant-loop-a : goal.invariant-loop-a
invariant-loop-a l = list_all (is_own_atom (literals_of l.by.kf)) (atoms_of (drop l.a-index l.atoms)) ≡ list_all (is_own_atom (literals_of l.by.kf)) (atoms_of l.atoms)
