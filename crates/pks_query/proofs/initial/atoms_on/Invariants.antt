use Rattle.std.proofs.Common.{◌≡◌, ◌++◌}
use Rattle.std.specs.List.{filter_map}
use Rattle.pks_terms.specs.Problems.{atom_on}
use Rattle.pks_kf.specs.Known.{literals_of}
use Rattle.pks_lcw.specs.Entries.{atoms_of}
use Rattle.pks_query.proofs.initial.atoms_on.Given as goal

abbrev pub invariant-loop-l : goal.invariant-loop-l
invariant-loop-l l =
    atoms_of l.atoms.items ++ filter_map (atom_on l.pred.0) (literals_of l.l-iterator)
    ≡ filter_map (atom_on l.pred.0) (literals_of l.kf)
