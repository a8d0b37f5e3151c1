use Rattle.std.proofs.Common.{◌≡◌, drop}
use Rattle.pks_lcw.specs.Entries.{atoms_of}
use Rattle.pks_query_lookup.specs.Own.{have_objects}
use Rattle.pks_query_lookup.proofs.atoms.have_objects.Given as goal

abbrev pub invariant-loop-a : goal.invariant-loop-a
invariant-loop-a l = have_objects (atoms_of (drop l.a-index l.atoms)) ≡ have_objects (atoms_of l.atoms)
