use Rattle.std.proofs.Common.{◌≡◌, ◌++◌, flat_map, take}
use Rattle.pks_terms.specs.Views.{terms_of}
use Rattle.pks_lcw.specs.Entries.{atoms_of}
use Rattle.pks_query_uses.specs.Occurring.{in_atom}
use Rattle.pks_query_uses.proofs.items.put_atoms.Given as goal

abbrev pub invariant-loop-a : goal.invariant-loop-a
invariant-loop-a l = terms_of l.to.items ≡ terms_of l.fn.to.items ++ flat_map in_atom (atoms_of (take l.a-index l.atoms))
