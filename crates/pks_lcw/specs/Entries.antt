-- What entries and sets of atoms say.
use Rattle.std.specs.Prelude.{List, map}
use Rattle.pks_terms.specs.Syntax.{Atom}
use Rattle.pks_terms.specs.Databases.{Entry}
use Rattle.pks_terms.specs.Views.{atom_of, pattern_of}
use Rattle.pks_terms.specs.declared.literal.PredAtom.{PredAtom}
use Rattle.pks_lcw.specs.declared.regions.Entry.{Entry as DEntry}

-- the atoms that the values say
abbrev pub atoms_of : List PredAtom → List Atom
atoms_of atoms = map atom_of atoms

-- an entry
abbrev pub entry_of : DEntry → Entry
entry_of e = record { pattern = pattern_of e.pattern; listed = atoms_of e.list }

-- each entry of a list
abbrev pub entries_of : List DEntry → List Entry
entries_of lcw = map entry_of lcw
