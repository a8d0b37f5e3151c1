-- What the program's entries say.
use Rattle.std.specs.Prelude.{List, map}
use Rattle.pks_terms.specs.Views.{literal_of}
use Rattle.pks_terms.specs.Syntax.{Literal}
use Rattle.pks_terms.specs.Proofs.{Path}
use Rattle.pks_terms.specs.Explained.{Entry}
use Rattle.pks_proof_lines.specs.ProofViews.{path_of, lines_of}
use Rattle.pks_explain.specs.declared.entries.ProvedLiteral.{ProvedLiteral as DEntry}
use Rattle.pks_explain.specs.declared.entries.Owed.{Owed}

-- an entry
abbrev pub entry_of : DEntry → Entry
entry_of e = record { path = path_of e.path; literal = literal_of e.literal; proof = lines_of e.proof }

-- the entries of a list
abbrev pub entries_of : List DEntry → List Entry
entries_of es = map entry_of es

-- what is owed
abbrev pub owed_of : Owed → Path × Literal
owed_of x = (path_of x.path, literal_of x.literal)
