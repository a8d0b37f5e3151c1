-- What stands in the unused places of arrays.
use Rattle.std.specs.Prelude.{true, Option, Some}
use Rattle.pks_terms.specs.declared.term.Inner.{Inner}
use Rattle.pks_terms.specs.declared.term.Inner.TheVariants as inner_is
use Rattle.pks_terms.specs.declared.term.Term.{Term}
use Rattle.pks_terms.specs.declared.term.Term.TheVariants as term_is
use Rattle.pks_terms.specs.declared.literal.Atom.TheVariants as atom_is
use Rattle.pks_terms.specs.declared.literal.Literal.{Literal}
use Rattle.pks_terms.specs.declared.schema.Query.{Query}
use Rattle.pks_terms.specs.declared.schema.Query.TheVariants as query_is

-- object 0, as an argument
abbrev pub inner_filler : Inner
inner_filler = inner_is.Obj (record { 0 = 0 })

-- object 0, as a term
abbrev pub term_filler : Term
term_filler = term_is.Obj (record { 0 = 0 })

-- object 0, as a place of a pattern
abbrev pub slot_filler : Option Term
slot_filler = Some term_filler

-- object 0 equals itself
abbrev pub literal_filler : Literal
literal_filler = record { atom = atom_is.Eq term_filler term_filler; positive = true }

-- whether that is known
abbrev pub query_filler : Query
query_filler = query_is.K literal_filler
