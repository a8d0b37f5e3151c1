-- The end of closing where there is no closed database.
use Rattle.pks_terms.specs.declared.literal.Literal.{Literal}
use Rattle.pks_query_closing.specs.declared.closing.CloseEnd.{CloseEnd}
use Rattle.pks_query_closing.specs.declared.closing.CloseEnd.TheVariants.{Clash, Memory}

-- P of the literal, where there is a clash
abbrev pub IfClash : (Literal → Type 0) → CloseEnd → Type 0
IfClash P (Clash l) = P l
IfClash P Memory = Unit {0}
