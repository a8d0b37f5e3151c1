use Rattle.pks_kf.specs.Known.{literals_of}
use Rattle.pks_query_lookup.specs.Tables.{IsTableBut}
use Rattle.pks_query_lookup.proofs.table.table_of.Given as goal

abbrev pub invariant-loop-l : goal.invariant-loop-l
invariant-loop-l l = IsTableBut (literals_of l.l-iterator) (literals_of l.kf) l.table
