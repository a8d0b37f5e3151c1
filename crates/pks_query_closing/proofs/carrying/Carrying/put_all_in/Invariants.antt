use Rattle.std.proofs.Common.{map}
use Rattle.pks_terms.specs.Views.{literal_of}
use Rattle.pks_query_closing.specs.Carrying.{Puts}
use Rattle.pks_query_closing.proofs.carrying.Carrying.put_all_in.Given as goal

abbrev pub invariant-loop-l : goal.invariant-loop-l
invariant-loop-l l = Puts (map literal_of l.ls) l.fn.self l.self
