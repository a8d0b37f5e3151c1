use Rattle.std.proofs.Common.{◌≡◌}
use Rattle.std.specs.List.{list_all}
use Rattle.pks_kf.specs.Known.{literals_of}
use Rattle.pks_query_lookup.specs.Fives.{five_of}
use Rattle.pks_laws_forget.specs.Testing.{has}
use Rattle.pks_history_forget.proofs.looking.literals_stay.Given as goal

abbrev pub invariant-loop-l : goal.invariant-loop-l
invariant-loop-l l = list_all (has (five_of l.after)) (literals_of l.l-iterator) ≡ list_all (has (five_of l.after)) (literals_of l.before.kf)
