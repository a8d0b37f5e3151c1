use Rattle.std.proofs.Common.{◌≡◌, drop}
use Rattle.std.specs.List.{list_all}
use Rattle.pks_terms.specs.Views.{literals_in}
use Rattle.pks_query_lookup.specs.Fives.{five_of}
use Rattle.pks_laws_forget.specs.Testing.{has}
use Rattle.pks_history_forget.proofs.effects.all_known.Given as goal

abbrev pub invariant-loop-l : goal.invariant-loop-l
invariant-loop-l l = list_all (has (five_of l.d)) (literals_in (drop l.l-index l.ls)) ≡ list_all (has (five_of l.d)) (literals_in l.ls)
