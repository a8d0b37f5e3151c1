use Rattle.std.proofs.Common.{◌≡◌}
use Rattle.std.specs.List.{list_all}
use Rattle.pks_kf.specs.Known.{literals_of}
use Rattle.pks_terms.specs.Views.{terms_of}
use Rattle.pks_query_closing.specs.Own.{is_own_application}
use Rattle.pks_query_closing.proofs.tidied.are_own_values.Given as goal

abbrev pub invariant-loop-t : goal.invariant-loop-t
invariant-loop-t l = list_all (is_own_application (literals_of l.d.kf)) (terms_of l.t-iterator) ≡ list_all (is_own_application (literals_of l.d.kf)) (terms_of l.d.kv)
