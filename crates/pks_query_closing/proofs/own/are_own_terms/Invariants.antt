use Rattle.std.proofs.Common.{◌≡◌, drop}
use Rattle.std.specs.List.{list_all}
use Rattle.pks_terms.specs.Views.{terms_of}
use Rattle.pks_kf.specs.Known.{literals_of}
use Rattle.pks_query_closing.specs.Own.{is_own_term}
use Rattle.pks_query_closing.proofs.own.are_own_terms.Given as goal

abbrev pub invariant-loop-t : goal.invariant-loop-t
invariant-loop-t l = list_all (is_own_term (literals_of l.by.kf)) (terms_of (drop l.t-index l.ts)) ≡ list_all (is_own_term (literals_of l.by.kf)) (terms_of l.ts)
