use Rattle.std.proofs.Common.{◌≡◌, ◌++◌, map, filter}
use Rattle.pks_terms.specs.Databases.{normal}
use Rattle.pks_terms.specs.Closure.{is_application}
use Rattle.pks_terms.specs.Views.{terms_of}
use Rattle.pks_kf.specs.Known.{literals_of}
use Rattle.pks_query_closing.proofs.tidied.normal_values.Given as goal

abbrev pub invariant-loop-t : goal.invariant-loop-t
invariant-loop-t l =
    terms_of l.all.items ++ filter is_application (map (normal (literals_of l.d.kf)) (terms_of l.t-iterator))
    ≡ filter is_application (map (normal (literals_of l.d.kf)) (terms_of l.d.kv))
