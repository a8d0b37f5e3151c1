use Rattle.std.proofs.Common.{◌≡◌, ◌++◌, map}
use Rattle.std.specs.List.{flat_map}
use Rattle.pks_terms.specs.Closure.{by_value}
use Rattle.pks_terms.specs.Views.{literal_of}
use Rattle.pks_kf.specs.Known.{literals_of}
use Rattle.pks_query_closing.proofs.steps.by_values.Given as goal

abbrev pub invariant-loop-l : goal.invariant-loop-l
invariant-loop-l l =
    map literal_of l.all.items ++ flat_map (by_value (literals_of l.by.kf)) (literals_of l.l-iterator)
    ≡ flat_map (by_value (literals_of l.by.kf)) (literals_of l.by.kf)
