use Rattle.std.proofs.Common.{◌≡◌, ◌++◌}
use Rattle.pks_terms.specs.Views.{terms_of}
use Rattle.pks_kf.specs.Known.{literals_of}
use Rattle.pks_query_closing.specs.Reading.{occurring}
use Rattle.pks_query_closing.proofs.ranges.occurring.Given as goal

abbrev pub invariant-loop-l : goal.invariant-loop-l
invariant-loop-l l = terms_of l.all.items ++ occurring (literals_of l.l-iterator) ≡ occurring (literals_of l.d.kf)
