use Rattle.std.proofs.Common.{◌≡◌, map}
use Rattle.pks_terms.specs.Closure.{normal_entry}
use Rattle.pks_kf.specs.Known.{literals_of}
use Rattle.pks_lcw.specs.Entries.{entries_of}
use Rattle.pks_query_closing.proofs.tidied.are_own_regions.Given as goal

abbrev pub invariant-loop-e : goal.invariant-loop-e
invariant-loop-e l =
    map (normal_entry (literals_of l.d.kf)) (entries_of l.e-iterator) ≡ entries_of l.e-iterator
    → map (normal_entry (literals_of l.d.kf)) (entries_of l.d.lcw) ≡ entries_of l.d.lcw
