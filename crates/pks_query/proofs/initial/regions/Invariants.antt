use Rattle.std.proofs.Common.{◌≡◌, ◌++◌, map, drop}
use Rattle.pks_terms.specs.Problems.{initial_entry}
use Rattle.pks_terms.specs.Views.{pattern_of}
use Rattle.pks_kf.specs.Known.{literals_of}
use Rattle.pks_lcw.specs.Entries.{entries_of}
use Rattle.pks_query.specs.Starts.{AreKnownLists}
use Rattle.pks_query.proofs.initial.regions.Given as goal

abbrev pub invariant-loop-pattern : goal.invariant-loop-pattern
invariant-loop-pattern l =
    (entries_of l.items.items ++ map (initial_entry (literals_of l.kf)) (map pattern_of (drop l.pattern-index l.patterns)) ≡ map (initial_entry (literals_of l.kf)) (map pattern_of l.patterns))
    × AreKnownLists (literals_of l.kf) l.lists.items
