use Rattle.std.proofs.Common.{◌≡◌, ◌++◌, map, drop}
use Rattle.std.specs.List.{filter_map}
use Rattle.pks_terms.specs.Problems.{known_start, whether_start, value_start, group_start, region_start}
use Rattle.pks_terms.specs.Views.{conj_of, literal_of, literals_in, pattern_of, term_of}
use Rattle.pks_query.specs.Starts.{starts_of}
use Rattle.pks_query.proofs.initial.sorted_items.Given as goal

abbrev pub invariant-loop-item : goal.invariant-loop-item
invariant-loop-item l =
    let rest = starts_of (drop l.item-index l.init) in
    let all = starts_of l.init in
    (map literal_of l.sorted.known.items ++ filter_map known_start rest ≡ filter_map known_start all)
    × (map conj_of l.sorted.whether.items ++ filter_map whether_start rest ≡ filter_map whether_start all)
    × (map term_of l.sorted.values.items ++ filter_map value_start rest ≡ filter_map value_start all)
    × (map literals_in l.sorted.groups.items ++ filter_map group_start rest ≡ filter_map group_start all)
    × (map pattern_of l.sorted.regions.items ++ filter_map region_start rest ≡ filter_map region_start all)
