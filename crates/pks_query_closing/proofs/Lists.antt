-- Lists read through a function.
use Rattle.std.proofs.Common.{append-nil, append_assoc}
use Rattle.std.proofs.lemmas.List.{map_push, map-set}
use Rattle.std.proofs.Math.Seq.{take-set-lt}
use Rattle.pks_query_lookup.proofs.Lists.{all_some-map, map_same, each_push}

pub ruleset read = (all_some-map, map_same, map_push, append_assoc, append-nil, each_push, take-set-lt, map-set)
