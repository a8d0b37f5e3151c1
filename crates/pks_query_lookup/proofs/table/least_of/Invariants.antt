use Rattle.std.proofs.Common.{◌≡◌, map, drop}
use Rattle.std.specs.Option.{option_map}
use Rattle.pks_terms.specs.Views.{object_of}
use Rattle.pks_terms.specs.Databases.{least}
use Rattle.pks_query_lookup.specs.Reading.{lower}
use Rattle.pks_query_lookup.proofs.table.least_of.Given as goal

abbrev pub invariant-loop-d : goal.invariant-loop-d
invariant-loop-d l = lower (option_map object_of l.best) (least (map object_of (drop l.d-index l.objects))) ≡ least (map object_of l.objects)
