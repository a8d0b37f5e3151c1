use Rattle.std.proofs.Common.{map}
use Rattle.pks_terms.specs.Views.{object_of}
use Rattle.pks_world.specs.Contents.{world_of}
use Rattle.pks_search_distance.specs.Gained.{pair_of, chances_of}
use Rattle.pks_search_distance.proofs.Lists.{AddedFrom}
use Rattle.pks_search_distance.proofs.gains.RelaxedFacts.add_placed.Given as goal

abbrev pub invariant-loop-ds : goal.invariant-loop-ds
invariant-loop-ds l = AddedFrom pair_of ((chances_of (world_of l.w) l.self).values l.fun.0) l.pairs (map object_of l.fn.to.items) l.ds-index (map object_of l.to.items)
