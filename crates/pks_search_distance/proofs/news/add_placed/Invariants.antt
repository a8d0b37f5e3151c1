use Rattle.std.proofs.Common.{map}
use Rattle.pks_terms.specs.Syntax.{place}
use Rattle.pks_terms.specs.Views.{object_of}
use Rattle.pks_search_distance.specs.Relaxed.{NewValue}
use Rattle.pks_search_distance.specs.Gained.{pair_of, new_of}
use Rattle.pks_search_distance.proofs.Lists.{AddedFrom}
use Rattle.pks_search_distance.proofs.news.add_placed.Given as goal

abbrev pub invariant-loop-ds : goal.invariant-loop-ds
invariant-loop-ds l = AddedFrom pair_of (λ ds. map (NewValue (place l.fun.0 ds)) (map object_of l.values)) l.pairs (map new_of l.fn.to.items) l.ds-index (map new_of l.to.items)
