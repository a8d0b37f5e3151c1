use Rattle.std.proofs.Common.{◌≡◌, length}
use Rattle.std.specs.Vec.Iter.{into_iter_items, into_iter_len}
use Rattle.pks_terms.specs.Sets.{added}
use Rattle.pks_pmap_set.proofs.set.SetOf.with_all.Given as goal

abbrev pub invariant-loop-item : goal.invariant-loop-item
invariant-loop-item g l = (added g.T.Ord.cmp l.set (into_iter_items l.item-iterator) ≡ added g.T.Ord.cmp l.self l.fn.items.items)
    × (into_iter_len l.item-iterator ≡ length (into_iter_items l.item-iterator))
