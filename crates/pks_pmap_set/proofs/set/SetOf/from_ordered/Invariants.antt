use Rattle.std.proofs.Common.{◌≡◌, ◌++◌, length}
use Rattle.std.specs.Vec.Iter.{into_iter_items, into_iter_len}
use Rattle.pks_pmap_set.specs.Members.{keys}
use Rattle.pks_pmap_set.proofs.set.SetOf.from_ordered.Given as goal

abbrev pub invariant-loop-item : goal.invariant-loop-item
invariant-loop-item g l = (keys l.entries.items ++ into_iter_items l.item-iterator ≡ l.fn.items.items)
    × (into_iter_len l.item-iterator ≡ length (into_iter_items l.item-iterator))
