use Rattle.std.proofs.Common.{◌≡◌, drop}
use Rattle.pks_pmap_set.specs.Members.{rises, rises_from}
use Rattle.pks_pmap_set.proofs.set.rises.Given as goal

abbrev pub invariant-loop-item : goal.invariant-loop-item
invariant-loop-item g l = rises_from g.T.Ord.cmp l.last (drop l.item-index l.rest) ≡ rises g.T.Ord.cmp l.items
