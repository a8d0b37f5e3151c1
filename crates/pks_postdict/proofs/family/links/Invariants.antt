use Rattle.std.proofs.Common.{◌≡◌, ◌-◌, take}
use Rattle.pks_postdict.specs.Families.{links_of}
use Rattle.pks_postdict.specs.Growing.{AreMarked}
use Rattle.pks_postdict.proofs.family.links.Given as goal

abbrev pub invariant-loop-k : goal.invariant-loop-k
invariant-loop-k l = (links_of l.all.items ≡ take l.k l.h.steps) × AreMarked l.unread (l.last - l.k) l.all.items
