use Rattle.std.proofs.Common.{◌≡◌, false, map, take}
use Rattle.pks_terms.specs.Sets.{Each}
use Rattle.pks_world.specs.Contents.{world_of}
use Rattle.pks_search_distance.specs.Levels.{Grows}
use Rattle.pks_search_distance.specs.Relaxed.{IsNewIn}
use Rattle.pks_search_distance.specs.Gained.{chances_of, some_new, new_of}
use Rattle.pks_search_distance.proofs.gains.RelaxedFacts.take_all.Given as goal

abbrev pub invariant-loop-x : goal.invariant-loop-x
invariant-loop-x l = record {
  grows : Grows (chances_of (world_of l.w) l.fn.self) (chances_of (world_of l.w) l.self);
  has : Each (IsNewIn (chances_of (world_of l.w) l.self)) (map new_of (take l.x-index l.found));
  told : l.grew ≡ some_new (world_of l.w) l.fn.self (map new_of (take l.x-index l.found));
  same : l.grew ≡ false → l.self ≡ l.fn.self;
}
