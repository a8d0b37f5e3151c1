use Rattle.std.proofs.Common.{◌≡◌, drop, map}
use Rattle.std.specs.List.{list_all}
use Rattle.pks_terms.specs.Views.{start_of}
use Rattle.pks_world.specs.Contents.{world_of}
use Rattle.pks_search_witness.specs.Apart.{agree_on}
use Rattle.pks_search_witness.proofs.pairing.agree.Given as goal

abbrev pub invariant-loop-item : goal.invariant-loop-item
invariant-loop-item l = list_all (agree_on (world_of l.w) (world_of l.u)) (map (λ i. start_of i.start) (drop l.item-index l.items)) ≡ list_all (agree_on (world_of l.w) (world_of l.u)) (map (λ i. start_of i.start) l.items)
