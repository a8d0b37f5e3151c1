use Rattle.std.proofs.Common.{◌≡◌, map, drop}
use Rattle.std.specs.List.{list_any}
use Rattle.pks_terms.specs.Worlds.{value_of}
use Rattle.pks_terms.specs.Views.{start_of, atom_of, problem_of}
use Rattle.pks_world.specs.Contents.{world_of}
use Rattle.pks_exec.specs.Instances.{lists, is_listed}
use Rattle.pks_exec.proofs.compatibility.is_listed.Given as goal

abbrev pub invariant-loop-item : goal.invariant-loop-item
invariant-loop-item l =
    list_any (lists (world_of l.w) l.a.pred.0 (map (value_of (world_of l.w)) (atom_of l.a).arguments)) (map (λ i. start_of i.start) (drop l.item-index l.item-items))
    ≡ is_listed (problem_of l.p) (world_of l.w) l.a.pred.0 (map (value_of (world_of l.w)) (atom_of l.a).arguments)
