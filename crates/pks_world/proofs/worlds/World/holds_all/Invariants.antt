use Rattle.std.proofs.Common.{◌≡◌, map, drop}
use Rattle.std.specs.List.{list_all}
use Rattle.pks_terms.specs.Worlds.{true_in, all_true_in}
use Rattle.pks_terms.specs.Views.{literal_of, conj_of}
use Rattle.pks_world.specs.Contents.{world_of}
use Rattle.pks_world.proofs.worlds.World.holds_all.Given as goal

abbrev pub invariant-loop-l : goal.invariant-loop-l
invariant-loop-l l = list_all (true_in (world_of l.self)) (map literal_of (drop l.l-index l.l-items)) ≡ all_true_in (world_of l.self) (conj_of l.c)
