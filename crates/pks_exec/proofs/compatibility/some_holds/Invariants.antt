use Rattle.std.proofs.Common.{◌≡◌, map, drop}
use Rattle.std.specs.List.{list_any}
use Rattle.pks_terms.specs.Worlds.{true_in}
use Rattle.pks_terms.specs.Views.{literal_of, literals_in}
use Rattle.pks_world.specs.Contents.{world_of}
use Rattle.pks_exec.proofs.compatibility.some_holds.Given as goal

abbrev pub invariant-loop-l : goal.invariant-loop-l
invariant-loop-l l = list_any (true_in (world_of l.w)) (map literal_of (drop l.l-index l.literals)) ≡ list_any (true_in (world_of l.w)) (literals_in l.literals)
