use Rattle.std.proofs.Common.{◌≡◌, map, drop}
use Rattle.pks_terms.specs.Sets.{exactly_one}
use Rattle.pks_terms.specs.Worlds.{true_in}
use Rattle.pks_terms.specs.Views.{literal_of, literals_in}
use Rattle.pks_world.specs.Contents.{world_of}
use Rattle.pks_exec.proofs.compatibility.one_holds.Given as goal

abbrev pub invariant-loop-k : goal.invariant-loop-k
invariant-loop-k l = exactly_one (true_in (world_of l.w)) (map literal_of (drop l.k l.literals)) ≡ exactly_one (true_in (world_of l.w)) (literals_in l.literals)
