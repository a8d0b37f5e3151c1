use Rattle.std.proofs.Common.{◌≡◌, drop, map}
use Rattle.std.specs.List.{list_all}
use Rattle.pks_terms.specs.Actions.{sense_at}
use Rattle.pks_terms.specs.Views.{given_of, sense_of}
use Rattle.pks_world.specs.Contents.{world_of}
use Rattle.pks_search_witness.specs.Apart.{finds_same}
use Rattle.pks_search_witness.proofs.twins.find_same.Given as goal

abbrev pub invariant-loop-sense : goal.invariant-loop-sense
invariant-loop-sense l = list_all (finds_same (world_of l.w) (world_of l.u)) (map (sense_at (given_of l.i)) (map sense_of (drop l.sense-index l.senses))) ≡ list_all (finds_same (world_of l.w) (world_of l.u)) (map (sense_at (given_of l.i)) (map sense_of l.senses))
