use Rattle.std.proofs.Common.{◌≡◌, map, drop}
use Rattle.std.specs.Option.{option_map}
use Rattle.pks_terms.specs.Worlds.{value_of}
use Rattle.pks_terms.specs.Meaning.{is_instance}
use Rattle.pks_terms.specs.Views.{term_of, terms_of}
use Rattle.pks_world.specs.Contents.{world_of}
use Rattle.pks_world.proofs.worlds.World.fits.Given as goal

abbrev pub invariant-loop-k : goal.invariant-loop-k
invariant-loop-k l =
    is_instance (world_of l.self) (map (option_map term_of) (drop l.k l.slots)) (map (value_of (world_of l.self)) (terms_of (drop l.k l.terms)))
    ≡ is_instance (world_of l.self) (map (option_map term_of) l.slots) (map (value_of (world_of l.self)) (terms_of l.terms))
