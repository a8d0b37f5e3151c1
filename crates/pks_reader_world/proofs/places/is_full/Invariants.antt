use Rattle.std.proofs.Common.{◌≡◌, map, drop}
use Rattle.pks_terms.specs.Views.{shape_of, signature_of}
use Rattle.pks_reader_world.specs.Places.{have_values, is_full}
use Rattle.pks_reader_world.specs.Views.{given_of}
use Rattle.pks_reader_world.proofs.places.is_full.Given as goal

abbrev pub invariant-loop-f : goal.invariant-loop-f
invariant-loop-f l = have_values (signature_of l.s) (given_of l.given) l.f (map shape_of (drop l.f l.shape-items)) ≡ is_full (signature_of l.s) (given_of l.given)
