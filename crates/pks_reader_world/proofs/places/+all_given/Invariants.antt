use Rattle.std.proofs.Common.{◌≡◌, [], ◌∷◌, ◌++◌, map, take, drop, length}
use Rattle.std.specs.List.{list_all}
use Rattle.pks_terms.specs.Signatures.{fits_type, objects_from}
use Rattle.pks_terms.specs.Views.{object_of, signature_of, types_of}
use Rattle.pks_reader_world.specs.Places.{all_given}
use Rattle.pks_reader_world.specs.Views.{given_of}
use Rattle.pks_reader_world.proofs.places.+all_given.Given as goal

abbrev pub decreases-all_given : goal.decreases-all_given
decreases-all_given l = length l.types.now

abbrev pub invariant-loop-i : goal.invariant-loop-i
invariant-loop-i l =
    let given = all_given (signature_of l.s) (given_of l.given) l.fun.0 in
    let ds = map object_of (take l.n l.args) in
    let objects = objects_from (λ own. fits_type (signature_of l.s) own l.of.0) l.i (map (λ t. t.0) (drop l.i l.own-items)) in
    list_all (λ d. given (ds ++ d ∷ []) (types_of l.rest)) objects ≡ given ds (l.of.0 ∷ types_of l.rest)
