-- Lines that are written part by part.
use Rattle.std.proofs.Common.{◌≡◌, ◌≤◌, List, [], ◌∷◌, ◌-◌, length, drop, take, get_or, Option, Result, Ok, Err, OnErr, Bor, subst, arith}
use Rattle.std.specs.List.{flat_map}
use Rattle.std.specs.Io.KnownBytes.{Appends}
use Rattle.std.proofs.lemmas.List.{take_all}
use Rattle.pks_io.specs.Writing.{AppendsFront}
use Rattle.pks_terms.specs.Printed.{Text}
use Rattle.pks_agent.proofs.Joining.{front_behind}

-- the first part was written, and then a front of the others
pub parts_front : {E : Type 0} (r : Result (Unit {0}) E) (old mid new : Option Text) (parts : List (Bor Text)) (none : Bor Text) → 1 ≤ length parts → Appends old mid (get_or parts 0 none).now
    → OnErr r (AppendsFront mid new (flat_map (λ part. part.now) (take (length parts - 1) (drop 1 parts)))) → OnErr r (AppendsFront old new (flat_map (λ part. part.now) parts))
parts_front r old mid new [] none some first rest = absurd (omega (arith, some))
parts_front (Ok x) old mid new (part ∷ parts) none some first rest = tt
parts_front (Err e) old mid new (part ∷ parts) none some first rest =
    let all : take (length (part ∷ parts) - 1) parts ≡ parts = take_all (length (part ∷ parts) - 1) parts (omega arith) in
    front_behind old mid new part.now (flat_map (λ part. part.now) parts) first (subst (λ (l : List (Bor Text)). AppendsFront mid new (flat_map (λ part. part.now) l)) all rest)
