-- Up to three objects.
use Rattle.std.specs.Prelude.{ℕ, List, [], ◌∷◌, take}
use Rattle.pks_world.specs.declared.few.Few.{Few}

-- those that are there
abbrev pub few_of : Few → List ℕ
few_of x = take x.n (x.first.0 ∷ x.second.0 ∷ x.third.0 ∷ [])
