-- How far a line stands from the left.
use Rattle.std.specs.Prelude.{ℕ, zero, suc, List, [], ◌∷◌}

-- two blanks for each level
abbrev pub indent : ℕ → List ℕ
indent zero = []
indent (suc n) = 32 ∷ 32 ∷ indent n
