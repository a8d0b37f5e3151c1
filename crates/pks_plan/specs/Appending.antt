-- What a refusal leaves behind.
use Rattle.std.specs.Prelude.{◌≡◌, ℕ, List, ◌++◌}

-- a beginning of the text was appended, and the rest of it wasn't
pub record AppendsPart (old new text : List ℕ) : Type 0 where
  pub written : List ℕ
  pub rest : List ℕ
  pub split : text ≡ written ++ rest
  pub appended : new ≡ old ++ written
