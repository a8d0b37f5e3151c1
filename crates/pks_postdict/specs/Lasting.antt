-- The end of the rounds over a family.
use Rattle.std.specs.Prelude.{ℕ, ◌≡◌}
use Rattle.pks_terms.specs.Problems.{Problem}
use Rattle.pks_terms.specs.Settling.{History, settle_round, settle_rounds}

-- g is a round of h, and the next one equals it
pub record IsLastFamily (p : Problem) (h g : History) : Type 0 where
  pub count : ℕ
  pub reached : g ≡ settle_rounds p count h
  pub last : settle_round p g ≡ g
