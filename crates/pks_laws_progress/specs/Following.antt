-- What follows from databases by the rules.
use Rattle.std.specs.Prelude.{◌≡◌, None}
use Rattle.pks_terms.specs.Sets.{IsIn}
use Rattle.pks_terms.specs.Syntax.{Literal}
use Rattle.pks_terms.specs.Signatures.{Signature}
use Rattle.pks_terms.specs.Databases.{Five}
use Rattle.pks_terms.specs.Closure.{first_clash}
use Rattle.pks_terms.specs.Saturated.{Within, IsSaturated}

-- each set without a clash that has the known literals of d and all that the rules add to it has the literal
abbrev pub IsImplied : Signature → Five → Literal → Type 0
IsImplied s d l = (big : Five) → IsSaturated s big → first_clash s big ≡ None → Within d.kf big.kf → d.kx ≡ big.kx → d.lcw ≡ big.lcw → IsIn l big.kf

-- a has the known literals of d and some that they imply, and its other four sets
pub record Follows (s : Signature) (d a : Five) : Type 0 where
  pub has : Within d.kf a.kf
  pub others : a ≡ record d { kf = a.kf }
  pub implied : (l : Literal) → IsIn l a.kf → IsImplied s d l
