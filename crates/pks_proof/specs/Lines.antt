-- Words for the walks over the lines of a proof.
use Rattle.std.specs.Prelude.{ℕ, Bool, false, ◌≡◌, Option, Some, None, slice_get}
use Rattle.std.specs.Option.{option_map}
use Rattle.pks_terms.specs.Syntax.{Literal}
use Rattle.pks_terms.specs.Databases.{Entry}
use Rattle.pks_terms.specs.Problems.{Problem}
use Rattle.pks_terms.specs.Settling.{effects_of}
use Rattle.pks_terms.specs.Proofs.{Path, deeds, Reason, ByGiven, BySide, BySame, BySwap, ByOnly, ByOthers, ByRange, ByClosed, ByKeep, ByBack, ByEffect, ByMust, ByCannot, ByGrow, ByClear}
use Rattle.pks_terms.specs.Judging.{Judge}
use Rattle.pks_terms.specs.Reasons.{is_by_side, is_same, is_only, is_other, is_in_range, is_left_out, is_from_later, is_effect, is_needed, is_failed, is_grown, is_cleared}
use Rattle.pks_terms.specs.Accepting.{from_moment, to_moment}
use Rattle.pks_proof.specs.declared.barring.Transition.{Transition}
use Rattle.pks_proof.specs.Doings.{effects_by, before_in, moment_in}

-- the action that follows the moment, with what is cited there
pub record IsDeedAt (p : Problem) (path : Path) (j : Judge) (m : ℕ) (d : Transition) : Type 0 where
  pub effects : option_map (effects_of p) (slice_get (deeds path) m) ≡ Some (effects_by d)
  pub judge : before_in d ≡ j
  pub moment : moment_in d ≡ m

-- it, or that no action follows
abbrev pub IsDeedFrom : Problem → Path → Judge → ℕ → Option Transition → Type 0
IsDeedFrom p path j m (Some d) = IsDeedAt p path j m d
IsDeedFrom p path j m None = slice_get (deeds path) m ≡ None

-- the literal may stand at the moment, for one of the reasons that speak of literals alone
abbrev pub is_literal_allowed : Problem → Path → Judge → ℕ → Literal → Reason → Bool
is_literal_allowed p path j m l (BySide n) = is_by_side path j n m l
is_literal_allowed p path j m l BySame = is_same p.signature l
is_literal_allowed p path j m l ByOnly = is_only j m l
is_literal_allowed p path j m l ByOthers = is_other j m l
is_literal_allowed p path j m l ByRange = is_in_range p.signature j m l
is_literal_allowed p path j m l ByClosed = is_left_out j m l
is_literal_allowed p path j m l ByBack = from_moment p path m (λ es. is_from_later j m es l)
is_literal_allowed p path j m l ByEffect = to_moment p path m (λ k es. is_effect j k es l)
is_literal_allowed p path j m l ByMust = from_moment p path m (λ es. is_needed j m es l)
is_literal_allowed p path j m l ByCannot = from_moment p path m (λ es. is_failed j m es l)
is_literal_allowed p path j m l (ByGiven n) = false
is_literal_allowed p path j m l BySwap = false
is_literal_allowed p path j m l ByKeep = false
is_literal_allowed p path j m l ByGrow = false
is_literal_allowed p path j m l ByClear = false

-- the region may stand at the moment, for one of the reasons that speak of regions alone
abbrev pub is_region_allowed : Problem → Path → Judge → ℕ → Entry → Reason → Bool
is_region_allowed p path j m r ByGrow = to_moment p path m (λ k es. is_grown j k es r)
is_region_allowed p path j m r ByClear = to_moment p path m (λ k es. is_cleared j k es r)
is_region_allowed p path j m r (ByGiven n) = false
is_region_allowed p path j m r (BySide n) = false
is_region_allowed p path j m r BySame = false
is_region_allowed p path j m r BySwap = false
is_region_allowed p path j m r ByOnly = false
is_region_allowed p path j m r ByOthers = false
is_region_allowed p path j m r ByRange = false
is_region_allowed p path j m r ByClosed = false
is_region_allowed p path j m r ByKeep = false
is_region_allowed p path j m r ByBack = false
is_region_allowed p path j m r ByEffect = false
is_region_allowed p path j m r ByMust = false
is_region_allowed p path j m r ByCannot = false
