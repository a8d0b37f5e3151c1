-- What a round adds, and the end of the rounds.
use Rattle.std.specs.Prelude.{ℕ, ◌≡◌, ◌<◌, ◌^◌, List, ◌++◌, length, Option, Some, None}
use Rattle.std.specs.List.{flat_map}
use Rattle.pks_terms.specs.Sets.{set_of}
use Rattle.pks_terms.specs.Syntax.{Literal}
use Rattle.pks_terms.specs.Orders.{term_cmp}
use Rattle.pks_terms.specs.Signatures.{Signature}
use Rattle.pks_terms.specs.Databases.{Five}
use Rattle.pks_terms.specs.Closure.{by_value, by_group, by_range, round, rounds}
use Rattle.pks_terms.specs.Saturated.{Within}
use Rattle.pks_query_lookup.specs.declared.five.Five.{Five as DFive}
use Rattle.pks_query_lookup.specs.Fives.{five_of}
use Rattle.pks_query_closing.specs.Reading.{occurring}

-- each member of one is a member of the other
abbrev pub HaveSameMembers : {X : Type 0} → List X → List X → Type 0
HaveSameMembers xs ys = Within xs ys × Within ys xs

-- all that a round adds, where each application is looked at once
abbrev pub added_once : Signature → Five → List Literal
added_once s d =
    flat_map (by_value d.kf) d.kf ++ (flat_map (by_group s d) d.kx ++ flat_map (by_range s d) (set_of term_cmp (occurring d.kf)))

-- the five after a round, or nothing where the round changes nothing
abbrev pub IsNextRound : Signature → DFive → Option DFive → Type 0
IsNextRound s d None = round s (five_of d) ≡ five_of d
IsNextRound s d (Some e) = (five_of e ≡ round s (five_of d)) × (length d.kf < length e.kf) × (length e.kf < 2 ^ 64)

-- e is a round of d, and the next one equals it
pub record IsLastRound (s : Signature) (d e : Five) : Type 0 where
  pub count : ℕ
  pub reached : e ≡ rounds s count d
  pub last : round s e ≡ e
