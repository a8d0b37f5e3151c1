-- When a line of a proof is allowed, and when a proof is accepted.
use Rattle.std.specs.Prelude.{ℕ, zero, suc, Bool, false, ◌&&◌, ◌||◌, ◌==◌, nat_lt, nat_le, length, List, slice_get}
use Rattle.std.specs.List.{list_any, list_all}
use Rattle.std.specs.Option.{option_map_or}
use Rattle.pks_terms.specs.Syntax.{Literal}
use Rattle.pks_terms.specs.Actions.{Effect}
use Rattle.pks_terms.specs.Problems.{Problem}
use Rattle.pks_terms.specs.Branching.{numbered}
use Rattle.pks_terms.specs.Settling.{effects_of}
use Rattle.pks_terms.specs.Proofs.{Fact, FactLit, Path, deeds, final_moment, Reason, ByGiven, BySide, BySame, BySwap, ByOnly, ByOthers, ByRange, ByClosed, ByKeep, ByBack, ByEffect, ByMust, ByCannot, ByGrow, ByClear, Line, Proof, nth}
use Rattle.pks_terms.specs.Judging.{Judge, fact_eq, is_literal_that, is_region_that, by_cited}
use Rattle.pks_terms.specs.Reasons.{is_given_item, is_by_side, is_same, is_swapped, is_only, is_other, is_in_range, is_left_out, is_kept, is_from_later, is_effect, is_needed, is_failed, is_grown, is_cleared}

-- an action follows the moment, and its effects pass
abbrev pub from_moment : Problem → Path → ℕ → (List Effect → Bool) → Bool
from_moment p path m q = option_map_or (λ i. q (effects_of p i)) (slice_get (deeds path) m) false

-- an action leads to the moment, and the moment before passes with its effects
abbrev pub to_moment : Problem → Path → ℕ → (ℕ → List Effect → Bool) → Bool
to_moment p path zero q = false
to_moment p path (suc m) q = from_moment p path m (q m)

-- the fact may stand at the moment for the reason, by what is cited: keep, effect, grow and clear speak of the action that leads to the moment, back, must and cannot of the one that follows it
abbrev pub is_allowed_by : Problem → Path → Judge → ℕ → Fact → Reason → Bool
is_allowed_by p path j m f (ByGiven n) = is_given_item p n m f
is_allowed_by p path j m f (BySide n) = is_literal_that (is_by_side path j n m) f
is_allowed_by p path j m f BySame = is_literal_that (is_same p.signature) f
is_allowed_by p path j m f BySwap = is_swapped j m f
is_allowed_by p path j m f ByOnly = is_literal_that (is_only j m) f
is_allowed_by p path j m f ByOthers = is_literal_that (is_other j m) f
is_allowed_by p path j m f ByRange = is_literal_that (is_in_range p.signature j m) f
is_allowed_by p path j m f ByClosed = is_literal_that (is_left_out j m) f
is_allowed_by p path j m f ByKeep = to_moment p path m (λ k es. is_kept j k es f)
is_allowed_by p path j m f ByBack = from_moment p path m (λ es. is_literal_that (is_from_later j m es) f)
is_allowed_by p path j m f ByEffect = to_moment p path m (λ k es. is_literal_that (is_effect j k es) f)
is_allowed_by p path j m f ByMust = from_moment p path m (λ es. is_literal_that (is_needed j m es) f)
is_allowed_by p path j m f ByCannot = from_moment p path m (λ es. is_literal_that (is_failed j m es) f)
is_allowed_by p path j m f ByGrow = to_moment p path m (λ k es. is_region_that (is_grown j k es) f)
is_allowed_by p path j m f ByClear = to_moment p path m (λ k es. is_region_that (is_cleared j k es) f)

-- the line stands at a moment of the path, and is allowed by its reason and the lines that it cites
abbrev pub is_allowed_line : Problem → Path → Proof → Line → Bool
is_allowed_line p path proof line =
    nat_le line.moment (final_moment path) && is_allowed_by p path (by_cited proof line.cites) line.moment line.fact line.reason

-- all these are numbers of lines before the n-th
abbrev pub are_before : ℕ → List ℕ → Bool
are_before n cites = list_all (λ c. nat_lt 0 c && nat_lt c n) cites

-- each line is allowed and cites smaller numbers alone
abbrev pub are_allowed : Problem → Path → Proof → Bool
are_allowed p path proof = list_all (λ q. are_before q.0 q.1.cites && is_allowed_line p path proof q.1) (numbered 1 proof)

-- each line but the last is cited
abbrev pub are_used : Proof → Bool
are_used proof = list_all (λ q. (q.0 == length proof) || list_any (λ line. list_any (λ c. c == q.0) line.cites) proof) (numbered 1 proof)

-- the last line is the literal at the last moment
abbrev pub ends_with : Path → Proof → Literal → Bool
ends_with path proof l = option_map_or (λ line. (line.moment == final_moment path) && fact_eq line.fact (FactLit l)) (nth proof (length proof)) false

-- the proof is accepted: every line is allowed by its reason and cites smaller numbers alone, every line but the last is cited, and the last is the literal at the last moment
unfoldable pub accepts : Problem → Path → Proof → Literal → Bool
accepts p path proof l = are_allowed p path proof && (are_used proof && ends_with path proof l)
