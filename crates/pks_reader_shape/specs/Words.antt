-- The classes of words. Names are those of valid problems.
use Rattle.std.specs.Prelude.{ℕ, Bool, false, not, ◌&&◌, ◌==◌, List, [], ◌∷◌, codes, bytes_eq}
use Rattle.std.specs.List.{list_all}
use Rattle.std.specs.Char.{is_ascii_digit}
use Rattle.pks_terms.specs.ValidProblems.{is_name}

-- `?` and a name
abbrev pub is_variable : List ℕ → Bool
is_variable [] = false
is_variable (b ∷ bytes) = (b == 63) && is_name bytes

-- `_` alone
abbrev pub is_wild : List ℕ → Bool
is_wild text = bytes_eq text (codes "_")

-- digits, the first of which is not `0`
abbrev pub is_number : List ℕ → Bool
is_number [] = false
is_number (b ∷ bytes) = (is_ascii_digit b && not (b == 48)) && list_all is_ascii_digit bytes
