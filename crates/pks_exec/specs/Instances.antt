-- What the start lists, and going through the instances of a pattern.
use Rattle.std.specs.Prelude.{ℕ, Bool, false, not, ◌||◌, List, [], ◌∷◌, ◌++◌, Option, Some, None}
use Rattle.std.specs.List.{list_any, list_all}
use Rattle.std.specs.Option.{option_map_or}
use Rattle.std.specs.Ordering.{is_eq}
use Rattle.pks_terms.specs.Syntax.{Term, Literal, Pattern}
use Rattle.pks_terms.specs.Orders.{pattern_cmp}
use Rattle.pks_terms.specs.Worlds.{World, value_of}
use Rattle.pks_terms.specs.Meaning.{is_value_of}
use Rattle.pks_terms.specs.Problems.{Start, StartKf, StartKw, StartKv, StartKx, StartLcw, Problem, known_start, atom_on}
use Rattle.pks_terms.specs.Printed.{numbers_from}

-- the literal is an atom whose value is p at the objects
abbrev pub is_value : World → ℕ → List ℕ → Literal → Bool
is_value w p ds l = option_map_or (is_value_of w p ds) (atom_on p l) false

-- the item says that such an atom is true
abbrev pub lists : World → ℕ → List ℕ → Start → Bool
lists w p ds x = option_map_or (is_value w p ds) (known_start x) false

-- some initial item does
abbrev pub is_listed : Problem → World → ℕ → List ℕ → Bool
is_listed p w q ds = list_any (lists w q ds) p.init

-- q at the objects isn't true, or some initial item says that it is
abbrev pub is_told : Problem → World → ℕ → List ℕ → Bool
is_told p w q ds = not (w.truth q ds) || is_listed p w q ds

-- each instance of the slots behind these objects passes, where all objects are below n
abbrev pub all_instances : World → ℕ → (List ℕ → Bool) → List ℕ → List (Option Term) → Bool
all_instances w n passes ds [] = passes ds
all_instances w n passes ds (Some t ∷ ss) = all_instances w n passes (ds ++ value_of w t ∷ []) ss
all_instances w n passes ds (None ∷ ss) = list_all (λ d. all_instances w n passes (ds ++ d ∷ []) ss) (numbers_from 0 n)

-- the item is the region of the pattern
abbrev pub is_region : Pattern → Start → Bool
is_region x (StartLcw y) = is_eq (pattern_cmp y x)
is_region x (StartKf l) = false
is_region x (StartKw c) = false
is_region x (StartKv t) = false
is_region x (StartKx g) = false
