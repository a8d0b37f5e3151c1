-- What an answered query says.
use Rattle.std.specs.Prelude.{true, ◌≡◌}
use Rattle.pks_terms.specs.Worlds.{World, value_of, true_in, all_true_in}
use Rattle.pks_terms.specs.Queries.{Plain, Know, KnowWhether, KnowValue}

-- of two worlds: a known literal is true in both, and they agree on a formula that is known to be true or false, and on a known value
abbrev pub IsSaidOf : World → World → Plain → Type 0
IsSaidOf w w' (Know l) = (true_in w l ≡ true) × (true_in w' l ≡ true)
IsSaidOf w w' (KnowWhether c) = all_true_in w c ≡ all_true_in w' c
IsSaidOf w w' (KnowValue t) = value_of w t ≡ value_of w' t
