-- What a target is about, whatever its arguments. Whether it makes instances of a predicate true is `is_set_on`.
use Rattle.std.specs.Prelude.{ℕ, Bool, false, ◌==◌}
use Rattle.pks_terms.specs.Actions.{Target, Set, Unset, Clear, Assign}

-- it makes instances of the predicate false
abbrev pub unsets : ℕ → Target → Bool
unsets p (Set a) = false
unsets p (Unset a) = a.predicate == p
unsets p (Clear x) = x.predicate == p
unsets p (Assign f ts value) = false

-- it assigns to the function
abbrev pub assigns : ℕ → Target → Bool
assigns f (Set a) = false
assigns f (Unset a) = false
assigns f (Clear x) = false
assigns f (Assign g ts value) = g == f
