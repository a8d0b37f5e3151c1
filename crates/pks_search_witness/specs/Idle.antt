-- Actions that leave a world as it is.
use Rattle.std.specs.Prelude.{Bool, false, not, ◌||◌, List, map}
use Rattle.std.specs.List.{list_all}
use Rattle.pks_terms.specs.Syntax.{affirmed}
use Rattle.pks_terms.specs.Worlds.{World, true_in}
use Rattle.pks_terms.specs.Actions.{Target, Set, Unset, Clear, Assign, Effect, Instance, effect_at, fires}
use Rattle.pks_terms.specs.Problems.{Problem, schema_of}

-- what the target makes so is so already, as far as it is looked at
abbrev pub is_written : World → Target → Bool
is_written w (Set a) = true_in w (affirmed a)
is_written w (Unset a) = not (true_in w (affirmed a))
is_written w (Clear x) = false
is_written w (Assign f ts value) = false

-- the effect doesn't fire, or what it makes so is so already
abbrev pub is_idle : World → Effect → Bool
is_idle w e = not (fires w e) || is_written w e.target

-- so each effect of the ground action
abbrev pub are_idle : Problem → World → Instance → Bool
are_idle p w i = list_all (is_idle w) (map (effect_at i.arguments) (schema_of p i.action).effects)
