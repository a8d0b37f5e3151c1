-- Lists of terms that differ whatever is known.
use Rattle.std.specs.Prelude.{Bool, false, ◌||◌, List, ◌∷◌}
use Rattle.pks_terms.specs.Syntax.{Term, are_two_objects}

-- at some position the lists have two different objects
abbrev pub are_apart : List Term → List Term → Bool
are_apart (t ∷ ts) (u ∷ us) = are_two_objects t u || are_apart ts us
are_apart ts us = false
