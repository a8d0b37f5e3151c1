-- Looks among the steps of a history.
use Rattle.std.specs.Prelude.{ℕ, Bool, false, zero, suc, ◌||◌, List, [], ◌∷◌, ◌++◌}
use Rattle.pks_terms.specs.Databases.{Five}
use Rattle.pks_terms.specs.Actions.{Instance}
use Rattle.pks_terms.specs.Problems.{Problem}
use Rattle.pks_terms.specs.Settling.{History}
use Rattle.pks_laws_forget.specs.Looks.{is_look}

-- there is a first step, and it is a look
abbrev pub first_is_look : Problem → History → Bool
first_is_look p h = elim h.steps [ [] ↦ false | step ∷ steps ↦ is_look p h.start step.0 step.1 ]

-- one of the steps is a look
abbrev pub some_look : Problem → Five → List (Instance × Five) → Bool
some_look p d [] = false
some_look p d (step ∷ steps) = is_look p d step.0 step.1 || some_look p step.1 steps

-- so is one of those from the n-th on, counted from 0
abbrev pub later_look : Problem → Five → List (Instance × Five) → ℕ → Bool
later_look p d steps zero = some_look p d steps
later_look p d [] (suc n) = false
later_look p d (step ∷ steps) (suc n) = later_look p step.1 steps n

-- the moments of the second history behind those of the first, with the instance between them
abbrev pub joined : History → Instance → History → History
joined h i g = record { start = h.start; steps = h.steps ++ (i, g.start) ∷ g.steps }
