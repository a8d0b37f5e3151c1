-- What letting go of moments keeps.
use Rattle.std.specs.Prelude.{◌≡◌, ◌↔◌, ◌≤◌, ◌⊎◌, ◌&&◌, Bool, false, cond, List, [], ◌∷◌, length}
use Rattle.pks_terms.specs.Databases.{Five}
use Rattle.pks_terms.specs.Actions.{Instance}
use Rattle.pks_terms.specs.Problems.{Problem}
use Rattle.pks_terms.specs.Settling.{History, At}
use Rattle.pks_terms.specs.Moments.{AreMomentsOf}
use Rattle.pks_terms.specs.Trees.{Tree, Derives}
use Rattle.pks_laws_forget.specs.Testing.{hides_nothing}
use Rattle.pks_laws_forget.specs.Staying.{aims_stay}
use Rattle.pks_laws_forget.specs.Looks.{IsLook, AreWithout}

-- there is a first step, and it hides nothing
abbrev pub first_hides_nothing : Problem → History → Bool
first_hides_nothing p h = elim h.steps [ [] ↦ false | step ∷ steps ↦ hides_nothing p h.start step.0 step.1 ]

-- of these moments those from the first step on that may hide something
abbrev pub unsettled_from : Problem → Five → List (Instance × Five) → History
unsettled_from p d [] = record { start = d; steps = [] }
unsettled_from p d (step ∷ steps) = cond (hides_nothing p d step.0 step.1) (unsettled_from p step.1 steps) (record { start = d; steps = step ∷ steps })

-- the history without its moments before the first step that may hide something
abbrev pub without_settled : Problem → History → History
without_settled p h = unsettled_from p h.start h.steps

-- the step leaves what the aims over time ask, and hides nothing
abbrev pub may_go : Problem → Five → Instance → Five → Bool
may_go p before i after = aims_stay p before i after && hides_nothing p before i after

-- there is a first step, and it is so
abbrev pub first_may_go : Problem → History → Bool
first_may_go p h = elim h.steps [ [] ↦ false | step ∷ steps ↦ may_go p h.start step.0 step.1 ]

-- of these moments those from the first step on that isn't so
abbrev pub asked_from : Problem → Five → List (Instance × Five) → History
asked_from p d [] = record { start = d; steps = [] }
asked_from p d (step ∷ steps) = cond (may_go p d step.0 step.1) (asked_from p step.1 steps) (record { start = d; steps = step ∷ steps })

-- the history without its moments before the first step that may hide something or change what the aims over time ask
abbrev pub without_unasked : Problem → History → History
without_unasked p h = asked_from p h.start h.steps

-- the history is what begins at one of the moments from d on
abbrev pub IsEndOf : Five → List (Instance × Five) → History → Type 0
IsEndOf d [] rest = rest ≡ record { start = d; steps = [] }
IsEndOf d (step ∷ steps) rest = (rest ≡ record { start = d; steps = step ∷ steps }) ⊎ IsEndOf step.1 steps rest

-- a history of the problem that begins at one of the moments, and at which the same trees are derived
pub record EndHasSameTrees (p : Problem) (h rest : History) : Type 0 where
  pub moments : AreMomentsOf p rest
  pub short : length rest.steps ≤ length h.steps
  pub end : IsEndOf h.start h.steps rest
  pub trees : (t : Tree) → Derives p (At h) t ↔ Derives p (At rest) t

-- what is left of a history where moments before looks go, and then some of the first
pub record IsLeftOf (p : Problem) (h rest : History) : Type 0 where
  pub steps : History
  pub without : AreWithout (IsLook p) h.start h.steps steps.start steps.steps
  pub end : IsEndOf steps.start steps.steps rest

-- a history of the problem that is left of the other so, and at which the same trees are derived
pub record HasSameTrees (p : Problem) (h rest : History) : Type 0 where
  pub moments : AreMomentsOf p rest
  pub short : length rest.steps ≤ length h.steps
  pub left : IsLeftOf p h rest
  pub trees : (t : Tree) → Derives p (At h) t ↔ Derives p (At rest) t
