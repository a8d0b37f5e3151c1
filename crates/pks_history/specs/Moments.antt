-- What the moments of the program's histories say.
use Rattle.std.specs.Prelude.{ℕ, ◌≡◌, List, ◌∷◌, map, Option, slice_get}
use Rattle.pks_terms.specs.Databases.{Five}
use Rattle.pks_terms.specs.Actions.{Instance}
use Rattle.pks_terms.specs.Settling.{History}
use Rattle.pks_terms.specs.Aims.{moments}
use Rattle.pks_terms.specs.Views.{instance_of}
use Rattle.pks_query_lookup.specs.Fives.{five_of}
use Rattle.pks_history.specs.declared.histories.Moment.{Moment}

-- a later moment: the instance that led to it, and its databases
abbrev pub moment_of : Moment → Instance × Five
moment_of m = (instance_of m.step, five_of m.db)

-- the later moments of a list
abbrev pub moments_of : List Moment → List (Instance × Five)
moments_of ms = map moment_of ms

-- the databases at a moment, moments counted from 0
abbrev pub databases_at : History → ℕ → Option Five
databases_at h n = slice_get (moments h) n

-- the instance after a moment
abbrev pub instance_after : History → ℕ → Option Instance
instance_after h n = slice_get (map (λ step. step.0) h.steps) n

-- the second history is the first without its first moment
abbrev pub IsWithoutFirst : History → History → Type 0
IsWithoutFirst h rest = (i : Instance) × (h.steps ≡ (i, rest.start) ∷ rest.steps)
