-- Runs of ground actions in one world, and the worlds that a history may have come to.
use Rattle.std.specs.Prelude.{ℕ, true, ◌≡◌, ◌≤◌, length, IfSome, List, [], ◌∷◌, map, Option, Some, None, if◌then◌else◌}
use Rattle.pks_terms.specs.Sets.{Each}
use Rattle.pks_terms.specs.Syntax.{Object, Literal}
use Rattle.pks_terms.specs.Worlds.{World, true_in}
use Rattle.pks_terms.specs.Meaning.{AreOfTypes}
use Rattle.pks_terms.specs.Queries.{Plain, Know, KnowWhether, KnowValue, Query}
use Rattle.pks_terms.specs.Actions.{Instance, query_at}
use Rattle.pks_terms.specs.Problems.{Aim, Now, AtStart, Always, Once, Problem, schema_of}
use Rattle.pks_terms.specs.Settling.{History}
use Rattle.pks_terms.specs.Knowledge.{after_action, after_actions, ground_actions}
use Rattle.pks_terms.specs.Remembering.{deeds_of, Both}

-- the literal that is to be known
abbrev pub known_literal : Plain → Option Literal
known_literal (Know l) = Some l
known_literal (KnowWhether c) = None
known_literal (KnowValue t) = None

-- the literal that is true wherever the query is answered: that of a k that isn't denied
abbrev pub asked : Query → Option Literal
asked q = if q.denied then None else known_literal q.asks

-- the world makes true what the query asks for
abbrev pub IsSo : World → Query → Type 0
IsSo w q = IfSome (asked q) (λ l. true_in w l ≡ true)

-- a ground action that may be done in the world: its arguments are objects of the parameters' types, and what its preconditions ask for is so
pub record MayBeDone (p : Problem) (w : World) (i : Instance) : Type 0 where
  pub objects : List ℕ
  pub ground : i.arguments ≡ map Object objects
  pub typed : AreOfTypes p.signature (schema_of p i.action).parameters objects
  pub pre : Each (λ q. IsSo w (query_at i.arguments q)) (schema_of p i.action).pre

-- the ground actions may be done one after another from the world on
abbrev pub IsRun : Problem → World → List Instance → Type 0
IsRun p w [] = Unit {0}
IsRun p w (i ∷ is) = MayBeDone p w i × IsRun p (after_action p w i) is

-- what an aim of the last moment asks for is so
abbrev pub IsAim : World → Aim → Type 0
IsAim w (Now q) = IsSo w q
IsAim w (AtStart q) = Unit {0}
IsAim w (Always q) = Unit {0}
IsAim w (Once q) = Unit {0}

-- what the goal asks for at the last moment is so
abbrev pub IsGoal : Problem → World → Type 0
IsGoal p w = Each (IsAim w) p.goal

-- a run of at most so many actions from the world to one where what the goal asks for is so
pub record Reaches (p : Problem) (w : World) (n : ℕ) : Type 0 where
  pub actions : List Instance
  pub run : IsRun p w actions
  pub short : length actions ≤ n
  pub goal : IsGoal p (after_actions p w actions)

-- the world that the steps of a history lead to, where it began in w
abbrev pub world_after : Problem → World → History → World
world_after p w h = after_actions p w (ground_actions p w (deeds_of h.steps))

-- the world may be the present one: the history is true of a world from which its steps lead to this one
pub record MayBeAt (p : Problem) (h : History) (v : World) : Type 0 where
  pub first : World
  pub both : Both p first first h
  pub leads : world_after p first h ≡ v
