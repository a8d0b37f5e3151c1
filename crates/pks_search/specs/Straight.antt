-- Trees of actions alone, and histories of which the last moment is left alone.
use Rattle.std.specs.Prelude.{ℕ, Bool, true, ◌≡◌, ◌≤◌, ◌↔◌, [], length}
use Rattle.pks_terms.specs.Sets.{Each}
use Rattle.pks_terms.specs.Worlds.{World}
use Rattle.pks_terms.specs.Problems.{Problem}
use Rattle.pks_terms.specs.Settling.{History, last_moment, At}
use Rattle.pks_terms.specs.Moments.{AreMomentsOf}
use Rattle.pks_terms.specs.Trees.{Tree, Goal, Impossible, Do, Branch, Cases, depth, cost, Derives}
use Rattle.pks_terms.specs.Versions.{IsNow}
use Rattle.pks_history_forget.specs.Same.{IsLeftOf}
use Rattle.pks_search_nogoods.specs.Failing.{HasNoTree}
use Rattle.pks_search.specs.Twins.{MayBeTwins}

-- no branch and no cases stand in the tree
abbrev pub IsStraight : Tree → Type 0
IsStraight Goal = Unit {0}
IsStraight Impossible = Unit {0}
IsStraight (Do i t) = IsStraight t
IsStraight (Branch c t u) = ⊥
IsStraight (Cases x k) = ⊥

-- the history of the last moment
abbrev pub last_alone : History → History
last_alone h = record { start = last_moment h; steps = [] }

-- what is left of a history, which may have come to the same twins, and at which the same trees are derived of those no deeper than n that cost no more than the limit
pub record HasTreesWithin (p : Problem) (h rest : History) (n limit : ℕ) : Type 0 where
  pub moments : AreMomentsOf p rest
  pub short : length rest.steps ≤ length h.steps
  pub left : IsLeftOf p h rest
  pub twins : (v v' : World) → MayBeTwins p h v v' → MayBeTwins p rest v v'
  pub trees : (t : Tree) → depth t ≤ n → cost p t ≤ limit → Derives p (At h) t ↔ Derives p (At rest) t

-- where nothing but actions has room and each aim is of the last moment, this alone has no tree no deeper than n that costs at most the limit
pub record LastFails (p : Problem) (h : History) (tight : Bool) (n limit : ℕ) : Type 0 where
  pub tight_is : tight ≡ true
  pub plain : Each IsNow p.goal
  pub none : HasNoTree p (last_alone h) n limit
