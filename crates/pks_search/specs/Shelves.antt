-- What a search learns, and what it takes along for problems with fewer aims.
use Rattle.std.specs.Prelude.{ℕ, ◌≡◌, ◌<◌, List, map, length, slice_index_or, IfSome}
use Rattle.pks_terms.specs.Problems.{Aim, Problem}
use Rattle.pks_terms.specs.ValidProblems.{IsValidProblem}
use Rattle.pks_terms.specs.Views.{aim_of, problem_of}
use Rattle.pks_laws_forget.specs.Fewer.{with_aims}
use Rattle.pks_search_distance.specs.Remembered.{AreItsGroundActions}
use Rattle.pks_search_nogoods.specs.Failing.{AreRight}
use Rattle.pks_search_nogoods.specs.Noted.{AreFound}
use Rattle.pks_search.specs.declared.learned.Learned.{Learned}
use Rattle.pks_search.specs.declared.shelves.Shelved.{Shelved}

-- what was learned is right of the problem
pub record IsLearned (p : Problem) (x : Learned) : Type 0 where
  pub ground_actions : IfSome x.ground_actions (AreItsGroundActions p)
  pub failures : AreRight p x.failures
  pub finds : AreFound p x.finds

-- it is right of its own problem, which is valid, and the given one but for its aims
pub record IsShelved (p : Problem) (y : Shelved) : Type 0 where
  pub valid : IsValidProblem y.problem
  pub aims : problem_of y.problem ≡ with_aims p (problem_of y.problem).goal
  pub learned : IsLearned (problem_of y.problem) y.learned

-- the one at this place has these aims
abbrev pub HasAims : List Aim → List Shelved → ℕ → Type 0
HasAims aims ys n = (n < length ys) × ((d : Shelved) → map aim_of (slice_index_or ys n d).problem.goal ≡ aims)
