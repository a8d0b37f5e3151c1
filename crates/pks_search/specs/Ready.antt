-- What a search asks for.
use Rattle.std.specs.Prelude.{ℕ, ◌≤◌, ◌+◌, length}
use Rattle.pks_terms.specs.declared.problem.Problem.{Problem}
use Rattle.pks_terms.specs.Typed.{AllJustified}
use Rattle.pks_terms.specs.Settling.{History}
use Rattle.pks_terms.specs.ValidProblems.{IsValidProblem}
use Rattle.pks_terms.specs.Views.{problem_of}
use Rattle.pks_terms.specs.Moments.{AreMomentsOf}
use Rattle.pks_postdict.specs.Read.{IsReadBut}

-- a history from which the search may go n actions on, of whose steps all but the last ones bring nothing new
pub record IsReady (p : Problem) (h : History) (unread n : ℕ) : Type 0 where
  pub valid : IsValidProblem p
  pub justified : AllJustified (problem_of p)
  pub moments : AreMomentsOf (problem_of p) h
  -- a history has 17 moments at most
  pub short : length h.steps + n ≤ 16
  -- and so many of them at most weren't looked at since it was settled
  pub few : unread + n ≤ 16
  pub read : IsReadBut (problem_of p) unread h
