-- Where a search is, and what it takes along.
use Rattle.std.specs.Prelude.{ℕ}
use Rattle.pks_terms.specs.Sets.{Each}
use Rattle.pks_terms.specs.Problems.{Problem}
use Rattle.pks_terms.specs.Views.{problem_of}
use Rattle.pks_search.specs.Ready.{IsReady}
use Rattle.pks_search.specs.Shelves.{IsLearned, IsShelved}
use Rattle.pks_search.specs.Near.{IsNear}
use Rattle.pks_search.specs.Twins.{AreTwins}
use Rattle.pks_search.specs.declared.spots.Spot.{Spot}
use Rattle.pks_search.specs.declared.spots.Notes.{Notes}

-- a search may go on from there by n actions, each witness may be the present world, and so may both of each twins
pub record MayGoOn (x : Spot) (n : ℕ) : Type 0 where
  pub ready : IsReady x.problem.now x.history.now x.unread n
  pub near : Each (IsNear (problem_of x.problem.now) x.history.now) x.near.now
  pub twins : Each (AreTwins (problem_of x.problem.now) x.history.now) x.twins.now

-- what is taken along is so
pub record AreSo (p : Problem) (x : Notes) : Type 0 where
  pub own : IsLearned p x.own
  pub shelf : Each (IsShelved p) x.shelf.items
