-- What the tables of failed searches say.
use Rattle.std.specs.Prelude.{ℕ, ◌≤◌, Contains}
use Rattle.lru.specs.LruCache.{LruCache}
use Rattle.pks_terms.specs.Moments.{AreMomentsOf}
use Rattle.pks_terms.specs.Problems.{Problem}
use Rattle.pks_terms.specs.Settling.{History, At}
use Rattle.pks_terms.specs.Trees.{Tree, cost, IsDerivedWithin}
use Rattle.pks_search_symmetry.specs.Keeping.{IsOfProblem}
use Rattle.pks_search_nogoods.specs.declared.failures.Failure.{Failure}
use Rattle.pks_search_nogoods.specs.declared.failures.Failures.{Failures}

-- no tree that is derived at the history, and is no deeper than n, costs at most the limit
abbrev pub HasNoTree : Problem → History → ℕ → ℕ → Type 0
HasNoTree p h n limit = (t : Tree) → IsDerivedWithin p (At h) n t × (cost p t ≤ limit) → ⊥

-- the entry's history is one of the problem, and the entry is right of it alone, whatever else a search carries
pub record IsRight (p : Problem) (x : Failure) : Type 0 where
  pub moments : AreMomentsOf p x.history
  pub none : HasNoTree p x.history x.depth x.limit

-- each entry of a table is right
abbrev pub AreRightIn : Problem → LruCache ℕ Failure → Type 0
AreRightIn p table = (mark : ℕ) (x : Failure) → Contains table.entries (mark, x) → IsRight p x

-- so in both tables, and what is kept of renamings is the problem's
pub record AreRight (p : Problem) (f : Failures) : Type 0 where
  pub alike : IsOfProblem p f.alike
  pub last : AreRightIn p f.last
  pub fallen : AreRightIn p f.fallen
