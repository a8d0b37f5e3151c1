-- Entries whose proofs are accepted.
use Rattle.std.specs.Prelude.{true, ◌≡◌, List, map}
use Rattle.pks_terms.specs.Sets.{Each}
use Rattle.pks_terms.specs.Syntax.{Literal}
use Rattle.pks_terms.specs.Problems.{Problem}
use Rattle.pks_terms.specs.Proofs.{Path}
use Rattle.pks_terms.specs.Accepting.{accepts}
use Rattle.pks_terms.specs.Explained.{Entry}

-- what an entry is of
abbrev pub part_of : Entry → Path × Literal
part_of e = (e.path, e.literal)

-- the entry is of this literal at the end of this path, and its proof is accepted
pub record IsProved (p : Problem) (one : Path × Literal) (e : Entry) : Type 0 where
  pub part : part_of e ≡ one
  pub accepted : accepts p e.path e.proof e.literal ≡ true

-- so for each of the literals, in order
pub record AreProved (p : Problem) (owed : List (Path × Literal)) (entries : List Entry) : Type 0 where
  pub whole : map part_of entries ≡ owed
  pub accepted : Each (λ (e : Entry). accepts p e.path e.proof e.literal ≡ true) entries
