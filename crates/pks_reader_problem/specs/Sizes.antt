-- Tables whose numbers fit, and shapes whose counts are those of their arguments.
use Rattle.std.specs.Prelude.{◌≡◌, ◌≤◌, length}
use Rattle.pks_terms.specs.Sets.{Each}
use Rattle.pks_terms.specs.Views.{shape_of}
use Rattle.pks_terms.specs.declared.problem.Shape.{Shape}
use Rattle.pks_terms.specs.declared.problem.Signature.{Signature}
use Rattle.pks_reader_names.specs.Scopes.{Scope}

-- few enough names for their numbers
pub record IsSmall (s : Scope) : Type 0 where
  -- types
  pub types : length s.types ≤ 16
  -- objects
  pub objects : length s.objects ≤ 256
  -- predicates
  pub predicates : length s.predicates ≤ 32
  -- functions
  pub functions : length s.functions ≤ 32
  -- the parameters of one action
  pub parameters : length s.parameters ≤ 4

-- as many places are in use as there are arguments
abbrev pub IsCounted : Shape → Type 0
IsCounted x = x.n ≡ length (shape_of x).arguments

-- so of each predicate and each function
pub record AreCounted (s : Signature) : Type 0 where
  pub predicates : Each IsCounted s.predicates
  pub functions : Each IsCounted s.functions
