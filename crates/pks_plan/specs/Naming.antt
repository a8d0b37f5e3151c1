-- The names with which a problem is printed.
use Rattle.std.specs.Prelude.{length, codes}
use Rattle.pks_terms.specs.Sets.{IsIn}
use Rattle.pks_terms.specs.Problems.{Problem}
use Rattle.pks_terms.specs.ValidProblems.{AreNames}
use Rattle.pks_terms.specs.Printed.{Names}

-- the names of a problem
pub record AreNamesOf (p : Problem) (names : Names) : Type 0 where
  -- each object has a name of its own
  pub objects : AreNames (length p.signature.objects) names.objects
  -- and each predicate
  pub predicates : AreNames (length p.signature.predicates) names.predicates
  -- none of which is `not`, since a negation has that head
  pub none_is_not : IsIn (codes "not") names.predicates → ⊥
  -- and each function
  pub functions : AreNames (length p.signature.functions) names.functions
  -- and each action
  pub actions : AreNames (length p.schemas) names.actions
