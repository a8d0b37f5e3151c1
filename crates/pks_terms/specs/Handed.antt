-- What is handed in with a problem is of it: declared, typed and ground. For databases `AreOf` says so.
use Rattle.std.specs.Prelude.{true, ◌≡◌, ◌<◌, List, [], length}
use Rattle.pks_terms.specs.Sets.{Each}
use Rattle.pks_terms.specs.Signatures.{Signature}
use Rattle.pks_terms.specs.Syntax.{Literal}
use Rattle.pks_terms.specs.Actions.{Instance}
use Rattle.pks_terms.specs.Problems.{Problem, schema_of}
use Rattle.pks_terms.specs.Branching.{Choice, Act, BranchOn, CasesOn}
use Rattle.pks_terms.specs.Trees.{Tree, Goal, Impossible, Do, Branch, Cases, Chain, End, More}
use Rattle.pks_terms.specs.Valid.{all_fit, inner_fits, is_literal, is_term}

-- a ground conjunction of the signature
abbrev pub IsConjOf : Signature → List Literal → Type 0
IsConjOf s c = Each (λ l. is_literal s [] l ≡ true) c

-- a declared action, and for each of its parameters an argument of its type: an object, or a function at objects
pub record IsStepOf (p : Problem) (i : Instance) : Type 0 where
  pub action : i.action < length p.schemas
  pub arguments : all_fit (inner_fits p.signature []) (schema_of p i.action).parameters i.arguments ≡ true

-- a choice of the problem
abbrev pub IsChoiceOf : Problem → Choice → Type 0
IsChoiceOf p (Act i) = IsStepOf p i
IsChoiceOf p (BranchOn c) = IsConjOf p.signature c
IsChoiceOf p (CasesOn t) = is_term p.signature [] t ≡ true

-- trees and cases of the problem, the one by the other
abbrev mutual
  -- a tree of the problem
  pub IsTreeOf : Problem → Tree → Type 0
  IsTreeOf p Goal = Unit {0}
  IsTreeOf p Impossible = Unit {0}
  IsTreeOf p (Do i t) = IsStepOf p i × IsTreeOf p t
  IsTreeOf p (Branch c t u) = IsConjOf p.signature c × IsTreeOf p t × IsTreeOf p u
  IsTreeOf p (Cases x k) = (is_term p.signature [] x ≡ true) × IsChainOf p k

  -- cases of the problem: declared objects, each with a tree of it
  pub IsChainOf : Problem → Chain → Type 0
  IsChainOf p End = Unit {0}
  IsChainOf p (More d t k) = (d < length p.signature.objects) × IsTreeOf p t × IsChainOf p k
