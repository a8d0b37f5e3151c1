-- When a problem of the program is valid: what it says is, and its names, counts and lengths are as they must be.
use Rattle.std.specs.Prelude.{ℕ, Bool, true, false, ◌≡◌, ◌<◌, ◌^◌, ◌&&◌, ◌||◌, ◌==◌, List, [], ◌∷◌, map, length, codes}
use Rattle.std.specs.List.{list_all}
use Rattle.std.specs.Char.{is_ascii_alphabetic, is_ascii_alphanumeric}
use Rattle.pks_terms.specs.declared.term.Term as term
use Rattle.pks_terms.specs.declared.term.Term.TheVariants as term_is
use Rattle.pks_terms.specs.declared.schema.Effect.{Effect}
use Rattle.pks_terms.specs.declared.schema.Target as target
use Rattle.pks_terms.specs.declared.schema.Target.TheVariants as target_is
use Rattle.pks_terms.specs.declared.problem.Problem.{Problem}
use Rattle.pks_terms.specs.Sets.{Each, IsIn}
use Rattle.pks_terms.specs.Valid.{IsValid}
use Rattle.pks_terms.specs.Views.{problem_of}
use Rattle.pks_terms.specs.Counts.{ProblemCounts}

-- ---- names

-- letters, digits, `-` and `_`
abbrev pub is_name_byte : ℕ → Bool
is_name_byte b = is_ascii_alphanumeric b || ((b == 45) || (b == 95))

-- a letter, then letters, digits, `-` or `_`
abbrev pub is_name : List ℕ → Bool
is_name [] = false
is_name (b ∷ bytes) = is_ascii_alphabetic b && list_all is_name_byte bytes

-- none of these stands twice
abbrev pub AreDifferent : {X : Type 0} → List X → Type 0
AreDifferent [] = Unit {0}
AreDifferent (x ∷ xs) = (IsIn x xs → ⊥) × AreDifferent xs

-- the names of so many things of one kind
pub record AreNames (n : ℕ) (names : List (List ℕ)) : Type 0 where
  -- as many names as things
  pub counted : length names ≡ n
  -- each is spelled as names are
  pub spelled : Each (λ name. is_name name ≡ true) names
  -- none is given twice
  pub different : AreDifferent names

-- ---- places of assignments

-- a function at its arguments
abbrev pub IsApplication : term.Term → Type 0
IsApplication (term_is.Obj d) = ⊥
IsApplication (term_is.Param i) = ⊥
IsApplication (term_is.App f n ts) = Unit {0}

-- what is assigned to is a function at its arguments
abbrev pub AssignsToPlace : target.Target → Type 0
AssignsToPlace (target_is.Set a) = Unit {0}
AssignsToPlace (target_is.Unset a) = Unit {0}
AssignsToPlace (target_is.Clear x) = Unit {0}
AssignsToPlace (target_is.Assign place value) = IsApplication place

-- each effect that assigns does so to a function at arguments
abbrev pub ArePlaced : List Effect → Type 0
ArePlaced es = Each (λ e. AssignsToPlace e.target) es

-- ---- problems

-- a valid problem
pub record IsValidProblem (p : Problem) : Type 0 where
  -- what it says is valid: versions, types, declarations, orders, parameters
  pub says : IsValid (problem_of p)
  -- each count of used places is within its array
  pub counts : ProblemCounts p
  -- each assignment is to a function at its arguments
  pub places : Each (λ x. Each (λ e. AssignsToPlace e.target) x.effects) p.schemas
  -- the initial items and the adds of each action can be numbered in 32 bits
  pub numbered : (length p.init < 2 ^ 32) × Each (λ x. length x.adds < 2 ^ 32) p.schemas
  -- each type has a name of its own
  pub types : AreNames p.signature.types (map (λ t. t.now) p.names.types)
  -- and each object
  pub objects : AreNames (length p.signature.objects) (map (λ t. t.now) p.names.objects)
  -- and each predicate, none of which is `not`
  pub predicates : AreNames (length p.signature.predicates) (map (λ t. t.now) p.names.predicates)
  pub none_is_not : IsIn (codes "not") (map (λ t. t.now) p.names.predicates) → ⊥
  -- and each function
  pub functions : AreNames (length p.signature.functions) (map (λ t. t.now) p.names.functions)
  -- and each action
  pub actions : AreNames (length p.schemas) (map (λ x. x.name.now) p.schemas)
  -- for each action there is a list of as many names as it has parameters
  pub parameters : map (λ names. length names) p.names.params ≡ map (λ x. length x.params) p.schemas
