-- What holds of each form, and of declared shapes.
use Rattle.std.specs.Prelude.{◌≡◌, ◌≤◌, length, map, codes}
use Rattle.pks_text.specs.Forms.{Form, Forms, no_forms, form}
use Rattle.pks_terms.specs.Sets.{Each, IsIn}
use Rattle.pks_terms.specs.Signatures.{Shape}
use Rattle.pks_terms.specs.Problems.{Problem}
use Rattle.pks_terms.specs.ValidProblems.{AreNames}
use Rattle.pks_reader_names.specs.Tables.{entries_of}
use Rattle.pks_reader_names.specs.Scopes.{Scope}
use Rattle.pks_reader_problem.specs.Stated.{Named}

-- P holds of each form
abbrev pub EachForm : (Form → Type 0) → Forms → Type 0
EachForm P no_forms = Unit {0}
EachForm P (form f fs) = P f × EachForm P fs

-- predicates have at most three arguments, and functions two
pub record HasShapes (s : Scope) : Type 0 where
  pub predicates : Each (λ (x : Shape). length x.arguments ≤ 3) (entries_of s.predicates)
  pub functions : Each (λ (x : Shape). length x.arguments ≤ 2) (entries_of s.functions)

-- each thing of a problem has a name of its own, and no predicate is `not`
pub record AreNamed (p : Problem) (n : Named) : Type 0 where
  pub types : AreNames p.signature.types n.types
  pub objects : AreNames (length p.signature.objects) n.objects
  pub predicates : AreNames (length p.signature.predicates) n.predicates
  pub none_is_not : IsIn (codes "not") n.predicates → ⊥
  pub functions : AreNames (length p.signature.functions) n.functions
  pub actions : AreNames (length p.schemas) n.actions
  -- for each action as many names as parameters
  pub parameters : map (λ names. length names) n.parameters ≡ map (λ x. length x.parameters) p.schemas
