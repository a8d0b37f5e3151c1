-- The order of choices, which is that of the roots of trees.
use Rattle.std.specs.Prelude.{ℕ, List, []}
use Rattle.std.specs.declared.cmp.Ordering.{Ordering}
use Rattle.std.specs.Ordering.{nat_cmp, then_cmp, on}
use Rattle.pks_terms.specs.Syntax.{Term, object, Literal}
use Rattle.pks_terms.specs.Orders.{term_cmp, conj_cmp}
use Rattle.pks_terms.specs.Actions.{Instance}
use Rattle.pks_terms.specs.Branching.{Choice, Act, BranchOn, CasesOn}
use Rattle.pks_terms.specs.Trees.{instance_cmp}

-- actions, branches, cases
abbrev pub choice_kind : Choice → ℕ
choice_kind (Act i) = 0
choice_kind (BranchOn c) = 1
choice_kind (CasesOn t) = 2

-- the instance that a choice does, where it is an action
abbrev pub choice_step : Choice → Instance
choice_step (Act i) = i
choice_step (BranchOn c) = record { action = 0; arguments = [] }
choice_step (CasesOn t) = record { action = 0; arguments = [] }

-- the formula that a choice asks, where it is a branch
abbrev pub choice_test : Choice → List Literal
choice_test (Act i) = []
choice_test (BranchOn c) = c
choice_test (CasesOn t) = []

-- the term whose value a choice asks, where it is cases
abbrev pub choice_term : Choice → Term
choice_term (Act i) = object 0
choice_term (BranchOn c) = object 0
choice_term (CasesOn t) = t

-- by kind, then actions by schema and arguments, branches by formula, cases by term
unfoldable pub choice_cmp : Choice → Choice → Ordering
choice_cmp = then_cmp (on choice_kind nat_cmp) (then_cmp (on choice_step instance_cmp) (then_cmp (on choice_test conj_cmp) (on choice_term term_cmp)))
