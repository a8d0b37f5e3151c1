-- Texts that name no object that a renaming moves. n is the number of an action's parameters.
use Rattle.std.specs.Prelude.{ℕ, ◌≡◌, ◌<◌, List, length, Option, Some, None}
use Rattle.pks_terms.specs.Sets.{Each, IsIn}
use Rattle.pks_terms.specs.Syntax.{Object, Parameter, Apply, Inner, Term, Literal, Pattern}
use Rattle.pks_terms.specs.Queries.{Plain, Know, KnowWhether, KnowValue, Query}
use Rattle.pks_terms.specs.Actions.{Target, Set, Unset, Clear, Assign, Effect, Item, ItemKf, ItemKw, ItemKv, ItemLcw, Schema}
use Rattle.pks_terms.specs.Problems.{Problem, Aim}
use Rattle.pks_laws_symmetry.specs.Renamed.{IsRenaming, renamed_aim}

-- each object stays, and each parameter is one of the action's
abbrev pub IsFixedInner : (ℕ → ℕ) → ℕ → Inner → Type 0
IsFixedInner f n (Object d) = f d ≡ d
IsFixedInner f n (Parameter i) = i < n
IsFixedInner f n (Apply h ds) = Each (λ d. f d ≡ d) ds

-- so in a term
abbrev pub IsFixedTerm : (ℕ → ℕ) → ℕ → Term → Type 0
IsFixedTerm f n (Object d) = f d ≡ d
IsFixedTerm f n (Parameter i) = i < n
IsFixedTerm f n (Apply h ts) = Each (IsFixedInner f n) ts

-- so in a literal
abbrev pub IsFixedLiteral : (ℕ → ℕ) → ℕ → Literal → Type 0
IsFixedLiteral f n l = Each (IsFixedTerm f n) l.arguments

-- so in a conjunction
abbrev pub IsFixedConj : (ℕ → ℕ) → ℕ → List Literal → Type 0
IsFixedConj f n c = Each (IsFixedLiteral f n) c

-- so at a slot that isn't open
abbrev pub IsFixedSlot : (ℕ → ℕ) → ℕ → Option Term → Type 0
IsFixedSlot f n None = Unit {0}
IsFixedSlot f n (Some t) = IsFixedTerm f n t

-- so in a pattern
abbrev pub IsFixedPattern : (ℕ → ℕ) → ℕ → Pattern → Type 0
IsFixedPattern f n x = Each (IsFixedSlot f n) x.slots

-- so in a query
abbrev pub IsFixedPlain : (ℕ → ℕ) → ℕ → Plain → Type 0
IsFixedPlain f n (Know l) = IsFixedLiteral f n l
IsFixedPlain f n (KnowWhether c) = IsFixedConj f n c
IsFixedPlain f n (KnowValue t) = IsFixedTerm f n t

-- so in queries
abbrev pub AreFixedQueries : (ℕ → ℕ) → ℕ → List Query → Type 0
AreFixedQueries f n qs = Each (λ q. IsFixedPlain f n q.asks) qs

-- so in a target
abbrev pub IsFixedTarget : (ℕ → ℕ) → ℕ → Target → Type 0
IsFixedTarget f n (Set a) = Each (IsFixedTerm f n) a.arguments
IsFixedTarget f n (Unset a) = Each (IsFixedTerm f n) a.arguments
IsFixedTarget f n (Clear x) = IsFixedPattern f n x
IsFixedTarget f n (Assign h ts value) = Each (IsFixedInner f n) ts × IsFixedTerm f n value

-- so in an effect
abbrev pub IsFixedEffect : (ℕ → ℕ) → ℕ → Effect → Type 0
IsFixedEffect f n e = IsFixedConj f n e.condition × IsFixedTarget f n e.target

-- so in what an add puts in
abbrev pub IsFixedItem : (ℕ → ℕ) → ℕ → Item → Type 0
IsFixedItem f n (ItemKf l) = IsFixedLiteral f n l
IsFixedItem f n (ItemKw c) = IsFixedConj f n c
IsFixedItem f n (ItemKv t) = IsFixedTerm f n t
IsFixedItem f n (ItemLcw x) = IsFixedPattern f n x

-- so in the text of an action, but for its senses, which aren't looked at for what is known
pub record IsFixedSchema (f : ℕ → ℕ) (sc : Schema) : Type 0 where
  pub pre : AreFixedQueries f (length sc.parameters) sc.pre
  pub effects : Each (IsFixedEffect f (length sc.parameters)) sc.effects
  pub adds : Each (λ a. AreFixedQueries f (length sc.parameters) a.given × IsFixedItem f (length sc.parameters) a.item) sc.adds

-- a renaming that leaves each action's text as it is, and takes each aim to an aim, there and back
pub record IsSymmetry (p : Problem) (f g : ℕ → ℕ) : Type 0 where
  pub renaming : IsRenaming p.signature f g
  pub texts : Each (IsFixedSchema f) p.schemas
  pub goal : (a : Aim) → IsIn a p.goal → IsIn (renamed_aim f a) p.goal × IsIn (renamed_aim g a) p.goal
