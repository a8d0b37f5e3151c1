-- How much a dialogue asks, how many lines it has, and how long they are.
use Rattle.std.specs.Prelude.{ℕ, true, ◌≡◌, ◌≤◌, ◌+◌, List, [], ◌∷◌, ◌++◌, length}
use Rattle.pks_terms.specs.declared.limits.TheConstants.{LONGEST_LINE}
use Rattle.pks_terms.specs.Sets.{Each}
use Rattle.pks_terms.specs.Actions.{Item, ItemKf, ItemKw, ItemKv, ItemLcw}
use Rattle.pks_terms.specs.Problems.{Start, StartKf, StartKw, StartKv, StartKx, StartLcw, Problem}
use Rattle.pks_terms.specs.Trees.{Tree, Goal, Impossible, Do, Branch, Cases, Chain, End, More}
use Rattle.pks_terms.specs.Printed.{Text, Names}
use Rattle.pks_terms.specs.Talk.{Said, Question, Statement, Talked, said_text, is_short}

-- how many of the lines ask for an answer
abbrev pub asked_in : List Said → ℕ
asked_in [] = 0
asked_in (Question text ∷ lines) = 1 + asked_in lines
asked_in (Statement text ∷ lines) = asked_in lines

-- at most so many questions, and at most so many lines, of each of which P holds
pub record IsWithin (P : Text → Type 0) (most_questions most_lines : ℕ) (talked : Talked) : Type 0 where
  pub questions : asked_in talked.lines ≤ most_questions
  pub lines : length talked.lines ≤ most_lines
  pub each : Each (λ said. P (said_text said)) talked.lines

-- a line of at most 8,192 bytes
abbrev pub IsShortLine : Text → Type 0
IsShortLine text = length text ≤ LONGEST_LINE

-- at most 64 questions and 81 lines, each of at most 8,192 bytes
abbrev pub IsShortTalk : Talked → Type 0
IsShortTalk talked = IsWithin IsShortLine 64 81 talked

-- no name has more than 64 bytes
pub record HasShortNames (names : Names) : Type 0 where
  pub objects : Each (λ name. is_short name ≡ true) names.objects
  pub predicates : Each (λ name. is_short name ≡ true) names.predicates
  pub functions : Each (λ name. is_short name ≡ true) names.functions
  pub actions : Each (λ name. is_short name ≡ true) names.actions

-- each formula whose truth is asked has at most four literals
abbrev mutual
  pub HasSmallTests : Tree → Type 0
  HasSmallTests Goal = Unit {0}
  HasSmallTests Impossible = Unit {0}
  HasSmallTests (Do i t) = HasSmallTests t
  HasSmallTests (Branch c t u) = (length c ≤ 4) × HasSmallTests t × HasSmallTests u
  HasSmallTests (Cases x k) = CasesHaveSmallTests k

  -- so in each case
  pub CasesHaveSmallTests : Chain → Type 0
  CasesHaveSmallTests End = Unit {0}
  CasesHaveSmallTests (More o t k) = HasSmallTests t × CasesHaveSmallTests k

-- an initial formula has at most four literals
abbrev pub IsSmallStart : Start → Type 0
IsSmallStart (StartKw c) = length c ≤ 4
IsSmallStart (StartKf l) = Unit {0}
IsSmallStart (StartKv t) = Unit {0}
IsSmallStart (StartKx g) = Unit {0}
IsSmallStart (StartLcw x) = Unit {0}

-- so has a formula that an add gives
abbrev pub IsSmallItem : Item → Type 0
IsSmallItem (ItemKw c) = length c ≤ 4
IsSmallItem (ItemKf l) = Unit {0}
IsSmallItem (ItemKv t) = Unit {0}
IsSmallItem (ItemLcw x) = Unit {0}

-- each formula whose truth is known at the start, or by an add of an action, has at most four literals
pub record HasSmallFormulas (p : Problem) : Type 0 where
  pub init : Each IsSmallStart p.init
  pub adds : Each (λ sc. Each (λ a. IsSmallItem a.item) sc.adds) p.schemas

-- ---- beginnings

-- the lines of the first dialogue stand first in the second
abbrev pub Begins : Talked → Talked → Type 0
Begins part whole = (rest : List Said) × (whole.lines ≡ part.lines ++ rest)

-- these texts stand first in those
abbrev pub StandFirst : List Text → List Text → Type 0
StandFirst texts all = (rest : List Text) × (all ≡ texts ++ rest)
