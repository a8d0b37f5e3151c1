-- Proofs: lines along a path, each with a fact at a moment and the reason why it may stand.
use Rattle.std.specs.Prelude.{ℕ, zero, suc, ◌≡◌, true, List, [], ◌∷◌, length, take, Option, Some, None, slice_get}
use Rattle.std.specs.List.{filter_map}
use Rattle.pks_terms.specs.Sets.{Each}
use Rattle.pks_terms.specs.Syntax.{Literal}
use Rattle.pks_terms.specs.Worlds.{World, true_in}
use Rattle.pks_terms.specs.Databases.{Entry}
use Rattle.pks_terms.specs.Meaning.{Meets}
use Rattle.pks_terms.specs.Sets.{exactly_one}
use Rattle.pks_terms.specs.Actions.{Instance}
use Rattle.pks_terms.specs.Problems.{Problem}
use Rattle.pks_terms.specs.Branching.{Choice, Side, IsSo}
use Rattle.pks_terms.specs.Handed.{IsStepOf}
use Rattle.pks_terms.specs.Knowledge.{grounded, after_action, after_actions, ground_actions}

-- ---- facts

-- a literal, an exclusive group, or a region
pub data Fact : Type 0 where
  FactLit : Literal → Fact
  FactKx : List Literal → Fact
  FactLcw : Entry → Fact

-- the fact is so in the world: the literal is true, exactly one member of the group is, the region is met
abbrev pub IsFactOf : World → Fact → Type 0
IsFactOf w (FactLit l) = true_in w l ≡ true
IsFactOf w (FactKx g) = exactly_one (true_in w) g ≡ true
IsFactOf w (FactLcw e) = Meets w e

-- ---- paths

-- one piece of the way that a run takes through a tree: an action is done, or a side of a choice is taken
pub data Turn : Type 0 where
  Went : Instance → Turn
  Took : Choice → Side → Turn

-- the way, from the root of the tree on
abbrev pub Path : Type 0
Path = List Turn

-- the action of a piece, where one is done
abbrev pub went : Turn → Option Instance
went (Went i) = Some i
went (Took c side) = None

-- the actions, in order: moment 0 is before the first of them, and each leads to the next moment
abbrev pub deeds : Path → List Instance
deeds path = filter_map went path

-- the moment after the last action
abbrev pub final_moment : Path → ℕ
final_moment path = length (deeds path)

-- a side that is taken, with its moment
pub record Taking : Type 0 where
  pub moment : ℕ
  pub choice : Choice
  pub side : Side

-- the sides that are taken, in order, the path beginning at this moment
abbrev pub takings : ℕ → Path → List Taking
takings m [] = []
takings m (Went i ∷ rest) = takings (suc m) rest
takings m (Took c side ∷ rest) = record { moment = m; choice = c; side = side } ∷ takings m rest

-- the world takes the path: each side is so in the world that the actions before it lead to
abbrev pub GoesAlong : Problem → World → Path → Type 0
GoesAlong p w [] = Unit {0}
GoesAlong p w (Went i ∷ rest) = GoesAlong p (after_action p w (grounded w i)) rest
GoesAlong p w (Took c side ∷ rest) = IsSo w c side × GoesAlong p w rest

-- the world at a moment of the path, for a first world: that after the ground actions which the instances before it are
abbrev pub world_along : Problem → World → Path → ℕ → World
world_along p w path m = after_actions p w (ground_actions p w (take m (deeds path)))

-- each action is one of the problem, with arguments of its parameters' types
abbrev pub IsPathOf : Problem → Path → Type 0
IsPathOf p path = Each (IsStepOf p) (deeds path)

-- ---- proofs

-- why a line may stand; initial items, and the sides that the path takes, are counted from 1
pub data Reason : Type 0 where
  ByGiven : ℕ → Reason
  BySide : ℕ → Reason
  BySame : Reason
  BySwap : Reason
  ByOnly : Reason
  ByOthers : Reason
  ByRange : Reason
  ByClosed : Reason
  ByKeep : Reason
  ByBack : Reason
  ByEffect : Reason
  ByMust : Reason
  ByCannot : Reason
  ByGrow : Reason
  ByClear : Reason

-- a fact at a moment, why it may stand, and the numbers of the lines that it rests on
pub record Line : Type 0 where
  pub moment : ℕ
  pub fact : Fact
  pub reason : Reason
  pub cites : List ℕ

-- the lines, which are counted from 1
abbrev pub Proof : Type 0
Proof = List Line

-- the element with this number, the first having the number 1
abbrev pub nth : {X : Type 0} → List X → ℕ → Option X
nth xs zero = None
nth xs (suc n) = slice_get xs n
