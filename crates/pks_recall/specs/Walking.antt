-- What comes of walking a derived tree: the states at its leaves, and their text.
use Rattle.std.specs.Prelude.{◌≡◌, List, ◌++◌}
use Rattle.pks_terms.specs.Syntax.{Term}
use Rattle.pks_terms.specs.Problems.{Problem}
use Rattle.pks_terms.specs.Settling.{History, State}
use Rattle.pks_terms.specs.Trees.{Tree, Chain}
use Rattle.pks_terms.specs.Recalled.{AreLeaves, AreLeavesOfEach, IsRecalled, recall_text}
use Rattle.pks_terms.specs.Printed.{Text, Names}

-- the states at the tree's leaves were added
pub record AddsLeaves (p : Problem) (x : State) (t : Tree) (old new : List State) : Type 0 where
  pub leaves : List State
  pub come_to : AreLeaves p x t leaves
  pub added : new ≡ old ++ leaves

-- those at the leaves of each case
pub record AddsLeavesOfEach (p : Problem) (h : History) (x : Term) (k : Chain) (old new : List State) : Type 0 where
  pub leaves : List State
  pub come_to : AreLeavesOfEach p h x k leaves
  pub added : new ≡ old ++ leaves

-- the text is that of the states at the tree's leaves
pub record Recalls (p : Problem) (names : Names) (t : Tree) (text : Text) : Type 0 where
  pub leaves : List State
  pub recalled : IsRecalled p t leaves
  pub says : text ≡ recall_text names leaves
