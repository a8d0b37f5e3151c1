-- What is promised of a plan that is printed or run.
use Rattle.std.specs.Prelude.{◌≡◌, ◌++◌, ℕ, true, List, Some}
use Rattle.pks_terms.specs.Sets.{Each}
use Rattle.pks_terms.specs.Worlds.{World, true_in}
use Rattle.pks_terms.specs.Problems.{Problem, IsCompatible}
use Rattle.pks_terms.specs.Trees.{Tree, IsBest}
use Rattle.pks_terms.specs.Knowledge.{Good, after_actions, ground_actions}
use Rattle.pks_terms.specs.Settling.{State}
use Rattle.pks_terms.specs.Jobs.{Job, Recall, Explain, depth_for}
use Rattle.pks_terms.specs.Printed.{Text, tree_text}
use Rattle.pks_terms.specs.Answers.{File, IsDone}
use Rattle.pks_terms.specs.Remembering.{RemembersPast}
use Rattle.pks_terms.specs.Recalled.{IsRecalled, IsTruePast, recall_text}
use Rattle.pks_terms.specs.Proofs.{deeds, GoesAlong}
use Rattle.pks_terms.specs.Explained.{Entry, IsExplained, explained_text}

-- a plan that can be carried out wherever the file's items hold
pub record IsGood (p : Problem) (t : Tree) : Type 0 where
  -- in every compatible world its run is good, and so the goal is known there
  pub runs : (w : World) → IsCompatible p w → Good p t w
  -- and what its histories know of earlier moments was so then
  pub past : RemembersPast p t

-- the best plan to the depth of the job is good
abbrev pub HasGoodPlan : Job → File → Type 0
HasGoodPlan j f = (n : ℕ) (t : Tree) → depth_for j ≡ Some n → IsBest f.problem n (Some t) → IsGood f.problem t

-- the text is the best plan with what its leaves recall of each moment, and that was so in every compatible world whose run comes to that leaf
pub record TellsTruePast (n : ℕ) (f : File) (text : Text) : Type 0 where
  pub plan : Tree
  pub leaves : List State
  pub best : IsBest f.problem n (Some plan)
  pub recalled : IsRecalled f.problem plan leaves
  pub says : text ≡ tree_text f.names plan ++ recall_text f.names leaves
  pub so : IsTruePast f.problem plan leaves

-- the literal of an entry is so at the end of its path, in every compatible world that takes it
abbrev pub IsSoAtEnd : Problem → Entry → Type 0
IsSoAtEnd p e = (w : World) → IsCompatible p w → GoesAlong p w e.path → true_in (after_actions p w (ground_actions p w (deeds e.path))) e.literal ≡ true

-- the text is the best plan with an explanation of it, and what that shows is so
pub record ShowsTruth (n : ℕ) (f : File) (text : Text) : Type 0 where
  pub plan : Tree
  pub entries : List Entry
  pub best : IsBest f.problem n (Some plan)
  pub explained : IsExplained f.problem plan entries
  pub says : text ≡ tree_text f.names plan ++ explained_text f.names entries
  pub so : Each (IsSoAtEnd f.problem) entries

-- what a job tells of the past was so, and what it shows is
abbrev pub TellsTruth : Job → File → Text → Type 0
TellsTruth (Recall n) f text = TellsTruePast n f text
TellsTruth (Explain n) f text = ShowsTruth n f text
TellsTruth j f text = Unit {0}

-- the text is that of the job that is done, the plan that it is made of is good, and what it tells or shows was so
pub record PrintsGoodPlan (j : Job) (input : Text) (f : File) (text : Text) : Type 0 where
  pub done : IsDone j input f text
  pub good : HasGoodPlan j f
  pub told : TellsTruth j f text
