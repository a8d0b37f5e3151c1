-- The answers that a dialogue took, and the text that it told by them.
use Rattle.std.specs.Prelude.{◌≡◌, ◌+◌, ◌⊎◌, List, [], ◌∷◌, ◌++◌, length, Option, Some, Result, Ok, Err}
use Rattle.std.specs.Io.KnownBytes.{Appends}
use Rattle.pks_terms.specs.Signatures.{Signature}
use Rattle.pks_terms.specs.Trees.{Tree}
use Rattle.pks_terms.specs.Knowledge.{Ending}
use Rattle.pks_terms.specs.Printed.{Text, Names}
use Rattle.pks_terms.specs.Talk.{Talked, Over, Missing, talk, talked_text}
use Rattle.pks_exec.specs.declared.runs.End.{End}
use Rattle.pks_agent.specs.Bounds.{StandFirst}
use Rattle.pks_agent.specs.Hearing.{LeavesBehindUnfit}
use Rattle.pks_agent.specs.declared.ends.TalkEnd.{TalkEnd}
use Rattle.pks_agent.specs.declared.ends.TalkEnd.TheVariants.{Misfit, Silent, Failed}
use Rattle.pks_agent.specs.declared.peers.PeerFault.TheVariants.{Send, Receive}

-- this text is the whole one, or a front of it
abbrev pub IsFront : Text → Text → Type 0
IsFront part whole = (rest : Text) × (whole ≡ part ++ rest)

-- a dialogue with these answers alone takes each and finds it fit: it comes to its end, or to the question behind the last of them
pub record TakesAll (given : List Text) (talked : Talked) : Type 0 where
  pub ends : ((x : Ending) × (talked.end ≡ Over x)) ⊎ (talked.end ≡ Missing (length given + 1))
  pub left : talked.left ≡ []

-- the text comes of these answers, the first of all: each is fit, and was asked for by a line that the text has whole; and the text is the lines of the dialogue with them, or a front of these
pub record ComesOfFit (s : Signature) (names : Names) (t : Tree) (answers fit : List Text) (text : Text) : Type 0 where
  pub first : StandFirst fit answers
  pub taken : TakesAll fit (talk s names t fit)
  pub asked : (given : List Text) (answer : Text) (more : List Text) → fit ≡ given ++ answer ∷ more → IsFront (talked_text (talk s names t given)) text
  pub front : IsFront text (talked_text (talk s names t fit))

-- of these answers the first is refused: since none is there, or since it isn't fit, and then it was taken, or a front of it where it is too long
abbrev pub LeavesRefused : List Text → Option (List Text) → Type 0
LeavesRefused [] left = left ≡ Some []
LeavesRefused (unfit ∷ others) left = LeavesBehindUnfit unfit others left

-- what is left behind the answers that were fit: all others, but for one that is refused; where receiving failed nothing is known of it
abbrev pub LeavesBehind : List Text → Option (List Text) → Result End TalkEnd → Type 0
LeavesBehind rest left (Ok end) = left ≡ Some rest
LeavesBehind rest left (Err (Misfit k)) = LeavesRefused rest left
LeavesBehind rest left (Err (Silent k)) = LeavesRefused rest left
LeavesBehind rest left (Err (Failed Send)) = left ≡ Some rest
LeavesBehind rest left (Err (Failed Receive)) = Unit {0}

-- all was said, unless the peer failed
abbrev pub SaysAll : Text → Text → Result End TalkEnd → Type 0
SaysAll text all (Ok end) = text ≡ all
SaysAll text all (Err (Misfit k)) = text ≡ all
SaysAll text all (Err (Silent k)) = text ≡ all
SaysAll text all (Err (Failed fault)) = Unit {0}

-- what was said comes of the first answers, each of which was fit, and of those behind them this is left
pub record TakesFit (s : Signature) (names : Names) (t : Tree) (answers : List Text) (old new : Option Text) (left : Option (List Text)) (result : Result End TalkEnd) : Type 0 where
  pub fit : List Text
  pub text : Text
  pub comes : ComesOfFit s names t answers fit text
  pub appends : Appends old new text
  pub whole : SaysAll text (talked_text (talk s names t answers)) result
  pub left_is : LeavesBehind comes.first.0 left result
