-- What a dialogue comes to.
use Rattle.std.specs.Prelude.{ℕ, ◌+◌, ◌≡◌, ◌≤◌, ◌⊎◌, List, [], ◌++◌, Option, Some, Result, Ok, Err}
use Rattle.std.specs.Io.KnownBytes.{Appends}
use Rattle.pks_terms.specs.declared.codes.TheConstants.{ANSWER_MISSING, ANSWER_UNFIT}
use Rattle.pks_io.specs.Causes.{Rose}
use Rattle.pks_io.specs.Writing.{AppendsFront}
use Rattle.pks_terms.specs.Jobs.{Agent}
use Rattle.pks_terms.specs.Answers.{File, IsAccepted, talk_in}
use Rattle.pks_terms.specs.Knowledge.{AtGoal, Good, run_of}
use Rattle.pks_terms.specs.Problems.{Problem, IsCompatible}
use Rattle.pks_terms.specs.Talk.{Talked, talk, Over, IsOver, RefusesAnswer, talked_text, answers_in, statements, run_statements, world_answers}
use Rattle.pks_terms.specs.Trees.{Tree, IsBest}
use Rattle.pks_terms.specs.Worlds.{World}
use Rattle.pks_terms.specs.Printed.{Text, Names, Refusal, refusal_text}
use Rattle.pks_exec.specs.declared.runs.End.{End}
use Rattle.pks_agent.specs.declared.ends.TalkEnd.{TalkEnd}
use Rattle.pks_agent.specs.declared.ends.TalkEnd.TheVariants.{Misfit, Silent, Failed}
use Rattle.pks_agent.specs.declared.peers.PeerFault.TheVariants.{Send, Receive}
use Rattle.pks_agent.specs.Along.{LeadsAlong}
use Rattle.pks_agent.specs.Bounds.{StandFirst}
use Rattle.pks_agent.specs.Fitting.{ComesOfFit, LeavesRefused}
use Rattle.pks_reader.specs.Inputs.{Reads}
use Rattle.pks_run.specs.Answer.{IsAnswered, IsReplyTo, LeadsFront, OfAnswersLeft, LeavesAnswers}
use Rattle.pks_run.specs.declared.status.Status.{Status}
use Rattle.pks_run.specs.declared.status.Status.TheVariants.{Done, NoPlan, Words, Refused, ReadFault, WriteFault, Memory}

-- ---- causes of faults

-- a fault comes only where its count rose, which never falls and stands still else
pub record HasCauses (reads reads' writes writes' : ℕ) (status : Status) : Type 0 where
  pub later_reads : reads ≤ reads'
  pub later_writes : writes ≤ writes'
  pub read : status ≡ ReadFault → Rose reads reads'
  pub write : status ≡ WriteFault → Rose writes writes'
  pub still_reads : (status ≡ ReadFault → ⊥) → reads' ≡ reads
  pub still_writes : (status ≡ WriteFault → ⊥) → writes' ≡ writes

-- ---- the end of a dialogue

-- an answer is refused at this line
abbrev pub line_refused : ℕ → ℕ → Text
line_refused n code = refusal_text (record { line = n; column = 1; code = code; rest = [] })

-- its line was written, or a front of it
abbrev pub WritesRefusal : Text → Option Text → Option Text → ℕ → ℕ → Status → Type 0
WritesRefusal text old new writes writes' Refused = Appends old new text × (writes' ≡ writes)
WritesRefusal text old new writes writes' WriteFault = AppendsFront old new text × Rose writes writes' × (writes ≤ writes')
WritesRefusal text old new writes writes' Done = ⊥
WritesRefusal text old new writes writes' NoPlan = ⊥
WritesRefusal text old new writes writes' Words = ⊥
WritesRefusal text old new writes writes' ReadFault = ⊥
WritesRefusal text old new writes writes' Memory = ⊥

-- nothing more was written
abbrev pub EndsAs : Status → Option Text → Option Text → ℕ → ℕ → Status → Type 0
EndsAs this old new writes writes' status = (status ≡ this) × (new ≡ old) × (writes' ≡ writes)

-- how the call ends where its dialogue ended so, the full stop being on this line: an answer that isn't fit or is missing is refused
abbrev pub Concludes : Result End TalkEnd → ℕ → Option Text → Option Text → ℕ → ℕ → Status → Type 0
Concludes (Ok end) stop old new writes writes' status = EndsAs Done old new writes writes' status
Concludes (Err (Misfit k)) stop old new writes writes' status = WritesRefusal (line_refused (stop + k) ANSWER_UNFIT) old new writes writes' status
Concludes (Err (Silent k)) stop old new writes writes' status = WritesRefusal (line_refused (stop + k) ANSWER_MISSING) old new writes writes' status
Concludes (Err (Failed Send)) stop old new writes writes' status = EndsAs WriteFault old new writes writes' status
Concludes (Err (Failed Receive)) stop old new writes writes' status = EndsAs ReadFault old new writes writes' status

-- ---- plans that lead to their goal

-- with the answers of a world the dialogue tells the run in it, in which each answer is known, and it comes to the goal
pub record LeadsToGoal (p : Problem) (names : Names) (t : Tree) (w : World) : Type 0 where
  pub along : LeadsAlong p names t w
  pub good : Good p t w
  pub goal : (rest : List Text) → (talk p.signature names t (world_answers p names t w ++ rest)).end ≡ Over AtGoal

-- the input is accepted, and the best plan so leads to its goal in each compatible world
pub record IsWellLed (n : ℕ) (input : Text) : Type 0 where
  pub file : File
  pub accepted : IsAccepted Reads (Agent n) input file
  pub plan : Tree
  pub best : IsBest file.problem n (Some plan)
  pub leads : (w : World) → IsCompatible file.problem w → LeadsToGoal file.problem file.names plan w

-- ---- what was told, however the call ends

-- all these answers are left
abbrev pub LeavesAll : List Text → Option Text → Type 0
LeavesAll rest left = OfAnswersLeft (λ answers. answers ≡ Some rest) left

-- the text is that of the whole dialogue and was written, and behind it a front of the refusal of the next answer
abbrev pub WritesRefusedFront : Text → Talked → Text → Option Text → Option Text → Type 0
WritesRefusedFront input talked text old new = (text ≡ talked_text talked) × ((mid : Option Text) × Appends old mid text × ((r : Refusal) × RefusesAnswer input talked.end r × AppendsFront mid new (refusal_text r)))

-- what was written, and which of the answers behind the fit ones are then left: at the end of the dialogue the whole text, and all; where the next one is refused the whole text and that refusal, and those behind it, before them perhaps the end of one that is too long; where writing failed the text as it is and all, or the whole text with a front of that refusal and those behind it; where reading failed the text as it is, and where memory was wanting nothing, and it isn't known which are left
abbrev pub WritesTold : Text → Talked → Text → List Text → Option Text → Option Text → Option Text → Status → Type 0
WritesTold input talked text rest old new left Done = (text ≡ talked_text talked) × IsOver talked.end × Appends old new text × LeavesAll rest left
WritesTold input talked text rest old new left Refused = (text ≡ talked_text talked) × ((r : Refusal) × RefusesAnswer input talked.end r × Appends old new (text ++ refusal_text r)) × OfAnswersLeft (LeavesRefused rest) left
WritesTold input talked text rest old new left WriteFault = (Appends old new text × LeavesAll rest left) ⊎ (WritesRefusedFront input talked text old new × OfAnswersLeft (LeavesRefused rest) left)
WritesTold input talked text rest old new left ReadFault = Appends old new text
WritesTold input talked text rest old new left Memory = (text ≡ []) × Appends old new text
WritesTold input talked text rest old new left NoPlan = ⊥
WritesTold input talked text rest old new left Words = ⊥

-- what was told of a plan comes of the answers that were read and fit, and those behind them are left; that plan leads to its goal in each compatible world, and where these answers are the first in it, what they make told begins the run in it
pub record TellsWell (f : File) (t : Tree) (input : Text) (old new left : Option Text) (status : Status) : Type 0 where
  pub fit : List Text
  pub text : Text
  pub comes : ComesOfFit f.problem.signature f.names t (answers_in input) fit text
  pub written : WritesTold input (talk_in f input t) text comes.first.0 old new left status
  pub leads : (w : World) → IsCompatible f.problem w → LeadsToGoal f.problem f.names t w
  pub begins : (w : World) → IsCompatible f.problem w → StandFirst fit (world_answers f.problem f.names t w) → StandFirst (statements (talk f.problem.signature f.names t fit)) (run_statements f.names (run_of f.problem t w))

-- so of the best plan, where the input is accepted and has one
abbrev pub TellsBest : ℕ → Text → Option Text → Option Text → Option Text → Status → Type 0
TellsBest n input old new left status = (f : File) (t : Tree) → IsAccepted Reads (Agent n) input f → IsBest f.problem n (Some t) → TellsWell f t input old new left status

-- ---- the whole dialogue

-- what is answered to an input whose file was read, and what is left of it
pub record Converses (n : ℕ) (input : Text) (old new left : Option Text) (status : Status) : Type 0 where
  pub answered : IsAnswered status → (text : Text) × IsReplyTo (Agent n) input status text × Appends old new text
  pub front : (status ≡ WriteFault) ⊎ (status ≡ ReadFault) → LeadsFront n input old new
  pub taken : status ≡ Done → LeavesAnswers n input left
  pub led : status ≡ Done → IsWellLed n input
  pub told : TellsBest n input old new left status

-- so whether its file was read or not, but for a front after a fault of reading
pub record Leads (n : ℕ) (input : Text) (old new left : Option Text) (status : Status) : Type 0 where
  pub answered : IsAnswered status → (text : Text) × IsReplyTo (Agent n) input status text × Appends old new text
  pub front : status ≡ WriteFault → LeadsFront n input old new
  pub taken : status ≡ Done → LeavesAnswers n input left
  pub led : status ≡ Done → IsWellLed n input
  pub told : TellsBest n input old new left status
