-- All that is said of a run, and how the program ends.
use Rattle.std.specs.Prelude.{ℕ, ◌≡◌, ◌≤◌, ◌⊎◌, List, Option, Vec, String, map, string_bytes, IfSome, Result, Ok, Err}
use Rattle.std.specs.declared.alloc.Global.{Global}
use Rattle.std.specs.Io.KnownBytes.{Appends, IsAtEnd}
use Rattle.pks_io.specs.Causes.{Rose}
use Rattle.pks_terms.specs.Jobs.{Job, Agent, Explain, usage_text}
use Rattle.pks_terms.specs.Printed.{Text}
use Rattle.pks_run_words.specs.JobViews.{modes, AskFor, AskNoJob}
use Rattle.pks_run.specs.Answer.{exit_number, IsAnswer, IsAnswered, IsBench, IsDialogue, AskNoDialogue, AskNoExplanation, WritesAlike, IsExactly, HasNoPlan, IsRefused, PrintsGood, WritesFront, LeavesAnswers, TakesFew}
use Rattle.pks_run.specs.Leads.{IsWellLed, TellsBest}
use Rattle.pks_run.specs.declared.status.Status.{Status}
use Rattle.pks_run.specs.declared.status.Status.TheVariants.{Done, NoPlan, Words, Refused, ReadFault, WriteFault, Memory}

-- the words did so to a source and a sink, by what the source has left and the sink has got and by their counts of faults: each clause of `run`, of the status
pub record Runs {S K : Type 0} (left : S → Option Text) (reads : S → ℕ) (written : K → Option Text) (writes : K → ℕ) (given : List Text) (source source' : S) (sink sink' : K) (status : Status) : Type 0 where
  pub answer : IfSome (left source) (λ input. IsAnswered status → (text : Text) × IsAnswer given input status text × Appends (written sink) (written sink') text)
  pub only : IfSome (left source) (λ input. IsAnswered status → (other : Status) (text : Text) → IsAnswer given input other text →
      (status ≡ other) × ((status ≡ Done → AskNoExplanation given) → Appends (written sink) (written sink') text))
  pub explained : (n : ℕ) → AskFor given (Explain n) → status ≡ Done → IfSome (left source) (λ input. (text : Text) → IsAnswer given input Done text → WritesAlike n input (written sink) (written sink') text)
  pub sound : IfSome (left source) (λ input. status ≡ Done → PrintsGood given input (written sink) (written sink'))
  pub complete : IfSome (left source) (λ input. (Rose (reads source) (reads source') → ⊥) → (Rose (writes sink) (writes sink') → ⊥) → (status ≡ Memory) ⊎ ((text : Text) × IsAnswer given input status text))
  pub no_plan : IfSome (left source) (λ input. IsExactly status NoPlan (HasNoPlan given input))
  pub refused : IfSome (left source) (λ input. IsExactly status Refused (IsRefused given input))
  pub end : (job : Job) → AskFor given job → (IsBench job → ⊥) → (IsDialogue job → ⊥) → (status ≡ Done) ⊎ (status ≡ NoPlan) → IsAtEnd (left source')
  pub taken : (n : ℕ) → AskFor given (Agent n) → status ≡ Done → IfSome (left source) (λ input. LeavesAnswers n input (left source'))
  pub led : (n : ℕ) → AskFor given (Agent n) → status ≡ Done → IfSome (left source) (IsWellLed n)
  pub told : (n : ℕ) → AskFor given (Agent n) → IfSome (left source) (λ input. TellsBest n input (written sink) (written sink') (left source') status)
  pub read_fault : status ≡ ReadFault → Rose (reads source) (reads source') × ((job : Job) × AskFor given job × (IsBench job → ⊥)) × (AskNoDialogue given → sink' ≡ sink)
  pub read_front : status ≡ ReadFault → (sink' ≡ sink) ⊎ IfSome (left source) (λ input. WritesFront given input (written sink) (written sink'))
  pub write_fault : status ≡ WriteFault → Rose (writes sink) (writes sink') × IfSome (left source) (λ input. WritesFront given input (written sink) (written sink'))
  pub memory : status ≡ Memory → sink' ≡ sink
  pub later : (reads source ≤ reads source') × (writes sink ≤ writes sink')
  pub quiet : ((status ≡ ReadFault → ⊥) → reads source' ≡ reads source) × ((status ≡ WriteFault → ⊥) → writes sink' ≡ writes sink)
  pub takes : AskNoDialogue given → TakesFew (left source) (left source')
  pub words : status ≡ Words → AskNoJob given × Appends (written sink) (written sink') (usage_text modes)
  pub unasked : AskNoJob given → (source' ≡ source) × ((status ≡ Words) ⊎ ((status ≡ WriteFault) ⊎ (status ≡ Memory)))
  pub unread : (job : Job) → AskFor given job → IsBench job → source' ≡ source

-- the number is that of a status with which the words so ran
abbrev pub EndsRun : {S K : Type 0} → (S → Option Text) → (S → ℕ) → (K → Option Text) → (K → ℕ) → List Text → S → S → K → K → ℕ → Type 0
EndsRun left reads written writes words source source' sink sink' number =
    (status : Status) × (number ≡ exit_number status) × Runs left reads written writes words source source' sink sink' status
