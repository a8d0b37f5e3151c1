-- One question and its answer.
use Rattle.std.specs.Prelude.{ℕ, ◌≡◌, ◌≤◌, ◌<◌, ◌+◌, List, [], ◌∷◌, map, length, Vec, vec_len, vec_capacity, Some, Result, Ok, Err, IfSome}
use Rattle.std.specs.Io.KnownBytes.{Appends}
use Rattle.std.specs.declared.alloc.Global.{Global}
use Rattle.pks_io.specs.Writing.{AppendsFront}
use Rattle.pks_terms.specs.Printed.{Text, line}
use Rattle.pks_terms.specs.Sets.{Each}
use Rattle.pks_terms.specs.Views.{inner_of}
use Rattle.pks_terms.specs.declared.term.Inner.{Inner as DInner}
use Rattle.pks_agent.specs.Hearing.{LeavesEnd, StayBehind}
use Rattle.pks_agent.specs.Rooms.{argument_count, IsSpoken}
use Rattle.pks_agent.specs.Leading.{HasTalkCause, TalkServed, Moment}
use Rattle.pks_agent.specs.declared.ends.TalkEnd.{TalkEnd}
use Rattle.pks_agent.specs.declared.ends.TalkEnd.TheVariants.{Misfit, Silent, Failed}

-- its line was said, and the next answer was taken, is too long, or is missing; after a fault a front of the line was said, and where sending failed the answers stay
abbrev pub Answered : {X : Type 0} → Moment → Moment → Text → ℕ → Text → Result X TalkEnd → List Text → Type 0
Answered m m' question k answer (Ok x) [] = ⊥
Answered m m' question k answer (Ok x) (next ∷ rest) = (answer ≡ next) × Appends m.said m'.said (line question) × (m'.answers ≡ Some rest)
Answered m m' question k answer (Err (Misfit j)) [] = ⊥
Answered m m' question k answer (Err (Misfit j)) (next ∷ rest) = (j ≡ k) × (64 < length next) × Appends m.said m'.said (line question) × LeavesEnd next rest m'.answers
Answered m m' question k answer (Err (Silent j)) [] = (j ≡ k) × Appends m.said m'.said (line question) × (m'.answers ≡ Some [])
Answered m m' question k answer (Err (Silent j)) (next ∷ rest) = ⊥
Answered m m' question k answer (Err (Failed fault)) answers = AppendsFront m.said m'.said (line question) × StayBehind fault answers m'.answers

-- the question was asked so, a fault has its cause, and the peer borrows the same places
pub record IsAsked {X : Type 0} (m m' : Moment) (question : Text) (k : ℕ) (answer : Text) (result : Result X TalkEnd) : Type 0 where
  pub answered : IfSome m.answers (Answered m m' question k answer result)
  pub cause : HasTalkCause m.sends m'.sends m.receipts m'.receipts result
  pub served : TalkServed m.sure m'.sure question result
  pub kept : m'.kept ≡ m.kept

-- the arguments were added to those before them, each as it is spoken, within the same room, and the next answer has this number
pub record HasTold (ts : List DInner) (k next : ℕ) (old new : Vec DInner Global) : Type 0 where
  pub next_is : next ≡ k + argument_count (map inner_of ts)
  pub few : next ≤ k + length ts
  pub spoken : Each IsSpoken (map inner_of new.items)
  pub count : vec_len new ≡ vec_len old + length ts
  pub room : vec_capacity new ≡ vec_capacity old
