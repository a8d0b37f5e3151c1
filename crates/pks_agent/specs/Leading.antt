-- How a dialogue over a peer is led.
use Rattle.std.specs.Prelude.{ℕ, ◌≡◌, ◌≤◌, ◌<◌, ◌+◌, List, [], ◌∷◌, ◌++◌, drop, length, Option, Some, Result, Ok, Err, IfSome, IfErr, OnOk}
use Rattle.std.specs.Borrow.{GName}
use Rattle.std.specs.List.{flat_map}
use Rattle.std.specs.Io.KnownBytes.{Appends}
use Rattle.pks_io.specs.Writing.{AppendsFront}
use Rattle.pks_terms.specs.Sets.{Each}
use Rattle.pks_terms.specs.Syntax.{Inner}
use Rattle.pks_terms.specs.Actions.{Instance}
use Rattle.pks_terms.specs.Signatures.{Signature}
use Rattle.pks_terms.specs.Printed.{Text, Names, line}
use Rattle.pks_terms.specs.Talk.{Talked, Over, Unfit, Missing, Said, Statement, said_text, talked_text, GoesOn, saying, asking_each, do_text}
use Rattle.pks_exec.specs.Runs.{ending_of}
use Rattle.pks_exec.specs.declared.runs.End.{End}
use Rattle.pks_agent.specs.Bounds.{IsShortLine, asked_in}
use Rattle.pks_agent.specs.Hearing.{LeavesBehindUnfit, FaultRose, BothStand, OtherStands}
use Rattle.pks_agent.specs.declared.ends.TalkEnd.{TalkEnd}
use Rattle.pks_agent.specs.declared.ends.TalkEnd.TheVariants.{Misfit, Silent, Failed}
use Rattle.pks_agent.specs.declared.peers.PeerFault.TheVariants.{Send, Receive}

-- one of the answers isn't fit: it was taken, or a front of it where it is too long, and the others stand behind it
abbrev pub LeavesUnfit : List Text → List Text → Option (List Text) → Type 0
LeavesUnfit answers others left = (given : List Text) × (unfit : Text) × (answers ≡ given ++ unfit ∷ others) × LeavesBehindUnfit unfit others left

-- sending failed at a line: those before it were said, of itself a front, and the answers that are left are those that the lines before it didn't ask for
pub record BreaksOff (old new : Option Text) (answers : List Text) (left : Option (List Text)) (talked : Talked) : Type 0 where
  pub before : List Said
  pub said : Said
  pub after : List Said
  pub lines : talked.lines ≡ before ++ said ∷ after
  pub mid : Option Text
  pub whole : Appends old mid (flat_map (λ x. line (said_text x)) before)
  pub front : AppendsFront mid new (line (said_text said))
  pub stay : left ≡ Some (drop (asked_in before) answers)

-- what a dialogue said and how it ended, by the text said before and after and by the answers before and those that are left: its lines, or after a fault a front of them
abbrev pub Led : Option Text → Option Text → List Text → Option (List Text) → Result End TalkEnd → Talked → Type 0
Led old new answers left (Ok end) talked = (talked.end ≡ Over (ending_of end)) × Appends old new (talked_text talked) × (left ≡ Some talked.left)
Led old new answers left (Err (Misfit k)) talked = (talked.end ≡ Unfit k) × Appends old new (talked_text talked) × LeavesUnfit answers talked.left left
Led old new answers left (Err (Silent k)) talked = (talked.end ≡ Missing k) × Appends old new (talked_text talked) × (left ≡ Some [])
Led old new answers left (Err (Failed Send)) talked = BreaksOff old new answers left talked
Led old new answers left (Err (Failed Receive)) talked = AppendsFront old new (talked_text talked)

-- where the peer failed, the count of such faults rose
abbrev pub EndRose : ℕ → ℕ → ℕ → ℕ → TalkEnd → Type 0
EndRose sends sends' receipts receipts' (Misfit k) = Unit {0}
EndRose sends sends' receipts receipts' (Silent k) = Unit {0}
EndRose sends sends' receipts receipts' (Failed fault) = FaultRose sends sends' receipts receipts' fault

-- where it didn't fail, both counts stand still, and where it failed that of the other faults
abbrev pub EndStands : ℕ → ℕ → ℕ → ℕ → TalkEnd → Type 0
EndStands sends sends' receipts receipts' (Misfit k) = BothStand sends sends' receipts receipts'
EndStands sends sends' receipts receipts' (Silent k) = BothStand sends sends' receipts receipts'
EndStands sends sends' receipts receipts' (Failed fault) = OtherStands sends sends' receipts receipts' fault

-- neither count of faults falls, each fault comes only where its count rose, and a count stands still else
pub record HasTalkCause {X : Type 0} (sends sends' receipts receipts' : ℕ) (result : Result X TalkEnd) : Type 0 where
  pub later_sends : sends ≤ sends'
  pub later_receipts : receipts ≤ receipts'
  pub risen : IfErr result (EndRose sends sends' receipts receipts')
  pub still : OnOk result (BothStand sends sends' receipts receipts')
  pub other : IfErr result (EndStands sends sends' receipts receipts')

-- where the peer failed, a line of the dialogue has more than 8,192 bytes, or it has more lines than calls that surely don't fail
abbrev pub IsSafe : ℕ → Result End TalkEnd → Talked → Type 0
IsSafe sure (Ok end) talked = Unit {0}
IsSafe sure (Err (Misfit k)) talked = Unit {0}
IsSafe sure (Err (Silent k)) talked = Unit {0}
IsSafe sure (Err (Failed fault)) talked = Each (λ said. IsShortLine (said_text said)) talked.lines → sure < length talked.lines

-- of the calls that surely don't fail one was taken for the question; where it failed its line has more than 8,192 bytes, or there was none
abbrev pub TalkServed : {X : Type 0} → ℕ → ℕ → Text → Result X TalkEnd → Type 0
TalkServed sure sure' text (Ok x) = sure ≤ sure' + 1
TalkServed sure sure' text (Err (Misfit k)) = Unit {0}
TalkServed sure sure' text (Err (Silent k)) = Unit {0}
TalkServed sure sure' text (Err (Failed fault)) = IsShortLine text → sure ≡ 0

-- ---- parts of a dialogue

-- what a peer tells of itself
pub record Moment : Type 0 where
  pub answers : Option (List Text)
  pub said : Option Text
  pub sends : ℕ
  pub receipts : ℕ
  -- the places that it borrows
  pub kept : List GName
  -- how many more calls surely don't fail, where no line has more than 8,192 bytes
  pub sure : ℕ

-- so of a peer
abbrev pub moment : {P : Type 0} → (P → Option (List Text)) → (P → Option Text) → (P → ℕ) → (P → ℕ) → (P → List GName) → (P → ℕ) → P → Moment
moment answers said sends receipts kept sure peer = record { answers = answers peer; said = said peer; sends = sends peer; receipts = receipts peer; kept = kept peer; sure = sure peer }

-- the dialogue that comes of the answers was led, a fault has its cause, and the peer borrows the same places
pub record IsLed (m m' : Moment) (result : Result End TalkEnd) (talk : List Text → Talked) : Type 0 where
  pub led : IfSome m.answers (λ answers. Led m.said m'.said answers m'.answers result (talk answers))
  pub safe : IfSome m.answers (λ answers. IsSafe m.sure result (talk answers))
  pub cause : HasTalkCause m.sends m'.sends m.receipts m'.receipts result
  pub kept : m'.kept ≡ m.kept

-- where a part ends well, all that is led behind it is led from before it on
abbrev pub LeadsOn : {Y : Type 0} → ((Y → GoesOn) → GoesOn) → ℕ → ℕ → Y → Moment → Moment → Type 0
LeadsOn {Y} part k next y m m' =
    (go : Y → GoesOn) (m'' : Moment) (result : Result End TalkEnd) → IsLed m' m'' result (go y next) → IsLed m m'' result (part go k)

-- where the dialogue ends in the part, it so ends whatever would follow
abbrev pub EndsIn : {Y : Type 0} → ((Y → GoesOn) → GoesOn) → ℕ → TalkEnd → Moment → Moment → Type 0
EndsIn {Y} part k end m m' = (go : Y → GoesOn) → IsLed m m' (Err end) (part go k)

-- the one or the other, the part having told what is made of the result
abbrev pub Leads : {X Y : Type 0} → (X → Y) → ((Y → GoesOn) → GoesOn) → ℕ → ℕ → Result X TalkEnd → Moment → Moment → Type 0
Leads told part k next (Ok x) m m' = LeadsOn part k next (told x) m m'
Leads told part k next (Err end) m m' = EndsIn part k end m m'

-- a line that asks for no answer
abbrev pub stating : Text → GoesOn → GoesOn
stating text go k answers = saying (Statement text) (go k answers)

-- the arguments that are left, behind those before them
abbrev pub each_behind : Signature → Names → List Inner → List Inner → (List Inner → GoesOn) → GoesOn
each_behind s names before ts go = asking_each s names ts (λ us. go (before ++ us))

-- an action: the values of its arguments are asked, and then it is told
abbrev pub doing : Signature → Names → Instance → GoesOn → GoesOn
doing s names i go = asking_each s names i.arguments (λ arguments. stating (do_text names i.action arguments) go)

-- a line was told, the next answer having the number k, or the dialogue ended with it
abbrev pub Tells : {X : Type 0} → Text → ℕ → Result X TalkEnd → Moment → Moment → Type 0
Tells text k result m m' = Leads {Y = Unit {0}} (λ x. tt) (λ go. stating text (go tt)) k k result m m'

-- an action was told behind its questions, or the dialogue ended with one of these lines
abbrev pub Does : {X : Type 0} → Signature → Names → Instance → ℕ → ℕ → Result X TalkEnd → Moment → Moment → Type 0
Does s names i k next result m m' = Leads {Y = Unit {0}} (λ x. tt) (λ go. doing s names i (go tt)) k next result m m'
