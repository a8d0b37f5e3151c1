-- What a peer says and hears.
use Rattle.std.specs.Prelude.{ℕ, ◌≡◌, ◌≤◌, ◌<◌, ◌+◌, ◌⊎◌, List, [], ◌∷◌, ◌++◌, length, Option, Some, None, Result, Ok, Err, IfErr, OnOk, OnErr}
use Rattle.pks_terms.specs.declared.limits.TheConstants.{LONGEST_LINE}
use Rattle.pks_io.specs.Causes.{Rose}
use Rattle.pks_terms.specs.Printed.{Text}
use Rattle.pks_agent.specs.declared.peers.Heard.{Heard}
use Rattle.pks_agent.specs.declared.peers.Heard.TheVariants.{Line, Long, End}
use Rattle.pks_agent.specs.declared.peers.PeerFault.{PeerFault}
use Rattle.pks_agent.specs.declared.peers.PeerFault.TheVariants.{Send, Receive}

-- where the answers that are left are told, they stay
abbrev pub Stay : Option (List Text) → Option (List Text) → Type 0
Stay None new = Unit {0}
Stay (Some answers) new = new ≡ Some answers

-- where they are told, the next of them was taken, and this is it
abbrev pub TakesNext : Option (List Text) → Option (List Text) → Text → Type 0
TakesNext None new answer = Unit {0}
TakesNext (Some []) new answer = ⊥
TakesNext (Some (next ∷ rest)) new answer = (answer ≡ next) × (new ≡ Some rest)

-- the answer was taken, or a front of it, so that its end stands before the others
abbrev pub LeavesEnd : Text → List Text → Option (List Text) → Type 0
LeavesEnd answer others left = (left ≡ Some others) ⊎ ((front : Text) × (end : Text) × (answer ≡ front ++ end) × (left ≡ Some (end ∷ others)))

-- an answer that isn't fit was taken, or a front of it where it has more than 64 bytes
abbrev pub LeavesBehindUnfit : Text → List Text → Option (List Text) → Type 0
LeavesBehindUnfit answer others left = (left ≡ Some others) ⊎ ((64 < length answer) × LeavesEnd answer others left)

-- where they are told, the next of them has more than 64 bytes, and was taken, or a front of it
abbrev pub CutsLong : Option (List Text) → Option (List Text) → Type 0
CutsLong None new = Unit {0}
CutsLong (Some []) new = ⊥
CutsLong (Some (next ∷ rest)) new = (64 < length next) × LeavesEnd next rest new

-- where they are told, none is left
abbrev pub IsNoneLeft : Option (List Text) → Option (List Text) → Type 0
IsNoneLeft None new = Unit {0}
IsNoneLeft (Some answers) new = (answers ≡ []) × (new ≡ Some [])

-- what came of a question: the next answer was taken, is too long, or is missing; where sending failed the answers stay
abbrev pub Hears : Option (List Text) → Option (List Text) → Text → Result Heard PeerFault → Type 0
Hears old new answer (Ok Line) = TakesNext old new answer
Hears old new answer (Ok Long) = CutsLong old new
Hears old new answer (Ok End) = IsNoneLeft old new
Hears old new answer (Err Send) = Stay old new
Hears old new answer (Err Receive) = Unit {0}

-- where sending failed, these are the answers that are left
abbrev pub StayBehind : PeerFault → List Text → Option (List Text) → Type 0
StayBehind Send answers left = left ≡ Some answers
StayBehind Receive answers left = Unit {0}

-- the count of such faults rose
abbrev pub FaultRose : ℕ → ℕ → ℕ → ℕ → PeerFault → Type 0
FaultRose sends sends' receipts receipts' Send = Rose sends sends'
FaultRose sends sends' receipts receipts' Receive = Rose receipts receipts'

-- both counts stand still
abbrev pub BothStand : ℕ → ℕ → ℕ → ℕ → Type 0
BothStand sends sends' receipts receipts' = (sends' ≡ sends) × (receipts' ≡ receipts)

-- the count of the other faults stands still
abbrev pub OtherStands : ℕ → ℕ → ℕ → ℕ → PeerFault → Type 0
OtherStands sends sends' receipts receipts' Send = receipts' ≡ receipts
OtherStands sends sends' receipts receipts' Receive = sends' ≡ sends

-- neither count of faults falls, each fault comes only where its count rose, and a count stands still else
pub record HasPeerCause {X : Type 0} (sends sends' receipts receipts' : ℕ) (result : Result X PeerFault) : Type 0 where
  pub later_sends : sends ≤ sends'
  pub later_receipts : receipts ≤ receipts'
  pub risen : IfErr result (FaultRose sends sends' receipts receipts')
  pub still : OnOk result (BothStand sends sends' receipts receipts')
  pub other : IfErr result (OtherStands sends sends' receipts receipts')

-- of the calls that surely don't fail this one was taken; where it failed its line has more than 8,192 bytes, or there was none
pub record IsServed {X : Type 0} (sure sure' : ℕ) (text : Text) (result : Result X PeerFault) : Type 0 where
  pub well : OnOk result (sure ≤ sure' + 1)
  pub failed : OnErr result (length text ≤ LONGEST_LINE → sure ≡ 0)
