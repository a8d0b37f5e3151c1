-- What a peer in memory shows.
use Rattle.std.specs.Prelude.{ℕ, ◌+◌, ◌<◌, ◌-◌, ◌^◌, ◌⊎◌, min, List, [], ◌∷◌, drop, length, Contains}
use Rattle.std.specs.Borrow.{GName}
use Rattle.pks_terms.specs.declared.limits.TheConstants.{LONGEST_LINE}
use Rattle.pks_terms.specs.Printed.{Text}
use Rattle.pks_agent.specs.Rooms.{texts_in}
use Rattle.pks_agent.specs.declared.memory.MemPeer.{MemPeer}

-- the text said so far
abbrev pub peer_text : MemPeer → Text
peer_text x = x.text.items

-- the answers that are left
abbrev pub peer_answers : MemPeer → List Text
peer_answers x = drop x.taken (texts_in x.answers)

-- the calls that fail, by their numbers from 1
abbrev pub peer_failing : MemPeer → List ℕ
peer_failing x = x.failing.items

-- how many calls were made
abbrev pub peer_calls : MemPeer → ℕ
peer_calls x = x.calls

-- how often sending has failed
abbrev pub peer_sends : MemPeer → ℕ
peer_sends x = x.sends

-- how often receiving has failed
abbrev pub peer_receipts : MemPeer → ℕ
peer_receipts x = x.receipts

-- it borrows nothing
abbrev pub peer_kept : MemPeer → List GName
peer_kept x = []

-- the number of the next call
abbrev pub next_call : ℕ → ℕ
next_call calls = min (calls + 1) (2 ^ 32 - 1)

-- a call fails where it is listed, where its line has more than 8,192 bytes, and from call 97 on
abbrev pub Fails : List ℕ → ℕ → Text → Type 0
Fails failing call line = Contains failing call ⊎ ((LONGEST_LINE < length line) ⊎ (96 < call))

-- a count that rises, up to its end
abbrev pub raised : ℕ → ℕ
raised n = min (n + 1) (2 ^ 64 - 1)

-- up to call 96 no call fails where none is listed
abbrev pub sure_calls : List ℕ → ℕ → ℕ
sure_calls [] calls = 96 - calls
sure_calls (n ∷ failing) calls = 0

-- how many more calls don't fail, whatever short lines they say
abbrev pub peer_sure : MemPeer → ℕ
peer_sure x = sure_calls x.failing.items x.calls
