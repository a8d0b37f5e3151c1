-- Faults and their causes, one part of a dialogue after another.
use Rattle.std.proofs.Common.{ℕ, ◌+◌, ◌-◌, ◌^◌, ◌≤◌, min, Result, Ok, Err, refl, ◌∙◌, arith}
use Rattle.std.proofs.Math.Nat.{min-le_left, min-le_right, le-min}
use Rattle.pks_agent.specs.Hearing.{FaultRose, BothStand, OtherStands, HasPeerCause}
use Rattle.pks_agent.specs.Leading.{EndRose, EndStands, HasTalkCause}
use Rattle.pks_agent.specs.declared.peers.PeerFault.{PeerFault}
use Rattle.pks_agent.specs.declared.peers.PeerFault.TheVariants.{Send, Receive}
use Rattle.pks_agent.specs.declared.ends.TalkEnd.{TalkEnd}
use Rattle.pks_agent.specs.declared.ends.TalkEnd.TheVariants.{Misfit, Silent, Failed}

-- a count that rose later rose
rose_later : (a b c most : ℕ) → a ≤ b → min (b + 1) most ≤ c → min (a + 1) most ≤ c
rose_later a b c most h rose =
    let first : min (a + 1) most ≤ a + 1 = min-le_left (a + 1) most in
    let second : min (a + 1) most ≤ most = min-le_right (a + 1) most in
    let third : min (a + 1) most ≤ b + 1 = omega (arith, first, h) in
    let fourth : min (a + 1) most ≤ min (b + 1) most = le-min third second in
    omega (arith, fourth, rose)

fault_later : (s s' s'' r r' r'' : ℕ) (fault : PeerFault) → s ≤ s' → r ≤ r' → FaultRose s' s'' r' r'' fault → FaultRose s s'' r r'' fault
fault_later s s' s'' r r' r'' Send a b rose = rose_later s s' s'' (2 ^ 64 - 1) a rose
fault_later s s' s'' r r' r'' Receive a b rose = rose_later r r' r'' (2 ^ 64 - 1) b rose

end_later : (s s' s'' r r' r'' : ℕ) (end : TalkEnd) → s ≤ s' → r ≤ r' → EndRose s' s'' r' r'' end → EndRose s s'' r r'' end
end_later s s' s'' r r' r'' (Misfit k) a b rose = tt
end_later s s' s'' r r' r'' (Silent k) a b rose = tt
end_later s s' s'' r r' r'' (Failed fault) a b rose = fault_later s s' s'' r r' r'' fault a b rose

both_later : (s s' s'' r r' r'' : ℕ) → BothStand s s' r r' → BothStand s' s'' r' r'' → BothStand s s'' r r''
both_later s s' s'' r r' r'' a b = (b.0 ∙ a.0, b.1 ∙ a.1)

other_later : (s s' s'' r r' r'' : ℕ) (fault : PeerFault) → BothStand s s' r r' → OtherStands s' s'' r' r'' fault → OtherStands s s'' r r'' fault
other_later s s' s'' r r' r'' Send a b = b ∙ a.1
other_later s s' s'' r r' r'' Receive a b = b ∙ a.0

stands_later : (s s' s'' r r' r'' : ℕ) (end : TalkEnd) → BothStand s s' r r' → EndStands s' s'' r' r'' end → EndStands s s'' r r'' end
stands_later s s' s'' r r' r'' (Misfit k) a b = both_later s s' s'' r r' r'' a b
stands_later s s' s'' r r' r'' (Silent k) a b = both_later s s' s'' r r' r'' a b
stands_later s s' s'' r r' r'' (Failed fault) a b = other_later s s' s'' r r' r'' fault a b

-- one part after another
pub cause_behind : {X Y : Type 0} (s s' s'' r r' r'' : ℕ) (x : X) (result : Result Y TalkEnd) → HasTalkCause {X = X} s s' r r' (Ok x) → HasTalkCause s' s'' r' r'' result → HasTalkCause s s'' r r'' result
cause_behind s s' s'' r r' r'' x (Ok y) a b = record {
  later_sends = omega (arith, a.later_sends, b.later_sends);
  later_receipts = omega (arith, a.later_receipts, b.later_receipts);
  risen = tt;
  still = both_later s s' s'' r r' r'' a.still b.still;
  other = tt;
}
cause_behind s s' s'' r r' r'' x (Err end) a b = record {
  later_sends = omega (arith, a.later_sends, b.later_sends);
  later_receipts = omega (arith, a.later_receipts, b.later_receipts);
  risen = end_later s s' s'' r r' r'' end a.later_sends a.later_receipts b.risen;
  still = tt;
  other = stands_later s s' s'' r r' r'' end a.still b.other;
}

-- an end, whatever would have come of the part
pub cause_ends : {X Y : Type 0} (s s' r r' : ℕ) (end : TalkEnd) → HasTalkCause {X = X} s s' r r' (Err end) → HasTalkCause {X = Y} s s' r r' (Err end)
cause_ends s s' r r' end a = record { later_sends = a.later_sends; later_receipts = a.later_receipts; risen = a.risen; still = tt; other = a.other }

-- an answer that was taken and isn't fit
pub cause_unfit : {X Y : Type 0} (s s' r r' : ℕ) (x : X) (k : ℕ) → HasTalkCause {X = X} s s' r r' (Ok x) → HasTalkCause {X = Y} s s' r r' (Err (Misfit k))
cause_unfit s s' r r' x k a = record { later_sends = a.later_sends; later_receipts = a.later_receipts; risen = tt; still = tt; other = a.still }

-- what came of a call of the peer
pub cause_well : {X Y : Type 0} (s s' r r' : ℕ) (x : X) (y : Y) → HasPeerCause {X = X} s s' r r' (Ok x) → HasTalkCause {X = Y} s s' r r' (Ok y)
cause_well s s' r r' x y a = record { later_sends = a.later_sends; later_receipts = a.later_receipts; risen = tt; still = a.still; other = tt }

pub cause_misfit : {X Y : Type 0} (s s' r r' : ℕ) (x : X) (k : ℕ) → HasPeerCause {X = X} s s' r r' (Ok x) → HasTalkCause {X = Y} s s' r r' (Err (Misfit k))
cause_misfit s s' r r' x k a = record { later_sends = a.later_sends; later_receipts = a.later_receipts; risen = tt; still = tt; other = a.still }

pub cause_silent : {X Y : Type 0} (s s' r r' : ℕ) (x : X) (k : ℕ) → HasPeerCause {X = X} s s' r r' (Ok x) → HasTalkCause {X = Y} s s' r r' (Err (Silent k))
cause_silent s s' r r' x k a = record { later_sends = a.later_sends; later_receipts = a.later_receipts; risen = tt; still = tt; other = a.still }

pub cause_failed : {X Y : Type 0} (s s' r r' : ℕ) (fault : PeerFault) → HasPeerCause {X = X} s s' r r' (Err fault) → HasTalkCause {X = Y} s s' r r' (Err (Failed fault))
cause_failed s s' r r' fault a = record { later_sends = a.later_sends; later_receipts = a.later_receipts; risen = a.risen; still = tt; other = a.other }

-- nothing happened
pub cause_still : {X : Type 0} (s r : ℕ) (x : X) → HasTalkCause {X = X} s s r r (Ok x)
cause_still s r x = record { later_sends = omega arith; later_receipts = omega arith; risen = tt; still = (refl, refl); other = tt }
