-- The next of the answers in memory.
use Rattle.std.proofs.Common.{◌≡◌, ◌<◌, ◌≤◌, inl, inr, ℕ, ◌+◌, ◌-◌, ◌^◌, zero, suc, List, [], ◌∷◌, length, drop, slice_index_or, Vec, Result, Err, refl, sym, ap, ◌∙◌, subst, add-one, arith}
use Rattle.std.proofs.Math.Nat.{min-le_left}
use Rattle.std.specs.declared.alloc.Global.{Global}
use Rattle.pks_terms.specs.Printed.{Text}
use Rattle.pks_terms.specs.Talk.{Talked}
use Rattle.pks_exec.specs.declared.runs.End.{End}
use Rattle.pks_agent.specs.declared.memory.MemPeer.{MemPeer}
use Rattle.pks_agent.specs.declared.peers.PeerFault.{PeerFault}
use Rattle.pks_agent.specs.declared.ends.TalkEnd.{TalkEnd as Stop}
use Rattle.pks_agent.specs.declared.ends.TalkEnd.TheVariants.{Failed}
use Rattle.pks_agent.specs.Bounds.{IsShortTalk}
use Rattle.pks_agent.specs.Leading.{IsSafe}
use Rattle.pks_agent.specs.Memory.{peer_failing, peer_calls, peer_sure, next_call, Fails, sure_calls}
use Rattle.pks_agent.specs.Rooms.{texts_in}

next_from : (texts : List (Vec ℕ Global)) (i : ℕ) (text : Vec ℕ Global) → i < length texts → text ≡ slice_index_or texts i text → drop i (texts_in texts) ≡ text.items ∷ drop (suc i) (texts_in texts)
next_from [] i text h e = absurd (omega (arith, h))
next_from (x ∷ xs) zero text h e = ap (λ (y : Vec ℕ Global). y.items ∷ texts_in xs) (sym e)
next_from (x ∷ xs) (suc i) text h e = next_from xs i text (omega (arith, h)) e

-- it, and those behind it
pub next_is : (texts : List (Vec ℕ Global)) (i : ℕ) (text : Vec ℕ Global) → i < length texts → text ≡ slice_index_or texts i text → drop i (texts_in texts) ≡ text.items ∷ drop (i + 1) (texts_in texts)
next_is texts i text h e = next_from texts i text h e ∙ ap (λ n. text.items ∷ drop n (texts_in texts)) (sym (add-one i))

-- ---- calls that surely don't fail

one_fewer : (failing : List ℕ) (calls : ℕ) → sure_calls failing calls ≤ sure_calls failing (next_call calls) + 1
one_fewer [] calls = let next : next_call calls ≤ calls + 1 = min-le_left (calls + 1) (2 ^ 32 - 1) in omega (arith, next)
one_fewer (n ∷ failing) calls = omega arith

pub served_well : (failing failing' : List ℕ) (calls calls' : ℕ) → failing' ≡ failing → calls' ≡ next_call calls → sure_calls failing calls ≤ sure_calls failing' calls' + 1
served_well failing failing' calls calls' same next =
    subst (λ fs. sure_calls failing calls ≤ sure_calls fs calls' + 1) (sym same) (subst (λ n. sure_calls failing calls ≤ sure_calls failing n + 1) (sym next) (one_fewer failing calls))

pub served_not : (failing : List ℕ) (calls : ℕ) (text : Text) → Fails failing (next_call calls) text → length text ≤ 8192 → sure_calls failing calls ≡ 0
served_not [] calls text (inl (k, few, same)) short = absurd (omega (arith, few))
served_not [] calls text (inr (inl long)) short = absurd (omega (arith, long, short))
served_not [] calls text (inr (inr late)) short = let next : next_call calls ≤ calls + 1 = min-le_left (calls + 1) (2 ^ 32 - 1) in omega (arith, next, late)
served_not (n ∷ failing) calls text fails short = refl

-- 81 calls are sure
pub never_fails : (x : MemPeer) (result : Result End Stop) (talked : Talked) → peer_failing x ≡ [] → peer_calls x ≤ 15 → IsShortTalk talked → IsSafe (peer_sure x) result talked → (fault : PeerFault) → result ≡ Err (Failed fault) → ⊥
never_fails x result talked none few short safe fault e =
    let sure : peer_sure x ≡ 96 - peer_calls x = ap (λ failing. sure_calls failing (peer_calls x)) none in
    let failed : IsSafe (peer_sure x) (Err (Failed fault)) talked = subst (λ r. IsSafe (peer_sure x) r talked) e safe in
    let more = failed short.each in
    omega (arith, sure, few, short.lines, more)
