-- Each text runs to its end or to a first fault, and in one way alone.
use Rattle.std.proofs.Common.{◌≡◌, ℕ, zero, suc, ◌<◌, ◌≤◌, ◌+◌, ◌-◌, nat_lt, false, cond, List, [], ◌∷◌, length, Option, Some, None, refl, sym, ◌∙◌, ap, subst, arith}
use Rattle.std.specs.Option.{option_map_or}
use Rattle.std.proofs.lemmas.Bool.{cond-false}
use Rattle.std.proofs.lemmas.Bool.Decides.{nat_tests}
use Rattle.pks_text.specs.Gaps.{IsOnlyGap}
use Rattle.pks_text.specs.Forms.{Mark, Said, Opens, Closes, mark_end, Begins, SpellsFrom}
use Rattle.pks_text.specs.Faults.{opened, Stops, StopsAfter}
use Rattle.pks_text.specs.declared.tree.FormFault.{FormFault}
use Rattle.pks_text.specs.declared.tree.FormFault.TheVariants.{BadByte, Unclosed, Unopened, TooDeep, Memory}
use Rattle.pks_text.proofs.Classes.{Next, at_end, at_bad, at_part}
use Rattle.pks_text.proofs.Marks.{ahead, ahead_gap, ahead_bad, ahead_mark, Comes, comes, shorter}

-- the text that stands at a place, within open lists, is over: by a fault, or with no list open
abbrev pub IsOver : List ℕ → List ℕ → ℕ → Option FormFault → Type 0
IsOver ps text at None = IsOnlyGap text × (ps ≡ [])
IsOver ps text at (Some fault) = Stops ps text at fault

-- so it is behind these tokens, none of which is a fault
abbrev pub RunsTo : List ℕ → List ℕ → ℕ → List Mark → Option FormFault → Type 0
RunsTo ps text at [] o = IsOver ps text at o
RunsTo ps text at (m ∷ ms) o = (rest : List ℕ) × (now : List ℕ) × Begins text at m rest × (opened ps m ≡ Some now) × RunsTo now rest (mark_end m) ms o

pub stops_after : (ms : List Mark) (ps text : List ℕ) (at : ℕ) (f : FormFault) → RunsTo ps text at ms (Some f) → StopsAfter ps text at ms f
stops_after [] ps text at f r = r
stops_after (m ∷ ms) ps text at f r = (r.0, r.1, r.2, r.3, stops_after ms r.1 r.0 (mark_end m) f r.4)

pub runs_after : (ms : List Mark) (ps text : List ℕ) (at : ℕ) (f : FormFault) → StopsAfter ps text at ms f → RunsTo ps text at ms (Some f)
runs_after [] ps text at f s = s
runs_after (m ∷ ms) ps text at f s = (s.0, s.1, s.2, s.3, runs_after ms s.1 s.0 (mark_end m) f s.4)

pub spells_after : (ms : List Mark) (ps text : List ℕ) (at : ℕ) → RunsTo ps text at ms None → SpellsFrom text at ms
spells_after [] ps text at r = r.0
spells_after (m ∷ ms) ps text at r = (r.0, r.2, spells_after ms r.1 r.0 (mark_end m) r.4)

-- ---- in one way alone

-- the text is over, or goes on with this token, and this and these lists are left
pub data Verdict : Type 0 where
  over : Option FormFault → Verdict
  goes : (m : Mark) → (rest now : List ℕ) → Verdict

-- the fault that a token is which opens or closes nothing
abbrev refused : Mark → FormFault
refused (Said text at) = Memory
refused (Opens at) = TooDeep at
refused (Closes end) = Unopened (end - 1)

abbrev verdict : ℕ → Next Mark → List ℕ → Verdict
verdict at at_end [] = over None
verdict at at_end (p ∷ ps) = over (Some (Unclosed p))
verdict at (at_bad n) ps = over (Some (BadByte (at + n)))
verdict at (at_part m rest) ps = option_map_or (λ now. goes m rest now) (opened ps m) (over (Some (refused m)))

too_deep : (ps : List ℕ) (p : ℕ) → 12 ≤ length ps → opened ps (Opens p) ≡ None
too_deep ps p deep = cond-false (nat_lt (length ps) 12) (Some (p ∷ ps)) None (full (length ps) deep)
  where
    full : (n : ℕ) → 12 ≤ n → nat_lt n 12 ≡ false
    full n le = grind (arith, nat_tests)

judged : (at : ℕ) (m : Mark) (rest ps : List ℕ) (o : Option (List ℕ)) → opened ps m ≡ o → verdict at (at_part m rest) ps ≡ option_map_or (λ now. goes m rest now) o (over (Some (refused m)))
judged at m rest ps o e = ap (λ (o : Option (List ℕ)). option_map_or (λ now. goes m rest now) o (over (Some (refused m)))) e

over_is : (ps text : List ℕ) (at : ℕ) (o : Option FormFault) → IsOver ps text at o → verdict at (ahead text at) ps ≡ over o
over_is ps text at None s = λ i. verdict at (ahead_gap text at s.0 i) (s.1 i)
over_is ps text at (Some (BadByte p)) s = ap (λ (n : Next Mark). verdict at n ps) (ahead_bad text at s.0 s.1) ∙ ap (λ (k : ℕ). over (Some (BadByte k))) (sym s.2)
over_is ps text at (Some (Unclosed p)) s = λ i. verdict at (ahead_gap text at s.0 i) (s.1.1 i)
over_is ps text at (Some (Unopened p)) s =
    let place : p + 1 - 1 ≡ p = omega arith in
    (λ i. verdict at (ahead_mark text at (Closes (p + 1)) s.0 s.1 i) (s.2 i)) ∙ ap (λ (k : ℕ). over (Some (Unopened k))) place
over_is ps text at (Some (TooDeep p)) s =
    ap (λ (n : Next Mark). verdict at n ps) (ahead_mark text at (Opens p) s.0 s.1) ∙ judged at (Opens p) s.0 ps None (too_deep ps p s.2)
over_is ps text at (Some Memory) s = absurd s

goes_is : (ps text : List ℕ) (at : ℕ) (m : Mark) (rest now : List ℕ) → Begins text at m rest → opened ps m ≡ Some now → verdict at (ahead text at) ps ≡ goes m rest now
goes_is ps text at m rest now b e = ap (λ (n : Next Mark). verdict at n ps) (ahead_mark text at m rest b) ∙ judged at m rest ps (Some now) e

over_same : {v : Verdict} {o q : Option FormFault} → v ≡ over o → v ≡ over q → o ≡ q
over_same e f = cc

over_goes : {v : Verdict} {o : Option FormFault} {m : Mark} {rest now : List ℕ} → v ≡ over o → v ≡ goes m rest now → ⊥
over_goes e f = cc

abbrev Later : List Mark → Option FormFault → Verdict → Type 0
Later ms o (over q) = Unit {0}
Later ms o (goes m rest now) = RunsTo now rest (mark_end m) ms o

pub one_run : (ms ns : List Mark) (ps text : List ℕ) (at : ℕ) (o q : Option FormFault) → RunsTo ps text at ms o → RunsTo ps text at ns q → o ≡ q
one_run [] [] ps text at o q a b = over_same (over_is ps text at o a) (over_is ps text at q b)
one_run [] (n ∷ ns) ps text at o q a b = absurd (over_goes (over_is ps text at o a) (goes_is ps text at n b.0 b.1 b.2 b.3))
one_run (m ∷ ms) [] ps text at o q a b = absurd (over_goes (over_is ps text at q b) (goes_is ps text at m a.0 a.1 a.2 a.3))
one_run (m ∷ ms) (n ∷ ns) ps text at o q a b =
    let same = sym (goes_is ps text at n b.0 b.1 b.2 b.3) ∙ goes_is ps text at m a.0 a.1 a.2 a.3 in
    one_run ms ns a.1 a.0 (mark_end m) o q a.4 (subst (Later ns q) same b.4)

-- ---- each text

abbrev Run : List ℕ → List ℕ → ℕ → Type 0
Run ps text at = (ms : List Mark) × (o : Option FormFault) × RunsTo ps text at ms o

some_none : {ps : List ℕ} → Some ps ≡ None → ⊥
some_none e = cc

-- a token that opens or closes nothing is a fault
turns_away : (ps text : List ℕ) (at : ℕ) (m : Mark) (rest : List ℕ) → Begins text at m rest → opened ps m ≡ None → (f : FormFault) × Stops ps text at f
turns_away ps text at (Said w p) rest b e = absurd (some_none e)
turns_away ps text at (Opens p) rest b e = (TooDeep p, (rest, b, deep (length ps) e))
  where
    deep : (n : ℕ) → cond (nat_lt n 12) (Some (p ∷ ps)) None ≡ None → 12 ≤ n
    deep n e = grind (arith, nat_tests)
turns_away [] text at (Closes end) rest b e =
    let behind : end ≡ end - 1 + 1 = omega (arith, b.placed) in
    (Unopened (end - 1), (rest, subst (λ (n : ℕ). Begins text at (Closes n) rest) behind b, refl))
turns_away (p ∷ ps) text at (Closes end) rest b e = absurd (some_none e)

-- all shorter texts run to an end
abbrev Shorter : ℕ → Type 0
Shorter n = (ps text : List ℕ) (at : ℕ) → length text < n → Run ps text at

run_on : (n : ℕ) → Shorter n → (ps text : List ℕ) (at : ℕ) → length text < suc n → (a : Next Mark) → Comes text at a → Run ps text at
run_on n later [] text at short at_end gap = ([], None, (gap, refl))
run_on n later (p ∷ ps) text at short at_end gap = ([], Some (Unclosed p), (gap, (ps, refl)))
run_on n later ps text at short (at_bad k) bad = ([], Some (BadByte (at + k)), (k, bad, refl))
run_on n later ps text at short (at_part m rest) b = elim (opened ps m) as (λ o. opened ps m ≡ o → Run ps text at) [
  | Some now ↦ λ e.
      let fewer : length rest < n = omega (arith, shorter text at m rest b) in
      let run = later now rest (mark_end m) fewer in
      (m ∷ run.0, run.1, (rest, now, b, e, run.2))
  | None ↦ λ e. let away = turns_away ps text at m rest b e in ([], Some away.0, away.1)
] refl

pub runs : (n : ℕ) → Shorter n
runs zero = λ ps text at short. absurd (omega arith)
runs (suc n) = λ ps text at short. run_on n (runs n) ps text at short (ahead text at) (comes text at)
