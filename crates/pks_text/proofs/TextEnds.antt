-- What was read of a text, and what the answers say of it.
use Rattle.std.proofs.Common.{◌≡◌, ℕ, ◌≤◌, ◌+◌, ◌-◌, List, [], ◌∷◌, ◌++◌, length, drop, Option, Some, None, Result, Ok, Err, IfOk, IfErr, OnOk, IsOk, sym, ◌∙◌, ap, subst, arith, append_assoc, length-append, length-drop, length-take}
use Rattle.std.proofs.lemmas.List.{append-nil}
use Rattle.std.proofs.lemmas.Bool.{false≢true}
use Rattle.std.proofs.lemmas.Option.{none-some}
use Rattle.pks_text.specs.Gaps.{IsOnlyGap}
use Rattle.pks_text.specs.Tokens.{BeginsWith}
use Rattle.pks_text.specs.Reading.{left_of, place_of, source_of, IsSliceOf}
use Rattle.pks_text.specs.Forms.{Mark, mark_end, Begins, forms_marks, Spells, SpellsNoOther}
use Rattle.pks_text.specs.Faults.{opened, IsFirstFault, IsFaultOf, IsAnswered}
use Rattle.pks_text.specs.FormViews.{mark_of, forms_view, IsTurned, IsOpen}
use Rattle.pks_text.specs.declared.tokens.Token.{Token}
use Rattle.pks_text.specs.declared.tokens.Tokens.{Tokens}
use Rattle.pks_text.specs.declared.tokens.LexFault.{LexFault}
use Rattle.pks_text.specs.declared.tree.Forms.{Forms}
use Rattle.pks_text.specs.declared.tree.FormFault.{FormFault}
use Rattle.pks_text.specs.declared.tree.FormFault.TheVariants.{BadByte, Unclosed, Unopened, TooDeep, Memory}
use Rattle.pks_text.proofs.OneReading.{one_forms}
use Rattle.pks_text.proofs.Marks.{as_mark, token_mark, begins_as}
use Rattle.pks_text.proofs.Runs.{RunsTo, stops_after, runs_after, spells_after, one_run}

-- a token that was read, as a mark
pub token_begins : (source : List ℕ) (at now : ℕ) (t : Token) → BeginsWith (drop at source) t.text.now (drop now source) → IsSliceOf source t → at ≤ t.span.start → now ≡ t.span.end
    → Begins (drop at source) at (mark_of t) (drop now source) × (mark_end (mark_of t) ≡ now)
token_begins source at now t begins slice after end =
    let long : length t.text.now ≡ t.span.end - t.span.start = omega (arith, ap length slice.text, length-take (t.span.end - t.span.start) (drop t.span.start source), length-drop t.span.start source, slice.in_order, slice.within) in
    let total : length (drop at source) ≡ length begins.gap + (length t.text.now + length (drop now source)) = omega (arith, ap length begins.split, length-append begins.gap (t.text.now ++ drop now source), length-append t.text.now (drop now source)) in
    let place : at + length begins.gap ≡ t.span.start = omega (arith, long, total, length-drop at source, length-drop now source, slice.in_order, slice.within) in
    let mark : Begins (drop at source) at (mark_of t) (drop now source) = subst (λ (n : ℕ). Begins (drop at source) at (as_mark t.text.now n) (drop now source)) place (begins_as (drop at source) t.text.now (drop now source) at begins) in
    (mark, omega (arith, (token_mark t.text.now (drop now source) t.span.start begins.is_token).end_is, long, slice.in_order))

-- the token that a reader took from one state to the next, as a mark
pub record Taken (old new : Tokens) (t : Token) : Type 0 where
  pub slice : IsSliceOf (source_of old) t
  pub begins : Begins (left_of old) (place_of old) (mark_of t) (left_of new)
  pub place : mark_end (mark_of t) ≡ place_of new

pub taken_token : (old new : Tokens) (r : Result Token LexFault) (t : Token) → r ≡ Ok t → source_of new ≡ source_of old
    → IfOk r (λ t. BeginsWith (left_of old) t.text.now (left_of new)) → IfOk r (IsSliceOf (source_of old)) → IfOk r (λ t. (place_of old ≤ t.span.start) × (place_of new ≡ t.span.end)) → Taken old new t
taken_token old new r t is same token slice rising =
    let begins : BeginsWith (left_of old) t.text.now (left_of new) = rw is at token in
    let from : IsSliceOf (source_of old) t = rw is at slice in
    let places : (place_of old ≤ t.span.start) × (place_of new ≡ t.span.end) = rw is at rising in
    let b = token_begins (source_of old) (place_of old) (place_of new) t (subst (λ (s : List ℕ). BeginsWith (left_of old) t.text.now (drop (place_of new) s)) same begins) from places.0 places.1 in
    record { slice = from; begins = subst (λ (s : List ℕ). Begins (left_of old) (place_of old) (mark_of t) (drop (place_of new) s)) (sym same) b.0; place = b.1 }

-- ---- what was read, and what it leaves

pub record IsRead (source : List ℕ) (ms : List Mark) (ps left : List ℕ) (at : ℕ) : Type 0 where
  pub runs : (more : List Mark) (o : Option FormFault) → RunsTo ps left at more o → RunsTo [] source 0 (ms ++ more) o

pub at_start : (source : List ℕ) → IsRead source [] [] source 0
at_start source = record { runs = λ more o r. r }

module _ {source : List ℕ} {ms : List Mark} {ps left : List ℕ} {at : ℕ} (read : IsRead source ms ps left at) where
  pub taken : (m : Mark) (rest now : List ℕ) → Begins left at m rest → opened ps m ≡ Some now → IsRead source (ms ++ m ∷ []) now rest (mark_end m)
  taken m rest now b e = record {
    runs = λ more o r. subst (λ (all : List Mark). RunsTo [] source 0 all o) (sym (append_assoc ms (m ∷ []) more)) (read.runs (m ∷ more) o (rest, now, b, e, r));
  }

  pub stops_here : (f : FormFault) → RunsTo ps left at [] (Some f) → IsFirstFault source f
  stops_here f r = (ms ++ [], stops_after (ms ++ []) [] source 0 f (read.runs [] (Some f) r))

  pub turned : (m : Mark) (rest : List ℕ) → Begins left at m rest → (e : FormFault) → IsTurned ps m e → IsFaultOf source e
  turned m rest begins (Unopened p) t = stops_here (Unopened p) (rest, subst (λ (k : Mark). Begins left at k rest) t.0 begins, t.1)
  turned m rest begins (TooDeep p) t = stops_here (TooDeep p) (rest, subst (λ (k : Mark). Begins left at k rest) t.0 begins, t.1)
  turned m rest begins (BadByte p) t = absurd t
  turned m rest begins (Unclosed p) t = absurd t
  turned m rest begins Memory t = tt

-- ---- the answers

-- an answer is what the text runs to, unless memory ran out
abbrev pub IsAnswer : List ℕ → Result Forms FormFault → Type 0
IsAnswer source (Ok fs) = RunsTo [] source 0 (forms_marks (forms_view fs.top.items)) None
IsAnswer source (Err e) = IsFaultOf source e

pub ended : {source : List ℕ} {ms : List Mark} {ps left : List ℕ} {at : ℕ} → IsRead source ms ps left at → IsOnlyGap left
    → (r : Result Forms FormFault) → IfOk r (λ fs. ms ≡ forms_marks (forms_view fs.top.items)) → OnOk r (ps ≡ []) → IfErr r (IsOpen ps) → IsAnswer source r
ended {source = source} {ms = ms} read gap (Ok fs) marks places is_open = subst (λ (all : List Mark). RunsTo [] source 0 all None) (append-nil ms ∙ marks) (read.runs [] None (gap, places))
ended read gap (Err (Unclosed p)) marks places is_open = stops_here read (Unclosed p) (gap, is_open)
ended read gap (Err (Unopened p)) marks places is_open = absurd is_open
ended read gap (Err (TooDeep p)) marks places is_open = absurd is_open
ended read gap (Err (BadByte p)) marks places is_open = absurd is_open
ended read gap (Err Memory) marks places is_open = absurd is_open

module _ (source : List ℕ) where
  pub spelled : (r : Result Forms FormFault) → IsAnswer source r → IfOk r (λ fs. Spells source (forms_view fs.top.items))
  spelled (Ok fs) is = spells_after (forms_marks (forms_view fs.top.items)) [] source 0 is
  spelled (Err e) is = tt

  pub alone : (r : Result Forms FormFault) → IsAnswer source r → IfOk r (λ fs. SpellsNoOther source (forms_view fs.top.items))
  alone (Ok fs) is = λ gs other. one_forms source gs (forms_view fs.top.items) other (spelled (Ok fs) is)
  alone (Err e) is = tt

  pub fault : (r : Result Forms FormFault) → IsAnswer source r → IfErr r (IsFaultOf source)
  fault (Ok fs) is = tt
  fault (Err e) is = is

  one_fault : (e f : FormFault) → IsFirstFault source e → IsFirstFault source f → e ≡ f
  one_fault e f a b = same (one_run a.0 b.0 [] source 0 (Some e) (Some f) (runs_after a.0 [] source 0 e a.1) (runs_after b.0 [] source 0 f b.1))
    where
      same : Some e ≡ Some f → e ≡ f
      same e = cc

  pub only : (r : Result Forms FormFault) → IsAnswer source r → (f : FormFault) → IsFirstFault source f → IfErr r (IsAnswered f) × (IsOk r → ⊥)
  only (Ok fs) is f first = absurd (none-some f (one_run (forms_marks (forms_view fs.top.items)) first.0 [] source 0 None (Some f) is (runs_after first.0 [] source 0 f first.1)))
  only (Err e) is f first = (answered e is, λ is_ok. false≢true is_ok)
    where
      answered : (e : FormFault) → IsFaultOf source e → IsAnswered f e
      answered (BadByte p) is = one_fault (BadByte p) f is first
      answered (Unclosed p) is = one_fault (Unclosed p) f is first
      answered (Unopened p) is = one_fault (Unopened p) f is first
      answered (TooDeep p) is = one_fault (TooDeep p) f is first
      answered Memory is = tt
