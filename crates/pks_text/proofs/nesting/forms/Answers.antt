use Rattle.std.proofs.Common.{rules, ◌≡◌, [], List, ℕ, ◌+◌, Err, IfErr, Result, refl, sym, subst, ap, ◌∙◌}
use Rattle.pks_text.specs.Tokens.{BeginsBad}
use Rattle.pks_text.specs.Forms.{Mark}
use Rattle.pks_text.specs.Faults.{IsFaultOf}
use Rattle.pks_text.specs.Reading.{left_of, place_of, IsSliceOf}
use Rattle.pks_text.specs.FormViews.{marks_of, places_of, words_of, spoken, mark_of, fault_of}
use Rattle.pks_text.specs.declared.tree.FormFault.{FormFault}
use Rattle.pks_text.specs.declared.tree.FormFault.TheVariants.{BadByte}
use Rattle.pks_text.specs.declared.tokens.LexFault.{LexFault}
use Rattle.pks_text.specs.declared.tokens.LexFault.TheVariants as lex
use Rattle.pks_text.specs.declared.tokens.Token.{Token}
use Rattle.std.specs.List.{AllByRecursion}
use Rattle.pks_text.proofs.Lent.{all_both, spoken_slices, ended_slices}
use Rattle.pks_text.proofs.Marks.{shorter}
use Rattle.pks_text.proofs.TextEnds.{IsRead, IsAnswer, at_start, taken, taken_token, stops_here, turned, ended, spelled, alone, fault, only}
use Rattle.pks_text.proofs.nesting.forms.Goals as goal
use Rattle.pks_text.proofs.nesting.forms.Goals.{After-end}

pub loop-pile-init : goal.loop-pile-init
loop-pile-init c =
    let marks : marks_of (record { outer = c.new.result; parts = c.new-2.result }) ≡ [] = search rules in
    let places : places_of (record { outer = c.new.result; parts = c.new-2.result }) ≡ [] = search rules in
    let words : words_of (record { outer = c.new.result; parts = c.new-2.result }) ≡ [] = search rules in
    (begun marks places c.new-tokens.ensures.left c.new-tokens.ensures.place, c.new-tokens.ensures.source, subst (AllByRecursion (IsSliceOf c.args.source.now)) (sym words) tt)
  where
    begun : {ms : List Mark} {ps left source : List ℕ} {at : ℕ} → ms ≡ [] → ps ≡ [] → left ≡ source → at ≡ 0 → IsRead source ms ps left at
    begun {source = source} marks places left at = rw (marks, places, left, at) (at_start source)

at_end : (c : After-end) → IsAnswer c.args.source.now c.end.result
at_end c = ended c.loop-pile.invariant.0 (c.in-None.ensures.none.0 refl) c.end.result c.end.ensures.marks c.end.ensures.places c.end.ensures.err

pub returns-in-None-clause-spelled : goal.returns-in-None-clause-spelled
returns-in-None-clause-spelled c = spelled c.args.source.now c.end.result (at_end c)

pub returns-in-None-clause-alone : goal.returns-in-None-clause-alone
returns-in-None-clause-alone c = alone c.args.source.now c.end.result (at_end c)

pub returns-in-None-clause-slices : goal.returns-in-None-clause-slices
returns-in-None-clause-slices c = ended_slices c.args.source.now (words_of c.loop-pile.pile) c.end.result c.loop-pile.invariant.2 c.end.ensures.words

pub returns-in-None-clause-fault : goal.returns-in-None-clause-fault
returns-in-None-clause-fault c = fault c.args.source.now c.end.result (at_end c)

pub returns-in-None-clause-only : goal.returns-in-None-clause-only
returns-in-None-clause-only c = only c.args.source.now c.end.result (at_end c)

bad_byte : {source : List ℕ} {ms : List Mark} {ps left : List ℕ} {at : ℕ} → IsRead source ms ps left at → (r : Result Token LexFault) (f : LexFault) (e : FormFault) → r ≡ Err f → e ≡ fault_of f
    → IfErr r (λ f. (n : ℕ) × BeginsBad left n × (f ≡ lex.BadByte (at + n))) → IsFaultOf source e
bad_byte {source = source} {left = left} {at = at} read r f e is made told =
    let bad : (n : ℕ) × BeginsBad left n × (f ≡ lex.BadByte (at + n)) = rw is at told in
    subst (IsFaultOf source) (sym (made ∙ ap fault_of bad.2)) (stops_here read (BadByte (at + bad.0)) (bad.0, bad.1, refl))

pub returns-in-Some-Err-clause-fault : goal.returns-in-Some-Err-clause-fault
returns-in-Some-Err-clause-fault c =
    bad_byte c.loop-pile.invariant.0 c.in-Some-Err.field-0 c.in-Some-Err.fault c.form_fault.result c.in-Some-Err.field-0-is c.form_fault.ensures c.in-Some-Err.ensures.bad

pub returns-in-Some-Err-clause-only : goal.returns-in-Some-Err-clause-only
returns-in-Some-Err-clause-only c =
    only c.args.source.now (Err c.form_fault.result)
    (bad_byte c.loop-pile.invariant.0 c.in-Some-Err.field-0 c.in-Some-Err.fault c.form_fault.result c.in-Some-Err.field-0-is c.form_fault.ensures c.in-Some-Err.ensures.bad)

pub loop-pile-smaller : goal.loop-pile-smaller
loop-pile-smaller c =
    let t = taken_token c.loop-pile.tokens c.next.new.self c.in-Some-Ok.field-0 c.in-Some-Ok.token c.in-Some-Ok.field-0-is c.in-Some-Ok.ensures.source c.in-Some-Ok.ensures.token c.in-Some-Ok.ensures.slice c.in-Some-Ok.ensures.rising in
    shorter (left_of c.loop-pile.tokens) (place_of c.loop-pile.tokens) (mark_of c.in-Some-Ok.token) (left_of c.next.new.self) t.begins

pub loop-pile-preserved : goal.loop-pile-preserved
loop-pile-preserved c =
    let t = taken_token c.loop-pile.tokens c.next.new.self c.in-Some-Ok.field-0 c.in-Some-Ok.token c.in-Some-Ok.field-0-is c.in-Some-Ok.ensures.source c.in-Some-Ok.ensures.token c.in-Some-Ok.ensures.slice c.in-Some-Ok.ensures.rising in
    let next = taken c.loop-pile.invariant.0 (mark_of c.in-Some-Ok.token) (left_of c.next.new.self) (places_of c.take.new.self) t.begins c.in-Ok.ensures.places in (
      go_on (sym c.in-Ok.ensures.marks) t.place next,
      c.in-Some-Ok.ensures.source ∙ c.loop-pile.invariant.1,
      subst (AllByRecursion (IsSliceOf c.args.source.now)) (sym c.in-Ok.ensures.words)
          (all_both (IsSliceOf c.args.source.now) (words_of c.loop-pile.pile) (spoken c.in-Some-Ok.token) c.loop-pile.invariant.2
          (spoken_slices c.args.source.now c.in-Some-Ok.token (subst (λ (source : List ℕ). IsSliceOf source c.in-Some-Ok.token) c.loop-pile.invariant.1 t.slice))),
    )
  where
    go_on : {source : List ℕ} {ms ns : List Mark} {ps left : List ℕ} {at now : ℕ} → ms ≡ ns → at ≡ now → IsRead source ms ps left at → IsRead source ns ps left now
    go_on marks places read = rw (sym marks, sym places) read

turned_away : goal.returns-in-Err-clause-fault
turned_away c =
    let t = taken_token c.loop-pile.tokens c.next.new.self c.in-Some-Ok.field-0 c.in-Some-Ok.token c.in-Some-Ok.field-0-is c.in-Some-Ok.ensures.source c.in-Some-Ok.ensures.token c.in-Some-Ok.ensures.slice c.in-Some-Ok.ensures.rising in
    turned c.loop-pile.invariant.0 (mark_of c.in-Some-Ok.token) (left_of c.next.new.self) t.begins c.in-Err.fault c.in-Err.ensures.err

pub returns-in-Err-clause-fault : goal.returns-in-Err-clause-fault
returns-in-Err-clause-fault c = turned_away c

pub returns-in-Err-clause-only : goal.returns-in-Err-clause-only
returns-in-Err-clause-only c = only c.args.source.now (Err c.in-Err.fault) (turned_away c)
