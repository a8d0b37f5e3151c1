-- Texts that are appended part by part.
use Rattle.std.proofs.Common.{◌≡◌, ◌<◌, ℕ, suc, Result, Ok, Err, OnErr, List, [], ◌∷◌, ◌++◌, length, map, drop, get_or, append_assoc, append-nil, refl, sym, ap, ◌∙◌, subst}
use Rattle.std.specs.List.{flat_map, join_with_byte}
use Rattle.std.proofs.Math.Seq.{drop-cons}
use Rattle.pks_terms.proofs.ListLaws.{map-map}
use Rattle.pks_plan.specs.Appending.{AppendsPart}

-- nothing yet
pub part_none : (old text : List ℕ) → AppendsPart old old text
part_none old text = record { written = []; rest = text; split = refl; appended = sym (append-nil old) }

-- within the first of two texts
pub part_first : {old new a : List ℕ} (b : List ℕ) → AppendsPart old new a → AppendsPart old new (a ++ b)
part_first {old = old} {new = new} {a = a} b h = record {
  written = h.written;
  rest = h.rest ++ b;
  split = ap (λ x. x ++ b) h.split ∙ append_assoc h.written h.rest b;
  appended = h.appended;
}

-- within the second
pub part_then : {old mid new b : List ℕ} (a : List ℕ) → mid ≡ old ++ a → AppendsPart mid new b → AppendsPart old new (a ++ b)
part_then {old = old} {mid = mid} {new = new} {b = b} a e h = record {
  written = a ++ h.written;
  rest = h.rest;
  split = ap (λ x. a ++ x) h.split ∙ sym (append_assoc a h.written h.rest);
  appended = h.appended ∙ (ap (λ x. x ++ h.written) e ∙ append_assoc old a h.written);
}

-- within two texts that a third follows
pub part_within : {old new : List ℕ} (a b c : List ℕ) → AppendsPart old new (a ++ b) → AppendsPart old new (a ++ (b ++ c))
part_within {old = old} {new = new} a b c h = subst (λ x. AppendsPart old new x) (append_assoc a b c) (part_first c h)

-- behind two texts
pub part_past : {old mid new : List ℕ} (a b c : List ℕ) → mid ≡ old ++ (a ++ b) → AppendsPart mid new c → AppendsPart old new (a ++ (b ++ c))
part_past {old = old} {new = new} a b c e h = subst (λ x. AppendsPart old new x) (append_assoc a b c) (part_then (a ++ b) e h)

-- one text behind another
pub both_appended : (old mid new a b : List ℕ) → mid ≡ old ++ a → new ≡ mid ++ b → new ≡ old ++ (a ++ b)
both_appended old mid new a b e f = f ∙ (ap (λ x. x ++ b) e ∙ append_assoc old a b)

pub ruleset appended = (part_none, part_first, part_then, both_appended, append_assoc, append-nil)

-- so much of the whole text was appended that this is left
pub record Reached (old mid whole rest : List ℕ) : Type 0 where
  pub written : List ℕ
  pub split : whole ≡ written ++ rest
  pub appended : mid ≡ old ++ written

pub reached_start : (old whole : List ℕ) → Reached old old whole whole
reached_start old whole = record { written = []; split = refl; appended = sym (append-nil old) }

pub reached_more : {old mid new whole : List ℕ} (a rest : List ℕ) → Reached old mid whole (a ++ rest) → new ≡ mid ++ a → Reached old new whole rest
reached_more {old = old} {mid = mid} {whole = whole} a rest r e = record {
  written = r.written ++ a;
  split = r.split ∙ sym (append_assoc r.written a rest);
  appended = e ∙ (ap (λ x. x ++ a) r.appended ∙ append_assoc old r.written a);
}

pub reached_stop : {old mid new whole : List ℕ} (a rest : List ℕ) → Reached old mid whole (a ++ rest) → AppendsPart mid new a → AppendsPart old new whole
reached_stop {old = old} {mid = mid} a rest r h = record {
  written = r.written ++ h.written;
  rest = h.rest ++ rest;
  split = r.split ∙ (ap (λ x. r.written ++ (x ++ rest)) h.split ∙ (ap (λ x. r.written ++ x) (append_assoc h.written h.rest rest) ∙ sym (append_assoc r.written h.written (h.rest ++ rest))));
  appended = h.appended ∙ (ap (λ x. x ++ h.written) r.appended ∙ append_assoc old r.written h.written);
}

pub reached_end : {old mid whole : List ℕ} → Reached old mid whole [] → mid ≡ old ++ whole
reached_end {old = old} r = r.appended ∙ ap (λ x. old ++ x) (sym (append-nil r.written) ∙ sym r.split)

pub at_err : {A E : Type 0} (P : Type 0) (r : Result A E) → P → OnErr r P
at_err P (Ok x) h = tt
at_err P (Err e) h = h

-- the next of the parts, and those behind it
pub next_part : {A : Type 0} (f : A → List ℕ) (xs : List A) (i : ℕ) (x : A) → i < length xs → x ≡ get_or xs i x →
    flat_map (λ part. 32 ∷ part) (map f (drop i xs)) ≡ 32 ∷ (f x ++ flat_map (λ part. 32 ∷ part) (map f (drop (suc i) xs)))
next_part f xs i x h e = ap (λ ys. flat_map (λ part. 32 ∷ part) (map f ys)) (drop-cons xs i x h ∙ ap (λ y. y ∷ drop (suc i) xs) (sym e))

pub ruleset printed = (map-map, append-nil, append_assoc)

-- texts with a blank between are the first, and each of the others behind a blank
pub joined : (x : List ℕ) (xs : List (List ℕ)) → join_with_byte 32 (x ∷ xs) ≡ x ++ flat_map (λ part. 32 ∷ part) xs
joined x [] = sym (append-nil x)
joined x (y ∷ ys) = ap (λ z. x ++ 32 ∷ z) (joined y ys)

pub ruleset with_blanks = (joined, map-map)
