-- The words of a pile, each lent from the source.
use Rattle.std.proofs.Common.{◌≡◌, ℕ, Bool, true, false, cond, List, [], ◌∷◌, ◌++◌, sym, ◌∙◌, ap, subst, append_assoc, bytes_eq, codes, Result, Ok, Err, IfOk, Vec}
use Rattle.std.specs.List.{flat_map, AllByRecursion}
use Rattle.std.specs.declared.alloc.Global.{Global}
use Rattle.std.proofs.lemmas.List.{append-nil}
use Rattle.std.proofs.lemmas.Grind.{flat_map-append}
use Rattle.pks_terms.specs.declared.ids.Span.{Span}
use Rattle.pks_text.specs.declared.tokens.Token.{Token}
use Rattle.pks_text.specs.declared.tree.Form.{Form as CodeForm}
use Rattle.pks_text.specs.declared.tree.Form.TheVariants as code
use Rattle.pks_text.specs.declared.tree.Forms.{Forms}
use Rattle.pks_text.specs.declared.tree.FormFault.{FormFault}
use Rattle.pks_text.specs.declared.nesting.Open.{Open}
use Rattle.pks_text.specs.Reading.{IsSliceOf}
use Rattle.pks_text.specs.FormViews.{words_in, spoken, AreSlices}
use Rattle.pks_text.proofs.FormLaws.{words_name, words_list}

abbrev pub outer_words : List Open → List Token
outer_words os = flat_map (λ (o : Open). flat_map words_in o.parts.items) os

pub one_more : (xs : List CodeForm) (x : CodeForm) → flat_map words_in (xs ++ x ∷ []) ≡ flat_map words_in xs ++ words_in x
one_more xs x = flat_map-append words_in xs (x ∷ []) ∙ ap (λ (ws : List Token). flat_map words_in xs ++ ws) (append-nil (words_in x))

pub outer_more : (os : List Open) (o : Open) → outer_words (os ++ o ∷ []) ≡ outer_words os ++ flat_map words_in o.parts.items
outer_more os o = flat_map-append (λ (o : Open). flat_map words_in o.parts.items) os (o ∷ []) ∙ ap (λ (ws : List Token). outer_words os ++ ws) (append-nil (flat_map words_in o.parts.items))

pub say_words : (os : List Open) (xs : List CodeForm) (t : Token) → outer_words os ++ flat_map words_in (xs ++ code.Name t ∷ []) ≡ (outer_words os ++ flat_map words_in xs) ++ t ∷ []
say_words os xs t =
    ap (λ (ws : List Token). outer_words os ++ ws) (one_more xs (code.Name t) ∙ ap (λ (ws : List Token). flat_map words_in xs ++ ws) (words_name t))
    ∙ sym (append_assoc (outer_words os) (flat_map words_in xs) (t ∷ []))

pub open_words : (os : List Open) (o : Open) → outer_words (os ++ o ∷ []) ++ [] ≡ outer_words os ++ flat_map words_in o.parts.items
open_words os o = append-nil (outer_words (os ++ o ∷ [])) ∙ outer_more os o

pub close_words : (os : List Open) (o : Open) (inner : Vec CodeForm Global) (span : Span)
    → outer_words os ++ flat_map words_in (o.parts.items ++ code.List inner span ∷ []) ≡ outer_words (os ++ o ∷ []) ++ flat_map words_in inner.items
close_words os o inner span =
    ap (λ (ws : List Token). outer_words os ++ ws) (one_more o.parts.items (code.List inner span) ∙ ap (λ (ws : List Token). flat_map words_in o.parts.items ++ ws) (words_list inner span))
    ∙ sym (append_assoc (outer_words os) (flat_map words_in o.parts.items) (flat_map words_in inner.items))
    ∙ ap (λ (ws : List Token). ws ++ flat_map words_in inner.items) (sym (outer_more os o))

-- ---- each is a slice

pub all_both : (P : Token → Type 0) (xs ys : List Token) → AllByRecursion P xs → AllByRecursion P ys → AllByRecursion P (xs ++ ys)
all_both P [] ys all more = more
all_both P (x ∷ xs) ys all more = (all.0, all_both P xs ys all.1 more)

pub spoken_slices : (source : List ℕ) (t : Token) → IsSliceOf source t → AllByRecursion (λ t. IsSliceOf source t) (spoken t)
spoken_slices source t slice = by_tests (bytes_eq t.text.now (codes "(")) (bytes_eq t.text.now (codes ")"))
  where
    by_tests : (a b : Bool) → AllByRecursion (λ t. IsSliceOf source t) (cond a [] (cond b [] (t ∷ [])))
    by_tests true b = tt
    by_tests false true = tt
    by_tests false false = (slice, tt)

pub ended_slices : (source : List ℕ) (words : List Token) (r : Result Forms FormFault) → AllByRecursion (λ t. IsSliceOf source t) words
    → IfOk r (λ fs. words ≡ flat_map words_in fs.top.items) → IfOk r (λ fs. AreSlices source fs.top.items)
ended_slices source words (Ok fs) all same = subst (λ (ws : List Token). AllByRecursion (λ t. IsSliceOf source t) ws) same all
ended_slices source words (Err e) all same = tt
