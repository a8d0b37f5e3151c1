-- A text spells one list of forms.
use Rattle.std.proofs.Common.{◌≡◌, ℕ, List, [], ◌∷◌, ◌++◌, refl, sym, ◌∙◌, ap, subst, append_assoc}
use Rattle.pks_text.specs.Forms.{Word, Listing, Forms, no_forms, form, Mark, Said, Opens, Closes, mark_end, SpellsFrom, Spells, form_marks, forms_marks}
use Rattle.pks_text.proofs.Classes.{Next, at_end, at_bad, at_part, end_part, part_is}
use Rattle.pks_text.proofs.Marks.{ahead_gap, ahead_mark}

-- ---- the text determines its tokens

abbrev Later : List Mark → Next Mark → Type 0
Later ms at_end = Unit {0}
Later ms (at_bad n) = Unit {0}
Later ms (at_part m rest) = SpellsFrom rest (mark_end m) ms

pub one_marks : (text : List ℕ) (at : ℕ) (ms ns : List Mark) → SpellsFrom text at ms → SpellsFrom text at ns → ms ≡ ns
one_marks text at [] [] s t = refl
one_marks text at [] (n ∷ ns) s t = absurd (end_part (ahead_gap text at s) (ahead_mark text at n t.0 t.1))
one_marks text at (m ∷ ms) [] s t = absurd (end_part (ahead_gap text at t) (ahead_mark text at m s.0 s.1))
one_marks text at (m ∷ ms) (n ∷ ns) s t =
    let here = ahead_mark text at m s.0 s.1 in
    let there = ahead_mark text at n t.0 t.1 in
    let same : ms ≡ ns = one_marks s.0 (mark_end m) ms ns s.2 (subst (Later ns) (sym there ∙ here) t.2) in
    λ i. (part_is here there).0 i ∷ same i

-- ---- the tokens determine the forms

-- the same forms, the same end of their list, and the same tokens behind it
pub record AreSame (fs gs : Forms) (d e : ℕ) (ms ns : List Mark) : Type 0 where
  pub forms : fs ≡ gs
  pub ends : d ≡ e
  pub later : ms ≡ ns

list_marks : (parts : Forms) (at end : ℕ) (fs : Forms) (ms : List Mark) → forms_marks (form (Listing parts at end) fs) ++ ms ≡ Opens at ∷ (forms_marks parts ++ Closes end ∷ (forms_marks fs ++ ms))
list_marks parts at end fs ms =
    append_assoc (form_marks (Listing parts at end)) (forms_marks fs) ms
    ∙ ap (λ (later : List Mark). Opens at ∷ later) (append_assoc (forms_marks parts) (Closes end ∷ []) (forms_marks fs ++ ms))

head_is : {m n : Mark} {ms ns : List Mark} → m ∷ ms ≡ n ∷ ns → m ≡ n
head_is e = cc

tail_is : {m n : Mark} {ms ns : List Mark} → m ∷ ms ≡ n ∷ ns → ms ≡ ns
tail_is e = cc

said_is : {v w : List ℕ} {p q : ℕ} → Said v p ≡ Said w q → Word v p ≡ Word w q
said_is e = cc

opens_is : {p q : ℕ} → Opens p ≡ Opens q → p ≡ q
opens_is e = cc

closes_is : {p q : ℕ} → Closes p ≡ Closes q → p ≡ q
closes_is e = cc

closes_said : {p q : ℕ} {w : List ℕ} → Closes p ≡ Said w q → ⊥
closes_said e = cc

closes_opens : {p q : ℕ} → Closes p ≡ Opens q → ⊥
closes_opens e = cc

said_opens : {p q : ℕ} {w : List ℕ} → Said w p ≡ Opens q → ⊥
said_opens e = cc

pub same_forms : (fs gs : Forms) (d e : ℕ) (ms ns : List Mark) → forms_marks fs ++ Closes d ∷ ms ≡ forms_marks gs ++ Closes e ∷ ns → AreSame fs gs d e ms ns
same_forms no_forms no_forms d e ms ns same = record { forms = refl; ends = closes_is (head_is same); later = tail_is same }
same_forms no_forms (form (Word w q) gs) d e ms ns same = absurd (closes_said (head_is same))
same_forms no_forms (form (Listing us q end) gs) d e ms ns same = absurd (closes_opens (head_is same))
same_forms (form (Word v p) fs) no_forms d e ms ns same = absurd (closes_said (sym (head_is same)))
same_forms (form (Listing ts p end) fs) no_forms d e ms ns same = absurd (closes_opens (sym (head_is same)))
same_forms (form (Word v p) fs) (form (Word w q) gs) d e ms ns same =
    let later = same_forms fs gs d e ms ns (tail_is same) in
    let here = said_is (head_is same) in
    record { forms = λ i. form (here i) (later.forms i); ends = later.ends; later = later.later }
same_forms (form (Word v p) fs) (form (Listing us q end) gs) d e ms ns same = absurd (said_opens (head_is same))
same_forms (form (Listing ts p end) fs) (form (Word w q) gs) d e ms ns same = absurd (said_opens (sym (head_is same)))
same_forms (form (Listing ts p c) fs) (form (Listing us q b) gs) d e ms ns same =
    let both : Opens p ∷ (forms_marks ts ++ Closes c ∷ (forms_marks fs ++ Closes d ∷ ms)) ≡ Opens q ∷ (forms_marks us ++ Closes b ∷ (forms_marks gs ++ Closes e ∷ ns)) =
    sym (list_marks ts p c fs (Closes d ∷ ms)) ∙ same ∙ list_marks us q b gs (Closes e ∷ ns) in
    let inner = same_forms ts us c b (forms_marks fs ++ Closes d ∷ ms) (forms_marks gs ++ Closes e ∷ ns) (tail_is both) in
    let later = same_forms fs gs d e ms ns inner.later in
    let at : p ≡ q = opens_is (head_is both) in
    record { forms = λ i. form (Listing (inner.forms i) (at i) (inner.ends i)) (later.forms i); ends = later.ends; later = later.later }

pub one_forms : (text : List ℕ) (fs gs : Forms) → Spells text fs → Spells text gs → fs ≡ gs
one_forms text fs gs s t =
    (same_forms fs gs 0 0 [] [] (ap (λ (ms : List Mark). ms ++ Closes 0 ∷ []) (one_marks text 0 (forms_marks fs) (forms_marks gs) s t))).forms
