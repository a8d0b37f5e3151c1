-- A text has no more forms than bytes.
use Rattle.std.proofs.Common.{◌≡◌, ◌∙◌, ◌≤◌, ◌<◌, ◌+◌, ◌^◌, ℕ, zero, suc, Bool, true, false, cond, List, [], ◌∷◌, ◌++◌, Some, length, map, slice_get, codes, ap, arith, length-append}
use Rattle.std.proofs.lemmas.List.{length-map}
use Rattle.std.proofs.lemmas.Option.{none-some}
use Rattle.pks_terms.specs.Sets.{Each}
use Rattle.pks_terms.specs.declared.schema.Schema.{Schema}
use Rattle.pks_text.specs.Forms.{Form, Word, Listing, Forms, no_forms, form, forms_of, Mark, Said, Opens, Closes, mark_text, mark_end, IsOfClass, form_marks, forms_marks, SpellsFrom, Spells}
use Rattle.pks_reader_shape.specs.Walk.{is_headed, count}
use Rattle.pks_reader_names.specs.Parts.{parts_of, behind, behind_head, section}
use Rattle.pks_reader_names.specs.Declarations.{actions_among}
use Rattle.pks_reader_problem.specs.Spans.{bytes_in, adds_in}
use Rattle.pks_reader_problem.specs.Stated.{Bytes, all, bytes_of, add_places}
use Rattle.pks_laws_reader.proofs.Whole.{all_length}
use Rattle.pks_reader.proofs.Parted.{some_same}

-- ---- tokens

has_bytes : (m : Mark) → IsOfClass m → 0 < length (mark_text m)
has_bytes (Said text at) class = class.0
has_bytes (Opens at) class = omega arith
has_bytes (Closes end) class = omega arith

pub marks_few : (text : List ℕ) (at : ℕ) (ms : List Mark) → SpellsFrom text at ms → length ms ≤ length text
marks_few text at [] s = omega arith
marks_few text at (m ∷ ms) s =
    let b = s.1.begins in
    let long : length text ≡ length b.gap + (length (mark_text m) + length s.0) = ap length b.split ∙ length-append b.gap (mark_text m ++ s.0) ∙ ap (λ (n : ℕ). length b.gap + n) (length-append (mark_text m) s.0) in
    let some : 0 < length (mark_text m) = has_bytes m s.1.class in
    let later : length ms ≤ length s.0 = marks_few s.0 (mark_end m) ms s.2 in
    omega (arith, long, some, later)

-- ---- parts

-- how many tokens spell forms
abbrev size : Forms → ℕ
size fs = length (forms_marks fs)

some_marks : (f : Form) → 1 ≤ length (form_marks f)
some_marks (Word text at) = omega arith
some_marks (Listing parts at end) = omega arith

size_form : (f : Form) (fs : Forms) → size (form f fs) ≡ length (form_marks f) + size fs
size_form f fs = length-append (form_marks f) (forms_marks fs)

count_few : (fs : Forms) → count fs ≤ size fs
count_few no_forms = omega arith
count_few (form f fs) = let long = size_form f fs in let some = some_marks f in let later = count_few fs in omega (arith, long, some, later)

parts_few : (f : Form) → size (parts_of f) ≤ length (form_marks f)
parts_few (Word text at) = omega arith
parts_few (Listing parts at end) = let long = length-append (forms_marks parts) (Closes end ∷ []) in omega (arith, long)

behind_few : (fs : Forms) → size (behind fs) ≤ size fs
behind_few no_forms = omega arith
behind_few (form f fs) = let long = size_form f fs in omega (arith, long)

behind_head_few : (f : Form) → size (behind_head f) ≤ length (form_marks f)
behind_head_few f = let parts = parts_few f in let rest = behind_few (parts_of f) in omega (arith, parts, rest)

section_few : (head : List ℕ) (fs : Forms) → size (section head fs) ≤ size fs
section_few head no_forms = omega arith
section_few head (form f fs) = by_head (is_headed head f) (section_few head fs)
  where
    by_head : (b : Bool) → size (section head fs) ≤ size fs → size (cond b (behind_head f) (section head fs)) ≤ size (form f fs)
    by_head true later = let long = size_form f fs in let here = behind_head_few f in omega (arith, long, here)
    by_head false later = let long = size_form f fs in omega (arith, long, later)

actions_few : (fs : Forms) → size (actions_among fs) ≤ size fs
actions_few no_forms = omega arith
actions_few (form f fs) = by_head (is_headed (codes "action") f) (actions_few fs)
  where
    by_head : (b : Bool) → size (actions_among fs) ≤ size fs → size (cond b (form f fs) (actions_among fs)) ≤ size (form f fs)
    by_head true later = omega arith
    by_head false later = let long = size_form f fs in omega (arith, long, later)

section_count : (n : ℕ) (head : List ℕ) (f : Form) → length (form_marks f) ≤ n → count (section head (behind_head f)) ≤ n
section_count n head f few =
    let counted = count_few (section head (behind_head f)) in
    let in_section = section_few head (behind_head f) in
    let in_list = behind_head_few f in
    omega (arith, few, counted, in_section, in_list)

top_few : (fs : List Form) (i : ℕ) (f : Form) → slice_get fs i ≡ Some f → length (form_marks f) ≤ size (forms_of fs)
top_few [] i f e = absurd (none-some f e)
top_few (g ∷ fs) zero f e = let long = size_form g (forms_of fs) in let same : length (form_marks g) ≡ length (form_marks f) = ap (λ (h : Form). length (form_marks h)) (some_same e) in omega (arith, long, same)
top_few (g ∷ fs) (suc i) f e = let long = size_form g (forms_of fs) in let later = top_few fs i f e in omega (arith, long, later)

-- ---- initial items and adds

pub items_few : (text : List ℕ) (fs : List Form) (p : Form) → Spells text (forms_of fs) → slice_get fs 2 ≡ Some p → length (all bytes_of (section (codes "init") (behind_head p))) ≤ length text
items_few text fs p spells e =
    let all_few = marks_few text 0 (forms_marks (forms_of fs)) spells in
    let own = top_few fs 2 p e in
    let few : length (form_marks p) ≤ length text = omega (arith, all_few, own) in
    let items = section_count (length text) (codes "init") p few in
    let counted = all_length bytes_of (section (codes "init") (behind_head p)) in
    omega (arith, items, counted)

each_adds : (n : ℕ) (fs : Forms) → size fs ≤ n → Each (λ bs. length bs ≤ n) (all add_places fs)
each_adds n no_forms few = tt
each_adds n (form f fs) few =
    let long = size_form f fs in
    let own : length (form_marks f) ≤ n = omega (arith, long, few) in
    let later : size fs ≤ n = omega (arith, long, few) in
    let adds = section_count n (codes "knows") f own in
    let counted = all_length bytes_of (section (codes "knows") (behind_head f)) in
    let here : length (add_places f) ≤ n = omega (arith, adds, counted) in
    (here, each_adds n fs later)

pub adds_few : (text : List ℕ) (fs : List Form) (d : Form) → Spells text (forms_of fs) → slice_get fs 1 ≡ Some d → Each (λ bs. length bs ≤ length text) (all add_places (actions_among (behind_head d)))
adds_few text fs d spells e =
    let all_few = marks_few text 0 (forms_marks (forms_of fs)) spells in
    let own = top_few fs 1 d e in
    let parts = behind_head_few d in
    let actions = actions_few (behind_head d) in
    let few : size (actions_among (behind_head d)) ≤ length text = omega (arith, all_few, own, parts, actions) in
    each_adds (length text) (actions_among (behind_head d)) few

pub adds_numbered : (n : ℕ) (xs : List Schema) → n ≤ 262144 → Each (λ (bs : List Bytes). length bs ≤ n) (map adds_in xs) → Each (λ x. length x.adds < 2 ^ 32) xs
adds_numbered n [] small are = tt
adds_numbered n (x ∷ xs) small are =
    let long = length-map x.adds (λ a. bytes_in a.span) in
    let few = are.0 in
    let here : length x.adds < 2 ^ 32 = omega (arith, long, few, small) in
    (here, adds_numbered n xs small are.1)
