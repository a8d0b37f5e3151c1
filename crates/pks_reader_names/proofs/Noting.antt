-- Noting faults one after the other.
use Rattle.std.proofs.Common.{◌≡◌, ℕ, ◌+◌, List, [], ◌∷◌, ◌++◌, Option, Some, None, cond, refl, sym, ap, ◌∙◌, is_some, is_none, option_map, ◌<◌, length, drop, slice_index_or, add-one}
use Rattle.std.proofs.Math.Seq.{drop-cons}
use Rattle.std.specs.Option.{ForSome}
use Rattle.pks_text.specs.Forms.{Form, Forms, form}
use Rattle.pks_text.specs.declared.tree.Form.{Form as CodeForm}
use Rattle.pks_text.specs.FormViews.{form_view, forms_view}
use Rattle.pks_reader_shape.specs.Files.{Fault}
use Rattle.pks_reader_shape.specs.declared.report.Refusal.{Refusal}
use Rattle.pks_reader_shape.specs.Refusals.{IsPlain, refusing}
use Rattle.pks_reader_names.specs.Tables.{Table, declare, unknown}
use Rattle.pks_reader_names.specs.Views.{fault_of}
use Rattle.pks_reader_names.specs.Parts.{each}
use Rattle.pks_reader_names.specs.Declarations.{name_of, name_faults, table_from, entries_faults}
use Rattle.pks_reader_names.specs.Meaning.{noted, all_noted}

pub noted_both : (found : Option Fault) (fs gs : List Fault) → all_noted found (fs ++ gs) ≡ all_noted (all_noted found fs) gs
noted_both found [] gs = refl
noted_both found (f ∷ fs) gs = noted_both (noted found f) fs gs

-- the same the other way round, for loops
pub noted_step : (found : Option Fault) (fs gs : List Fault) → all_noted (all_noted found fs) gs ≡ all_noted found (fs ++ gs)
noted_step found fs gs = sym (noted_both found fs gs)

-- what is unknown, asked by whether it is there
pub noted_known : {X Y : Type 0} (v : X → Y) (r : Option X) (at code : ℕ) → cond (is_some r) [] ((at, code) ∷ []) ≡ unknown at code (option_map v r)
noted_known v None at code = refl
noted_known v (Some x) at code = refl

-- the forms that are left begin with the form at the index
pub drop_view : (fs : List CodeForm) (i : ℕ) (x : CodeForm) → i < length fs → x ≡ slice_index_or fs i x → forms_view (drop i fs) ≡ form (form_view x) (forms_view (drop (i + 1) fs))
drop_view fs i x within is =
    ap forms_view (drop-cons fs i x within ∙ ap (λ (n : ℕ). slice_index_or fs i x ∷ drop n fs) (sym (add-one i))) ∙ ap (λ (y : CodeForm). form (form_view y) (forms_view (drop (i + 1) fs))) (sym is)

-- one form more was noted
pub noted_next : (whole : Forms → List Fault) (one : Form → List Fault) (rest : Forms → List Fault) (fs : List CodeForm) (i : ℕ) (x : CodeForm) (r now : Option Fault)
    → i < length fs → x ≡ slice_index_or fs i x → whole (form (form_view x) (forms_view (drop (i + 1) fs))) ≡ one (form_view x) ++ rest (forms_view (drop (i + 1) fs)) → now ≡ all_noted r (one (form_view x))
    → all_noted now (rest (forms_view (drop (i + 1) fs))) ≡ all_noted r (whole (forms_view (drop i fs)))
noted_next whole one rest fs i x r now within is splits noted =
    ap (λ (o : Option Fault). all_noted o (rest (forms_view (drop (i + 1) fs)))) noted
    ∙ sym (noted_both r (one (form_view x)) (rest (forms_view (drop (i + 1) fs))))
    ∙ ap (all_noted r) (sym splits ∙ ap whole (sym (drop_view fs i x within is)))

-- one of the forms was noted
pub each_next : (g : Form → List Fault) (fs : List CodeForm) (i : ℕ) (x : CodeForm) (r now total : Option Fault) → i < length fs → x ≡ slice_index_or fs i x → now ≡ all_noted r (g (form_view x))
    → all_noted r (each g (forms_view (drop i fs))) ≡ total → all_noted now (each g (forms_view (drop (i + 1) fs))) ≡ total
each_next g fs i x r now total within is noted so_far = noted_next (each g) g (each g) fs i x r now within is refl noted ∙ so_far

-- what is declared already, asked by whether it is there
pub noted_twice : {X Y : Type 0} (v : X → Y) (r : Option X) (at code : ℕ) → ◌≡◌ {A = List Fault} (cond (is_none r) [] ((at, code) ∷ [])) (cond (is_some (option_map v r)) ((at, code) ∷ []) [])
noted_twice v None at code = refl
noted_twice v (Some x) at code = refl

-- what is unknown, asked of itself
pub noted_number : {X : Type 0} (r : Option X) (at code : ℕ) → cond (is_some r) [] ((at, code) ∷ []) ≡ unknown at code r
noted_number None at code = refl
noted_number (Some x) at code = refl

-- one entry more was noted
pub entries_next : {X : Type 0} (named : Form → Form) (said : Form → X) (faults : Form → List Fault) (fs : List CodeForm) (i : ℕ) (x : CodeForm) (t u : Table X) (r now total : Option Fault)
    → i < length fs → x ≡ slice_index_or fs i x → u ≡ declare t (name_of (named (form_view x))) (said (form_view x)) → now ≡ all_noted r (name_faults t (named (form_view x)) ++ faults (form_view x))
    → all_noted r (entries_faults named said faults t (forms_view (drop i fs))) ≡ total → all_noted now (entries_faults named said faults u (forms_view (drop (i + 1) fs))) ≡ total
entries_next {X = X} named said faults fs i x t u r now total within is declared noted so_far =
    let rest : Forms = forms_view (drop (i + 1) fs) in
    ap (λ (v : Table X). all_noted now (entries_faults named said faults v rest)) declared
    ∙ noted_next (entries_faults named said faults t) (λ (f : Form). name_faults t (named f) ++ faults f) (entries_faults named said faults (declare t (name_of (named (form_view x))) (said (form_view x)))) fs i x r now within is refl noted
    ∙ so_far

-- one entry more was declared
pub table_next : {X : Type 0} (named : Form → Form) (said : Form → X) (fs : List CodeForm) (i : ℕ) (x : CodeForm) (t u total : Table X)
    → i < length fs → x ≡ slice_index_or fs i x → u ≡ declare t (name_of (named (form_view x))) (said (form_view x))
    → table_from named said t (forms_view (drop i fs)) ≡ total → table_from named said u (forms_view (drop (i + 1) fs)) ≡ total
table_next {X = X} named said fs i x t u total within is declared so_far =
    ap (λ (v : Table X). table_from named said v (forms_view (drop (i + 1) fs))) declared ∙ sym (ap (λ (gs : Forms). table_from named said t gs) (drop_view fs i x within is)) ∙ so_far

-- a refusal that says nothing else is that of its place and its code
pub plain_least : (least : Option Refusal) → ForSome least IsPlain → least ≡ refusing (option_map fault_of least)
plain_least None plain = refl
plain_least (Some r) plain = ap (λ extra. Some (record r { extra = extra })) (plain r refl)
