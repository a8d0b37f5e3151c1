-- The first form past a number.
use Rattle.std.proofs.Common.{◌≡◌, ℕ, zero, suc, ◌<◌, List, [], ◌∷◌, length, drop, slice_index_or, refl, ap, ◌∙◌, arith}
use Rattle.std.proofs.lemmas.List.{drop_all}
use Rattle.pks_text.specs.Forms.{Form, Forms}
use Rattle.pks_reader_shape.specs.Files.{Fault}
use Rattle.pks_text.specs.declared.tree.Form.{Form as CodeForm}
use Rattle.pks_text.specs.FormViews.{form_view, forms_view}
use Rattle.pks_reader_names.specs.Parts.{past}
use Rattle.pks_reader_names.specs.Tables.{Table}
use Rattle.pks_reader_names.specs.Declarations.{past_names, surplus_faults}
use Rattle.pks_reader_names.proofs.Noting.{drop_view}

pub past_view : (n : ℕ) (fs : List CodeForm) → past n (forms_view fs) ≡ past 0 (forms_view (drop n fs))
past_view zero [] = refl
past_view zero (f ∷ fs) = refl
past_view (suc n) [] = refl
past_view (suc n) (f ∷ fs) = past_view n fs

pub past_none : (n : ℕ) (fs : List CodeForm) → (n < length fs → ⊥) → past n (forms_view fs) ≡ []
past_none n fs all = past_view n fs ∙ ap (λ (gs : List CodeForm). past 0 (forms_view gs)) (drop_all n fs (omega (arith, all)))

names_view : {X : Type 0} (table : Table X) (named : Form → Form) (n : ℕ) (fs : List CodeForm) → past_names table named n (forms_view fs) ≡ past_names table named 0 (forms_view (drop n fs))
names_view table named zero [] = refl
names_view table named zero (f ∷ fs) = refl
names_view table named (suc n) [] = refl
names_view table named (suc n) (f ∷ fs) = names_view table named n fs

-- the name of the form at the limit is past it
pub past_named : {X : Type 0} (table : Table X) (named : Form → Form) (n : ℕ) (fs : List CodeForm) (x : CodeForm) → n < length fs → x ≡ slice_index_or fs n x
    → ◌≡◌ {A = List Fault} (past_names table named n (forms_view fs)) (surplus_faults table (named (form_view x)))
past_named table named n fs x within is = names_view table named n fs ∙ ap (λ (gs : Forms). past_names table named 0 gs) (drop_view fs n x within is)

-- there is none
pub none_named : {X : Type 0} (table : Table X) (named : Form → Form) (n : ℕ) (fs : List CodeForm) → (n < length fs → ⊥) → past_names table named n (forms_view fs) ≡ []
none_named table named n fs all = names_view table named n fs ∙ ap (λ (gs : List CodeForm). past_names table named 0 (forms_view gs)) (drop_all n fs (omega (arith, all)))
