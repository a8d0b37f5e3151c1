-- The first forms, taken one by one.
use Rattle.std.proofs.Common.{◌≡◌, ◌∙◌, ◌<◌, ◌+◌, ◌-◌, ℕ, zero, suc, List, [], ◌∷◌, length, drop, slice_index_or, refl, ap, arith}
use Rattle.std.proofs.lemmas.List.{drop_all}
use Rattle.pks_text.specs.declared.tree.Form.{Form as CodeForm}
use Rattle.pks_text.specs.FormViews.{form_view, forms_view}
use Rattle.pks_text.specs.Forms.{Form, Forms, no_forms, form}
use Rattle.pks_reader_names.proofs.Noting.{drop_view}
use Rattle.pks_reader_problem.specs.Stated.{first}

-- one form more is taken
pub first_next : {X : Type 0} (n i : ℕ) (meant : Form → X) (fs : List CodeForm) (x : CodeForm) → i < n → i < length fs → x ≡ slice_index_or fs i x
    → first (n - i) meant (forms_view (drop i fs)) ≡ meant (form_view x) ∷ first (n - (i + 1)) meant (forms_view (drop (i + 1) fs))
first_next n i meant fs x before within is =
    let more : n - i ≡ suc (n - (i + 1)) = omega (arith, before) in
    ap (λ (m : ℕ). first m meant (forms_view (drop i fs))) more ∙ ap (first (suc (n - (i + 1))) meant) (drop_view fs i x within is)

-- none is left to be taken
pub first_past : {X : Type 0} (n i : ℕ) (meant : Form → X) (fs : Forms) → (i < n → ⊥) → first (n - i) meant fs ≡ []
first_past n i meant fs past = let none : n - i ≡ 0 = omega (arith, past) in ap (λ (m : ℕ). first m meant fs) none ∙ nothing fs
  where
    nothing : (gs : Forms) → first 0 meant gs ≡ []
    nothing no_forms = refl
    nothing (form g gs) = refl

pub first_beyond : {X : Type 0} (n i : ℕ) (meant : Form → X) (fs : Forms) → (i < n → ⊥) → first (n - (i + 1)) meant fs ≡ []
first_beyond n i meant fs past = first_past n (i + 1) meant fs (λ before. past (omega (arith, before)))

-- past the last form there is none
pub none_left : {X : Type 0} (n i : ℕ) (meant : Form → X) (fs : List CodeForm) → (i < length fs → ⊥) → first n meant (forms_view (drop i fs)) ≡ []
none_left n i meant fs past = ap (λ (gs : List CodeForm). first n meant (forms_view gs)) (drop_all i fs (omega (arith, past))) ∙ none n
  where
    none : (m : ℕ) → first m meant no_forms ≡ []
    none zero = refl
    none (suc m) = refl
