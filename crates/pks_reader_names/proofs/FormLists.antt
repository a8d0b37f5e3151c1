-- Forms in memory, and their parts.
use Rattle.std.proofs.Common.{◌≡◌, ℕ, zero, suc, min, ◌==◌, List, [], ◌∷◌, length, take, refl, ap, ◌∙◌}
use Rattle.std.proofs.lemmas.List.{take_min}
use Rattle.pks_terms.specs.declared.ids.TypeId.{TypeId}
use Rattle.pks_terms.specs.Views.{types_of}
use Rattle.pks_text.specs.Forms.{form}
use Rattle.pks_text.specs.declared.tree.Form.{Form as CodeForm}
use Rattle.pks_text.specs.FormViews.{form_view, forms_view}
use Rattle.pks_reader_shape.specs.Walk.{count}
use Rattle.pks_reader_shape.proofs.Counts.{count_view}
use Rattle.pks_reader_names.specs.Parts.{first_forms}

-- the first forms in memory
pub first_view : (n : ℕ) (fs : List CodeForm) → forms_view (take n fs) ≡ first_forms n (forms_view fs)
first_view zero [] = refl
first_view zero (f ∷ fs) = refl
first_view (suc n) [] = refl
first_view (suc n) (f ∷ fs) = ap (form (form_view f)) (first_view n fs)

pub first_min : (n : ℕ) (fs : List CodeForm) → forms_view (take (min n (length fs)) fs) ≡ first_forms n (forms_view fs)
first_min n fs = ap (λ (gs : List CodeForm). forms_view gs) (take_min n fs) ∙ first_view n fs

types_count : (ts : List TypeId) → length (types_of ts) ≡ length ts
types_count [] = refl
types_count (t ∷ ts) = ap suc (types_count ts)

-- a list of types has the length of its view
pub counted : (ts : List TypeId) (fs : List CodeForm) → (length (types_of ts) == count (forms_view fs)) ≡ (length ts == length fs)
counted ts fs = ap (λ (n : ℕ). n == count (forms_view fs)) (types_count ts) ∙ ap (λ (n : ℕ). length ts == n) (count_view fs)
