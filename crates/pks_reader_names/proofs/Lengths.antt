-- Lists of forms of different lengths.
use Rattle.std.proofs.Common.{◌≡◌, suc, Bool, true, false, ◌&&◌, List, [], ◌∷◌, length, refl, ap}
use Rattle.pks_text.specs.declared.tree.Form.{Form as CodeForm}
use Rattle.pks_text.specs.FormViews.{form_view, forms_view}
use Rattle.pks_reader_names.specs.Sentences.{same_form, same_forms}

-- they aren't the same
pub unequal_lengths : (fs gs : List CodeForm) → (length fs ≡ length gs → ⊥) → false ≡ same_forms (forms_view fs) (forms_view gs)
unequal_lengths [] [] other = absurd (other refl)
unequal_lengths [] (g ∷ gs) other = refl
unequal_lengths (f ∷ fs) [] other = refl
unequal_lengths (f ∷ fs) (g ∷ gs) other = by_test (same_form (form_view f) (form_view g)) (unequal_lengths fs gs (λ same. other (ap suc same)))
  where
    by_test : (b : Bool) → false ≡ same_forms (forms_view fs) (forms_view gs) → false ≡ (b && same_forms (forms_view fs) (forms_view gs))
    by_test true later = later
    by_test false later = refl
