-- Where no fault was found there was none before, and no part past a number.
use Rattle.std.proofs.Common.{◌≡◌, ◌∙◌, ◌≤◌, ℕ, zero, suc, List, [], ◌∷◌, length, Option, Some, None, refl, sym, arith}
use Rattle.pks_text.specs.declared.tree.Form.{Form as CodeForm}
use Rattle.pks_text.specs.FormViews.{forms_view}
use Rattle.pks_reader_shape.specs.Files.{Fault}
use Rattle.pks_reader_names.specs.Parts.{past}
use Rattle.pks_reader_names.specs.Meaning.{all_noted}
use Rattle.pks_reader_names.proofs.Least.{some_stays, least_none}

pub none_before : (r now : Option Fault) (fs : List Fault) → now ≡ all_noted r fs → now ≡ None → r ≡ None
none_before None now fs noted none = refl
none_before (Some f) now fs noted none = absurd (some_stays f fs (sym noted ∙ none))

none_past : (n : ℕ) (fs : List CodeForm) → past n (forms_view fs) ≡ [] → length fs ≤ n
none_past n [] none = omega arith
none_past zero (f ∷ fs) none = absurd (some none)
  where
    some : {g : Fault} {gs : List Fault} → g ∷ gs ≡ [] → ⊥
    some e = grind arith
none_past (suc n) (f ∷ fs) none = let fewer : length fs ≤ n = none_past n fs none in omega (arith, fewer)

pub few_forms : (r now : Option Fault) (n : ℕ) (fs : List CodeForm) → now ≡ all_noted r (past n (forms_view fs)) → now ≡ None → length fs ≤ n
few_forms None now n fs noted none = none_past n fs (least_none (past n (forms_view fs)) (sym noted ∙ none))
few_forms (Some f) now n fs noted none = absurd (some_stays f (past n (forms_view fs)) (sym noted ∙ none))
