-- Counting forms.
use Rattle.std.proofs.Common.{◌≡◌, List, [], ◌∷◌, length, refl, arith}
use Rattle.pks_text.specs.declared.tree.Form.{Form as CodeForm}
use Rattle.pks_text.specs.FormViews.{forms_view}
use Rattle.pks_reader_shape.specs.Walk.{count}

pub count_view : (fs : List CodeForm) → count (forms_view fs) ≡ length fs
count_view [] = refl
count_view (f ∷ fs) = let later : count (forms_view fs) ≡ length fs = count_view fs in omega (arith, later)
