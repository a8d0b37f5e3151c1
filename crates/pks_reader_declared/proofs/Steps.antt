-- How long tables are, and the last of some forms.
use Rattle.std.proofs.Common.{◌≡◌, ℕ, zero, suc, ◌+◌, ◌-◌, ◌<◌, ◌≤◌, Bool, true, false, cond, bytes_eq, List, [], ◌∷◌, ◌++◌, length, drop, take, slice_index_or, Option, Some, refl, sym, ap, ◌∙◌, arith}
use Rattle.pks_text.specs.Forms.{Form, Forms, form}
use Rattle.pks_text.specs.declared.tree.Form.{Form as CodeForm}
use Rattle.pks_text.specs.FormViews.{form_view, forms_view}
use Rattle.pks_reader_shape.specs.Files.{Fault}
use Rattle.pks_reader_shape.specs.Walk.{count}
use Rattle.pks_reader_names.specs.Tables.{Table, declare}
use Rattle.pks_reader_names.specs.Parts.{behind_head, only, first_forms, all_but_last, last_of}
use Rattle.pks_reader_names.specs.Declarations.{Types, first_in, name_of, name_faults, table_from, type_faults, type_named, parent_named, types_from, types_faults, objects_from, objects_faults, objects_faults_in}
use Rattle.pks_reader_names.specs.Meaning.{all_noted}
use Rattle.pks_reader_names.proofs.Noting.{noted_next, drop_view}

-- ---- how long tables are

pub declare_length : {X : Type 0} (t : Table X) (name : List ℕ) (x : X) → length (declare t name x) ≤ length t + 1
declare_length [] name x = omega arith
declare_length {X = X} (e ∷ t) name x = by_test (bytes_eq name e.0) (declare_length t name x)
  where
    by_test : (b : Bool) → length (declare t name x) ≤ length t + 1 → length (cond b (e ∷ t) (e ∷ declare t name x)) ≤ suc (length t) + 1
    by_test true later = omega arith
    by_test false later = omega (arith, later)

-- ---- the last of some forms

pub front_view : (fs : List CodeForm) (k : ℕ) → length fs ≡ suc k → forms_view (take k fs) ≡ all_but_last (forms_view fs)
front_view [] k e = absurd (omega (arith, e))
front_view (f ∷ []) zero e = refl
front_view (f ∷ []) (suc k) e = absurd (omega (arith, e))
front_view (f ∷ g ∷ fs) zero e = absurd (omega (arith, e))
front_view (f ∷ g ∷ fs) (suc k) e = ap (form (form_view f)) (front_view (g ∷ fs) k (omega (arith, e)))

pub last_view : (fs : List CodeForm) (k : ℕ) (x : CodeForm) → length fs ≡ suc k → x ≡ slice_index_or fs k x → Some (form_view x) ≡ last_of (forms_view fs)
last_view [] k x e is = absurd (omega (arith, e))
last_view (f ∷ []) zero x e is = ap (λ (y : CodeForm). Some (form_view y)) is
last_view (f ∷ []) (suc k) x e is = absurd (omega (arith, e))
last_view (f ∷ g ∷ fs) zero x e is = absurd (omega (arith, e))
last_view (f ∷ g ∷ fs) (suc k) x e is = last_view (g ∷ fs) k x (omega (arith, e)) is
