-- Where no fault was found, all was walked; else the answer is the first.
use Rattle.std.proofs.Common.{◌≡◌, ◌∙◌, ℕ, zero, suc, ◌+◌, ◌<◌, List, [], ◌∷◌, ◌++◌, length, map, drop, slice_index_or, Option, Some, None, refl, sym, ap}
use Rattle.pks_text.specs.Forms.{Form, Forms, no_forms, form, place_of}
use Rattle.pks_text.specs.FormViews.{form_view, forms_view}
use Rattle.pks_text.specs.declared.tree.Form.{Form as CodeForm}
use Rattle.pks_reader_shape.specs.Files.{Fault, or_else}
use Rattle.pks_reader_shape.specs.Refusals.{Turns}
use Rattle.pks_reader_shape.specs.declared.report.Turned.{Turned}
use Rattle.pks_reader_shape.specs.declared.report.Turned.TheVariants.{Refused, Memory}
use Rattle.pks_reader_names.specs.Tables.{Table}
use Rattle.pks_reader_names.specs.Parts.{first_forms}
use Rattle.pks_reader_names.specs.Declarations.{second_in, nothing, name_faults, table_from, entries_faults, past_names, section_table, section_faults}
use Rattle.pks_reader_names.specs.Meaning.{all_noted, least}
use Rattle.pks_reader_names.proofs.Least.{least_none}
use Rattle.pks_reader_names.proofs.Noting.{noted_both, drop_view}
use Rattle.pks_reader_problem.specs.Stated.{all}
use Rattle.pks_reader_problem.proofs.Faultless.{none_before}
use Rattle.pks_reader_problem.proofs.Growing.{pushed}

not_nil : {X : Type 0} (xs : List X) (x : X) → xs ++ x ∷ [] ≡ [] → ⊥
not_nil [] x e = cc
not_nil (y ∷ xs) x e = cc

-- nothing is past a number of them
pub first_all : {X : Type 0} (table : Table X) (named : Form → Form) (n : ℕ) (fs : Forms) → past_names table named n fs ≡ [] → first_forms n fs ≡ fs
first_all table named zero no_forms e = refl
first_all table named (suc n) no_forms e = refl
first_all table named zero (form f fs) e = absurd (not_nil (name_faults table (named f)) (place_of (named f), 208) e)
first_all table named (suc n) (form f fs) e = ap (λ (gs : Forms). form f gs) (first_all table named n fs e)

-- one more is said
pub said_next : {X Y : Type 0} (v : X → Y) (meant : Form → Y) (xs zs : List X) (x : X) (fs : List CodeForm) (i : ℕ) (f : CodeForm) (total : List Y) → zs ≡ xs ++ x ∷ [] → i < length fs → f ≡ slice_index_or fs i f → v x ≡ meant (form_view f)
    → map v xs ++ all meant (forms_view (drop i fs)) ≡ total → map v zs ++ all meant (forms_view (drop (i + 1) fs)) ≡ total
said_next {X = X} {Y = Y} v meant xs zs x fs i f total grown within is says so_far =
    let rest : List Y = all meant (forms_view (drop (i + 1) fs)) in
    ap (λ (ys : List X). map v ys ++ rest) grown ∙ pushed v xs x rest ∙ ap (λ (y : Y). map v xs ++ y ∷ rest) says
    ∙ ap (λ (gs : Forms). map v xs ++ all meant gs) (sym (drop_view fs i f within is)) ∙ so_far

-- ---- the actions, of which the first 64 are walked

-- the faults of a section were noted: of its entries one by one, and of the first name past them
pub record IsSection (faults : Form → List Fault) (fs gs : Forms) (t u : Table (Unit {0})) (before then now : Option Fault) : Type 0 where
  pub begun : before ≡ None
  pub empty : t ≡ []
  pub first : gs ≡ first_forms 64 fs
  pub table : u ≡ table_from second_in nothing t gs
  pub entries : then ≡ all_noted before (entries_faults second_in nothing faults t gs)
  pub past : now ≡ all_noted then (past_names u second_in 64 fs)

module _ (faults : Form → List Fault) (fs gs : Forms) (t u : Table (Unit {0})) (before then now : Option Fault) (is : IsSection faults fs gs t u before then now) where
  pub section_least : now ≡ least (section_faults second_in 64 nothing faults fs)
  section_least =
      let declared : u ≡ section_table second_in 64 nothing fs = is.table ∙ (λ i. table_from second_in nothing (is.empty i) (is.first i)) in
      let noted : then ≡ least (entries_faults second_in nothing faults [] (first_forms 64 fs)) = is.entries ∙ (λ i. all_noted (is.begun i) (entries_faults second_in nothing faults (is.empty i) (is.first i))) in
      is.past ∙ (λ i. all_noted (noted i) (past_names (declared i) second_in 64 fs))
      ∙ sym (noted_both None (entries_faults second_in nothing faults [] (first_forms 64 fs)) (past_names (section_table second_in 64 nothing fs) second_in 64 fs))

  pub section_whole : now ≡ None → gs ≡ fs
  section_whole none =
      let late : List Fault = past_names u second_in 64 fs in
      let begun : then ≡ None = none_before then now late is.past none in
      is.first ∙ first_all u second_in 64 fs (least_none late (ap (λ (o : Option Fault). all_noted o late) (sym begun) ∙ sym is.past ∙ none))

-- where the first has no fault, the answer is that of the second
pub turns_later : (a b : Option Fault) (e : Turned) → a ≡ None → Turns (λ f. b ≡ Some f) e → Turns (λ f. or_else a b ≡ Some f) e
turns_later a b (Refused r) none turns = (ap (λ (o : Option Fault). or_else o b) none ∙ turns.0, turns.1)
turns_later a b Memory none turns = tt
