-- Terms without a fault are terms of the signature.
use Rattle.std.proofs.Common.{◌≡◌, ℕ, zero, suc, ◌≤◌, nat_lt, Bool, true, false, ◌||◌, ◌&&◌, cond, List, [], ◌∷◌, ◌++◌, length, Option, Some, option_map, refl, ap, ◌∙◌, arith, slice_get}
use Rattle.std.specs.Prelude.{codes}
use Rattle.std.specs.Option.{option_map_or}
use Rattle.std.proofs.lemmas.Bool.{and_from, eqb-true}
use Rattle.std.proofs.lemmas.Bool.Decides.{nat_tests}
use Rattle.pks_terms.specs.Sets.{Each}
use Rattle.pks_terms.specs.Syntax.{Object, Parameter, Apply, Inner, Term}
use Rattle.pks_terms.specs.Syntax as syntax
use Rattle.pks_terms.specs.Signatures.{Shape, fits_type, object_is_of}
use Rattle.pks_terms.specs.Valid.{all_fit, form_fits, inner_fits, term_fits, type_in, is_term}
use Rattle.pks_terms.specs.ValidProblems.{is_name}
use Rattle.pks_terms.proofs.Types.{fits_itself}
use Rattle.pks_text.specs.Forms.{Form, Word, Listing, Forms, no_forms, form, place_of}
use Rattle.pks_reader_shape.specs.declared.grammar.Version.{Version}
use Rattle.pks_reader_shape.specs.declared.grammar.Sort.TheVariants as sort
use Rattle.pks_reader_shape.specs.Words.{is_variable, is_wild}
use Rattle.pks_reader_shape.specs.Grammar.{lists, is_allowed}
use Rattle.pks_reader_shape.specs.Walk.{count}
use Rattle.pks_reader_shape.specs.Files.{Fault}
use Rattle.pks_reader_shape.specs.Language.{IsOf}
use Rattle.pks_reader_names.specs.Tables.{Table, number_of, entry_of, entries_of, too_long, unknown}
use Rattle.pks_reader_names.specs.Scopes.{Scope, signature_in, fits, name_in, type_of}
use Rattle.pks_reader_names.specs.Terms.{mistyped, height, highest, miscounted, wanted_by, applied_faults, word_faults, term_faults, terms_faults}
use Rattle.pks_reader_problem.specs.Stated.{first, or_zero, object_in, word_in, place_in, inner_in, term_in}
use Rattle.pks_laws_reader.specs.Facts.{EachForm, HasShapes}
use Rattle.pks_laws_reader.proofs.Shapes.{Applied, applied_holds, no_word, of_sort}
use Rattle.pks_laws_reader.proofs.Numbers.{nil_left, faultless, unless, when, Declared, declared, each_got, each_forms}

-- ---- forms

-- P holds of a term, where it holds of words that aren't wildcards, and of names with terms behind them
by_term : (v : Version) (P : Form → Type 0) → ((text : List ℕ) (at : ℕ) → is_wild text ≡ false → P (Word text at)) → Applied v sort.Term P [] → (f : Form) → IsOf v sort.Term f → P f
unfolding lists is_allowed
by_term v P words h = of_sort v P sort.Term (λ text at allowed. words text at (no_word (λ w. is_name w || is_variable w) text (codes "_") allowed refl)) tt (applied_holds v sort.Term P [] h)

-- ---- heights

low : (n : ℕ) (fs : Forms) → highest fs ≤ n → EachForm (λ f. height f ≤ n) fs
low n no_forms e = tt
low n (form f fs) e = (omega arith, low n fs (omega arith))

not_high : (h : ℕ) → nat_lt 2 h ≡ false → h ≤ 2
not_high h e = grind (arith, nat_tests)

constant : (b : Bool) → cond b 1 0 ≤ 0 → b ≡ false
constant false e = refl
constant true e = absurd (omega (arith, e))

module _ (s : Scope) where
  -- the types of the parameters
  abbrev pub own_types : List ℕ
  own_types = entries_of s.parameters

  -- ---- what a term without a fault is

  -- the type of a term as the text has it
  abbrev pub typed_in : {A : Type 0} → syntax.Form A → Option ℕ
  typed_in (Parameter i) = slice_get own_types i
  typed_in (Object d) = slice_get (entries_of s.objects) d
  typed_in (Apply f ts) = option_map (λ x. x.result) (slice_get (entries_of s.functions) f)

  -- it has the type that the form has, and may stand where this fits
  pub record Stands {A : Type 0} (fitting : ℕ → A → Bool) (found : Option ℕ) (t : syntax.Form A) : Type 0 where
    pub own : ℕ
    pub found_is : found ≡ Some own
    pub typed : typed_in t ≡ Some own
    pub stands : (wanted : ℕ) → fits s own wanted ≡ true → form_fits fitting (signature_in s) own_types wanted t ≡ true

  pub stands_wanted : {A : Type 0} (fitting : ℕ → A → Bool) (f : Form) (t : syntax.Form A) → Stands fitting (type_of s f) t → (wanted : ℕ) → mistyped s (Some wanted) f ≡ [] → form_fits fitting (signature_in s) own_types wanted t ≡ true
  stands_wanted fitting f t st wanted e = st.stands wanted (unless (place_of f, 206) (fits s st.own wanted) (rw (st.found_is, mistyped) at e))

  -- a word that isn't a wildcard
  word_stands : {A : Type 0} (fitting : ℕ → A → Bool) (text : List ℕ) (at : ℕ) → is_wild text ≡ false → word_faults s text at ≡ [] → Stands fitting (type_of s (Word text at)) (word_in s text)
  unfolding object_is_of
  word_stands {A} fitting text at tame e = by_test (is_variable text) (rw tame at e)
    where
      by_table : (table : Table ℕ) (name : List ℕ) (code : ℕ) (t : syntax.Form A) → typed_in t ≡ slice_get (entries_of table) (or_zero (number_of table name))
          → ((wanted : ℕ) → form_fits fitting (signature_in s) own_types wanted t ≡ option_map_or (λ own. fits s own wanted) (typed_in t) false)
          → too_long name at ++ unknown at code (entry_of table name) ≡ [] → Stands fitting (entry_of table name) t
      by_table table name code t same fit h =
          let d = declared table name at code (search faultless) in
          record { own = d.said; found_is = d.entry; typed = same ∙ d.placed; stands = λ wanted h. fit wanted ∙ ap (λ (o : Option ℕ). option_map_or (λ own. fits s own wanted) o false) (same ∙ d.placed) ∙ h }

      by_test : (b : Bool) → ◌≡◌ {A = List Fault} (cond b (too_long (name_in text) at ++ unknown at 204 (entry_of s.parameters (name_in text))) (too_long text at ++ unknown at 203 (entry_of s.objects text))) []
          → Stands fitting (cond b (entry_of s.parameters (name_in text)) (entry_of s.objects text)) (cond b (Parameter (or_zero (number_of s.parameters (name_in text)))) (Object (or_zero (number_of s.objects text))))
      by_test true h = by_table s.parameters (name_in text) 204 (Parameter (or_zero (number_of s.parameters (name_in text)))) refl (λ wanted. refl) h
      by_test false h = by_table s.objects text 203 (Object (or_zero (number_of s.objects text))) refl (λ wanted. refl) h

  -- ---- arguments

  -- an argument without a fault may stand wherever its type fits
  abbrev pub Reads : {A : Type 0} → (ℕ → A → Bool) → (Form → A) → Form → Type 0
  Reads fitting read f = term_faults s f ≡ [] → (wanted : ℕ) → mistyped s (Some wanted) f ≡ [] → fitting wanted (read f) ≡ true

  arguments_fit : {A : Type 0} (fitting : ℕ → A → Bool) (read : Form → A) (n : ℕ) (wanted : List ℕ) (args : Forms)
      → length wanted ≡ count args → length wanted ≤ n → EachForm (Reads fitting read) args → terms_faults s wanted args ≡ [] → all_fit fitting wanted (first n read args) ≡ true
  arguments_fit fitting read zero [] no_forms same few reads e = refl
  arguments_fit fitting read (suc n) [] no_forms same few reads e = refl
  arguments_fit fitting read n [] (form f fs) same few reads e = absurd (omega (arith, same))
  arguments_fit fitting read n (w ∷ ws) no_forms same few reads e = absurd (omega (arith, same))
  arguments_fit fitting read zero (w ∷ ws) (form f fs) same few reads e = absurd (omega (arith, few))
  arguments_fit fitting read (suc n) (w ∷ ws) (form f fs) same few reads e =
      and_from (fitting w (read f)) (all_fit fitting ws (first n read fs)) (reads.0 (search faultless) w (search faultless))
      (arguments_fit fitting read n ws fs (omega (arith, same)) (omega (arith, few)) reads.1 (search faultless))

  -- a declared name at arguments that fit
  pub applies : {A : Type 0} (fitting : ℕ → A → Bool) (table : Table Shape) (n : ℕ) (read : Form → A) (head : List ℕ) (a at : ℕ) (args : Forms)
      → Each (λ (x : Shape). length x.arguments ≤ n) (entries_of table) → EachForm (Reads fitting read) args
      → applied_faults (entry_of table head) (form (Word head a) args) at ≡ [] → terms_faults s (wanted_by (entry_of table head)) args ≡ []
      → (d : Declared table head) × (all_fit fitting d.said.arguments (first n read args) ≡ true)
  applies fitting table n read head a at args few reads e none =
      let d = declared table head a 203 (search faultless) in
      let counted : miscounted (entry_of table head) args at ≡ [] = search faultless in (
        d,
        arguments_fit fitting read n d.said.arguments args (eqb-true (length d.said.arguments) (count args) (unless (at, 205) _ (rw d.entry at counted)))
            (each_got (λ (x : Shape). length x.arguments ≤ n) (entries_of table) (or_zero (number_of table head)) d.said few d.placed) reads (rw d.entry at none),
      )

  -- ---- applications

  module _ (shapes : HasShapes s) where
    place_stands : {A : Type 0} (fitting : ℕ → A → Bool) (read : Form → A) (head : List ℕ) (a at end : ℕ) (args : Forms)
        → (d : Declared s.functions head) × (all_fit fitting d.said.arguments (first 2 read args) ≡ true) → Stands fitting (type_of s (Listing (form (Word head a) args) at end)) (place_in s read (form (Word head a) args))
    place_stands fitting read head a at end args is = record {
      own = is.0.said.result;
      found_is = ap (option_map (λ (x : Shape). x.result)) is.0.entry;
      typed = ap (option_map (λ (x : Shape). x.result)) is.0.placed;
      stands = λ wanted h. ap (λ (o : Option Shape). option_map_or (λ x. all_fit fitting x.arguments (first 2 read args) && fits_type (signature_in s) x.result wanted) o false) is.0.placed ∙ and_from _ _ is.1 h;
    }

    -- an argument of an argument
    object_reads : (v : Version) (f : Form) → IsOf v sort.Term f → height f ≤ 0 → Reads (object_is_of (signature_in s)) (object_in s) f
    object_reads v = by_term v (λ f. height f ≤ 0 → Reads (object_is_of (signature_in s)) (object_in s) f)
        (λ text at tame few e wanted m. rw (constant (is_variable text) few) at (stands_wanted (object_is_of (signature_in s)) (Word text at) (word_in s text) (word_stands (object_is_of (signature_in s)) text at tame e) wanted m))
        (λ head a args at end free named are few. absurd (omega (arith, few)))

    -- an argument
    pub inner_stands : (v : Version) (f : Form) → IsOf v sort.Term f → height f ≤ 1 → term_faults s f ≡ [] → Stands (object_is_of (signature_in s)) (type_of s f) (inner_in s f)
    unfolding inner_in
    inner_stands v = by_term v (λ f. height f ≤ 1 → term_faults s f ≡ [] → Stands (object_is_of (signature_in s)) (type_of s f) (inner_in s f))
        (λ text at tame few e. word_stands (object_is_of (signature_in s)) text at tame e)
        (λ head a args at end free named are few e. place_stands (object_is_of (signature_in s)) (object_in s) head a at end args
        (applies (object_is_of (signature_in s)) s.functions 2 (object_in s) head a at args shapes.functions (each_forms _ _ _ (object_reads v) args are (low 0 (form (Word head a) args) (omega (arith, few))).1) (search faultless) (search faultless)))

    -- a term
    abbrev pub TermStands : Form → Type 0
    TermStands f = term_faults s f ≡ [] → Stands (inner_fits (signature_in s) own_types) (type_of s f) (term_in s f)

    pub tame_stands : (text : List ℕ) (at : ℕ) → is_wild text ≡ false → TermStands (Word text at)
    unfolding term_in
    tame_stands text at tame e = word_stands (inner_fits (signature_in s) own_types) text at tame e

    -- a name at its arguments
    pub arguments_stand : (v : Version) (head : List ℕ) (a at end : ℕ) (args : Forms) → EachForm (IsOf v sort.Term) args → term_faults s (Listing (form (Word head a) args) at end) ≡ []
        → (d : Declared s.functions head) × (all_fit (inner_fits (signature_in s) own_types) d.said.arguments (first 2 (inner_in s) args) ≡ true)
    arguments_stand v head a at end args are e =
        let few : height (Listing (form (Word head a) args) at end) ≤ 2 = not_high _ (when (at, 207) _ (nil_left _ _ (nil_left _ _ e))) in
        applies (inner_fits (signature_in s) own_types) s.functions 2 (inner_in s) head a at args shapes.functions
        (each_forms _ _ _ (λ f is few e wanted m. stands_wanted (object_is_of (signature_in s)) f (inner_in s f) (inner_stands v f is few e) wanted m) args are (low 1 (form (Word head a) args) (omega (arith, few))).1)
        (search faultless) (search faultless)

    pub listing_stands : (v : Version) → Applied v sort.Term TermStands []
    unfolding term_in
    listing_stands v head a args at end free named are e = place_stands (inner_fits (signature_in s) own_types) (inner_in s) head a at end args (arguments_stand v head a at end args are e)

    pub term_stands : (v : Version) (f : Form) → IsOf v sort.Term f → TermStands f
    term_stands v = by_term v TermStands tame_stands (listing_stands v)

  -- ---- what is asked of terms

  pub stands_typed : (found : Option ℕ) (t : Term) → (st : Stands (inner_fits (signature_in s) own_types) found t) → type_in (signature_in s) own_types t ≡ Some st.own
  stands_typed found t st = same t ∙ st.typed
    where
      same : (t : Term) → type_in (signature_in s) own_types t ≡ typed_in t
      same (Object d) = refl
      same (Parameter i) = refl
      same (Apply f ts) = refl

  pub stands_term : (found : Option ℕ) (t : Term) → Stands (inner_fits (signature_in s) own_types) found t → is_term (signature_in s) own_types t ≡ true
  unfolding term_fits
  stands_term found t st = ap (λ (o : Option ℕ). option_map_or (λ own. term_fits (signature_in s) own_types own t) o false) (stands_typed found t st) ∙ st.stands st.own (fits_itself (signature_in s) st.own)

  pub stands_fits : (f : Form) (t : Term) → Stands (inner_fits (signature_in s) own_types) (type_of s f) t → (wanted : ℕ) → mistyped s (Some wanted) f ≡ [] → term_fits (signature_in s) own_types wanted t ≡ true
  unfolding term_fits
  stands_fits f t st wanted m = stands_wanted (inner_fits (signature_in s) own_types) f t st wanted m
