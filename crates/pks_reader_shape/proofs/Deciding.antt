-- Where a form is of the sort by the grammar, the walk finds no fault.
use Rattle.std.proofs.Common.{◌≡◌, ◌↔◌, ℕ, Bool, true, false, ◌||◌, ◌&&◌, cond, List, [], ◌∷◌, length, nat_lt, Option, Some, None, IsNone, refl, sym, ap, ◌∙◌, subst, arith, bytes_eq}
use Rattle.std.proofs.lemmas.Bool.{false≢true, true≢false, and_parts, false_from_ne_true}
use Rattle.std.proofs.lemmas.Bool.Decides.{nat_tests}
use Rattle.std.proofs.lemmas.Slice.Eq.{bytes_eq-Decides}
use Rattle.pks_text.specs.Forms.{Form, Forms, no_forms, form}
use Rattle.pks_reader_shape.specs.declared.grammar.Version.{Version}
use Rattle.pks_reader_shape.specs.declared.grammar.Sort.{Sort}
use Rattle.pks_reader_shape.specs.declared.grammar.Part.{Part}
use Rattle.pks_reader_shape.specs.declared.grammar.Part.TheVariants.{One, Maybe, Many}
use Rattle.pks_reader_shape.specs.Grammar.{lists, with_head, is_among, production, head_of_section}
use Rattle.pks_reader_shape.specs.Walk.{head_of, is_headed, sort_at, parts_after, lacks, is_fixed, count, is_miscounted, first_of, fault_in, fault_among}
use Rattle.pks_reader_shape.specs.Language.{IsOf, word, listing, Matches, nothing, one, left_out, there, no_more, again}
use Rattle.pks_reader_shape.proofs.Heads.{some_is, some_none, has_parts}
use Rattle.pks_reader_shape.proofs.Tables.{is_missing, cannot_begin, has_one_head, is_decided, are_decided, is_other_decided, no_words, lists_sound}
use Rattle.pks_reader_shape.proofs.Walking.{list_fault, word_walk, list_walk, parts_walk, walked_form}

-- ---- productions

-- each production of the table has decided parts
found_decided : (v : Version) (head : List ℕ) (fixed : List (List ℕ × List Part)) (otherwise : Option (List Part)) (ps : List Part)
    → are_decided v fixed ≡ true → is_other_decided v otherwise ≡ true → with_head head fixed otherwise ≡ Some ps → is_decided v ps ≡ true
found_decided v head [] otherwise ps all rest e = subst (λ (o : Option (List Part)). is_other_decided v o ≡ true) e rest
found_decided v head (p ∷ fixed) otherwise ps all rest e = by_head (bytes_eq head p.0) e (λ e. found_decided v head fixed otherwise ps (and_parts (is_decided v p.1) (are_decided v fixed) all).1 rest e)
  where
    by_head : (b : Bool) → cond b (Some p.1) (with_head head fixed otherwise) ≡ Some ps → (with_head head fixed otherwise ≡ Some ps → is_decided v ps ≡ true) → is_decided v ps ≡ true
    by_head true e later = subst (λ (qs : List Part). is_decided v qs ≡ true) (some_is e) (and_parts (is_decided v p.1) (are_decided v fixed) all).0
    by_head false e later = later e

unbarred_decided : (v : Version) (b : Bool) (other : Option (List Part)) → is_other_decided v other ≡ true → is_other_decided v (cond b None other) ≡ true
unbarred_decided v true other all = refl
unbarred_decided v false other all = all

decided : (v : Version) (s : Sort) (head : List ℕ) (ps : List Part) → production v s head ≡ Some ps → is_decided v ps ≡ true
unfolding production
decided v s head ps made =
    found_decided v head (lists v s).fixed (cond (is_among head (lists v s).barred) None (lists v s).other) ps (lists_sound s v).fixed
    (unbarred_decided v (is_among head (lists v s).barred) (lists v s).other (lists_sound s v).other) made

-- ---- a section has its head

one_head : (head : List ℕ) (fixed : List (List ℕ × List Part)) (other : Option (List Part)) (barred : List (List ℕ)) (ps : List Part)
    → has_one_head (record { fixed = fixed; other = other; barred = barred }) ≡ true → with_head head fixed (cond (is_among head barred) None other) ≡ Some ps
    → bytes_eq head (elim fixed [ [] ↦ [] | p ∷ ps ↦ p.0 ]) ≡ true
one_head head [] other barred ps has e = absurd (false≢true has)
one_head head (p ∷ q ∷ fixed) other barred ps has e = absurd (false≢true has)
one_head head (p ∷ []) (Some qs) barred ps has e = absurd (false≢true has)
one_head head (p ∷ []) None barred ps has e = by_head (bytes_eq head p.0) e
  where
    none_either : (b : Bool) → cond b None None ≡ Some ps → ⊥
    none_either true e = some_none (sym e)
    none_either false e = some_none (sym e)

    by_head : (b : Bool) → cond b (Some p.1) (cond (is_among head barred) None None) ≡ Some ps → b ≡ true
    by_head true e = refl
    by_head false e = absurd (none_either (is_among head barred) e)

list_headed : (v : Version) (s : Sort) → has_one_head (lists v s) ≡ true → (head : List ℕ) (ps : List Part) → production v s head ≡ Some ps → bytes_eq head (head_of_section v s) ≡ true
unfolding production head_of_section
list_headed v s has head ps made = one_head head (lists v s).fixed (lists v s).other (lists v s).barred ps has made

pub section_headed : (v : Version) (s : Sort) (f : Form) → has_one_head (lists v s) ≡ true → IsOf v s f → is_headed (head_of_section v s) f ≡ true
section_headed v s _ has (word _ text at allowed) = absurd (false≢true (sym (no_words s v has text) ∙ allowed))
section_headed v s _ has (listing _ parts at end ps may matches) = list_headed v s has (head_of parts) ps (has_parts v s parts ps may matches)

-- ---- a list with a head that cannot begin the parts

missing_is : (o : Option (List Part)) → is_missing o ≡ true → o ≡ None
missing_is None e = refl
missing_is (Some ps) e = absurd (false≢true e)

not_headed : (v : Version) (h : List ℕ) (s : Sort) (f : Form) → is_missing (production v s h) ≡ true → IsOf v s f → is_headed h f ≡ false
not_headed v h s _ missing (word _ text at allowed) = refl
not_headed v h s _ missing (listing _ parts at end ps may matches) = false_from_ne_true (bytes_eq (head_of parts) h) (λ same.
    some_none (sym (has_parts v s parts ps may matches) ∙ ap (λ (head : List ℕ). production v s head) ((bytes_eq-Decides (head_of parts) h).0 same) ∙ missing_is (production v s h) missing))

cannot_later : (v : Version) (h : List ℕ) (s : Sort) (ps : List Part) → (is_missing (production v s h) && cannot_begin v h ps) ≡ true → (is_missing (production v s h) ≡ true) × (cannot_begin v h ps ≡ true)
cannot_later v h s ps cannot = and_parts (is_missing (production v s h)) (cannot_begin v h ps) cannot

not_first : (v : Version) (h : List ℕ) (ps : List Part) (f : Form) (fs : Forms) → cannot_begin v h ps ≡ true → Matches v ps (form f fs) → is_headed h f ≡ false
not_first v h _ f fs cannot (one s ps _ _ is matches) = not_headed v h s f cannot is
not_first v h _ f fs cannot (left_out s ps _ matches) = not_first v h ps f fs (cannot_later v h s ps cannot).1 matches
not_first v h _ f fs cannot (there s ps _ _ is matches) = not_headed v h s f (cannot_later v h s ps cannot).0 is
not_first v h _ f fs cannot (no_more s ps _ matches) = not_first v h ps f fs (cannot_later v h s ps cannot).1 matches
not_first v h _ f fs cannot (again s ps _ _ is matches) = not_headed v h s f (cannot_later v h s ps cannot).0 is

-- ---- the number of parts

counted_parts : (v : Version) (ps : List Part) (fs : Forms) → is_fixed ps ≡ true → Matches v ps fs → count fs ≡ length ps
counted_parts v _ _ fixed nothing = refl
counted_parts v _ _ fixed (one s ps f fs is matches) = let later : count fs ≡ length ps = counted_parts v ps fs fixed matches in omega (arith, later)
counted_parts v _ _ fixed _ = absurd (false≢true fixed)

not_too_many : (v : Version) (ps : List Part) (fs : Forms) → Matches v ps fs → (is_fixed ps && nat_lt (length ps) (count fs)) ≡ false
not_too_many v ps fs matches = by_test (is_fixed ps) (λ fixed. counted_parts v ps fs fixed matches)
  where
    same_count : (n m : ℕ) → n ≡ m → nat_lt m n ≡ false
    same_count n m e = grind (arith, nat_tests)

    by_test : (b : Bool) → (b ≡ true → count fs ≡ length ps) → (b && nat_lt (length ps) (count fs)) ≡ false
    by_test true same = same_count (count fs) (length ps) (same refl)
    by_test false same = refl

well_counted : (v : Version) (ps : List Part) (fs : Forms) → lacks v ps fs ≡ false → Matches v ps fs → is_miscounted v ps fs ≡ false
well_counted v ps fs full matches = ap (λ (b : Bool). b || (is_fixed ps && nat_lt (length ps) (count fs))) full ∙ not_too_many v ps fs matches

-- ---- the walk

-- nothing is missing, and no part is a fault
abbrev AreFaultless : Version → List Part → Forms → Type 0
AreFaultless v ps fs = (lacks v ps fs ≡ false) × (fault_among v ps fs ≡ None)

no_faults_at_end : (v : Version) (ps : List Part) → fault_among v ps no_forms ≡ None
unfolding fault_among
no_faults_at_end v ps = refl

-- by the sort of the first form and the parts behind it
by_next : (v : Version) (s : Sort) (f : Form) (qs ps : List Part) (fs : Forms) → sort_at v ps f ≡ s → parts_after v ps f ≡ qs
    → (lacks v qs fs ≡ false) × (first_of (fault_in v s f) (fault_among v qs fs) ≡ None) → AreFaultless v ps (form f fs)
by_next v s f qs ps fs at after faultless = (
  ap (λ (ps : List Part). lacks v ps fs) after ∙ faultless.0,
  parts_walk v ps f fs
      ∙ ap (λ (t : Sort). first_of (fault_in v t f) (fault_among v (parts_after v ps f) fs)) at
      ∙ ap (λ (ps : List Part). first_of (fault_in v s f) (fault_among v ps fs)) after
      ∙ faultless.1,
)

next : (v : Version) (s : Sort) (f : Form) (qs ps : List Part) (fs : Forms) → fault_in v s f ≡ None → AreFaultless v qs fs → sort_at v ps f ≡ s → parts_after v ps f ≡ qs → AreFaultless v ps (form f fs)
next v s f qs ps fs whole faultless at after = by_next v s f qs ps fs at after (faultless.0, ap (λ (o : Option ℕ). first_of o (fault_among v qs fs)) whole ∙ faultless.1)

-- a part that may be missing is passed, or the form is there
passed : (v : Version) (s : Sort) (ps : List Part) (f : Form) (fs : Forms) → is_headed (head_of_section v s) f ≡ false → AreFaultless v ps (form f fs) → AreFaultless v (Maybe s ∷ ps) (form f fs)
passed v s ps f fs apart faultless =
    by_next v (sort_at v ps f) f (parts_after v ps f) (Maybe s ∷ ps) fs (ap (λ (b : Bool). cond b s (sort_at v ps f)) apart)
    (ap (λ (b : Bool). cond b ps (parts_after v ps f)) apart) (faultless.0, sym (parts_walk v ps f fs) ∙ faultless.1)

stood : (v : Version) (s : Sort) (ps : List Part) (f : Form) (fs : Forms) → is_headed (head_of_section v s) f ≡ true → fault_in v s f ≡ None → AreFaultless v ps fs → AreFaultless v (Maybe s ∷ ps) (form f fs)
stood v s ps f fs headed whole faultless =
    next v s f ps (Maybe s ∷ ps) fs whole faultless (ap (λ (b : Bool). cond b s (sort_at v ps f)) headed) (ap (λ (b : Bool). cond b ps (parts_after v ps f)) headed)

-- a part that may be missing among decided parts
record MayBeMissing (v : Version) (s : Sort) (ps : List Part) : Type 0 where
  has_head : has_one_head (lists v s) ≡ true
  cannot : cannot_begin v (head_of_section v s) ps ≡ true
  later : is_decided v ps ≡ true

may_be_missing : (v : Version) (s : Sort) (ps : List Part) → is_decided v (Maybe s ∷ ps) ≡ true → MayBeMissing v s ps
may_be_missing v s ps d =
    let both = and_parts (has_one_head (lists v s)) (cannot_begin v (head_of_section v s) ps && is_decided v ps) d in
    let rest = and_parts (cannot_begin v (head_of_section v s) ps) (is_decided v ps) both.1 in
    record { has_head = both.0; cannot = rest.0; later = rest.1 }

mutual
  pub faultless_form : (v : Version) (s : Sort) (f : Form) → IsOf v s f → fault_in v s f ≡ None
  faultless_form v s _ (word _ text at allowed) = word_walk v s text at ∙ ap (λ (b : Bool). cond b None (Some at)) allowed
  faultless_form v s _ (listing _ parts at end ps may matches) =
      let made = has_parts v s parts ps may matches in
      let faultless = faultless_parts v ps parts (decided v s (head_of parts) ps made) matches in
      list_walk v s parts at end
      ∙ ap (λ (o : Option (List Part)). list_fault v o parts at) made
      ∙ ap (λ (b : Bool). cond b (Some at) (fault_among v ps parts)) (well_counted v ps parts faultless.0 matches)
      ∙ faultless.1

  pub faultless_parts : (v : Version) (ps : List Part) (fs : Forms) → is_decided v ps ≡ true → Matches v ps fs → AreFaultless v ps fs
  faultless_parts v _ _ d nothing = (refl, no_faults_at_end v [])
  faultless_parts v _ _ d (one s ps f fs is matches) = next v s f ps (One s ∷ ps) fs (faultless_form v s f is) (faultless_parts v ps fs d matches) refl refl
  faultless_parts v _ _ d (left_out s ps no_forms matches) = ((faultless_parts v ps no_forms (may_be_missing v s ps d).later matches).0, no_faults_at_end v (Maybe s ∷ ps))
  faultless_parts v _ _ d (left_out s ps (form f fs) matches) =
      let missing = may_be_missing v s ps d in
      passed v s ps f fs (not_first v (head_of_section v s) ps f fs missing.cannot matches) (faultless_parts v ps (form f fs) missing.later matches)
  faultless_parts v _ _ d (there s ps f fs is matches) =
      let missing = may_be_missing v s ps d in
      stood v s ps f fs (section_headed v s f missing.has_head is) (faultless_form v s f is) (faultless_parts v ps fs missing.later matches)
  faultless_parts v _ _ d (no_more s [] _ nothing) = (refl, no_faults_at_end v (Many s ∷ []))
  faultless_parts v _ _ d (no_more s (p ∷ ps) fs matches) = absurd (false≢true d)
  faultless_parts v _ _ d (again s ps f fs is matches) = next v s f (Many s ∷ ps) (Many s ∷ ps) fs (faultless_form v s f is) (faultless_parts v (Many s ∷ ps) fs d matches) refl refl

-- the walk finds no fault exactly where the form is of the sort
pub of_the_sort : (v : Version) (s : Sort) (f : Form) → (fault_in v s f ≡ None) ↔ IsOf v s f
of_the_sort v s f = (walked_form v s f, faultless_form v s f)

-- nothing is there
pub none_same : {X : Type 0} (o : Option X) → (IsNone o → o ≡ None) × (o ≡ None → IsNone o)
none_same None = (λ none. refl, λ none. refl)
none_same (Some x) = (λ none. absurd (true≢false none), λ none. absurd (some_none none))
