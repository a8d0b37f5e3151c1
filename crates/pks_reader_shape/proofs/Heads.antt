-- A list has the parts that its head says, exactly where the sort's lists may have them.
use Rattle.std.proofs.Common.{◌≡◌, ◌⊎◌, inl, inr, ℕ, Bool, true, false, not, ◌||◌, cond, map, List, [], ◌∷◌, Option, Some, None, refl, sym, ap, ◌∙◌, subst, bytes_eq}
use Rattle.std.proofs.lemmas.Bool.{false≢true, true≢false, and_parts, or_parts, false_from_ne_true}
use Rattle.std.proofs.lemmas.Option.{none-some}
use Rattle.std.proofs.lemmas.Slice.Eq.{bytes_eq-Decides}
use Rattle.pks_terms.specs.Sets.{IsIn}
use Rattle.pks_text.specs.Forms.{Forms}
use Rattle.pks_reader_shape.specs.declared.grammar.Version.{Version}
use Rattle.pks_reader_shape.specs.declared.grammar.Sort.{Sort}
use Rattle.pks_reader_shape.specs.declared.grammar.Sort.TheVariants.{Name}
use Rattle.pks_reader_shape.specs.declared.grammar.Part.{Part}
use Rattle.pks_terms.specs.ValidProblems.{is_name}
use Rattle.pks_reader_shape.specs.Grammar.{is_allowed, lists, with_head, is_among, production}
use Rattle.pks_reader_shape.specs.Walk.{head_of}
use Rattle.pks_reader_shape.specs.Language.{MayHave, word, listing, Matches, nothing, one}
use Rattle.pks_reader_shape.proofs.Tables.{are_distinct, begins_with_name, are_no_names, is_apart, lists_sound}

-- ---- from the head to the lists

pub some_is : {x y : List Part} → Some x ≡ Some y → x ≡ y
some_is e = cc

pub some_none : {X : Type 0} {x : X} → Some x ≡ None → ⊥
some_none {x = x} e = none-some x (sym e)

with_head_is : (head : List ℕ) (fixed : List (List ℕ × List Part)) (otherwise : Option (List Part)) (ps : List Part) → with_head head fixed otherwise ≡ Some ps → IsIn (head, ps) fixed ⊎ (otherwise ≡ Some ps)
with_head_is head [] otherwise ps e = inr e
with_head_is head (p ∷ fixed) otherwise ps e = by_head (bytes_eq head p.0) (λ same. (bytes_eq-Decides head p.0).0 same) e (λ e. with_head_is head fixed otherwise ps e)
  where
    by_head : (b : Bool) → (b ≡ true → head ≡ p.0) → cond b (Some p.1) (with_head head fixed otherwise) ≡ Some ps
        → (with_head head fixed otherwise ≡ Some ps → IsIn (head, ps) fixed ⊎ (otherwise ≡ Some ps)) → IsIn (head, ps) (p ∷ fixed) ⊎ (otherwise ≡ Some ps)
    by_head true same e later = inl (inl (λ i. (sym (same refl) i, some_is e i)))
    by_head false same e later = elim (later e) [ inl found ↦ inl (inr found) | inr rest ↦ inr rest ]

unbarred : (b : Bool) (other : Option (List Part)) (ps : List Part) → cond b None other ≡ Some ps → (other ≡ Some ps) × (b ≡ false)
unbarred true other ps e = absurd (some_none (sym e))
unbarred false other ps e = (e, refl)

pub may_have : (v : Version) (s : Sort) (head : List ℕ) (ps : List Part) → production v s head ≡ Some ps → MayHave (lists v s) head ps
unfolding production
may_have v s head ps made =
    elim (with_head_is head (lists v s).fixed (cond (is_among head (lists v s).barred) None (lists v s).other) ps made) [
      | inl found ↦ inl found
      | inr rest ↦ inr (unbarred (is_among head (lists v s).barred) (lists v s).other ps rest)
    ]

-- ---- from the lists to the head

among : (head : List ℕ) (fixed : List (List ℕ × List Part)) (ps : List Part) → IsIn (head, ps) fixed → (h : List ℕ) → is_among h (map (λ q. q.0) fixed) ≡ false → bytes_eq h head ≡ false
among head [] ps is h e = absurd is
among head (p ∷ fixed) ps (inl same) h e = ap (λ (k : List ℕ). bytes_eq h k) (sym (λ i. (same i).0)) ∙ (or_parts (bytes_eq h p.0) (is_among h (map (λ q. q.0) fixed)) e).0
among head (p ∷ fixed) ps (inr is) h e = among head fixed ps is h (or_parts (bytes_eq h p.0) (is_among h (map (λ q. q.0) fixed)) e).1

not_is : (b : Bool) → not b ≡ true → b ≡ false
not_is true e = absurd (false≢true e)
not_is false e = refl

turned : (a b : List ℕ) → bytes_eq a b ≡ false → bytes_eq b a ≡ false
turned a b e = false_from_ne_true (bytes_eq b a) (λ same. false≢true (sym e ∙ (bytes_eq-Decides a b).1 (sym ((bytes_eq-Decides b a).0 same))))

found_first : (head : List ℕ) (fixed : List (List ℕ × List Part)) (otherwise : Option (List Part)) (ps : List Part) → are_distinct fixed ≡ true → IsIn (head, ps) fixed → with_head head fixed otherwise ≡ Some ps
found_first head [] otherwise ps distinct is = absurd is
found_first head (p ∷ fixed) otherwise ps distinct (inl same) =
    let here : p.0 ≡ head = λ i. (same i).0 in
    let parts : p.1 ≡ ps = λ i. (same i).1 in
    ap (λ (b : Bool). cond b (Some p.1) (with_head head fixed otherwise)) ((bytes_eq-Decides head p.0).1 (sym here)) ∙ ap (λ (qs : List Part). Some qs) parts
found_first head (p ∷ fixed) otherwise ps distinct (inr is) =
    let both = and_parts (not (is_among p.0 (map (λ q. q.0) fixed))) (are_distinct fixed) distinct in
    let apart : bytes_eq head p.0 ≡ false = turned p.0 head (among head fixed ps is p.0 (not_is (is_among p.0 (map (λ q. q.0) fixed)) both.0)) in
    ap (λ (b : Bool). cond b (Some p.1) (with_head head fixed otherwise)) apart ∙ found_first head fixed otherwise ps both.1 is

-- a name that is not barred is none of the fixed heads
passed_all : (head : List ℕ) (barred : List (List ℕ)) (fixed : List (List ℕ × List Part)) (otherwise : Option (List Part))
    → are_no_names barred fixed ≡ true → is_name head ≡ true → is_among head barred ≡ false → with_head head fixed otherwise ≡ otherwise
passed_all head barred [] otherwise none named free = refl
passed_all head barred (p ∷ fixed) otherwise none named free =
    let both = and_parts (is_among p.0 barred || not (is_name p.0)) (are_no_names barred fixed) none in
    ap (λ (b : Bool). cond b (Some p.1) (with_head head fixed otherwise)) (apart (bytes_eq head p.0) (λ same. (bytes_eq-Decides head p.0).0 same) both.0) ∙ passed_all head barred fixed otherwise both.1 named free
  where
    neither : (a b : Bool) → a ≡ false → b ≡ true → (a || not b) ≡ true → ⊥
    neither true b e f g = true≢false e
    neither false true e f g = false≢true g
    neither false false e f g = false≢true f

    apart : (b : Bool) → (b ≡ true → head ≡ p.0) → (is_among p.0 barred || not (is_name p.0)) ≡ true → b ≡ false
    apart true same e = absurd (neither (is_among p.0 barred) (is_name p.0) (ap (λ (h : List ℕ). is_among h barred) (sym (same refl)) ∙ free) (ap is_name (sym (same refl)) ∙ named) e)
    apart false same e = refl

no_list_is_name : (v : Version) (head : List ℕ) (ps : List Part) → MayHave (lists v Name) head ps → ⊥
unfolding lists
no_list_is_name v head ps (inl found) = absurd found
no_list_is_name v head ps (inr other) = some_none (sym other.0)

first_is_name : (v : Version) (ps : List Part) (parts : Forms) → begins_with_name ps ≡ true → Matches v ps parts → is_name (head_of parts) ≡ true
unfolding is_allowed
first_is_name v _ _ begins nothing = absurd (false≢true begins)
first_is_name v _ _ begins (one Name ps _ fs (word _ text at allowed) matches) = allowed
first_is_name v _ _ begins (one Name ps _ fs (listing _ parts at end qs may inner) matches) = absurd (no_list_is_name v (head_of parts) qs may)
first_is_name v _ _ begins _ = absurd (false≢true begins)

other_first : (v : Version) (parts : Forms) (ps : List Part) (fixed : List (List ℕ × List Part)) (other : Option (List Part)) (barred : List (List ℕ))
    → is_apart (record { fixed = fixed; other = other; barred = barred }) ≡ true → other ≡ Some ps → is_among (head_of parts) barred ≡ false → Matches v ps parts
    → with_head (head_of parts) fixed (cond (is_among (head_of parts) barred) None other) ≡ Some ps
other_first v parts ps fixed None barred apart e free matches = absurd (some_none (sym e))
other_first v parts ps [] (Some qs) barred apart e free matches = ap (λ (b : Bool). cond b None (Some qs)) free ∙ e
other_first v parts ps (p ∷ fixed) (Some qs) barred apart e free matches =
    let both = and_parts (begins_with_name qs) (are_no_names barred (p ∷ fixed)) apart in
    let named : is_name (head_of parts) ≡ true = first_is_name v ps parts (subst (λ (qs : List Part). begins_with_name qs ≡ true) (some_is e) both.0) matches in
    passed_all (head_of parts) barred (p ∷ fixed) (cond (is_among (head_of parts) barred) None (Some qs)) both.1 named free ∙ ap (λ (b : Bool). cond b None (Some qs)) free ∙ e

pub has_parts : (v : Version) (s : Sort) (parts : Forms) (ps : List Part) → MayHave (lists v s) (head_of parts) ps → Matches v ps parts → production v s (head_of parts) ≡ Some ps
unfolding production
has_parts v s parts ps (inl found) matches = found_first (head_of parts) (lists v s).fixed (cond (is_among (head_of parts) (lists v s).barred) None (lists v s).other) ps (lists_sound s v).distinct found
has_parts v s parts ps (inr other) matches = other_first v parts ps (lists v s).fixed (lists v s).other (lists v s).barred (lists_sound s v).apart other.0 other.1 matches
