-- What the forms of a sort are, by the grammar.
use Rattle.std.proofs.Common.{◌≡◌, inl, inr, ℕ, Bool, true, false, List, [], ◌∷◌, Option, Some, None, refl, sym, ap, ◌∙◌, subst, bytes_eq}
use Rattle.std.proofs.lemmas.Bool.{false≢true, true≢false}
use Rattle.std.proofs.lemmas.Option.{none-some}
use Rattle.std.proofs.lemmas.Slice.Eq.{bytes_eq-Decides}
use Rattle.pks_text.specs.Forms.{Form, Word, Listing, Forms, no_forms, form}
use Rattle.pks_terms.specs.Sets.{IsIn}
use Rattle.pks_terms.specs.ValidProblems.{is_name}
use Rattle.pks_reader_shape.specs.declared.grammar.Version.{Version}
use Rattle.pks_reader_shape.specs.declared.grammar.Sort.{Sort}
use Rattle.pks_reader_shape.specs.declared.grammar.Sort.TheVariants.{Head, Name}
use Rattle.pks_reader_shape.specs.declared.grammar.Part.{Part}
use Rattle.pks_reader_shape.specs.declared.grammar.Part.TheVariants.{One, Many}
use Rattle.pks_reader_shape.specs.Grammar.{is_allowed, lists, is_among}
use Rattle.pks_reader_shape.specs.Walk.{head_of}
use Rattle.pks_reader_shape.specs.Language.{IsOf, word, listing, Matches, nothing, one, no_more, again}
use Rattle.pks_laws_reader.specs.Facts.{EachForm}

-- ---- parts

-- forms any number of times
pub each_of : (v : Version) (s : Sort) (fs : Forms) → Matches v (Many s ∷ []) fs → EachForm (IsOf v s) fs
each_of v s _ (no_more _ _ _ nothing) = tt
each_of v s _ (again _ _ f fs is m) = (is, each_of v s fs m)

-- at least one form of a sort
pub some_of : (v : Version) (s : Sort) (fs : Forms) → Matches v (One s ∷ Many s ∷ []) fs → EachForm (IsOf v s) fs
some_of v s _ (one _ _ f fs is m) = (is, each_of v s fs m)

-- ---- lists

module _ (v : Version) (P : Form → Type 0) where
  -- P holds of each list with this head and parts
  abbrev pub Holds : List ℕ → List Part → Type 0
  Holds head ps = (parts : Forms) (at end : ℕ) → head_of parts ≡ head → Matches v ps parts → P (Listing parts at end)

  -- of each list that these heads and parts allow
  abbrev pub AllHold : List (List ℕ × List Part) → Type 0
  AllHold [] = Unit {0}
  AllHold (p ∷ ps) = Holds p.0 p.1 × AllHold ps

  found_holds : (qs : List (List ℕ × List Part)) → AllHold qs → (head : List ℕ) (ps : List Part) → IsIn (head, ps) qs → Holds head ps
  found_holds [] h head ps i = absurd i
  found_holds (q ∷ qs) h head ps (inl e) = subst (λ (p : List ℕ × List Part). Holds p.0 p.1) e h.0
  found_holds (q ∷ qs) h head ps (inr i) = found_holds qs h.1 head ps i

  -- of each list that has no fixed head
  abbrev pub OthersHold : Option (List Part) → List (List ℕ) → Type 0
  OthersHold None barred = Unit {0}
  OthersHold (Some ps) barred = (parts : Forms) (at end : ℕ) → is_among (head_of parts) barred ≡ false → Matches v ps parts → P (Listing parts at end)

  others_hold : (o : Option (List Part)) (barred : List (List ℕ)) → OthersHold o barred → (ps : List Part) → o ≡ Some ps → OthersHold (Some ps) barred
  others_hold None barred h ps e = absurd (none-some ps e)
  others_hold (Some qs) barred h ps e = subst (λ (o : Option (List Part)). OthersHold o barred) e h

  -- P holds of a form of the sort, where it holds of each word and list that is
  pub of_sort : (s : Sort) → ((text : List ℕ) (at : ℕ) → is_allowed s text ≡ true → P (Word text at)) → AllHold (lists v s).fixed → OthersHold (lists v s).other (lists v s).barred → (f : Form) → IsOf v s f → P f
  of_sort s words fixed others _ (word _ text at allowed) = words text at allowed
  of_sort s words fixed others _ (listing _ parts at end ps (inl found) m) = found_holds (lists v s).fixed fixed (head_of parts) ps found parts at end refl m
  of_sort s words fixed others _ (listing _ parts at end ps (inr rest) m) = others_hold (lists v s).other (lists v s).barred others ps rest.0 parts at end rest.1 m

-- ---- words

-- what a word of such a sort is
abbrev pub IsWord : (List ℕ → Bool) → Form → Type 0
IsWord test (Word text at) = test text ≡ true
IsWord test (Listing parts at end) = ⊥

pub name_is : (v : Version) (f : Form) → IsOf v Name f → IsWord is_name f
unfolding lists is_allowed
name_is v = of_sort v (IsWord is_name) Name (λ text at allowed. allowed) tt tt

head_is : (v : Version) (f : Form) → IsOf v Head f → IsWord (λ text. true) f
unfolding lists is_allowed
head_is v = of_sort v (IsWord (λ text. true)) Head (λ text at allowed. refl) tt tt

-- a word of a class is no word that isn't of it
pub no_word : (test : List ℕ → Bool) (text other : List ℕ) → test text ≡ true → test other ≡ false → bytes_eq text other ≡ false
no_word test text other holds fails = by_test (bytes_eq text other) (λ e. (bytes_eq-Decides text other).0 e)
  where
    by_test : (b : Bool) → (b ≡ true → text ≡ other) → b ≡ false
    by_test false e = refl
    by_test true e = absurd (true≢false (sym holds ∙ ap test (e refl) ∙ fails))

-- ---- names with arguments

module _ (v : Version) (s : Sort) (P : Form → Type 0) (barred : List (List ℕ)) where
  -- P holds of a name with forms of the sort behind it
  abbrev pub Applied : Type 0
  Applied = (head : List ℕ) (a : ℕ) (args : Forms) (at end : ℕ) → is_among head barred ≡ false → is_name head ≡ true → EachForm (IsOf v s) args → P (Listing (form (Word head a) args) at end)

  pub applied_holds : Applied → OthersHold v P (Some (One Name ∷ Many s ∷ [])) barred
  applied_holds h _ at end free (one _ _ (Word head a) args is m) = h head a args at end free (name_is v (Word head a) is) (each_of v s args m)
  applied_holds h _ at end free (one _ _ (Listing parts a z) args is m) = absurd (name_is v (Listing parts a z) is)

-- ---- lists with a fixed head

module _ (v : Version) (P : Form → Type 0) where
  -- of a list with this head and these parts behind it
  abbrev pub HeadHolds : List ℕ → List Part → Type 0
  HeadHolds head ps = (a at end : ℕ) (rest : Forms) → Matches v ps rest → P (Listing (form (Word head a) rest) at end)

  head_holds : (head : List ℕ) (ps : List Part) → HeadHolds head ps → Holds v P head (One Head ∷ ps)
  head_holds head ps h _ at end e (one _ _ (Word text a) rest is m) = subst (λ (t : List ℕ). P (Listing (form (Word t a) rest) at end)) (sym e) (h a at end rest m)
  head_holds head ps h _ at end e (one _ _ (Listing parts a z) rest is m) = absurd (head_is v (Listing parts a z) is)

  -- of what stands behind the head of each of these lists
  abbrev pub Behind : List ℕ → List Part → Type 0
  Behind head (One Head ∷ ps) = HeadHolds head ps
  Behind head ps = Holds v P head ps

  abbrev pub AllBehind : List (List ℕ × List Part) → Type 0
  AllBehind [] = Unit {0}
  AllBehind (p ∷ ps) = Behind p.0 p.1 × AllBehind ps

  behind_holds : (head : List ℕ) (ps : List Part) → Behind head ps → Holds v P head ps
  behind_holds head (One Head ∷ ps) h = head_holds head ps h
  behind_holds head ps h = h

  all_behind : (qs : List (List ℕ × List Part)) → AllBehind qs → AllHold v P qs
  all_behind [] h = tt
  all_behind (q ∷ qs) h = (behind_holds q.0 q.1 h.0, all_behind qs h.1)

  -- P holds of a form of a sort that has no words, where it holds of each list that is
  pub of_lists : (s : Sort) → ((text : List ℕ) → is_allowed s text ≡ false) → AllBehind (lists v s).fixed → OthersHold v P (lists v s).other (lists v s).barred → (f : Form) → IsOf v s f → P f
  of_lists s none h others = of_sort v P s (λ text at allowed. absurd (false≢true (sym (none text) ∙ allowed))) (all_behind (lists v s).fixed h) others

  -- of a single form behind a head, and of two
  pub at_one : (head : List ℕ) (s : Sort) → ((a at end : ℕ) (f : Form) → IsOf v s f → P (Listing (form (Word head a) (form f no_forms)) at end)) → HeadHolds head (One s ∷ [])
  at_one head s h a at end _ (one _ _ f _ is nothing) = h a at end f is

  pub at_two : (head : List ℕ) (s t : Sort) → ((a at end : ℕ) (f g : Form) → IsOf v s f → IsOf v t g → P (Listing (form (Word head a) (form f (form g no_forms))) at end)) → HeadHolds head (One s ∷ One t ∷ [])
  at_two head s t h a at end _ (one _ _ f _ is (one _ _ g _ also nothing)) = h a at end f g is also

-- the head has a byte
abbrev pub has_byte : List ℕ → Bool
has_byte [] = false
has_byte (b ∷ bs) = true

pub headed : (v : Version) (P : Form → Type 0) (head : List ℕ) (ps : List Part) → has_byte head ≡ true → HeadHolds v P head ps → Holds v P head (One Head ∷ ps)
headed v P head ps e h = head_holds v P head ps h

-- what is true of each list is so where more is true of each form
pub behind_more : (v : Version) (P Q : Form → Type 0) → ((f : Form) → P f → Q f) → (qs : List (List ℕ × List Part)) → AllBehind v P qs → AllBehind v Q qs
behind_more v P Q h [] b = tt
behind_more v P Q h (q ∷ qs) b = (by_parts q.1 b.0, behind_more v P Q h qs b.1)
  where
    by_parts : (ps : List Part) → Behind v P q.0 ps → Behind v Q q.0 ps
    by_parts (One Head ∷ ps) b = λ a at end rest m. h (Listing (form (Word q.0 a) rest) at end) (b a at end rest m)
    by_parts _ b = λ parts at end same m. h (Listing parts at end) (b parts at end same m)
