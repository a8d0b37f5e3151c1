-- Literals and patterns, and queries, effects, senses, adds, initial items and aims, are as a file may have them where they have no fault.
use Rattle.std.proofs.Common.{◌≡◌, ℕ, Bool, true, false, ◌||◌, cond, List, [], ◌∷◌, ◌++◌, Option, Some, None, refl, ap, ◌∙◌, subst, bytes_eq, Ordering, Less, Equal, Greater, is_lt, arith, slice_get}
use Rattle.std.specs.Prelude.{codes}
use Rattle.std.specs.Ordering.{ordering_reverse}
use Rattle.std.specs.Option.{option_map_or}
use Rattle.std.proofs.lemmas.Bool.{false≢true, and_from, or_parts}
use Rattle.pks_terms.specs.Sets.{Each}
use Rattle.pks_terms.specs.Syntax.{Term, Equality}
use Rattle.pks_terms.specs.Orders.{term_cmp, literal_cmp, literal}
use Rattle.pks_terms.specs.Signatures.{Signature, fits_type}
use Rattle.pks_terms.specs.Versions as versions
use Rattle.pks_terms.specs.Valid.{all_fit, term_fits, slot_fits, type_in, is_term, is_literal, is_atom, is_pattern, IsLiteralText, IsConjText, IsPlainText, AreQueries, IsTargetText, IsSenseText, IsItemText, IsStartText}
use Rattle.pks_terms.specs.ValidProblems.{is_name}
use Rattle.pks_terms.specs.Totality.{term_cmp_total, literal_cmp_total}
use Rattle.pks_terms.proofs.OrderLaws.{literal_cmp_tells}
use Rattle.pks_terms.proofs.ListLaws.{each_set_of}
use Rattle.pks_terms.proofs.SetLaws.{ordered_set_of}
use Rattle.pks_terms.proofs.Sequences.{each_in_sequence, in_sequence_twice}
use Rattle.pks_text.specs.Forms.{Form, Word, Listing, Forms, no_forms, form, place_of}
use Rattle.pks_reader_shape.specs.declared.grammar.Version.{Version}
use Rattle.pks_reader_shape.specs.declared.grammar.Version.TheVariants.{First, Second}
use Rattle.pks_reader_shape.specs.declared.grammar.Sort.TheVariants as sort
use Rattle.pks_reader_shape.specs.declared.grammar.Part.TheVariants.{One, Many}
use Rattle.pks_reader_shape.specs.Words.{is_wild}
use Rattle.pks_reader_shape.specs.Grammar.{lists, is_allowed, earlier, queries, items, targets}
use Rattle.pks_reader_shape.specs.Language.{IsOf, one}
use Rattle.pks_reader_names.specs.Scopes.{Scope, signature_in, fits, type_of}
use Rattle.pks_reader_names.specs.Tables.{number_of, entries_of}
use Rattle.pks_reader_names.specs.Parts.{parts_of, each}
use Rattle.pks_reader_names.specs.Terms.{mistyped, apart, term_faults, assigned_faults, atom_faults, positive_faults, literal_faults, pattern_faults}
use Rattle.pks_reader_names.specs.Sentences.{literals_faults, plain_faults, query_faults, item_faults, target_faults, effect_faults, sense_faults, add_faults, start_faults, aim_faults}
use Rattle.pks_reader_problem.specs.Stated.{first, all, or_zero, term_in, atom_in, signed_in, literal_in, conj_in, slot_in, pattern_in, plain_in, query_in, item_in, assigned_in, target_in, effect_in, sense_in, add_in, start_in, aim_in}
use Rattle.pks_laws_reader.specs.Facts.{EachForm, HasShapes}
use Rattle.pks_laws_reader.proofs.Shapes.{some_of, of_sort, of_lists, no_word, Applied, applied_holds, HeadHolds, AllBehind, behind_more, at_one, at_two}
use Rattle.pks_laws_reader.proofs.Numbers.{faultless, unless, each_form, all_hold, first_is_all}
use Rattle.pks_laws_reader.proofs.Fitting.{own_types, Reads, applies, TermStands, tame_stands, arguments_stand, listing_stands, term_stands, stands_typed, stands_term, stands_fits}

-- ---- equations

not_below : (t u : Term) → is_lt (term_cmp t u) ≡ true → is_lt (term_cmp u t) ≡ false
not_below t u e = ap is_lt (term_cmp_total.antisymm u t) ∙ by_order (term_cmp t u) e
  where
    by_order : (o : Ordering) → is_lt o ≡ true → is_lt (ordering_reverse o) ≡ false
    by_order Less e = refl
    by_order Equal e = absurd (false≢true e)
    by_order Greater e = absurd (false≢true e)

or_swapped : (a b : Bool) → (a || b) ≡ true → (b || a) ≡ true
or_swapped a b e = grind arith

module _ (s : Signature) (ps : List ℕ) where
  -- two sides of which one fits the other, in order
  ordered_text : (t u : Term) (a b : ℕ) (positive : Bool) → is_term s ps t ≡ true → is_term s ps u ≡ true → type_in s ps t ≡ Some a → type_in s ps u ≡ Some b
      → (fits_type s a b || fits_type s b a) ≡ true → is_lt (term_cmp t u) ≡ false → IsLiteralText s ps (record { relation = Equality; arguments = t ∷ u ∷ []; positive = positive })
  unfolding is_literal
  ordered_text t u a b positive is_t is_u typed_t typed_u fit e = record {
    typed = and_from (is_term s ps t) (is_term s ps u) is_t is_u;
    sides = ap (λ (o : Option ℕ). option_map_or (λ a. option_map_or (λ b. fits_type s a b || fits_type s b a) (type_in s ps u) false) o false) typed_t
        ∙ ap (λ (o : Option ℕ). option_map_or (λ b. fits_type s a b || fits_type s b a) o false) typed_u ∙ fit;
    ordered = ap (λ (c : Bool). cond c (u ∷ t ∷ []) (t ∷ u ∷ [])) e;
  }

  equation_text : (t u : Term) (a b : ℕ) (positive : Bool) → is_term s ps t ≡ true → is_term s ps u ≡ true → type_in s ps t ≡ Some a → type_in s ps u ≡ Some b
      → (fits_type s a b || fits_type s b a) ≡ true → IsLiteralText s ps (literal Equality (t ∷ u ∷ []) positive)
  unfolding literal
  equation_text t u a b positive is_t is_u typed_t typed_u fit = by_test (is_lt (term_cmp t u)) refl
    where
      by_test : (c : Bool) → is_lt (term_cmp t u) ≡ c → IsLiteralText s ps (record { relation = Equality; arguments = cond c (u ∷ t ∷ []) (t ∷ u ∷ []); positive = positive })
      by_test true e = ordered_text u t b a positive is_u is_t typed_u typed_t (or_swapped (fits_type s a b) (fits_type s b a) fit) (not_below t u e)
      by_test false e = ordered_text t u a b positive is_t is_u typed_t typed_u fit e

module _ (s : Scope) (shapes : HasShapes s) (v : Version) where
  -- ---- terms

  pub only_is_term : (f : Form) → IsOf v sort.Term f → term_faults s f ≡ [] → is_term (signature_in s) (own_types s) (term_in s f) ≡ true
  only_is_term f is e = stands_term s (type_of s f) (term_in s f) (term_stands s shapes v f is e)

  -- a place is a function at its arguments
  only_place : (f : Form) → IsOf v sort.Place f → term_faults s f ≡ [] → is_term (signature_in s) (own_types s) (term_in s f) ≡ true
  unfolding lists is_allowed
  only_place f is e = stands_term s (type_of s f) (term_in s f) (of_lists v (TermStands s shapes) sort.Place (λ text. refl) tt (applied_holds v sort.Term (TermStands s shapes) [] (listing_stands s shapes v)) f is e)

  -- ---- atoms

  -- arguments of a predicate
  predicate_fits : {A : Type 0} (fitting : ℕ → A → Bool) (read : Form → A) (head : List ℕ) (a at : ℕ) (args : Forms) → EachForm (Reads s fitting read) args → atom_faults s (form (Word head a) args) at ≡ []
      → option_map_or (λ x. all_fit fitting x.arguments (first 3 read args)) (slice_get (entries_of s.predicates) (or_zero (number_of s.predicates head))) false ≡ true
  predicate_fits fitting read head a at args reads e = let to = applies s fitting s.predicates 3 read head a at args shapes.predicates reads (search faultless) (search faultless) in rw to.0.placed to.1

  atom_is : (head : List ℕ) (a at end : ℕ) (args : Forms) → is_name head ≡ true → EachForm (IsOf v sort.Term) args → positive_faults s (Listing (form (Word head a) args) at end) ≡ []
      → is_atom (signature_in s) (own_types s) (atom_in s (Listing (form (Word head a) args) at end)) ≡ true
  atom_is head a at end args named are e =
      predicate_fits (term_fits (signature_in s) (own_types s)) (term_in s) head a at args (each_form _ _ (λ f is e wanted m. stands_fits s f (term_in s f) (term_stands s shapes v f is e) wanted m) args are)
      (rw (no_word is_name head (codes "=") named refl) at e)

  only_atom : (f : Form) → IsOf v sort.Atom f → positive_faults s f ≡ [] → is_atom (signature_in s) (own_types s) (atom_in s f) ≡ true
  unfolding lists is_allowed
  only_atom = of_lists v _ sort.Atom (λ text. refl) tt (applied_holds v sort.Term (λ f. positive_faults s f ≡ [] → is_atom (signature_in s) (own_types s) (atom_in s f) ≡ true) (codes "not" ∷ []) (λ head a args at end free named are. atom_is head a at end args named are))

  -- ---- literals

  abbrev PositiveHolds : Bool → Form → Type 0
  PositiveHolds sign f = positive_faults s f ≡ [] → IsLiteralText (signature_in s) (own_types s) (signed_in s sign f)

  equation_holds : (sign : Bool) → HeadHolds v (PositiveHolds sign) (codes "=") (One sort.Term ∷ One sort.Term ∷ [])
  equation_holds sign = at_two v (PositiveHolds sign) (codes "=") sort.Term sort.Term (λ a at end t u is also e.
      let left = term_stands s shapes v t is (search faultless) in
      let right = term_stands s shapes v u also (search faultless) in
      let fit : apart s (type_of s t) (type_of s u) (place_of u) ≡ [] = search faultless in
      equation_text (signature_in s) (own_types s) (term_in s t) (term_in s u) left.own right.own sign (stands_term s _ (term_in s t) left) (stands_term s _ (term_in s u) right)
      (stands_typed s _ (term_in s t) left) (stands_typed s _ (term_in s u) right) (unless (place_of u, 206) (fits s left.own right.own || fits s right.own left.own) (rw (left.found_is, right.found_is, apart) at fit)))

  atom_holds : (sign : Bool) (barred : List (List ℕ)) → Applied v sort.Term (PositiveHolds sign) barred
  unfolding is_literal
  atom_holds sign barred head a args at end free named are e = rw (no_word is_name head (codes "=") named refl) (record { typed = atom_is head a at end args named are e; sides = refl; ordered = refl })

  positive_text : (sign : Bool) (f : Form) → IsOf v sort.Positive f → PositiveHolds sign f
  unfolding lists is_allowed
  positive_text sign = of_lists v (PositiveHolds sign) sort.Positive (λ text. refl) (equation_holds sign, tt) (applied_holds v sort.Term (PositiveHolds sign) (codes "not" ∷ []) (atom_holds sign (codes "not" ∷ [])))

  abbrev LiteralHolds : Form → Type 0
  LiteralHolds f = literal_faults s f ≡ [] → IsLiteralText (signature_in s) (own_types s) (literal_in s f)

  pub literal_text : (f : Form) → IsOf v sort.Literal f → LiteralHolds f
  unfolding lists is_allowed literal_faults literal_in
  literal_text = of_lists v LiteralHolds sort.Literal (λ text. refl) (
    at_one v LiteralHolds (codes "not") sort.Positive (λ a at end f is. positive_text false f is),
    (equation_holds true, tt),
  )
      (applied_holds v sort.Term LiteralHolds (codes "not" ∷ []) (λ head a args at end free named are.
      rw (or_parts (bytes_eq head (codes "not")) false free).0 (atom_holds true (codes "not" ∷ []) head a args at end free named are)))

  -- ---- conjunctions

  literals_text : (fs : Forms) → EachForm (IsOf v sort.Literal) fs → each (literal_faults s) fs ≡ [] → Each (IsLiteralText (signature_in s) (own_types s)) (all (literal_in s) fs)
  literals_text = all_hold (IsOf v sort.Literal) (literal_faults s) (IsLiteralText (signature_in s) (own_types s)) (literal_in s) literal_text

  pub conj_text : (fs : Forms) → EachForm (IsOf v sort.Literal) fs → literals_faults s 4 fs ≡ [] → IsConjText (signature_in s) (own_types s) (conj_in s fs)
  unfolding conj_in
  conj_text fs are e = (
    each_set_of (IsLiteralText (signature_in s) (own_types s)) literal_cmp (first 4 (literal_in s) fs) (rw (first_is_all (literal_in s) 4 fs (search faultless)) (literals_text fs are (search faultless))),
    ordered_set_of literal_cmp_total literal_cmp_tells (first 4 (literal_in s) fs),
  )

  -- ---- patterns

  slot_reads : (f : Form) → IsOf v sort.Slot f → Reads s (slot_fits (signature_in s) (own_types s)) (slot_in s) f
  unfolding lists is_allowed
  slot_reads = of_sort v (Reads s (slot_fits (signature_in s) (own_types s)) (slot_in s)) sort.Slot (λ text at allowed. by_test text at (is_wild text) refl) tt
      (applied_holds v sort.Term (Reads s (slot_fits (signature_in s) (own_types s)) (slot_in s)) [] (λ head a args at end free named are e wanted m.
      stands_fits s (Listing (form (Word head a) args) at end) _ (listing_stands s shapes v head a args at end free named are e) wanted m))
    where
      by_test : (text : List ℕ) (at : ℕ) (b : Bool) → is_wild text ≡ b → term_faults s (Word text at) ≡ [] → (wanted : ℕ) → mistyped s (Some wanted) (Word text at) ≡ []
          → slot_fits (signature_in s) (own_types s) wanted (cond b None (Some (term_in s (Word text at)))) ≡ true
      by_test text at true same e wanted m = refl
      by_test text at false same e wanted m = stands_fits s (Word text at) (term_in s (Word text at)) (tame_stands s shapes text at same e) wanted m

  pub pattern_text : (f : Form) → IsOf v sort.Pattern f → pattern_faults s f ≡ [] → is_pattern (signature_in s) (own_types s) (pattern_in s f) ≡ true
  unfolding lists is_allowed pattern_faults pattern_in
  pattern_text = of_lists v _ sort.Pattern (λ text. refl) tt (applied_holds v sort.Slot (λ f. pattern_faults s f ≡ [] → is_pattern (signature_in s) (own_types s) (pattern_in s f) ≡ true) []
      (λ head a args at end free named are e. predicate_fits (slot_fits (signature_in s) (own_types s)) (slot_in s) head a at args (each_form _ _ slot_reads args are) (search faultless)))

  -- ---- queries

  abbrev PlainHolds : Form → Type 0
  PlainHolds f = plain_faults s f ≡ [] → IsPlainText (signature_in s) (own_types s) (plain_in s f)

  plain_heads : AllBehind v PlainHolds queries
  unfolding plain_faults plain_in
  plain_heads = (
    at_one v PlainHolds (codes "k") sort.Literal (λ a at end f is e. literal_text f is (search faultless)),
    (λ a at end rest m. conj_text rest (some_of v sort.Literal rest m), (at_one v PlainHolds (codes "kv") sort.Term (λ a at end f is. only_is_term f is), tt)),
  )

  plain_text : (f : Form) → IsOf v sort.Plain f → PlainHolds f
  unfolding lists is_allowed
  plain_text = of_lists v PlainHolds sort.Plain (λ text. refl) plain_heads tt

  abbrev QueryHolds : Form → Type 0
  QueryHolds f = query_faults s f ≡ [] → IsPlainText (signature_in s) (own_types s) (query_in s f).asks

  pub query_text : (f : Form) → IsOf v sort.Query f → QueryHolds f
  unfolding lists is_allowed query_faults query_in
  query_text = of_lists v QueryHolds sort.Query (λ text. refl) (at_one v QueryHolds (codes "not-derived") sort.Plain (λ a at end f is. plain_text f is), plain_heads) tt

  -- ---- aims

  abbrev AimHolds : Form → Type 0
  AimHolds f = aim_faults s f ≡ [] → IsPlainText (signature_in s) (own_types s) (versions.query_in (aim_in s f)).asks

  pub aim_text : (f : Form) → IsOf v sort.Aim f → AimHolds f
  unfolding lists is_allowed aim_faults aim_in
  aim_text = of_lists v AimHolds sort.Aim (λ text. refl) (by_version v) tt
    where
      moments : (head : List ℕ) → ((a at end : ℕ) (f : Form) → IsOf v sort.Plain f → AimHolds (Listing (form (Word head a) (form f no_forms)) at end)) → HeadHolds v AimHolds head (One sort.Plain ∷ [])
      moments head = at_one v AimHolds head sort.Plain

      by_version : (w : Version) → AllBehind v AimHolds (earlier w ++ queries)
      by_version First = plain_heads
      by_version Second = (moments (codes "at-start") (λ a at end f is. plain_text f is), (moments (codes "always") (λ a at end f is. plain_text f is), (moments (codes "once") (λ a at end f is. plain_text f is), plain_heads)))

  -- ---- items

  abbrev ItemHolds : List ℕ → Form → Type 0
  ItemHolds ps f = item_faults s f ≡ [] → IsItemText (signature_in s) ps (item_in s f)

  item_heads : AllBehind v (ItemHolds (own_types s)) items
  unfolding item_faults item_in
  item_heads = (
    at_one v (ItemHolds (own_types s)) (codes "kf") sort.Literal (λ a at end f is e. literal_text f is (search faultless)),
    (
      λ a at end rest m. conj_text rest (some_of v sort.Literal rest m),
      (at_one v (ItemHolds (own_types s)) (codes "kv") sort.Place (λ a at end f is. only_place f is), (at_one v (ItemHolds (own_types s)) (codes "lcw") sort.Pattern (λ a at end f is. pattern_text f is), tt)),
    ),
  )

  item_text : (f : Form) → IsOf v sort.Item f → ItemHolds (own_types s) f
  unfolding lists is_allowed
  item_text = of_lists v (ItemHolds (own_types s)) sort.Item (λ text. refl) item_heads tt

  -- initial items, where there are no parameters
  pub start_text : own_types s ≡ [] → (f : Form) → IsOf v sort.Start f → start_faults s f ≡ [] → IsStartText (signature_in s) (start_in s f)
  unfolding lists is_allowed start_faults start_in item_faults item_in
  start_text ground = of_lists v (λ f. start_faults s f ≡ [] → IsStartText (signature_in s) (start_in s f)) sort.Start (λ text. refl) (group, subst (λ (ps : List ℕ). AllBehind v (ItemHolds ps) items) ground item_heads) tt
    where
      group : HeadHolds v (λ f. start_faults s f ≡ [] → IsStartText (signature_in s) (start_in s f)) (codes "kx") (One sort.Literal ∷ One sort.Literal ∷ Many sort.Literal ∷ [])
      group a at end rest (one _ _ f fs is m) e = (
        each_in_sequence (IsLiteralText (signature_in s) []) (all (literal_in s) rest) (subst (λ (ps : List ℕ). Each (IsLiteralText (signature_in s) ps) (all (literal_in s) rest)) ground (literals_text rest (is, some_of v sort.Literal fs m) (search faultless))),
        in_sequence_twice (all (literal_in s) rest),
      )

  -- ---- adds

  given_of : (f : Form) → IsOf v sort.Given f → EachForm (IsOf v sort.Query) (parts_of f)
  unfolding lists is_allowed
  given_of = of_lists v (λ f. EachForm (IsOf v sort.Query) (parts_of f)) sort.Given (λ text. refl) tt (λ parts at end free m. some_of v sort.Query parts m)

  abbrev AddHolds : Form → Type 0
  AddHolds f = add_faults s f ≡ [] → AreQueries (signature_in s) (own_types s) (add_in s f).given × IsItemText (signature_in s) (own_types s) (add_in s f).item

  pub add_text : (f : Form) → IsOf v sort.Add f → AddHolds f
  unfolding lists is_allowed add_faults add_in item_faults item_in
  add_text = of_lists v AddHolds sort.Add (λ text. refl) (
    at_two v AddHolds (codes "if") sort.Given sort.Item (λ a at end g f is also e. (
      rw (first_is_all (query_in s) 4 (parts_of g) (search faultless)) (all_hold (IsOf v sort.Query) (query_faults s) (λ q. IsPlainText (signature_in s) (own_types s) q.asks) (query_in s) query_text (parts_of g) (given_of g is) (search faultless)),
      item_text f also (search faultless),
    )),
    behind_more v (ItemHolds (own_types s)) (λ f. item_faults s f ≡ [] → Unit {0} × IsItemText (signature_in s) (own_types s) (item_in s f)) (λ f h e. (tt, h e)) items item_heads,
  ) tt

  -- ---- senses

  abbrev SenseHolds : Form → Type 0
  SenseHolds f = sense_faults s f ≡ [] → IsSenseText (signature_in s) (own_types s) (sense_in s f)

  pub sense_text : (f : Form) → IsOf v sort.Sense f → SenseHolds f
  unfolding lists is_allowed sense_faults sense_in
  sense_text = of_lists v SenseHolds sort.Sense (λ text. refl) (
    λ a at end rest m. conj_text rest (some_of v sort.Literal rest m),
    (at_one v SenseHolds (codes "sense-value") sort.Place (λ a at end f is. only_place f is), (at_one v SenseHolds (codes "sense-all") sort.Pattern (λ a at end f is. pattern_text f is), tt)),
  ) tt

  -- ---- effects

  abbrev TargetHolds : Form → Type 0
  TargetHolds f = target_faults s f ≡ [] → IsTargetText (signature_in s) (own_types s) (target_in s f)

  -- a value that is assigned to a place
  abbrev AssignedHolds : Form → Type 0
  AssignedHolds place = (value : Form) → IsOf v sort.Term value → assigned_faults s (form place (form value no_forms)) ≡ [] → IsTargetText (signature_in s) (own_types s) (assigned_in s (form place (form value no_forms)))

  assigned : (place : Form) → IsOf v sort.Place place → AssignedHolds place
  unfolding lists is_allowed
  assigned = of_lists v AssignedHolds sort.Place (λ text. refl) tt (applied_holds v sort.Term AssignedHolds [] (λ head a args at end free named are value also e.
      let place = Listing (form (Word head a) args) at end in
      let to = arguments_stand s shapes v head a at end args are (search faultless) in
      let fit : mistyped s (type_of s place) value ≡ [] = search faultless in
      (to.0.said, to.0.placed, to.1, stands_fits s value (term_in s value) (term_stands s shapes v value also (search faultless)) to.0.said.result (rw to.0.entry at fit))))

  target_heads : AllBehind v TargetHolds targets
  unfolding target_faults target_in
  target_heads = (
    at_one v TargetHolds (codes "set") sort.Atom (λ a at end f is. only_atom f is),
    (
      at_one v TargetHolds (codes "unset") sort.Atom (λ a at end f is. only_atom f is),
      (at_one v TargetHolds (codes "clear") sort.Pattern (λ a at end f is. pattern_text f is), (at_two v TargetHolds (codes "assign") sort.Place sort.Term (λ a at end f g is also. assigned f is g also), tt)),
    ),
  )

  target_text : (f : Form) → IsOf v sort.Target f → TargetHolds f
  unfolding lists is_allowed
  target_text = of_lists v TargetHolds sort.Target (λ text. refl) target_heads tt

  condition_of : (f : Form) → IsOf v sort.Condition f → EachForm (IsOf v sort.Literal) (parts_of f)
  unfolding lists is_allowed
  condition_of = of_lists v (λ f. EachForm (IsOf v sort.Literal) (parts_of f)) sort.Condition (λ text. refl) tt (λ parts at end free m. some_of v sort.Literal parts m)

  abbrev EffectHolds : Form → Type 0
  EffectHolds f = effect_faults s f ≡ [] → IsConjText (signature_in s) (own_types s) (effect_in s f).condition × IsTargetText (signature_in s) (own_types s) (effect_in s f).target

  pub effect_text : (f : Form) → IsOf v sort.Effect f → EffectHolds f
  unfolding lists is_allowed effect_faults effect_in target_faults target_in
  effect_text = of_lists v EffectHolds sort.Effect (λ text. refl) (
    at_two v EffectHolds (codes "when") sort.Condition sort.Target (λ a at end g f is also e. (conj_text (parts_of g) (condition_of g is) (search faultless), target_text f also (search faultless))),
    behind_more v TargetHolds (λ f. target_faults s f ≡ [] → (Unit {0} × Unit {0}) × IsTargetText (signature_in s) (own_types s) (target_in s f)) (λ f h e. ((tt, tt), h e)) targets target_heads,
  ) tt
