-- In a problem of the first version each database of each history has equations between terms of one type alone.
use Rattle.std.proofs.Common.{◌≡◌, ◌&&◌, ◌||◌, ◌++◌, ℕ, zero, suc, Bool, true, false, not, cond, is_eq, List, [], ◌∷◌, map, filter, filter_map, flat_map, slice_get, Option, Some, None, option_map, refl, sym, ap, ◌∙◌, subst, inl, inr, ⊎_elim, true≢false}
use Rattle.std.specs.List.{list_any, list_all}
use Rattle.std.specs.Option.{option_map_or}
use Rattle.std.proofs.lemmas.Bool.{and_parts, or_cases, eqb-true}
use Rattle.std.proofs.lemmas.Option.{none-some, same_Some}
use Rattle.pks_terms.specs.Sets.{Each, IsIn, with_others, with_later}
use Rattle.pks_terms.specs.Syntax.{Object, Parameter, Apply, Inner, Term, object, place, term_of, Relation, Named, Equality, Literal, negated}
use Rattle.pks_terms.specs.Orders.{literal_cmp, conj_cmp, literal, equation}
use Rattle.pks_terms.specs.Signatures.{Shape, Signature, HasValues, fits_type, type_of, object_is_of, objects_of, range_of}
use Rattle.pks_terms.specs.Databases.{Five, inner_normal, normal, normal_literal, holds}
use Rattle.pks_terms.specs.Closure.{additions, round, rounds, normal_conj, normal_group, tidied, Next, Closes}
use Rattle.pks_terms.specs.Actions.{Target, Set, Unset, Clear, Assign, Effect, Item, ItemKf, ItemKw, ItemKv, ItemLcw, Add, Schema, Instance, term_at, literal_at, conj_at, effect_at}
use Rattle.pks_terms.specs.Spoiling.{is_stable, are_stable, spoils}
use Rattle.pks_terms.specs.Justified.{Case, case_of, given_of, is_place, makes_so}
use Rattle.pks_terms.specs.Progress.{is_untouched, conj_parameters, arguments_stable, place_at, has_stable_arguments, has_place, added_equation, added_literal, literals_added, is_sensed, added_formula, formulas_added, is_applied_in, progressed}
use Rattle.pks_terms.specs.Problems.{Start, StartKf, StartKw, StartKv, StartKx, StartLcw, Problem, schema_of, known_start, whether_start, group_start, initial}
use Rattle.pks_terms.specs.Valid.{all_fit, inner_fits, term_fits, type_in, is_term, is_related, is_literal, sides_fit, IsLiteralText, IsConjText, IsTargetText, IsItemText, IsSchemaText, IsStartText, AreQueries, AreOf, IsValid}
use Rattle.pks_terms.specs.Versions.{IsFirstVersion, AreOneTyped, IsOneTyped}
use Rattle.pks_terms.specs.Branching.{Choice, Act, BranchOn, CasesOn, Side, AsTrue, AsFalse, Is, IsMember, denials, assumed_formula, assumed}
use Rattle.pks_terms.specs.Settling.{History, argument_forms, term_forms, stable_forms, target_forms, can_be_undone, is_made_otherwise, lasting, lasted, fired, must_have_fired, cannot_have_fired, effects_of, forward, backward, grown, from_next, settled_steps, settle_round, settle_rounds, At, Stopped, clashes, tidied_history, Settles}
use Rattle.pks_terms.specs.Handed.{IsStepOf}
use Rattle.pks_terms.proofs.ListLaws.{each_append, each_in, each_of, each_map, each_kept, each_flat_map, each_filter_map, each_insert_in, each_added, each_set_of, each_weaker, in_filtered, found_in}
use Rattle.pks_terms.proofs.OrderLaws.{same_term}
use Rattle.pks_terms.proofs.Types.{fits_alone}
use Rattle.pks_laws.proofs.Least.{value_literal}
use Rattle.pks_laws.proofs.Versions.{own_value, own_type, normal_type, ordered_typed, additions_typed}
use Rattle.pks_laws.proofs.Fitting.{Keeps, all_fit_kept, map_keeps, inner_normal_keeps, Moves, term_at_keeps, term_forms_keep}
use Rattle.pks_terms.proofs.Sequences.{each_in_sequence}
use Rattle.pks_laws.proofs.Belonging.{L, T, if_of, end_of, tidied_of, closed_of}
use Rattle.pks_laws.proofs.BelongingSteps.{initial_of, schema_text, assumed_of, progressed_of}
use Rattle.pks_laws.proofs.BelongingHistories.{later_each, other_each, is_clash, history_or, IsWritten, effects_written, forward_of, backward_of, grown_of}
use Rattle.pks_laws.specs.OfSignature.{HasOwnValues, IsSideOf}
use Rattle.pks_laws.specs.OneTyped.{HasOneTyped, IsOneTypedAlong}

-- values are of the result types where equations have one type
pub one_typed_own : (s : Signature) (kf : List Literal) → Each (IsOneTyped s) kf → HasOwnValues s kf
one_typed_own s kf typed f ds e i =
    let k = each_in (IsOneTyped s) kf (record { relation = Equality; arguments = place f ds ∷ object e ∷ []; positive = true }) typed (value_literal kf f ds e i) in
    own_value s f e k.0 k.1 k.2

module _ (s : Signature) (none : Each (λ o. o ≡ None) s.parents) where
  abbrev U : Literal → Type 0
  U = IsOneTyped s

  fits_same : (a b : ℕ) → fits_type s a b ≡ true → a ≡ b
  fits_same a b h = eqb-true a b (sym (fits_alone s none a b) ∙ h)

  -- what may stand where a type is wanted is of that type
  type_is : (params : List ℕ) (wanted : ℕ) (t : Term) → term_fits s params wanted t ≡ true → type_in s params t ≡ Some wanted
  unfolding term_fits object_is_of
  type_is params wanted (Object d) h =
      elim (slice_get s.objects d) as (λ o. option_map_or (λ own. fits_type s own wanted) o false ≡ true → o ≡ Some wanted) [ None ↦ λ q. absurd (true≢false (sym q)) | Some own ↦ λ q. ap Some (fits_same own wanted q) ] h
  type_is params wanted (Parameter i) h =
      elim (slice_get params i) as (λ o. option_map_or (λ own. fits_type s own wanted) o false ≡ true → o ≡ Some wanted) [ None ↦ λ q. absurd (true≢false (sym q)) | Some own ↦ λ q. ap Some (fits_same own wanted q) ] h
  type_is params wanted (Apply f ts) h =
      elim (slice_get s.functions f) as (λ (o : Option Shape). option_map_or (λ (x : Shape). all_fit (inner_fits s params) x.arguments ts && fits_type s x.result wanted) o false ≡ true → option_map (λ (x : Shape). x.result) o ≡ Some wanted) [
        | None ↦ λ q. absurd (true≢false (sym q))
        | Some x ↦ λ q. ap Some (fits_same x.result wanted (and_parts (all_fit (inner_fits s params) x.arguments ts) _ q).1)
      ] h

  ground_type : (t : Term) → type_in s [] t ≡ type_of s t
  ground_type (Object d) = refl
  ground_type (Parameter i) = refl
  ground_type (Apply f ts) = refl

  -- a term that stands wherever another does is of its type
  moved_type : (params : List ℕ) (t u : Term) (a : ℕ) → Moves s params [] t u → is_term s params t ≡ true → type_in s params t ≡ Some a → type_of s u ≡ Some a
  moved_type params t u a k h q =
      sym (ground_type u) ∙ type_is [] a u (k a (subst (λ o. option_map_or (λ own. term_fits s params own t) o false ≡ true) q h))

  same_type : (a b : ℕ) → (fits_type s a b || fits_type s b a) ≡ true → a ≡ b
  same_type a b h = ⊎_elim (λ k. fits_same a b k) (λ k. sym (fits_same b a k)) (or_cases (fits_type s a b) _ h)

  -- the sides of an equation as written have one type
  text_type : (params : List ℕ) (t u : Term) → sides_fit s params Equality (t ∷ u ∷ []) ≡ true → (a : ℕ) × (type_in s params t ≡ Some a) × (type_in s params u ≡ Some a)
  text_type params t u h =
      elim (type_in s params t) as (λ o. option_map_or (λ a. option_map_or (λ b. fits_type s a b || fits_type s b a) (type_in s params u) false) o false ≡ true → (a : ℕ) × (o ≡ Some a) × (type_in s params u ≡ Some a)) [
        | None ↦ λ q. absurd (true≢false (sym q))
        | Some a ↦ elim (type_in s params u) as (λ o. option_map_or (λ b. fits_type s a b || fits_type s b a) o false ≡ true → (c : ℕ) × (Some a ≡ Some c) × (o ≡ Some c)) [
          | None ↦ λ q. absurd (true≢false (sym q))
          | Some b ↦ λ q. (a, refl, ap Some (sym (same_type a b q)))
        ]
      ] h

  -- a literal as written, with other terms that may stand in its terms' places
  moved_literal : (params : List ℕ) (f : Term → Term) → ((t : Term) → Moves s params [] t (f t)) → (r : Relation) (ts : List Term) (b : Bool) → is_related s params r ts ≡ true → sides_fit s params r ts ≡ true → U (literal r (map f ts) b)
  unfolding literal
  moved_literal params f k (Named p) ts b h q = tt
  moved_literal params f k Equality (t ∷ u ∷ []) b h q =
      let e = text_type params t u q in
      let both = and_parts (is_term s params t) _ h in
      unfold literal in ordered_typed s none (f t) (f u) b e.0 (moved_type params t (f t) e.0 (k t) both.0 e.1) (moved_type params u (f u) e.0 (k u) both.1 e.2)
  moved_literal params f k Equality [] b h q = absurd (true≢false (sym h))
  moved_literal params f k Equality (t ∷ []) b h q = absurd (true≢false (sym h))
  moved_literal params f k Equality (t ∷ u ∷ v ∷ ts) b h q = absurd (true≢false (sym h))

  pub text_one_typed : (l : Literal) → IsLiteralText s [] l → U l
  unfolding is_literal
  text_one_typed l t = go l.relation l.arguments t.typed t.sides
    where
      go : (r : Relation) (ts : List Term) → is_related s [] r ts ≡ true → sides_fit s [] r ts ≡ true → AreOneTyped s r ts
      go (Named p) ts h q = tt
      go Equality (t ∷ u ∷ []) h q = let e = text_type [] t u q in (e.0, sym (ground_type t) ∙ e.1, sym (ground_type u) ∙ e.2)
      go Equality [] h q = absurd (true≢false (sym h))
      go Equality (t ∷ []) h q = absurd (true≢false (sym h))
      go Equality (t ∷ u ∷ v ∷ ts) h q = absurd (true≢false (sym h))

  named_typed : (p : ℕ) (ts : List Term) (b : Bool) → U (literal (Named p) ts b)
  unfolding literal
  named_typed p ts b = tt

  -- in normal form
  normal_one_typed : (kf : List Literal) → Each U kf → (l : Literal) → U l → U (normal_literal kf l)
  unfolding normal_literal
  normal_one_typed kf typed l h = go l.relation l.arguments h
    where
      go : (r : Relation) (ts : List Term) → AreOneTyped s r ts → U (literal r (map (normal kf) ts) l.positive)
      go (Named p) ts h = named_typed p (map (normal kf) ts) l.positive
      go Equality (t ∷ u ∷ []) h = ordered_typed s none (normal kf t) (normal kf u) l.positive h.0 (normal_type s kf typed t h.0 h.1) (normal_type s kf typed u h.0 h.2)
      go Equality [] h = absurd h
      go Equality (t ∷ []) h = absurd h
      go Equality (t ∷ u ∷ v ∷ ts) h = absurd h

  -- ---- closing

  normals_one_typed : (kf : List Literal) → Each U kf → (c : List Literal) → Each U c → Each U (map (normal_literal kf) c)
  normals_one_typed kf typed c a = each_map U (normal_literal kf) c (each_weaker U (λ l. U (normal_literal kf l)) (normal_one_typed kf typed) c a)

  conj_one_typed : (kf : List Literal) → Each U kf → (c : List Literal) → Each U c → Each U (normal_conj kf c)
  conj_one_typed kf typed c a = each_set_of U literal_cmp (map (normal_literal kf) c) (normals_one_typed kf typed c a)

  abbrev AreTypedIn : Five → Type 0
  AreTypedIn d = Each U d.kf × Each (Each U) d.kw × Each (Each U) d.kx

  rounds_one_typed : (n : ℕ) (d : Five) → AreTypedIn d → AreTypedIn (rounds s n d)
  unfolding round
  rounds_one_typed zero d m = m
  rounds_one_typed (suc n) d m =
      let k = rounds_one_typed n d m in
      let e = rounds s n d in
      (each_added U literal_cmp e.kf (additions s e) k.0 (additions_typed s none e k.0 k.2), k.1, k.2)

  tidied_one_typed : (d : Five) → AreTypedIn d → AreTypedIn (tidied d)
  unfolding tidied
  tidied_one_typed d m = (
    m.0,
    each_set_of (Each U) conj_cmp (map (normal_conj d.kf) d.kw) (each_map (Each U) (normal_conj d.kf) d.kw (each_weaker (Each U) (λ c. Each U (normal_conj d.kf c)) (conj_one_typed d.kf m.0) d.kw m.1)),
    each_set_of (Each U) conj_cmp (map (normal_group d.kf) d.kx) (each_map (Each U) (normal_group d.kf) d.kx (each_weaker (Each U) (λ c. Each U (normal_group d.kf c)) (λ c a. each_in_sequence U (map (normal_literal d.kf) c) (normals_one_typed d.kf m.0 c a)) d.kx m.2)),
  )

  typed_in : (d : Five) → HasOneTyped s d → AreTypedIn d
  typed_in d m = (m.known, m.whether, m.groups)

  has_typed : (d : Five) → AreOf s d → AreTypedIn d → HasOneTyped s d
  has_typed d m k = record { of = m; known = k.0; whether = k.1; groups = k.2 }

  pub closed_one_typed : HasValues s → (d e : Five) → HasOneTyped s d → Closes s d (Next e) → HasOneTyped s e
  closed_one_typed inhabited d e m c =
      has_typed e (closed_of s inhabited d e c m.of) (subst AreTypedIn (sym (end_of s d e c).1) (tidied_one_typed (rounds s c.count d) (rounds_one_typed c.count d (typed_in d m))))

  -- ---- sides

  range_equation : (t : Term) (e : ℕ) → T s t → IsIn e (range_of s t) → U (equation t (object e))
  range_equation (Object d) e h (inl q) =
      elim (slice_get s.objects d) as (λ o. slice_get s.objects d ≡ o → option_map_or (λ own. term_fits s [] own (Object d)) o false ≡ true → U (equation (Object d) (object e))) [
        | None ↦ λ r k. absurd (true≢false (sym k))
        | Some own ↦ λ r k. ordered_typed s none (Object d) (object e) true own r (ap (slice_get s.objects) (sym q) ∙ r)
      ] refl h
  range_equation (Object d) e h (inr i) = absurd i
  range_equation (Parameter i) e h j = absurd j
  range_equation (Apply f ts) e h j =
      elim (slice_get s.functions f) as (λ (o : Option Shape). slice_get s.functions f ≡ o → IsIn e (option_map_or (λ (x : Shape). objects_of s x.result) o []) → U (equation (Apply f ts) (object e))) [
        | None ↦ λ r k. absurd k
        | Some x ↦ λ r k. ordered_typed s none (Apply f ts) (object e) true x.result (ap (option_map (λ (x : Shape). x.result)) r) (own_type s none x.result e k)
      ] refl j

  denials_one_typed : (c : List Literal) → Each U c → Each U (denials c)
  denials_one_typed [] a = tt
  denials_one_typed (l ∷ rest) a = elim rest as (λ r. Each U (elim r [ [] ↦ negated l ∷ [] | x ∷ xs ↦ [] ])) [ [] ↦ (a.0, tt) | x ∷ xs ↦ tt ]

  formula_one_typed : (d : Five) → HasOneTyped s d → (c news : List Literal) → Each U news → AreTypedIn (assumed_formula d c news)
  formula_one_typed d m c news a = (each_added U literal_cmp d.kf news m.known a, each_kept (Each U) (λ b. not (is_eq (conj_cmp b c))) d.kw m.whether, m.groups)

  side_one_typed : (d : Five) → HasOneTyped s d → (c : Choice) (side : Side) → IsMember d c → IsSideOf s c side → AreTypedIn (assumed s d c side)
  unfolding assumed
  side_one_typed d m (BranchOn c) AsTrue i k = formula_one_typed d m c c (each_in (Each U) d.kw c m.whether i)
  side_one_typed d m (BranchOn c) AsFalse i k =
      let rest = filter (λ l. not (holds s d l)) c in formula_one_typed d m c (denials rest) (denials_one_typed rest (each_kept U (λ l. not (holds s d l)) c (each_in (Each U) d.kw c m.whether i)))
  side_one_typed d m (CasesOn t) (Is e) i k = (each_insert_in U literal_cmp (equation t (object e)) d.kf (range_equation t e (each_in (T s) d.kv t m.of.values i) k) m.known, m.whether, m.groups)
  side_one_typed d m (BranchOn c) (Is e) i k = absurd k
  side_one_typed d m (CasesOn t) AsTrue i k = absurd k
  side_one_typed d m (CasesOn t) AsFalse i k = absurd k
  side_one_typed d m (Act x) AsTrue i k = absurd k
  side_one_typed d m (Act x) AsFalse i k = absurd k
  side_one_typed d m (Act x) (Is e) i k = absurd k

  pub assumed_one_typed : (d : Five) → HasOneTyped s d → (c : Choice) (side : Side) → IsMember d c → IsSideOf s c side → HasOneTyped s (assumed s d c side)
  assumed_one_typed d m c side i k = has_typed (assumed s d c side) (assumed_of s d m.of c side i k) (side_one_typed d m c side i k)

  -- ---- actions

  module _ (sc : Schema) (text : IsSchemaText s sc) (given : List Inner) (fit : all_fit (inner_fits s []) sc.parameters given ≡ true) where
    put_one_typed : (given : List Inner) → all_fit (inner_fits s []) sc.parameters given ≡ true → (c : List Literal) → IsConjText s sc.parameters c → Each U (conj_at given c)
    unfolding literal_at is_literal
    put_one_typed given fit c t =
        each_set_of U literal_cmp (map (literal_at given) c) (each_map U (literal_at given) c
        (each_weaker (IsLiteralText s sc.parameters) (λ l. U (literal_at given l)) (λ l k. unfold literal_at in moved_literal sc.parameters (term_at given) (term_at_keeps s sc.parameters given fit) l.relation l.arguments l.positive k.typed k.sides) c t.0))

    conditions_one_typed : Each (λ e. Each U e.condition) (map (effect_at given) sc.effects)
    conditions_one_typed =
        each_map (λ (e : Effect). Each U e.condition) (effect_at given) sc.effects
        (each_weaker (λ e. IsConjText s sc.parameters e.condition × IsTargetText s sc.parameters e.target) (λ e. Each U (conj_at given e.condition)) (λ e k. put_one_typed given fit e.condition k.0) sc.effects text.effects)

    module _ (d : Five) (m : HasOneTyped s d) where
      abbrev deeds : List Effect
      deeds = map (effect_at given) sc.effects

      own : HasOwnValues s d.kf
      own = one_typed_own s d.kf m.known

      abbrev normals : List Inner
      normals = map (inner_normal d.kf) given

      normals_fit : all_fit (inner_fits s []) sc.parameters normals ≡ true
      normals_fit = all_fit_kept (inner_fits s []) (inner_fits s []) sc.parameters given normals (map_keeps (inner_fits s []) (inner_fits s []) (inner_normal d.kf) (inner_normal_keeps s d.kf own []) given) fit

      -- the place that is assigned is of the type of the term as written
      place_type : (t : Term) (x : Target) (a : ℕ) → is_place t x ≡ true → type_in s sc.parameters t ≡ Some a → type_of s (place_at d.kf given t) ≡ Some a
      place_type t (Assign f ts value) a h q = let e = same_term (Apply f ts) t h in subst (λ u. type_of s (place_at d.kf given u) ≡ Some a) e (subst (λ u. type_in s sc.parameters u ≡ Some a) (sym e) q)
      place_type t (Set b) a h q = absurd (true≢false (sym h))
      place_type t (Unset b) a h q = absurd (true≢false (sym h))
      place_type t (Clear y) a h q = absurd (true≢false (sym h))

      equation_one_typed : (a : Add) (l : Literal) (ts : List Term) → is_related s sc.parameters Equality ts ≡ true → sides_fit s sc.parameters Equality ts ≡ true → Each U (added_equation s d deeds given sc a l ts)
      equation_one_typed a l (t ∷ u ∷ []) h k =
          let to = place_at d.kf given t in
          let value = normal d.kf (term_at given u) in
          let e = text_type sc.parameters t u k in
          let both = and_parts (is_term s sc.parameters t) _ h in
          elim (has_place sc a l t && (has_stable_arguments s d deeds to && is_stable s d deeds value)) as (λ b. (has_place sc a l t && (has_stable_arguments s d deeds to && is_stable s d deeds value)) ≡ b → Each U (cond b (equation to value ∷ []) [])) [
            | true ↦ λ q.
                let f = found_in (λ p. is_place t p.0.target && makes_so (given_of sc a) l p) (with_later sc.effects) (and_parts (has_place sc a l t) _ q).0 in (
                  ordered_typed s none to value true e.0 (place_type t f.0.0.target e.0 (and_parts (is_place t f.0.0.target) _ f.2).0 e.1)
                      (normal_type s d.kf m.known (term_at given u) e.0 (moved_type sc.parameters u (term_at given u) e.0 (term_at_keeps s sc.parameters given fit u) both.1 e.2)),
                  tt,
                )
            | false ↦ λ q. tt
          ] refl
      equation_one_typed a l [] h k = absurd (true≢false (sym h))
      equation_one_typed a l (t ∷ []) h k = absurd (true≢false (sym h))
      equation_one_typed a l (t ∷ u ∷ v ∷ ts) h k = absurd (true≢false (sym h))

      literal_one_typed : (a : Add) (l : Literal) → IsLiteralText s sc.parameters l → (r : Relation) → l.relation ≡ r → Each U (added_literal s d deeds given sc a l r)
      unfolding literal_at is_literal
      literal_one_typed a l t (Named p) e =
          let n = normal_literal d.kf (literal_at given l) in
          if_of s U (are_stable s d deeds n.arguments) (n ∷ []) (normal_one_typed d.kf m.known (literal_at given l) (unfold literal_at in moved_literal sc.parameters (term_at given) (term_at_keeps s sc.parameters given fit) l.relation l.arguments l.positive t.typed t.sides), tt)
      literal_one_typed a l t Equality e =
          equation_one_typed a l l.arguments (subst (λ r. is_related s sc.parameters r l.arguments ≡ true) e t.typed) (subst (λ r. sides_fit s sc.parameters r l.arguments ≡ true) e t.sides)

      literals_one_typed : (a : Add) (x : Item) → IsItemText s sc.parameters x → Each U (literals_added s d deeds given sc a x)
      literals_one_typed a (ItemKf l) t = literal_one_typed a l t l.relation refl
      literals_one_typed a (ItemKw c) t = tt
      literals_one_typed a (ItemKv u) t = tt
      literals_one_typed a (ItemLcw x) t = tt

      formula_added_typed : (k : Case) (c : List Literal) → IsConjText s sc.parameters c → Each (Each U) (added_formula s d deeds given normals k c)
      formula_added_typed k c t =
          elim (is_sensed k) as (λ b. Each (Each U) (cond b (cond (arguments_stable s d deeds normals (conj_parameters c)) (conj_at normals c ∷ []) [])
          (let b = normal_conj d.kf (conj_at given c) in cond (list_all (λ l. are_stable s d deeds l.arguments) b) (b ∷ []) []))) [
            | true ↦ if_of s (Each U) (arguments_stable s d deeds normals (conj_parameters c)) (conj_at normals c ∷ []) (put_one_typed normals normals_fit c t, tt)
            | false ↦ let b = normal_conj d.kf (conj_at given c) in if_of s (Each U) (list_all (λ l. are_stable s d deeds l.arguments) b) (b ∷ []) (conj_one_typed d.kf m.known (conj_at given c) (put_one_typed given fit c t), tt)
          ]

      formulas_one_typed : (o : Option Case) (x : Item) → IsItemText s sc.parameters x → Each (Each U) (formulas_added s d deeds given normals o x)
      formulas_one_typed o (ItemKw c) t = elim o as (λ o. Each (Each U) (option_map_or (λ k. added_formula s d deeds given normals k c) o [])) [ None ↦ tt | Some k ↦ formula_added_typed k c t ]
      formulas_one_typed o (ItemKf l) t = tt
      formulas_one_typed o (ItemKv u) t = tt
      formulas_one_typed o (ItemLcw x) t = tt

      item_typed : (a : Add) → IsIn a (filter (is_applied_in s d given) sc.adds) → IsItemText s sc.parameters a.item
      item_typed a i = (each_in (λ (a : Add). AreQueries s sc.parameters a.given × IsItemText s sc.parameters a.item) sc.adds a text.adds (in_filtered (is_applied_in s d given) sc.adds a i).0).1

      progressed_typed_in : AreTypedIn (progressed s d sc given)
      unfolding progressed
      progressed_typed_in =
          let adds = filter (is_applied_in s d given) sc.adds in (
            each_added U literal_cmp (filter (λ l. not (spoils s d deeds l)) d.kf) (flat_map (λ a. literals_added s d deeds given sc a a.item) adds) (each_kept U (λ l. not (spoils s d deeds l)) d.kf m.known)
                (each_flat_map U (λ a. literals_added s d deeds given sc a a.item) adds (λ a i. literals_one_typed a a.item (item_typed a i))),
            each_added (Each U) conj_cmp (filter (is_untouched s d deeds) d.kw) (flat_map (λ a. formulas_added s d deeds given normals (case_of sc a) a.item) adds) (each_kept (Each U) (is_untouched s d deeds) d.kw m.whether)
                (each_flat_map (Each U) (λ a. formulas_added s d deeds given normals (case_of sc a) a.item) adds (λ a i. formulas_one_typed (case_of sc a) a.item (item_typed a i))),
            each_kept (Each U) (is_untouched s d deeds) d.kx m.groups,
          )

      pub progressed_one_typed : HasOneTyped s (progressed s d sc given)
      progressed_one_typed = has_typed (progressed s d sc given) (progressed_of s sc text given fit d m.of own) progressed_typed_in

-- ---- the start, and settling

module _ (p : Problem) (v : IsValid p) (first : IsFirstVersion p) where
  abbrev S : Signature
  S = p.signature

  start_known_typed : (x : Start) (l : Literal) → IsStartText S x → known_start x ≡ Some l → IsOneTyped S l
  start_known_typed (StartKf m) l t e = subst (IsOneTyped S) (same_Some m l e) (text_one_typed S first.parents m t)
  start_known_typed (StartKw c) l t e = absurd (none-some l e)
  start_known_typed (StartKv u) l t e = absurd (none-some l e)
  start_known_typed (StartKx g) l t e = absurd (none-some l e)
  start_known_typed (StartLcw x) l t e = absurd (none-some l e)

  start_whether_typed : (x : Start) (c : List Literal) → IsStartText S x → whether_start x ≡ Some c → Each (IsOneTyped S) c
  start_whether_typed (StartKw b) c t e = subst (Each (IsOneTyped S)) (same_Some b c e) (each_weaker (IsLiteralText S []) (IsOneTyped S) (text_one_typed S first.parents) b t.0)
  start_whether_typed (StartKf m) c t e = absurd (none-some c e)
  start_whether_typed (StartKv u) c t e = absurd (none-some c e)
  start_whether_typed (StartKx g) c t e = absurd (none-some c e)
  start_whether_typed (StartLcw x) c t e = absurd (none-some c e)

  start_group_typed : (x : Start) (c : List Literal) → IsStartText S x → group_start x ≡ Some c → Each (IsOneTyped S) c
  start_group_typed (StartKx b) c t e = subst (Each (IsOneTyped S)) (same_Some b c e) (each_weaker (IsLiteralText S []) (IsOneTyped S) (text_one_typed S first.parents) b t.0)
  start_group_typed (StartKf m) c t e = absurd (none-some c e)
  start_group_typed (StartKw b) c t e = absurd (none-some c e)
  start_group_typed (StartKv u) c t e = absurd (none-some c e)
  start_group_typed (StartLcw x) c t e = absurd (none-some c e)

  initial_typed_in : AreTypedIn S first.parents (initial p)
  unfolding initial
  initial_typed_in =
      let text : (x : Start) → IsIn x p.init → IsStartText S x = λ x i. each_in (IsStartText S) p.init x v.init i in (
        each_set_of (IsOneTyped S) literal_cmp (filter_map known_start p.init) (each_filter_map (IsOneTyped S) known_start p.init (λ x l i e. start_known_typed x l (text x i) e)),
        each_set_of (Each (IsOneTyped S)) conj_cmp (filter_map whether_start p.init) (each_filter_map (Each (IsOneTyped S)) whether_start p.init (λ x c i e. start_whether_typed x c (text x i) e)),
        each_set_of (Each (IsOneTyped S)) conj_cmp (filter_map group_start p.init) (each_filter_map (Each (IsOneTyped S)) group_start p.init (λ x c i e. start_group_typed x c (text x i) e)),
      )

  pub initial_one_typed : HasOneTyped S (initial p)
  initial_one_typed = has_typed S first.parents (initial p) (initial_of p v) initial_typed_in

  forms_typed : (es : List Effect) (before : Five) → HasOneTyped S before → (x : Target) → IsTargetText S [] x → Each (IsOneTyped S) (target_forms S before es x)
  forms_typed es before m (Set a) t = each_map (IsOneTyped S) (λ ts. literal (Named a.predicate) ts true) (stable_forms S before es a.arguments) (each_of (λ ts. IsOneTyped S (literal (Named a.predicate) ts true)) (stable_forms S before es a.arguments) (λ ts i. named_typed S first.parents a.predicate ts true))
  forms_typed es before m (Unset a) t = each_map (IsOneTyped S) (λ ts. literal (Named a.predicate) ts false) (stable_forms S before es a.arguments) (each_of (λ ts. IsOneTyped S (literal (Named a.predicate) ts false)) (stable_forms S before es a.arguments) (λ ts i. named_typed S first.parents a.predicate ts false))
  forms_typed es before m (Clear x) t = tt
  forms_typed es before m (Assign f ts value) t =
      let own = one_typed_own S before.kf m.known in
      each_flat_map (IsOneTyped S) (λ us. map (equation (Apply f us)) (filter (is_stable S before es) (term_forms before.kf value))) (filter (λ us. are_stable S before es (map term_of us)) (argument_forms before.kf ts))
      (λ us i.
      each_map (IsOneTyped S) (equation (Apply f us)) (filter (is_stable S before es) (term_forms before.kf value))
      (each_weaker (Keeps (term_fits S []) (term_fits S []) value) (λ u. IsOneTyped S (equation (Apply f us) u))
      (λ u k. ordered_typed S first.parents (Apply f us) u true t.0.result (ap (option_map (λ (x : Shape). x.result)) t.1) (sym (ground_type S first.parents u) ∙ type_is S first.parents [] t.0.result u (k t.0.result t.3)))
      (filter (is_stable S before es) (term_forms before.kf value)) (each_kept (Keeps (term_fits S []) (term_fits S []) value) (is_stable S before es) (term_forms before.kf value) (term_forms_keep S before.kf own [] value))))

  abbrev IsTypedEffect : Effect → Type 0
  IsTypedEffect e = Each (IsOneTyped S) e.condition × IsTargetText S [] e.target

  effects_typed : (i : Instance) → IsStepOf p i → Each IsTypedEffect (effects_of p i)
  effects_typed i fit =
      let written = effects_written p v i fit in
      let typed = conditions_one_typed S first.parents (schema_of p i.action) (schema_text p v i.action) i.arguments fit.arguments in
      each_of IsTypedEffect (effects_of p i) (λ e j. (each_in (λ (e : Effect). Each (IsOneTyped S) e.condition) (effects_of p i) e typed j, (each_in (IsWritten S) (effects_of p i) e written j).1))

  forward_typed : (i : Instance) (before : Five) → IsStepOf p i → HasOneTyped S before → Each (IsOneTyped S) (forward p i before)
  forward_typed i before fit m =
      let es = effects_of p i in
      each_append (IsOneTyped S) (lasting S es before) (flat_map (fired S es before) (with_later es)) (each_kept (IsOneTyped S) (λ l. not (spoils S before es l)) before.kf m.known)
      (each_flat_map (IsOneTyped S) (fired S es before) (with_later es) (λ q j.
      let w = each_in (λ q. IsTypedEffect q.0 × Each IsTypedEffect q.1) (with_later es) q (later_each IsTypedEffect es (effects_typed i fit)) j in
      if_of S (IsOneTyped S) (list_all (holds S before) q.0.condition && not (can_be_undone S before q)) (target_forms S before es q.0.target) (forms_typed es before m q.0.target w.0.1)))

  cannot_typed : (es : List Effect) (before after : Five) (q : Effect × List Effect) → Each (IsOneTyped S) q.0.condition → Each (IsOneTyped S) (cannot_have_fired S es before after q)
  cannot_typed es before after q w =
      let news = flat_map (λ c. cond (list_all (holds S before) c.1) (negated c.0 ∷ []) []) (with_others q.0.condition) in
      if_of S (IsOneTyped S) (list_any (λ l. holds S after (negated l)) (target_forms S before es q.0.target) && not (can_be_undone S before q)) news
      (each_flat_map (IsOneTyped S) (λ (c : Literal × List Literal). cond (list_all (holds S before) c.1) (negated c.0 ∷ []) []) (with_others q.0.condition)
      (λ c i. if_of S (IsOneTyped S) (list_all (holds S before) c.1) (negated c.0 ∷ []) ((each_in (λ q. IsOneTyped S q.0 × Each (IsOneTyped S) q.1) (with_others q.0.condition) c (other_each (IsOneTyped S) q.0.condition w) i).0, tt)))

  backward_typed : (i : Instance) (before after : Five) → IsStepOf p i → HasOneTyped S after → Each (IsOneTyped S) (backward p i before after)
  backward_typed i before after fit n =
      let es = effects_of p i in
      let typed = effects_typed i fit in
      each_append (IsOneTyped S) (lasted S es before after) (flat_map (must_have_fired S es before after) (with_others es) ++ flat_map (cannot_have_fired S es before after) (with_later es)) (each_kept (IsOneTyped S) (λ l. not (spoils S before es (negated l))) after.kf n.known)
      (each_append (IsOneTyped S) (flat_map (must_have_fired S es before after) (with_others es)) (flat_map (cannot_have_fired S es before after) (with_later es))
      (each_flat_map (IsOneTyped S) (must_have_fired S es before after) (with_others es) (λ q j.
      if_of S (IsOneTyped S) (list_any (λ l. holds S before (negated l) && holds S after l) (target_forms S before es q.0.target) && not (is_made_otherwise S before q)) q.0.condition (each_in (λ q. IsTypedEffect q.0 × Each IsTypedEffect q.1) (with_others es) q (other_each IsTypedEffect es typed) j).0.0))
      (each_flat_map (IsOneTyped S) (cannot_have_fired S es before after) (with_later es) (λ q j. cannot_typed es before after q (each_in (λ q. IsTypedEffect q.0 × Each IsTypedEffect q.1) (with_later es) q (later_each IsTypedEffect es typed) j).0.0)))

  abbrev IsTypedStep : Instance × Five → Type 0
  IsTypedStep step = IsStepOf p step.0 × HasOneTyped S step.1

  -- what is added at a moment
  abbrev AreNews : List Literal → Type 0
  AreNews news = Each (L S) news × Each (IsOneTyped S) news

  both_news : (xs ys : List Literal) → AreNews xs → AreNews ys → AreNews (xs ++ ys)
  both_news xs ys a b = (each_append (L S) xs ys a.0 b.0, each_append (IsOneTyped S) xs ys a.1 b.1)

  grown_typed : (d : Five) (news : List Literal) → HasOneTyped S d → AreNews news → HasOneTyped S (grown S d news)
  grown_typed d news m a = record {
    of = grown_of p v d news m.of (one_typed_own S d.kf m.known) a.0;
    known = each_added (IsOneTyped S) literal_cmp d.kf (additions S d ++ news) m.known (each_append (IsOneTyped S) (additions S d) news (additions_typed S first.parents d m.known m.groups) a.1);
    whether = m.whether;
    groups = m.groups;
  }

  forward_news : (i : Instance) (before : Five) → IsStepOf p i → HasOneTyped S before → AreNews (forward p i before)
  forward_news i before fit m = (forward_of p v i before fit m.of (one_typed_own S before.kf m.known), forward_typed i before fit m)

  next_news : (d : Five) (steps : List (Instance × Five)) → HasOneTyped S d → Each IsTypedStep steps → AreNews (from_next p d steps)
  next_news d [] m a = (tt, tt)
  next_news d (step ∷ steps) m a = (backward_of p v step.0 d step.1 a.0.0 m.of (one_typed_own S d.kf m.known) a.0.1.of, backward_typed step.0 d step.1 a.0.0 a.0.1)

  steps_typed : (before : Five) (steps : List (Instance × Five)) → HasOneTyped S before → Each IsTypedStep steps → Each IsTypedStep (settled_steps p before steps)
  steps_typed before [] m a = tt
  steps_typed before (step ∷ steps) m a = (
    (a.0.0, grown_typed step.1 (forward p step.0 before ++ from_next p step.1 steps) a.0.1 (both_news (forward p step.0 before) (from_next p step.1 steps) (forward_news step.0 before a.0.0 m) (next_news step.1 steps a.0.1 a.1))),
    steps_typed step.1 steps a.0.1 a.1,
  )

  settle_rounds_typed : (n : ℕ) (h : History) → IsOneTypedAlong p h → IsOneTypedAlong p (settle_rounds p n h)
  unfolding settle_round
  settle_rounds_typed zero h m = m
  settle_rounds_typed (suc n) h m =
      let g = settle_rounds p n h in
      let k = settle_rounds_typed n h m in
      record { start = grown_typed g.start (from_next p g.start g.steps) k.start (next_news g.start g.steps k.start k.steps); steps = steps_typed g.start g.steps k.start k.steps }

  tidied_has_typed : (d : Five) → HasOneTyped S d → HasOneTyped S (tidied d)
  tidied_has_typed d m = has_typed S first.parents (tidied d) (tidied_of S d m.of (one_typed_own S d.kf m.known)) (tidied_one_typed S first.parents d (typed_in S first.parents d m))

  pub settled_one_typed : (h g : History) → IsOneTypedAlong p h → Settles p h (At g) → IsOneTypedAlong p g
  settled_one_typed h g m s = go (clashes S (settle_rounds p s.count h)) s.gives
    where
      go : (b : Bool) → At g ≡ cond b Stopped (At (tidied_history (settle_rounds p s.count h))) → IsOneTypedAlong p g
      go true e = absurd (true≢false (sym (ap is_clash e)))
      go false e =
          let k = settle_rounds_typed s.count h m in
          let last = settle_rounds p s.count h in
          subst (IsOneTypedAlong p) (sym (ap (history_or g) e))
          (record { start = tidied_has_typed last.start k.start; steps = each_map IsTypedStep (λ step. (step.0, tidied step.1)) last.steps (each_weaker IsTypedStep (λ step. IsTypedStep (step.0, tidied step.1)) (λ step h. (h.0, tidied_has_typed step.1 h.1)) last.steps k.steps) })
