-- Looking up where equations are between terms of one type.
use Rattle.std.proofs.Common.{◌≡◌, ◌&&◌, ◌||◌, ◌==◌, ℕ, Bool, true, false, not, List, [], ◌∷◌, map, slice_get, Option, Some, None, option_map, refl, sym, ap, ◌∙◌, subst, true≢false}
use Rattle.std.specs.Option.{option_map_or}
use Rattle.std.proofs.lemmas.Bool.{and_parts, eqb-true}
use Rattle.pks_terms.specs.Sets.{Each}
use Rattle.pks_terms.specs.Syntax.{Object, Parameter, Apply, Term, Relation, Named, Equality, Literal, Atom, negated}
use Rattle.pks_terms.specs.Orders.{inequation}
use Rattle.pks_terms.specs.Signatures.{Shape, Signature, fits_type, type_of, object_is_of, is_foreign}
use Rattle.pks_terms.specs.Databases.{Entry, Five, normal, is_known, is_evident, is_plain, differ, some_differ, fits, is_shut_out, is_closed_off, holds}
use Rattle.pks_terms.specs.Valid.{all_fit, inner_fits, term_fits, slot_fits, is_related, is_literal, is_atom, is_pattern}
use Rattle.pks_terms.specs.Versions.{AreOneTyped, IsOneTyped}
use Rattle.pks_terms.specs.Spoiling.{some_fixed_differ}
use Rattle.pks_terms.proofs.ListLaws.{all_same, each_in, each_of}
use Rattle.pks_terms.proofs.Types.{fits_alone}
use Rattle.pks_laws.proofs.Versions.{one_typed_evident, normal_type, ordered_typed}
use Rattle.pks_laws_version1.specs.LookingUp as first
use Rattle.pks_laws_version1.specs.OfFirst.{IsFirstLiteral, ListsItsOwn, IsOfFirst}
use Rattle.pks_laws_version1.proofs.Lists.{or_same, any_same}

-- ---- over the signature without its functions

module _ (s : Signature) where
  pub bare_evident : (r : Relation) (ts : List Term) (b : Bool) → is_evident (first.without_functions s) r ts b ≡ first.is_evident r ts b
  unfolding is_foreign
  bare_evident (Named p) ts b = refl
  bare_evident Equality [] b = refl
  bare_evident Equality (t ∷ []) b = refl
  bare_evident Equality (t ∷ u ∷ v ∷ ts) b = refl
  bare_evident Equality (t ∷ u ∷ []) true = refl
  bare_evident Equality (Object d ∷ Object e ∷ []) false = refl
  bare_evident Equality (Object d ∷ Parameter i ∷ []) false = refl
  bare_evident Equality (Object d ∷ Apply f us ∷ []) false = refl
  bare_evident Equality (Parameter i ∷ u ∷ []) false = refl
  bare_evident Equality (Apply f us ∷ Object d ∷ []) false = refl
  bare_evident Equality (Apply f us ∷ Parameter i ∷ []) false = refl
  bare_evident Equality (Apply f us ∷ Apply g vs ∷ []) false = refl

  bare_plain : (kf : List Literal) (l : Literal) → is_plain (first.without_functions s) kf l ≡ first.is_plain kf l
  unfolding is_plain
  bare_plain kf l = ap (λ b. is_known kf l || b) (bare_evident l.relation (map (normal kf) l.arguments) l.positive)

  pub bare_differ : (kf : List Literal) (t u : Term) → differ (first.without_functions s) kf t u ≡ first.differ kf t u
  unfolding differ
  bare_differ kf t u = bare_plain kf (inequation t u)

  bare_some : (kf : List Literal) (ts us : List Term) → some_differ (first.without_functions s) kf ts us ≡ first.some_differ kf ts us
  bare_some kf [] us = refl
  bare_some kf (t ∷ ts) [] = refl
  bare_some kf (t ∷ ts) (u ∷ us) = or_same _ _ _ _ (bare_differ kf t u) (bare_some kf ts us)

  bare_off : (d : Five) (r : Relation) (ts : List Term) (b : Bool) → is_closed_off (first.without_functions s) d r ts b ≡ first.is_closed_off d r ts b
  bare_off d (Named p) ts true = refl
  bare_off d Equality ts b = refl
  bare_off d (Named p) ts false =
      any_same (is_shut_out (first.without_functions s) d.kf p ts) (first.is_shut_out d.kf p ts) d.lcw
      (each_of (λ e. is_shut_out (first.without_functions s) d.kf p ts e ≡ first.is_shut_out d.kf p ts e) d.lcw (λ e i.
      ap (λ b. (e.pattern.predicate == p) && (fits d.kf e.pattern.slots ts && b)) (all_same (λ a. some_differ (first.without_functions s) d.kf a.arguments ts) (λ a. first.some_differ d.kf a.arguments ts) e.listed
      (each_of (λ (a : Atom). some_differ (first.without_functions s) d.kf a.arguments ts ≡ first.some_differ d.kf a.arguments ts) e.listed (λ a j. bare_some d.kf a.arguments ts)))))

  pub bare_holds : (d : Five) (l : Literal) → holds (first.without_functions s) d l ≡ first.holds d l
  unfolding holds
  bare_holds d l = or_same _ _ _ _ (bare_plain d.kf l) (bare_off d l.relation l.arguments l.positive)

-- ---- where no type has a parent

module _ (s : Signature) (none : Each (λ o. o ≡ None) s.parents) where
  abbrev pub B : Signature
  B = first.without_functions s

  abbrev pub U : Literal → Type 0
  U = IsOneTyped s

  abbrev pub V : Literal → Type 0
  V = IsFirstLiteral s

  fits_same : (a b : ℕ) → fits_type s a b ≡ true → a ≡ b
  fits_same a b h = eqb-true a b (sym (fits_alone s none a b) ∙ h)

  -- what may stand where a type is wanted is of that type
  pub type_is : (wanted : ℕ) (t : Term) → term_fits s [] wanted t ≡ true → type_of s t ≡ Some wanted
  unfolding term_fits object_is_of
  type_is wanted (Object d) h =
      elim (slice_get s.objects d) as (λ o. option_map_or (λ own. fits_type s own wanted) o false ≡ true → o ≡ Some wanted) [ None ↦ λ q. absurd (true≢false (sym q)) | Some own ↦ λ q. ap Some (fits_same own wanted q) ] h
  type_is wanted (Parameter i) h = absurd (true≢false (sym h))
  type_is wanted (Apply f ts) h =
      elim (slice_get s.functions f) as (λ (o : Option Shape). option_map_or (λ (x : Shape). all_fit (inner_fits s []) x.arguments ts && fits_type s x.result wanted) o false ≡ true → option_map (λ (x : Shape). x.result) o ≡ Some wanted) [
        | None ↦ λ q. absurd (true≢false (sym q))
        | Some x ↦ λ q. ap Some (fits_same x.result wanted (and_parts (all_fit (inner_fits s []) x.arguments ts) _ q).1)
      ] h

  evident_same : (r : Relation) (ts : List Term) (b : Bool) → AreOneTyped s r ts → is_evident s r ts b ≡ is_evident B r ts b
  evident_same (Named p) ts b h = refl
  evident_same Equality (t ∷ u ∷ []) true h = refl
  evident_same Equality (t ∷ u ∷ []) false h = one_typed_evident s t u h.0 h.1 h.2 ∙ sym (bare_evident s Equality (t ∷ u ∷ []) false)
  evident_same Equality [] b h = absurd h
  evident_same Equality (t ∷ []) b h = absurd h
  evident_same Equality (t ∷ u ∷ v ∷ ts) b h = absurd h

  normals_typed : (kf : List Literal) → Each U kf → (r : Relation) (ts : List Term) → AreOneTyped s r ts → AreOneTyped s r (map (normal kf) ts)
  normals_typed kf k (Named p) ts h = tt
  normals_typed kf k Equality (t ∷ u ∷ []) h = (h.0, normal_type s kf k t h.0 h.1, normal_type s kf k u h.0 h.2)
  normals_typed kf k Equality [] h = absurd h
  normals_typed kf k Equality (t ∷ []) h = absurd h
  normals_typed kf k Equality (t ∷ u ∷ v ∷ ts) h = absurd h

  module _ (kf : List Literal) (k : Each U kf) where
    plain_same : (l : Literal) → U l → is_plain s kf l ≡ is_plain B kf l
    unfolding is_plain
    plain_same l h = ap (λ b. is_known kf l || b) (evident_same l.relation (map (normal kf) l.arguments) l.positive (normals_typed kf k l.relation l.arguments h))

    pub differ_same : (t u : Term) (a : ℕ) → type_of s t ≡ Some a → type_of s u ≡ Some a → differ s kf t u ≡ differ B kf t u
    unfolding differ
    differ_same t u a p q = plain_same (inequation t u) (ordered_typed s none t u false a p q)

    pub fitting_differ : (a : ℕ) (t u : Term) → term_fits s [] a t ≡ true → term_fits s [] a u ≡ true → differ s kf t u ≡ differ B kf t u
    fitting_differ a t u h i = differ_same t u a (type_is a t h) (type_is a u i)

    pub some_differ_same : (tys : List ℕ) (ts us : List Term) → all_fit (term_fits s []) tys ts ≡ true → all_fit (term_fits s []) tys us ≡ true → some_differ s kf ts us ≡ some_differ B kf ts us
    some_differ_same tys [] us h i = refl
    some_differ_same tys (t ∷ ts) [] h i = refl
    some_differ_same [] (t ∷ ts) (u ∷ us) h i = absurd (true≢false (sym h))
    some_differ_same (a ∷ tys) (t ∷ ts) (u ∷ us) h i =
        let p = and_parts (term_fits s [] a t) _ h in
        let q = and_parts (term_fits s [] a u) _ i in
        or_same _ _ _ _ (fitting_differ a t u p.0 q.0) (some_differ_same tys ts us p.1 q.1)

    pub fixed_differ_same : (tys : List ℕ) (ss : List (Option Term)) (us : List Term) → all_fit (slot_fits s []) tys ss ≡ true → all_fit (term_fits s []) tys us ≡ true → some_fixed_differ s kf ss us ≡ some_fixed_differ B kf ss us
    fixed_differ_same tys [] us h i = refl
    fixed_differ_same tys (None ∷ ss) [] h i = refl
    fixed_differ_same tys (Some t ∷ ss) [] h i = refl
    fixed_differ_same [] (o ∷ ss) (u ∷ us) h i = absurd (true≢false (sym h))
    fixed_differ_same (a ∷ tys) (None ∷ ss) (u ∷ us) h i = fixed_differ_same tys ss us h (and_parts (term_fits s [] a u) _ i).1
    fixed_differ_same (a ∷ tys) (Some t ∷ ss) (u ∷ us) h i =
        let p = and_parts (term_fits s [] a t) _ h in
        let q = and_parts (term_fits s [] a u) _ i in
        or_same _ _ _ _ (fitting_differ a t u p.0 q.0) (fixed_differ_same tys ss us p.1 q.1)

    -- of one predicate
    pub related_differ : (p : ℕ) (ts us : List Term) → is_related s [] (Named p) ts ≡ true → is_related s [] (Named p) us ≡ true → some_differ s kf ts us ≡ some_differ B kf ts us
    related_differ p ts us h i =
        elim (slice_get s.predicates p) as (λ (o : Option Shape). option_map_or (λ (x : Shape). all_fit (term_fits s []) x.arguments ts) o false ≡ true → option_map_or (λ (x : Shape). all_fit (term_fits s []) x.arguments us) o false ≡ true → some_differ s kf ts us ≡ some_differ B kf ts us) [
          | None ↦ λ q r. absurd (true≢false (sym q))
          | Some x ↦ λ q r. some_differ_same x.arguments ts us q r
        ] h i

    -- where it matters only for one predicate
    pub when_same : (a b : ℕ) (x y : Bool) → (a ≡ b → x ≡ y) → ((a == b) && x) ≡ ((a == b) && y)
    when_same a b x y k = elim (a == b) as (λ c. (a == b) ≡ c → (c && x) ≡ (c && y)) [ false ↦ λ q. refl | true ↦ λ q. k (eqb-true a b q) ] refl

    pub named_differ : (a p : ℕ) (ts us : List Term) → is_related s [] (Named a) ts ≡ true → is_related s [] (Named p) us ≡ true → ((a == p) && not (some_differ s kf ts us)) ≡ ((a == p) && not (some_differ B kf ts us))
    named_differ a p ts us h i = when_same a p _ _ (λ e. ap not (related_differ p ts us (subst (λ n. is_related s [] (Named n) ts ≡ true) e h) i))

    shut_out_same : (e : Entry) → Each (λ a. is_atom s [] a ≡ true) e.listed → ListsItsOwn e → (p : ℕ) (ts : List Term) → is_related s [] (Named p) ts ≡ true → is_shut_out s kf p ts e ≡ is_shut_out B kf p ts e
    shut_out_same e of own p ts h =
        when_same e.pattern.predicate p _ _ (λ q.
        ap (λ b. fits kf e.pattern.slots ts && b) (all_same (λ a. some_differ s kf a.arguments ts) (λ a. some_differ B kf a.arguments ts) e.listed
        (each_of (λ a. some_differ s kf a.arguments ts ≡ some_differ B kf a.arguments ts) e.listed (λ a i.
        related_differ p a.arguments ts (subst (λ n. is_related s [] (Named n) a.arguments ≡ true) (each_in (λ a. a.predicate ≡ e.pattern.predicate) e.listed a own i ∙ q) (each_in (λ a. is_atom s [] a ≡ true) e.listed a of i)) h))))

  closed_off_same : (d : Five) → IsOfFirst s d → (r : Relation) (ts : List Term) (b : Bool) → is_related s [] r ts ≡ true → is_closed_off s d r ts b ≡ is_closed_off B d r ts b
  closed_off_same d m (Named p) ts true h = refl
  closed_off_same d m Equality ts b h = refl
  closed_off_same d m (Named p) ts false h =
      any_same (is_shut_out s d.kf p ts) (is_shut_out B d.kf p ts) d.lcw (each_of (λ e. is_shut_out s d.kf p ts e ≡ is_shut_out B d.kf p ts e) d.lcw (λ e i.
      shut_out_same d.kf m.typed.known e (each_in (λ e. (is_pattern s [] e.pattern ≡ true) × Each (λ a. is_atom s [] a ≡ true) e.listed) d.lcw e m.typed.of.regions i).1 (each_in ListsItsOwn d.lcw e m.regions i) p ts h))

  pub holds_same : (d : Five) → IsOfFirst s d → (l : Literal) → V l → holds s d l ≡ holds B d l
  unfolding holds is_literal
  holds_same d m l v = or_same _ _ _ _ (plain_same d.kf m.typed.known l v.1) (closed_off_same d m l.relation l.arguments l.positive v.0)

  pub negated_first : (l : Literal) → V l → V (negated l)
  unfolding is_literal
  negated_first l v = v

  pub denied_same : (d : Five) → IsOfFirst s d → (l : Literal) → V l → holds s d (negated l) ≡ holds B d (negated l)
  denied_same d m l v = holds_same d m (negated l) (negated_first l v)
