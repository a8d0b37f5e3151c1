-- Closing makes databases of a signature of databases of it, where they don't clash.
use Rattle.std.proofs.Common.{◌≡◌, ◌&&◌, ℕ, zero, suc, Bool, true, false, cond, List, [], ◌∷◌, ◌++◌, map, filter, slice_get, Option, Some, None, option_map, flat_map, refl, sym, ap, subst, inl, inr, true≢false}
use Rattle.std.specs.List.{list_all}
use Rattle.std.specs.Option.{option_map_or}
use Rattle.std.proofs.lemmas.Bool.{and_parts, and_from}
use Rattle.pks_terms.specs.Sets.{Each, IsIn, with_others, one_replaced}
use Rattle.pks_terms.specs.Syntax.{Object, Parameter, Apply, Term, object, term_of, Relation, Named, Equality, Literal, Atom, Pattern, negated}
use Rattle.pks_terms.specs.Orders.{term_cmp, literal_cmp, conj_cmp, atom_cmp, literal, equation}
use Rattle.pks_terms.specs.Totality.{literal_cmp_total}
use Rattle.pks_terms.specs.Signatures.{Shape, Signature, HasValues, objects_of, range_of, fits_type}
use Rattle.pks_terms.specs.Databases.{Entry, entry_cmp, Five, normal, normal_literal, holds}
use Rattle.pks_terms.specs.Closure.{term_steps, by_value, by_member, by_group, is_application, applications_in, is_last_left, by_range, additions, round, rounds, normal_conj, normal_group, normal_atom, normal_pattern, normal_entry, tidied, Outcome, Next, Clash, first_clash, Closes}
use Rattle.pks_terms.specs.Saturated.{Within, IsSaturated}
use Rattle.pks_terms.specs.Valid.{all_fit, inner_fits, term_fits, is_term, is_related, is_literal, is_atom, is_pattern, AreOf}
use Rattle.pks_terms.proofs.ListLaws.{each_append, each_in, each_map, each_filter, each_kept, each_flat_map, each_added, each_set_of, each_weaker}
use Rattle.pks_terms.proofs.OrderLaws.{literal_cmp_tells}
use Rattle.pks_terms.proofs.Sequences.{each_in_sequence}
use Rattle.pks_terms.proofs.SetLaws.{added_in}
use Rattle.pks_terms.proofs.Types.{objects_are_of}
use Rattle.pks_laws.proofs.Least.{values_within, one_value, ranged, rounds_keep, rounds_within}
use Rattle.pks_laws.proofs.Fitting.{map_keeps, replaced_keep, normal_keeps, term_steps_keep, AllMove, term_that_fits, term_kept, related_kept, ordered_literal, literal_kept, pattern_kept, as_term_fits}
use Rattle.pks_laws.specs.OfSignature.{HasOwnValues}

all_some_fit : {A : Type 0} (F : ℕ → A → Bool) (tys : List ℕ) (ts : List A) → all_fit F tys ts ≡ true → Each (λ t. (wanted : ℕ) × (F wanted t ≡ true)) ts
all_some_fit F tys [] h = tt
all_some_fit F [] (t ∷ ts) h = absurd (true≢false (sym h))
all_some_fit F (a ∷ tys) (t ∷ ts) h = let p = and_parts (F a t) _ h in ((a, p.0), all_some_fit F tys ts p.1)

module _ (s : Signature) where
  -- a literal, a formula or a group of the signature
  abbrev pub L : Literal → Type 0
  L l = is_literal s [] l ≡ true

  abbrev pub T : Term → Type 0
  T t = is_term s [] t ≡ true

  abbrev pub R : Entry → Type 0
  R e = (is_pattern s [] e.pattern ≡ true) × Each (λ a. is_atom s [] a ≡ true) e.listed

  pub related : (l : Literal) → L l → is_related s [] l.relation l.arguments ≡ true
  unfolding is_literal
  related l h = h

  pub literal_from : (r : Relation) (ts : List Term) (b : Bool) → is_related s [] r ts ≡ true → L (record { relation = r; arguments = ts; positive = b })
  unfolding is_literal
  literal_from r ts b h = h

  pub negated_of : (l : Literal) → L l → L (negated l)
  unfolding is_literal
  negated_of l h = h

  pub related_terms : (r : Relation) (ts : List Term) → is_related s [] r ts ≡ true → Each T ts
  related_terms (Named p) ts h =
      elim (slice_get s.predicates p) as (λ (o : Option Shape). option_map_or (λ (x : Shape). all_fit (term_fits s []) x.arguments ts) o false ≡ true → Each T ts) [
        | None ↦ λ q. absurd (true≢false (sym q))
        | Some x ↦ λ q. each_weaker (λ t. (wanted : ℕ) × (term_fits s [] wanted t ≡ true)) T (λ t k. term_that_fits s [] k.0 t k.1) ts (all_some_fit (term_fits s []) x.arguments ts q)
      ] h
  related_terms Equality (t ∷ u ∷ []) h = let p = and_parts (is_term s [] t) _ h in (p.0, (p.1, tt))
  related_terms Equality [] h = absurd (true≢false (sym h))
  related_terms Equality (t ∷ []) h = absurd (true≢false (sym h))
  related_terms Equality (t ∷ u ∷ v ∷ ts) h = absurd (true≢false (sym h))

  pub equation_of : (t u : Term) → T t → T u → L (equation t u)
  equation_of t u h k = ordered_literal s [] [] Equality (t ∷ u ∷ []) true (and_from _ _ h k)

  -- the applications in a term
  applications_of : (t : Term) → T t → Each T (applications_in t)
  unfolding term_fits
  applications_of (Object d) h = tt
  applications_of (Parameter i) h = tt
  applications_of (Apply f ts) h = (
    h,
    each_kept T is_application (map term_of ts) (each_map T term_of ts (elim (slice_get s.functions f) as (λ (o : Option Shape). option_map_or (λ a. option_map_or (λ (x : Shape). all_fit (inner_fits s []) x.arguments ts && fits_type s x.result a) o false) (option_map (λ (x : Shape). x.result) o) false ≡ true → Each (λ u. T (term_of u)) ts) [
      | None ↦ λ q. absurd (true≢false (sym q))
      | Some x ↦ λ q. each_weaker (λ u. (wanted : ℕ) × (inner_fits s [] wanted u ≡ true)) (λ u. T (term_of u)) (λ u k. term_that_fits s [] k.0 (term_of u) (as_term_fits s [] u k.0 k.1)) ts
          (all_some_fit (inner_fits s []) x.arguments ts (and_parts (all_fit (inner_fits s []) x.arguments ts) _ q).0)
    ] h)),
  )

  -- an object that may be the value of a term is one of the signature
  pub in_range_of : (t : Term) (e : ℕ) → T t → IsIn e (range_of s t) → T (object e)
  unfolding term_fits
  in_range_of (Object d) e h (inl q) = subst (λ c. T (object c)) q h
  in_range_of (Object d) e h (inr i) = absurd i
  in_range_of (Parameter i) e h j = absurd j
  in_range_of (Apply f ts) e h j =
      elim (slice_get s.functions f) as (λ (o : Option Shape). IsIn e (option_map_or (λ (x : Shape). objects_of s x.result) o []) → T (object e)) [ None ↦ λ k. absurd k | Some x ↦ λ k. unfold term_fits in term_that_fits s [] x.result (object e) (objects_are_of s x.result e k) ] j

  pub others_of : (ls : List Literal) → Each L ls → Each (λ q. L q.0 × Each L q.1) (with_others ls)
  others_of [] a = tt
  others_of (l ∷ ls) a = (
    (a.0, a.1),
    each_map (λ (q : Literal × List Literal). L q.0 × Each L q.1) (λ q. (q.0, l ∷ q.1)) (with_others ls) (each_weaker (λ q. L q.0 × Each L q.1) (λ q. L q.0 × Each L (l ∷ q.1)) (λ q k. (k.0, (a.0, k.1))) (with_others ls) (others_of ls a.1)),
  )

  pub if_of : {X : Type 0} (P : X → Type 0) (b : Bool) (xs : List X) → Each P xs → Each P (cond b xs [])
  if_of P true xs a = a
  if_of P false xs a = tt

  -- ---- a round

  module _ (d : Five) (m : AreOf s d) (own : HasOwnValues s d.kf) where
    value_of_it : (l : Literal) → L l → Each L (by_value d.kf l)
    unfolding by_value
    value_of_it l h =
        each_map L (λ ts. literal l.relation ts l.positive) (one_replaced (term_steps d.kf) l.arguments)
        (each_weaker (AllMove s [] [] l.arguments) (λ ts. L (literal l.relation ts l.positive)) (λ ts k. literal_kept s [] [] l.relation l.arguments ts l.positive k (related l h)) (one_replaced (term_steps d.kf) l.arguments)
        (replaced_keep (term_fits s []) (term_steps d.kf) (term_steps_keep s d.kf own []) l.arguments))

    group_of_it : (g : List Literal) → Each L g → Each L (by_group s d g)
    unfolding by_group
    group_of_it g a =
        each_flat_map L (by_member s d) (with_others g) (λ q i.
        let k = each_in (λ q. L q.0 × Each L q.1) (with_others g) q (others_of g a) i in
        each_append L (cond (list_all (λ m. holds s d (negated m)) q.1) (q.0 ∷ []) []) (cond (holds s d q.0) (map negated q.1) []) (if_of L _ (q.0 ∷ []) (k.0, tt)) (if_of L (holds s d q.0) (map negated q.1) (each_map L negated q.1 (each_weaker L (λ l. L (negated l)) negated_of q.1 k.1))))

    range_of_it : (t : Term) → T t → Each L (by_range s d t)
    unfolding by_range
    range_of_it t h =
        each_map L (λ e. equation t (object e)) (filter (is_last_left s d t (range_of s t)) (range_of s t))
        (each_filter (λ e. L (equation t (object e))) (is_last_left s d t (range_of s t)) (range_of s t) (λ e i k. equation_of t (object e) h (in_range_of t e h i)))

    pub additions_of : Each L (additions s d)
    unfolding additions
    additions_of =
        each_append L (flat_map (by_value d.kf) d.kf) (flat_map (by_group s d) d.kx ++ flat_map (λ l. flat_map (by_range s d) (flat_map applications_in l.arguments)) d.kf)
        (each_flat_map L (by_value d.kf) d.kf (λ l i. value_of_it l (each_in L d.kf l m.known i)))
        (each_append L (flat_map (by_group s d) d.kx) (flat_map (λ l. flat_map (by_range s d) (flat_map applications_in l.arguments)) d.kf)
        (each_flat_map L (by_group s d) d.kx (λ g i. group_of_it g (each_in (Each L) d.kx g m.groups i)))
        (each_flat_map L (λ l. flat_map (by_range s d) (flat_map applications_in l.arguments)) d.kf (λ l i.
        each_flat_map L (by_range s d) (flat_map applications_in l.arguments) (λ t j.
        range_of_it t (each_in T (flat_map applications_in l.arguments) t (each_flat_map T applications_in l.arguments (λ u k. applications_of u (each_in T l.arguments u (related_terms l.relation l.arguments (related l (each_in L d.kf l m.known i))) k))) j)))))

    round_of : AreOf s (round s d)
    unfolding round
    round_of = record { known = each_added L literal_cmp d.kf (additions s d) m.known additions_of; whether = m.whether; values = m.values; groups = m.groups; regions = m.regions }

  -- ---- normal forms

  module _ (kf : List Literal) (own : HasOwnValues s kf) where
    pub normals_move : (ts : List Term) → AllMove s [] [] ts (map (normal kf) ts)
    normals_move = map_keeps (term_fits s []) (term_fits s []) (normal kf) (normal_keeps s kf own [])

    pub normal_literal_of : (l : Literal) → L l → L (normal_literal kf l)
    unfolding normal_literal
    normal_literal_of l h = literal_kept s [] [] l.relation l.arguments (map (normal kf) l.arguments) l.positive (normals_move l.arguments) (related l h)

    pub normal_conj_of : (c : List Literal) → Each L c → Each L (normal_conj kf c)
    normal_conj_of c a = each_set_of L literal_cmp (map (normal_literal kf) c) (each_map L (normal_literal kf) c (each_weaker L (λ l. L (normal_literal kf l)) normal_literal_of c a))

    normal_group_of : (g : List Literal) → Each L g → Each L (normal_group kf g)
    normal_group_of g a = each_in_sequence L (map (normal_literal kf) g) (each_map L (normal_literal kf) g (each_weaker L (λ l. L (normal_literal kf l)) normal_literal_of g a))

    pub normal_term_of : (t : Term) → T t → T (normal kf t)
    normal_term_of t h = term_kept s [] [] t (normal kf t) (normal_keeps s kf own [] t) h

    pub normal_atom_of : (a : Atom) → is_atom s [] a ≡ true → is_atom s [] (normal_atom kf a) ≡ true
    normal_atom_of a h = related_kept s [] [] (Named a.predicate) a.arguments (map (normal kf) a.arguments) (normals_move a.arguments) h

    pub normal_pattern_of : (x : Pattern) → is_pattern s [] x ≡ true → is_pattern s [] (normal_pattern kf x) ≡ true
    normal_pattern_of x h = pattern_kept s [] [] (normal kf) (normal_keeps s kf own []) x h

    normal_entry_of : (e : Entry) → R e → R (normal_entry kf e)
    normal_entry_of e h = (
      normal_pattern_of e.pattern h.0,
      each_set_of (λ a. is_atom s [] a ≡ true) atom_cmp (map (normal_atom kf) e.listed) (each_map (λ a. is_atom s [] a ≡ true) (normal_atom kf) e.listed (each_weaker (λ a. is_atom s [] a ≡ true) (λ a. is_atom s [] (normal_atom kf a) ≡ true) normal_atom_of e.listed h.1)),
    )

  pub tidied_of : (d : Five) → AreOf s d → HasOwnValues s d.kf → AreOf s (tidied d)
  unfolding tidied
  tidied_of d m own = record {
    known = m.known;
    whether = each_set_of (Each L) conj_cmp (map (normal_conj d.kf) d.kw) (each_map (Each L) (normal_conj d.kf) d.kw (each_weaker (Each L) (λ c. Each L (normal_conj d.kf c)) (normal_conj_of d.kf own) d.kw m.whether));
    values = each_set_of T term_cmp (filter is_application (map (normal d.kf) d.kv)) (each_kept T is_application (map (normal d.kf) d.kv) (each_map T (normal d.kf) d.kv (each_weaker T (λ t. T (normal d.kf t)) (normal_term_of d.kf own) d.kv m.values)));
    groups = each_set_of (Each L) conj_cmp (map (normal_group d.kf) d.kx) (each_map (Each L) (normal_group d.kf) d.kx (each_weaker (Each L) (λ c. Each L (normal_group d.kf c)) (normal_group_of d.kf own) d.kx m.groups));
    regions = each_set_of R entry_cmp (map (normal_entry d.kf) d.lcw) (each_map R (normal_entry d.kf) d.lcw (each_weaker R (λ e. R (normal_entry d.kf e)) (normal_entry_of d.kf own) d.lcw m.regions));
  }

  -- ---- all rounds, where they end without a clash

  pub saturated_end : (d : Five) → round s d ≡ d → IsSaturated s d
  unfolding round
  saturated_end d h l i = subst (IsIn l) (ap (λ (x : Five). x.kf) h) (added_in literal_cmp_total literal_cmp_tells d.kf (additions s d) l (inr i))

  -- the end of the rounds, of which no literal is derived false
  pub end_of : (d e : Five) (c : Closes s d (Next e)) → (first_clash s (rounds s c.count d) ≡ None) × (e ≡ tidied (rounds s c.count d))
  end_of d e c = go (first_clash s (rounds s c.count d)) refl c.gives
    where
      next_of : Outcome → Five
      next_of (Next x) = x
      next_of (Clash l) = e

      is_next : Outcome → Bool
      is_next (Next x) = true
      is_next (Clash l) = false

      go : (r : Option Literal) → first_clash s (rounds s c.count d) ≡ r → Next e ≡ option_map_or Clash r (Next (tidied (rounds s c.count d))) → (first_clash s (rounds s c.count d) ≡ None) × (e ≡ tidied (rounds s c.count d))
      go None q k = (q, ap next_of k)
      go (Some l) q k = absurd (true≢false (ap is_next k))

  grows : (n : ℕ) (d : Five) → Within d.kf (rounds s n d).kf
  unfolding round
  grows zero d l i = i
  grows (suc n) d l i = added_in literal_cmp_total literal_cmp_tells (rounds s n d).kf (additions s (rounds s n d)) l (inl (grows n d l i))

  module _ (inhabited : HasValues s) (d e : Five) (closes : Closes s d (Next e)) where
    abbrev end : Five
    end = rounds s closes.count d

    own_values_from : (n : ℕ) → HasOwnValues s (rounds s n d).kf
    own_values_from n f ds x i =
        let fine = (end_of d e closes).0 in
        let saturated = saturated_end end closes.last in
        let keep = rounds_keep s end inhabited saturated fine closes.count d in
        ranged s end inhabited saturated fine f ds x
        (values_within s (rounds s n d).kf end.kf (rounds_within s end inhabited saturated fine n d (grows closes.count d) (sym keep.0) (sym keep.1)) (one_value s end inhabited saturated fine) f ds x i)

    rounds_of : (n : ℕ) → AreOf s d → AreOf s (rounds s n d)
    rounds_of zero m = m
    rounds_of (suc n) m = round_of (rounds s n d) (rounds_of n m) (own_values_from n)

    -- each value of closed databases is one of its function's result type
    pub closed_values : HasOwnValues s e.kf
    unfolding tidied
    closed_values = subst (λ (x : Five). HasOwnValues s x.kf) (sym (end_of d e closes).1) (own_values_from closes.count)

    pub closed_of : AreOf s d → AreOf s e
    closed_of m = subst (AreOf s) (sym (end_of d e closes).1) (tidied_of end (rounds_of closes.count m) (own_values_from closes.count))
