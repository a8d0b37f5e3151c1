-- Closing, and asking queries, where equations are between terms of one type.
use Rattle.std.proofs.Common.{◌≡◌, ◌&&◌, ◌||◌, ◌==◌, ◌++◌, ℕ, zero, suc, Bool, true, false, not, cond, List, [], ◌∷◌, map, filter, flat_map, slice_get, Option, Some, None, option_map, refl, sym, ap, ◌∙◌, subst, inl, inr, true≢false}
use Rattle.std.specs.List.{list_any, list_all}
use Rattle.std.specs.Option.{option_map_or}
use Rattle.std.proofs.lemmas.Bool.{and_parts, and_from}
use Rattle.pks_terms.specs.Sets.{Each, IsIn, with_others, added}
use Rattle.pks_terms.specs.Syntax.{Object, Parameter, Apply, Inner, Term, object, term_of, Equality, Literal, Atom, negated}
use Rattle.pks_terms.specs.Orders.{literal_cmp, atom_cmp, literal, inequation, equation}
use Rattle.pks_terms.specs.Signatures.{Shape, Signature, HasValues, fits_type, objects_of, objects_from, range_of}
use Rattle.pks_terms.specs.Databases.{Entry, entry_cmp, Five, holds}
use Rattle.pks_terms.specs.Closure.{by_value, by_member, by_group, is_application, applications_in, is_last_left, by_range, additions, round, rounds, normal_atom, normal_entry, tidied, Outcome, Next, Clash, first_clash, outcome, Closes}
use Rattle.pks_terms.specs.Queries.{Plain, Know, KnowWhether, KnowValue, Query, is_member, has_known_sides, is_decided, known_whether, answers_plain, answers}
use Rattle.pks_terms.specs.Valid.{all_fit, inner_fits, term_fits, is_term}
use Rattle.pks_terms.proofs.ListLaws.{each_in, each_of, each_map, each_added, each_set_of, each_weaker, each_kept, each_flat_map, all_same}
use Rattle.pks_terms.proofs.Types.{fits_alone}
use Rattle.pks_laws.proofs.Versions.{ordered_typed, own_type, additions_typed}
use Rattle.pks_laws.proofs.Fitting.{ordered_literal, term_that_fits, as_term_fits}
use Rattle.pks_laws.proofs.Belonging.{L, T, in_range_of, related, related_terms, additions_of, end_of}
use Rattle.pks_laws.proofs.BelongingHistories.{other_each}
use Rattle.pks_laws.proofs.OneTypeAlong.{one_typed_own, closed_one_typed}
use Rattle.pks_laws_version1.specs.Closing as first
use Rattle.pks_laws_version1.specs.OfFirst.{ListsItsOwn, IsOfFirst}
use Rattle.pks_laws_version1.proofs.Lists.{any_same, filter_same, flat_map_same, find_same}
use Rattle.pks_laws_version1.proofs.Looking.{B, U, V, holds_same, denied_same}

-- ---- terms of a signature

module _ (s : Signature) where
  pub each_fitting : {A : Type 0} (F : ℕ → A → Bool) (tys : List ℕ) (ts : List A) → all_fit F tys ts ≡ true → Each (λ t. (wanted : ℕ) × (F wanted t ≡ true)) ts
  each_fitting F tys [] h = tt
  each_fitting F [] (t ∷ ts) h = absurd (true≢false (sym h))
  each_fitting F (a ∷ tys) (t ∷ ts) h = let p = and_parts (F a t) _ h in ((a, p.0), each_fitting F tys ts p.1)

  pub inner_terms : (tys : List ℕ) (ts : List Inner) → all_fit (inner_fits s []) tys ts ≡ true → Each (λ u. T s (term_of u)) ts
  inner_terms tys ts h =
      each_weaker (λ u. (wanted : ℕ) × (inner_fits s [] wanted u ≡ true)) (λ u. T s (term_of u)) (λ u k. term_that_fits s [] k.0 (term_of u) (as_term_fits s [] u k.0 k.1)) ts (each_fitting (inner_fits s []) tys ts h)

  -- the shape of the function, of an application
  pub shape_in : (params : List ℕ) (f : ℕ) (ts : List Inner) → is_term s params (Apply f ts) ≡ true → (x : Shape) × (slice_get s.functions f ≡ Some x) × (all_fit (inner_fits s params) x.arguments ts ≡ true)
  unfolding term_fits
  shape_in params f ts h =
      elim (slice_get s.functions f) as (λ (o : Option Shape). option_map_or (λ a. option_map_or (λ (x : Shape). all_fit (inner_fits s params) x.arguments ts && fits_type s x.result a) o false) (option_map (λ (x : Shape). x.result) o) false ≡ true → (x : Shape) × (o ≡ Some x) × (all_fit (inner_fits s params) x.arguments ts ≡ true)) [
        | None ↦ λ q. absurd (true≢false (sym q))
        | Some x ↦ λ q. (x, refl, (and_parts (all_fit (inner_fits s params) x.arguments ts) _ q).0)
      ] h

  pub shape_of : (f : ℕ) (ts : List Inner) → T s (Apply f ts) → (x : Shape) × (slice_get s.functions f ≡ Some x) × (all_fit (inner_fits s []) x.arguments ts ≡ true)
  shape_of = shape_in []

  pub applications_are : (t : Term) → T s t → Each (T s) (applications_in t)
  applications_are (Object d) h = tt
  applications_are (Parameter i) h = tt
  applications_are (Apply f ts) h = let x = shape_of f ts h in (h, each_kept (T s) is_application (map term_of ts) (each_map (T s) term_of ts (inner_terms x.0.arguments ts x.2)))

-- ---- closing

module _ (s : Signature) (none : Each (λ o. o ≡ None) s.parents) where
  abbrev W : Signature
  W = B s none

  abbrev X : Literal → Type 0
  X = V s none

  pub objects_same : (a : ℕ) → objects_of s a ≡ first.objects_of s a
  unfolding objects_of
  objects_same a = λ i. objects_from (λ own. fits_alone s none own a i) 0 s.objects

  pub range_same : (t : Term) → range_of s t ≡ first.range_of s t
  range_same (Object d) = refl
  range_same (Parameter i) = refl
  range_same (Apply f ts) = λ i. option_map_or (λ (x : Shape). objects_same x.result i) (slice_get s.functions f) []

  -- of a term and an object that may be its value
  pub range_literal : (t : Term) (e : ℕ) (b : Bool) → T s t → IsIn e (range_of s t) → X (literal Equality (t ∷ object e ∷ []) b)
  range_literal t e b h i = (ordered_literal s [] [] Equality (t ∷ object e ∷ []) b (and_from _ _ h (in_range_of s t e h i)), go t h i)
    where
      go : (t : Term) → T s t → IsIn e (range_of s t) → U s none (literal Equality (t ∷ object e ∷ []) b)
      go (Object d) h (inl q) =
          elim (slice_get s.objects d) as (λ o. slice_get s.objects d ≡ o → option_map_or (λ own. term_fits s [] own (Object d)) o false ≡ true → U s none (literal Equality (Object d ∷ object e ∷ []) b)) [
            | None ↦ λ r k. absurd (true≢false (sym k))
            | Some own ↦ λ r k. ordered_typed s none (Object d) (object e) b own r (ap (slice_get s.objects) (sym q) ∙ r)
          ] refl h
      go (Object d) h (inr j) = absurd j
      go (Parameter j) h k = absurd k
      go (Apply f ts) h k =
          elim (slice_get s.functions f) as (λ (o : Option Shape). slice_get s.functions f ≡ o → IsIn e (option_map_or (λ (x : Shape). objects_of s x.result) o []) → U s none (literal Equality (Apply f ts ∷ object e ∷ []) b)) [
            | None ↦ λ r k. absurd k
            | Some x ↦ λ r k. ordered_typed s none (Apply f ts) (object e) b x.result (ap (option_map (λ (x : Shape). x.result)) r) (own_type s none x.result e k)
          ] refl k

  module _ (d : Five) (m : IsOfFirst s d) where
    pub all_hold_same : (c : List Literal) → Each X c → list_all (holds s d) c ≡ list_all (holds W d) c
    all_hold_same c a = all_same (holds s d) (holds W d) c (each_weaker X (λ l. holds s d l ≡ holds W d l) (holds_same s none d m) c a)

    all_denied_same : (c : List Literal) → Each X c → list_all (λ l. holds s d (negated l)) c ≡ list_all (λ l. holds W d (negated l)) c
    all_denied_same c a = all_same (λ l. holds s d (negated l)) (λ l. holds W d (negated l)) c (each_weaker X (λ l. holds s d (negated l) ≡ holds W d (negated l)) (denied_same s none d m) c a)

    pub any_denied_same : (c : List Literal) → Each X c → list_any (λ l. holds s d (negated l)) c ≡ list_any (λ l. holds W d (negated l)) c
    any_denied_same c a = any_same (λ l. holds s d (negated l)) (λ l. holds W d (negated l)) c (each_weaker X (λ l. holds s d (negated l) ≡ holds W d (negated l)) (denied_same s none d m) c a)

    group_same : (g : List Literal) → Each X g → by_group s d g ≡ by_group W d g
    unfolding by_group
    group_same g a =
        flat_map_same (by_member s d) (by_member W d) (with_others g) (each_weaker (λ q. X q.0 × Each X q.1) (λ q. by_member s d q ≡ by_member W d q)
        (λ q k. λ i. cond (all_denied_same q.1 k.1 i) (q.0 ∷ []) [] ++ cond (holds_same s none d m q.0 k.0 i) (map negated q.1) []) (with_others g) (other_each X g a))

    last_left_same : (t : Term) (os : List ℕ) → Each (λ o. X (inequation t (object o))) os → (e : ℕ) → is_last_left s d t os e ≡ is_last_left W d t os e
    last_left_same t os a e =
        all_same (λ o. (o == e) || holds s d (inequation t (object o))) (λ o. (o == e) || holds W d (inequation t (object o))) os
        (each_weaker (λ o. X (inequation t (object o))) (λ o. ((o == e) || holds s d (inequation t (object o))) ≡ ((o == e) || holds W d (inequation t (object o)))) (λ o v. ap (λ b. (o == e) || b) (holds_same s none d m (inequation t (object o)) v)) os a)

    pub range_inequations : (t : Term) → T s t → Each (λ o. X (inequation t (object o))) (range_of s t)
    range_inequations t h = each_of (λ o. X (inequation t (object o))) (range_of s t) (λ o i. range_literal t o false h i)

    by_range_same : (t : Term) → T s t → by_range s d t ≡ first.by_range s d t
    unfolding by_range
    by_range_same t h =
        ap (map (λ e. equation t (object e))) (filter_same (is_last_left s d t (range_of s t)) (is_last_left W d t (range_of s t)) (range_of s t)
        (each_of (λ e. is_last_left s d t (range_of s t) e ≡ is_last_left W d t (range_of s t) e) (range_of s t) (λ e i. last_left_same t (range_of s t) (range_inequations t h) e)))
        ∙ ap (λ os. map (λ e. equation t (object e)) (filter (is_last_left W d t os) os)) (range_same t)

    literal_first : (l : Literal) → IsIn l d.kf → X l
    literal_first l i = (each_in (L s) d.kf l m.typed.of.known i, each_in (U s none) d.kf l m.typed.known i)

    pub known_first : Each X d.kf
    known_first = each_of X d.kf literal_first

    both_each : (c : List Literal) → Each (L s) c → Each (U s none) c → Each X c
    both_each c a b = each_of X c (λ l i. (each_in (L s) c l a i, each_in (U s none) c l b i))

    pub group_first : (g : List Literal) → IsIn g d.kx → Each X g
    group_first g i = both_each g (each_in (Each (L s)) d.kx g m.typed.of.groups i) (each_in (Each (U s none)) d.kx g m.typed.groups i)

    pub formula_first : (c : List Literal) → IsIn c d.kw → Each X c
    formula_first c i = both_each c (each_in (Each (L s)) d.kw c m.typed.of.whether i) (each_in (Each (U s none)) d.kw c m.typed.whether i)

    pub additions_same : additions s d ≡ first.additions s d
    unfolding additions
    additions_same = λ i. flat_map (by_value d.kf) d.kf ++ (groups i ++ ranges i)
      where
        groups : flat_map (by_group s d) d.kx ≡ flat_map (by_group W d) d.kx
        groups = flat_map_same (by_group s d) (by_group W d) d.kx (each_of (λ g. by_group s d g ≡ by_group W d g) d.kx (λ g i. group_same g (group_first g i)))

        ranges : flat_map (λ (l : Literal). flat_map (by_range s d) (flat_map applications_in l.arguments)) d.kf ≡ flat_map (λ (l : Literal). flat_map (first.by_range s d) (flat_map applications_in l.arguments)) d.kf
        ranges =
            flat_map_same (λ (l : Literal). flat_map (by_range s d) (flat_map applications_in l.arguments)) (λ (l : Literal). flat_map (first.by_range s d) (flat_map applications_in l.arguments)) d.kf
            (each_of (λ (l : Literal). flat_map (by_range s d) (flat_map applications_in l.arguments) ≡ flat_map (first.by_range s d) (flat_map applications_in l.arguments)) d.kf (λ l i.
            let terms = related_terms s l.relation l.arguments (related s l (literal_first l i).0) in
            flat_map_same (by_range s d) (first.by_range s d) (flat_map applications_in l.arguments)
            (each_weaker (T s) (λ t. by_range s d t ≡ first.by_range s d t) by_range_same (flat_map applications_in l.arguments) (each_flat_map (T s) applications_in l.arguments (λ u j. applications_are s u (each_in (T s) l.arguments u terms j))))))

    pub round_same : round s d ≡ first.round s d
    unfolding round
    round_same = λ i. record d { kf = added literal_cmp d.kf (additions_same i) }

    pub round_first : IsOfFirst s (round s d)
    unfolding round
    round_first =
        let own = one_typed_own s d.kf m.typed.known in
        record {
          typed = record {
            of = record { known = each_added (L s) literal_cmp d.kf (additions s d) m.typed.of.known (additions_of s d m.typed.of own); whether = m.typed.of.whether; values = m.typed.of.values; groups = m.typed.of.groups; regions = m.typed.of.regions };
            known = each_added (U s none) literal_cmp d.kf (additions s d) m.typed.known (additions_typed s none d m.typed.known m.typed.groups);
            whether = m.typed.whether;
            groups = m.typed.groups;
          };
          regions = m.regions;
        }

    pub first_clash_same : first_clash s d ≡ first_clash W d
    unfolding first_clash
    first_clash_same = find_same (λ l. holds s d (negated l)) (λ l. holds W d (negated l)) d.kf (each_weaker X (λ l. holds s d (negated l) ≡ holds W d (negated l)) (denied_same s none d m) d.kf known_first)

    outcome_same : outcome s d ≡ outcome W d
    outcome_same = ap (λ (o : Option Literal). option_map_or Clash o (Next (tidied d))) first_clash_same

  rounds_first : (n : ℕ) (d : Five) → IsOfFirst s d → IsOfFirst s (rounds s n d)
  rounds_first zero d m = m
  rounds_first (suc n) d m = round_first (rounds s n d) (rounds_first n d m)

  rounds_same : (n : ℕ) (d : Five) → IsOfFirst s d → rounds s n d ≡ first.rounds s n d
  rounds_same zero d m = refl
  rounds_same (suc n) d m = round_same (rounds s n d) (rounds_first n d m) ∙ ap (first.round s) (rounds_same n d m)

  module _ (d : Five) (o : Outcome) (m : IsOfFirst s d) where
    pub closes_first : Closes s d o → first.Closes s d o
    closes_first c = record {
      count = c.count;
      last = sym (rounds_same (suc c.count) d m) ∙ c.last ∙ rounds_same c.count d m;
      gives = c.gives ∙ outcome_same (rounds s c.count d) (rounds_first c.count d m) ∙ ap (outcome W) (rounds_same c.count d m);
    }

    pub closes_from_first : first.Closes s d o → Closes s d o
    closes_from_first c = record {
      count = c.count;
      last = rounds_same (suc c.count) d m ∙ c.last ∙ sym (rounds_same c.count d m);
      gives = c.gives ∙ sym (outcome_same (rounds s c.count d) (rounds_first c.count d m) ∙ ap (outcome W) (rounds_same c.count d m));
    }

  -- ---- what closing makes is of the first version

  entry_first : (kf : List Literal) (e : Entry) → ListsItsOwn e → ListsItsOwn (normal_entry kf e)
  entry_first kf e a = each_set_of (λ (a : Atom). a.predicate ≡ e.pattern.predicate) atom_cmp (map (normal_atom kf) e.listed) (each_map (λ (a : Atom). a.predicate ≡ e.pattern.predicate) (normal_atom kf) e.listed a)

  pub tidied_regions : (d : Five) → Each ListsItsOwn d.lcw → Each ListsItsOwn (tidied d).lcw
  unfolding tidied
  tidied_regions d a = each_set_of ListsItsOwn entry_cmp (map (normal_entry d.kf) d.lcw) (each_map ListsItsOwn (normal_entry d.kf) d.lcw (each_weaker ListsItsOwn (λ e. ListsItsOwn (normal_entry d.kf e)) (entry_first d.kf) d.lcw a))

  pub closed_first : HasValues s → (d e : Five) → IsOfFirst s d → Closes s d (Next e) → IsOfFirst s e
  closed_first inhabited d e m c = record {
    typed = closed_one_typed s none inhabited d e m.typed c;
    regions = subst (λ (x : Five). Each ListsItsOwn x.lcw) (sym (end_of s d e c).1) (tidied_regions (rounds s c.count d) (rounds_first c.count d m).regions);
  }

  -- ---- queries

  abbrev pub IsFirstPlain : Plain → Type 0
  IsFirstPlain (Know l) = X l
  IsFirstPlain (KnowWhether c) = Each X c
  IsFirstPlain (KnowValue t) = Unit {0}

  module _ (d : Five) (m : IsOfFirst s d) where
    decided_same : (l : Literal) → X l → is_decided s d l ≡ is_decided W d l
    unfolding is_decided
    decided_same l v = λ i. (holds_same s none d m l v i || denied_same s none d m l v i) || ((is_member d (l ∷ []) || is_member d (negated l ∷ [])) || has_known_sides d l.relation l.arguments)

    whether_same : (c : List Literal) → Each X c → known_whether s d c ≡ known_whether W d c
    unfolding known_whether
    whether_same c a = λ i. is_member d c || (any_denied_same d m c a i || all_same (is_decided s d) (is_decided W d) c (each_weaker X (λ l. is_decided s d l ≡ is_decided W d l) decided_same c a) i)

    plain_answers_same : (x : Plain) → IsFirstPlain x → answers_plain s d x ≡ answers_plain W d x
    plain_answers_same (Know l) v = holds_same s none d m l v
    plain_answers_same (KnowWhether c) v = whether_same c v
    plain_answers_same (KnowValue t) v = refl

    pub answers_same : (q : Query) → IsFirstPlain q.asks → answers s d q ≡ answers W d q
    answers_same q v = λ i. cond q.denied (not (plain_answers_same q.asks v i)) (plain_answers_same q.asks v i)
