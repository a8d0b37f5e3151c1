-- The forms of a target that databases give are forms by what is cited.
use Rattle.std.proofs.Common.{◌≡◌, ◌&&◌, ◌≤◌, ℕ, Bool, true, false, cond, List, [], ◌∷◌, map, filter, is_lt, refl, sym, subst, inl, ⊎_elim, true≢false}
use Rattle.std.specs.List.{list_any}
use Rattle.std.specs.Option.{option_map_or}
use Rattle.std.specs.Cmp.Lexicographic.{pointwise}
use Rattle.std.proofs.lemmas.Bool.{or_cases, or_left, or_right, and_parts, and_from, eq-eqb}
use Rattle.pks_terms.specs.Sets.{Each, IsIn, all_some, choices_from}
use Rattle.pks_terms.specs.Syntax.{Object, Parameter, Apply, Inner, Term, object, place, term_of, as_object, Named, Equality, Literal}
use Rattle.pks_terms.specs.Orders.{term_cmp, term_eq, literal, equation}
use Rattle.pks_terms.specs.Databases.{Five, values_at}
use Rattle.pks_terms.specs.Actions.{Target, Set, Unset, Clear, Assign, Effect}
use Rattle.pks_terms.specs.Spoiling.{is_stable, are_stable}
use Rattle.pks_terms.specs.Problems.{Problem}
use Rattle.pks_terms.specs.Settling.{inner_forms, argument_forms, term_forms, stable_forms, target_forms}
use Rattle.pks_terms.proofs.ListLaws.{each_in, each_of, each_append, each_map, each_flat_map, each_filter, each_weaker, any_in}
use Rattle.pks_terms.specs.Moments.{IsInOrder}
use Rattle.pks_laws.proofs.Least.{term_eq_itself}
use Rattle.pks_terms.specs.Proofs.{Fact, FactLit, Path, final_moment}
use Rattle.pks_terms.specs.Judging.{Judge, fact_eq, is_cited, is_literal_that, some_literal}
use Rattle.pks_terms.specs.Rewriting.{is_equation, are_equal, are_equal_arguments, has_arguments, readings, is_form, are_forms}
use Rattle.pks_terms.specs.Reasons.{assignment, targets_of, is_target_form, is_steady, are_steady, is_steady_target}
use Rattle.pks_proof_lines.proofs.Judged.{fact_eq_same}
use Rattle.pks_laws_explain.specs.Shown.{AreShown}
use Rattle.pks_laws_explain.proofs.Equal.{Same, AllSame, AllSameInner, itself, same_itself, same_turned, same_through, same_applied, value_shown}
use Rattle.pks_laws_explain.proofs.Needed.{Needs, needs_nothing, needs_then, needs_and, needs_cited, AreOrderly, needs_steady, needs_all_steady}
use Rattle.pks_laws_explain.proofs.Adding.{values_same}
use Rattle.pks_laws_explain.proofs.Equal.{literal_ordered}

-- a cited literal that passes
cited_some : (j : Judge) (m : ℕ) (l : Literal) (q : Literal → Bool) → q l ≡ true → is_cited j m l ≡ true → some_literal j m q ≡ true
cited_some j m l q h c = among (j m) c
  where
    among : (fs : List Fact) → list_any (fact_eq (FactLit l)) fs ≡ true → list_any (is_literal_that q) fs ≡ true
    among [] c = c
    among (f ∷ fs) c =
        ⊎_elim (λ e. or_left _ _ (subst (λ x. is_literal_that q x ≡ true) (fact_eq_same (FactLit l) f e) h)) (λ e. or_right (is_literal_that q f) _ (among fs e)) (or_cases (fact_eq (FactLit l) f) _ c)

pub has_itself : (j : Judge) (m : ℕ) (t : Term) → has_arguments j m t t ≡ true
has_itself j m (Object d) = term_eq_itself (Object d) (Object d) refl
has_itself j m (Parameter d) = term_eq_itself (Parameter d) (Parameter d) refl
has_itself j m (Apply f ts) = and_from _ _ (eq-eqb f f refl) (itself (are_equal_arguments j m) (λ a. or_left _ _ (term_eq_itself (term_of a) (term_of a) refl)) ts)

-- a side of an equation, with arguments replaced on either side of it
pub form_by : (j : Judge) (m : ℕ) (t u v r : Term) → has_arguments j m t u ≡ true → has_arguments j m v r ≡ true → is_equation j m u v ≡ true → is_form j m t r ≡ true
form_by j m t u v r a b c = or_right (has_arguments j m t r) _ (cited_some j m (equation u v) (λ l. list_any (λ q. has_arguments j m t q.0 && has_arguments j m q.1 r) (readings l)) read c)
  where
    passes : Term × Term → Bool
    passes q = has_arguments j m t q.0 && has_arguments j m q.1 r

    read : list_any (λ q. has_arguments j m t q.0 && has_arguments j m q.1 r) (readings (equation u v)) ≡ true
    read = unfold literal in elim (is_lt (term_cmp u v)) as (λ x. list_any (λ (q : Term × Term). has_arguments j m t q.0 && has_arguments j m q.1 r) (Rattle.pks_terms.specs.Rewriting.sides_read Equality (cond x (v ∷ u ∷ []) (u ∷ v ∷ [])) true) ≡ true) [
      | true ↦ or_right _ _ (or_left _ _ (and_from _ _ a b))
      | false ↦ or_left _ _ (and_from _ _ a b)
    ]

pub form_itself : (j : Judge) (m : ℕ) (t : Term) → is_form j m t t ≡ true
form_itself j m t = or_left _ _ (has_itself j m t)

equal_form : (j : Judge) (m : ℕ) (t r : Term) → are_equal j m t r ≡ true → is_form j m t r ≡ true
equal_form j m t r h =
    ⊎_elim
    (λ e. subst (λ u. is_form j m t u ≡ true) (Rattle.pks_terms.proofs.OrderLaws.same_term t r e) (form_itself j m t))
    (λ e. form_by j m t t r r (has_itself j m t) (has_itself j m r) e)
    (or_cases (term_eq t r) _ h)

pub equal_forms : (j : Judge) (m : ℕ) (ts us : List Inner) → pointwise (are_equal_arguments j m) ts us ≡ true → are_forms j m (map term_of ts) (map term_of us) ≡ true
equal_forms j m [] [] h = refl
equal_forms j m [] (u ∷ us) h = absurd (true≢false (sym h))
equal_forms j m (t ∷ ts) [] h = absurd (true≢false (sym h))
equal_forms j m (t ∷ ts) (u ∷ us) h = let q = and_parts (are_equal_arguments j m t u) _ h in and_from _ _ (equal_form j m (term_of t) (term_of u) q.0) (equal_forms j m ts us q.1)

module _ (p : Problem) (path : Path) (m : ℕ) (within : m ≤ final_moment path) (d : Five) (shown : AreShown p path m d) where
  abbrev N : (Judge → Type 0) → Type 0
  N T = Needs p path m T

  -- ---- arguments

  abbrev InnerForm : Inner → Inner → Type 0
  InnerForm a b = N (λ j. are_equal_arguments j m a b ≡ true) × Same p path m within (term_of a) (term_of b)

  inner_formed : (a : Inner) → Each (InnerForm a) (inner_forms d.kf a)
  inner_formed (Object e) = ((needs_nothing p path m (λ j. are_equal_arguments j m (Object e) (Object e) ≡ true) (λ j. or_left _ _ (term_eq_itself (Object e) (Object e) refl)), same_itself p path m within (Object e)), tt)
  inner_formed (Parameter e) = ((needs_nothing p path m (λ j. are_equal_arguments j m (Parameter e) (Parameter e) ≡ true) (λ j. or_left _ _ (term_eq_itself (Parameter e) (Parameter e) refl)), same_itself p path m within (Parameter e)), tt)
  inner_formed (Apply f ds) = (
    (needs_nothing p path m (λ j. are_equal_arguments j m (Apply f ds) (Apply f ds) ≡ true) (λ j. or_left _ _ (term_eq_itself (place f ds) (place f ds) refl)), same_itself p path m within (place f ds)),
    each_map (InnerForm (Apply f ds)) Object (values_at d.kf f ds) (each_of (λ e. InnerForm (Apply f ds) (Object e)) (values_at d.kf f ds) (λ e i.
        let s = value_shown p path m within d.kf shown.known f ds e i in
        (needs_then p path m (λ j. is_cited j m (equation (place f ds) (object e)) ≡ true) (λ j. are_equal_arguments j m (Apply f ds) (Object e) ≡ true) (λ j c. or_right (term_eq (place f ds) (object e)) _ c) (needs_cited p path m (equation (place f ds) (object e)) s), s))),
  )

  abbrev ArgumentForm : List Inner → List Inner → Type 0
  ArgumentForm ts us = N (λ j. pointwise (are_equal_arguments j m) ts us ≡ true) × AllSameInner p path m within ts us

  arguments_formed : (ts : List Inner) → Each (ArgumentForm ts) (argument_forms d.kf ts)
  arguments_formed [] = ((needs_nothing p path m (λ j. pointwise (are_equal_arguments j m) [] [] ≡ true) (λ j. refl), tt), tt)
  arguments_formed (t ∷ ts) =
      let P : List Inner → Type 0 = ArgumentForm (t ∷ ts) in
      each_flat_map P (λ y. map (λ ys. y ∷ ys) (choices_from (map (inner_forms d.kf) ts))) (inner_forms d.kf t) (λ y i.
      let one = each_in (InnerForm t) (inner_forms d.kf t) y (inner_formed t) i in
      each_map P (λ ys. y ∷ ys) (choices_from (map (inner_forms d.kf) ts)) (each_weaker (ArgumentForm ts) (λ ys. P (y ∷ ys)) (λ ys r.
      (needs_and p path m (λ j. are_equal_arguments j m t y) (λ j. pointwise (are_equal_arguments j m) ts ys) one.0 r.0, (one.1, r.1))) (choices_from (map (inner_forms d.kf) ts)) (arguments_formed ts)))

  -- ---- terms

  abbrev TermForm : Term → Term → Type 0
  TermForm t r = N (λ j. is_form j m t r ≡ true) × Same p path m within r t

  term_formed : (t : Term) → Each (TermForm t) (term_forms d.kf t)
  term_formed (Object e) = ((needs_nothing p path m (λ j. is_form j m (Object e) (Object e) ≡ true) (λ j. form_itself j m (Object e)), same_itself p path m within (Object e)), tt)
  term_formed (Parameter e) = ((needs_nothing p path m (λ j. is_form j m (Parameter e) (Parameter e) ≡ true) (λ j. form_itself j m (Parameter e)), same_itself p path m within (Parameter e)), tt)
  term_formed (Apply f ts) =
      let P : Term → Type 0 = TermForm (Apply f ts) in
      each_flat_map P (λ us. Apply f us ∷ map Object (option_map_or (values_at d.kf f) (all_some (map as_object us)) [])) (argument_forms d.kf ts) (λ us i.
      let args = each_in (ArgumentForm ts) (argument_forms d.kf ts) us (arguments_formed ts) i in
      let has : N (λ j. has_arguments j m (Apply f ts) (Apply f us) ≡ true) = needs_then p path m (λ j. pointwise (are_equal_arguments j m) ts us ≡ true) (λ j. has_arguments j m (Apply f ts) (Apply f us) ≡ true) (λ j c. and_from _ _ (eq-eqb f f refl) c) args.0 in
      let same = same_applied p path m within f ts us args.1 in (
        (needs_then p path m (λ j. has_arguments j m (Apply f ts) (Apply f us) ≡ true) (λ j. is_form j m (Apply f ts) (Apply f us) ≡ true) (λ j c. or_left _ _ c) has, same_turned p path m within (Apply f ts) (Apply f us) same),
        each_map P Object (option_map_or (values_at d.kf f) (all_some (map as_object us)) [])
            (each_weaker (λ e. Same p path m within (Apply f us) (object e)) (λ e. P (object e)) (λ e s. (
              needs_then p path m (λ j. (has_arguments j m (Apply f ts) (Apply f us) && is_equation j m (Apply f us) (object e)) ≡ true) (λ j. is_form j m (Apply f ts) (object e) ≡ true)
                  (λ j c. let q = and_parts (has_arguments j m (Apply f ts) (Apply f us)) _ c in form_by j m (Apply f ts) (Apply f us) (object e) (object e) q.0 (has_itself j m (object e)) q.1)
                  (needs_and p path m (λ j. has_arguments j m (Apply f ts) (Apply f us)) (λ j. is_equation j m (Apply f us) (object e)) has (needs_cited p path m (equation (Apply f us) (object e)) s)),
              same_turned p path m within (Apply f ts) (object e) (same_through p path m within (Apply f ts) (Apply f us) (object e) same s),
            ))
            (option_map_or (values_at d.kf f) (all_some (map as_object us)) []) (values_same p path m within d shown f us)),
      ))

  abbrev ListForm : List Term → List Term → Type 0
  ListForm ts rs = N (λ j. are_forms j m ts rs ≡ true) × AllSame p path m within rs ts

  terms_formed : (ts : List Term) → Each (ListForm ts) (choices_from (map (term_forms d.kf) ts))
  terms_formed [] = ((needs_nothing p path m (λ j. are_forms j m [] [] ≡ true) (λ j. refl), tt), tt)
  terms_formed (t ∷ ts) =
      let P : List Term → Type 0 = ListForm (t ∷ ts) in
      each_flat_map P (λ y. map (λ ys. y ∷ ys) (choices_from (map (term_forms d.kf) ts))) (term_forms d.kf t) (λ y i.
      let one = each_in (TermForm t) (term_forms d.kf t) y (term_formed t) i in
      each_map P (λ ys. y ∷ ys) (choices_from (map (term_forms d.kf) ts)) (each_weaker (ListForm ts) (λ ys. P (y ∷ ys)) (λ ys r.
      (needs_and p path m (λ j. is_form j m t y) (λ j. are_forms j m ts ys) one.0 r.0, (one.1, r.1))) (choices_from (map (term_forms d.kf) ts)) (terms_formed ts)))

  -- ---- targets

  -- the second target has the first one's terms, or equal ones
  abbrev pub SameTarget : Target → Target → Type 0
  SameTarget (Set a) (Set b) = (b.predicate ≡ a.predicate) × AllSame p path m within b.arguments a.arguments
  SameTarget (Unset a) (Unset b) = (b.predicate ≡ a.predicate) × AllSame p path m within b.arguments a.arguments
  SameTarget (Assign f ts v) (Assign g us u) = (g ≡ f) × AllSame p path m within (map term_of us) (map term_of ts) × Same p path m within u v
  SameTarget x y = ⊥

  -- the literal is a steady form of the target
  pub record FormOf (es : List Effect) (t : Target) (l : Literal) : Type 0 where
    pub target : Target
    pub among : IsIn target (targets_of l)
    pub form : Needs p path m (λ j. is_target_form j m t target ≡ true)
    pub steady : Needs p path m (λ j. is_steady_target j m es target ≡ true)
    pub same : SameTarget t target
    pub ordered : IsInOrder l

  terms_turned : (ts us : List Inner) → AllSameInner p path m within ts us → AllSame p path m within (map term_of us) (map term_of ts)
  terms_turned [] [] a = tt
  terms_turned (t ∷ ts) (u ∷ us) a = (same_turned p path m within (term_of t) (term_of u) a.0, terms_turned ts us a.1)
  terms_turned [] (u ∷ us) a = a
  terms_turned (t ∷ ts) [] a = a

  pub assignment_among : (f : ℕ) (us : List Inner) (v : Term) → IsIn (Assign f us v) (targets_of (equation (Apply f us) v))
  assignment_among f us v =
      unfold literal in elim (is_lt (term_cmp (Apply f us) v)) as (λ x. IsIn (Assign f us v) (Rattle.pks_terms.specs.Reasons.targets_as Equality (cond x (v ∷ Apply f us ∷ []) (Apply f us ∷ v ∷ [])) true)) [
        | true ↦ Rattle.pks_laws_explain.proofs.Needed.in_back (assignment v (Apply f us)) (Assign f us v ∷ []) (Assign f us v) (inl refl)
        | false ↦ inl refl
      ]

  module _ (es : List Effect) (o : AreOrderly es) where
    pub forms_told : (t : Target) → Each (FormOf es t) (target_forms p.signature d es t)
    forms_told (Set a) =
        each_map (FormOf es (Set a)) (λ ts. literal (Named a.predicate) ts true) (stable_forms p.signature d es a.arguments)
        (each_filter (λ ts. FormOf es (Set a) (literal (Named a.predicate) ts true)) (are_stable p.signature d es) (choices_from (map (term_forms d.kf) a.arguments)) (λ ts i h.
        let f = each_in (ListForm a.arguments) (choices_from (map (term_forms d.kf) a.arguments)) ts (terms_formed a.arguments) i in
        record {
          target = Set (record { predicate = a.predicate; arguments = ts });
          among = set_among a.predicate ts;
          form = needs_then p path m (λ j. are_forms j m a.arguments ts ≡ true) (λ j. is_target_form j m (Set a) (Set (record { predicate = a.predicate; arguments = ts })) ≡ true) (λ j c. and_from _ _ (eq-eqb a.predicate a.predicate refl) c) f.0;
          steady = needs_all_steady p path m within d shown es o ts h;
          same = (refl, f.1);
          ordered = literal_ordered (Named a.predicate) ts true;
        }))
      where
        set_among : (q : ℕ) (ts : List Term) → IsIn (Set (record { predicate = q; arguments = ts })) (targets_of (literal (Named q) ts true))
        set_among q ts = unfold literal in inl refl
    forms_told (Unset a) =
        each_map (FormOf es (Unset a)) (λ ts. literal (Named a.predicate) ts false) (stable_forms p.signature d es a.arguments)
        (each_filter (λ ts. FormOf es (Unset a) (literal (Named a.predicate) ts false)) (are_stable p.signature d es) (choices_from (map (term_forms d.kf) a.arguments)) (λ ts i h.
        let f = each_in (ListForm a.arguments) (choices_from (map (term_forms d.kf) a.arguments)) ts (terms_formed a.arguments) i in
        record {
          target = Unset (record { predicate = a.predicate; arguments = ts });
          among = unset_among a.predicate ts;
          form = needs_then p path m (λ j. are_forms j m a.arguments ts ≡ true) (λ j. is_target_form j m (Unset a) (Unset (record { predicate = a.predicate; arguments = ts })) ≡ true) (λ j c. and_from _ _ (eq-eqb a.predicate a.predicate refl) c) f.0;
          steady = needs_all_steady p path m within d shown es o ts h;
          same = (refl, f.1);
          ordered = literal_ordered (Named a.predicate) ts false;
        }))
      where
        unset_among : (q : ℕ) (ts : List Term) → IsIn (Unset (record { predicate = q; arguments = ts })) (targets_of (literal (Named q) ts false))
        unset_among q ts = unfold literal in inl refl
    forms_told (Clear x) = tt
    forms_told (Assign f ts v) =
        each_flat_map (FormOf es (Assign f ts v)) (λ us. map (equation (Apply f us)) (filter (is_stable p.signature d es) (term_forms d.kf v))) (filter (λ us. are_stable p.signature d es (map term_of us)) (argument_forms d.kf ts)) (λ us k.
        let q = Rattle.pks_terms.proofs.ListLaws.in_filtered (λ us. are_stable p.signature d es (map term_of us)) (argument_forms d.kf ts) us k in
        let args = each_in (ArgumentForm ts) (argument_forms d.kf ts) us (arguments_formed ts) q.0 in
        each_map (FormOf es (Assign f ts v)) (equation (Apply f us)) (filter (is_stable p.signature d es) (term_forms d.kf v))
        (each_filter (λ u. FormOf es (Assign f ts v) (equation (Apply f us) u)) (is_stable p.signature d es) (term_forms d.kf v) (λ u i h.
        let value = each_in (TermForm v) (term_forms d.kf v) u (term_formed v) i in
        record {
          target = Assign f us u;
          among = assignment_among f us u;
          form = needs_then p path m (λ j. (pointwise (are_equal_arguments j m) ts us && is_form j m v u) ≡ true) (λ j. is_target_form j m (Assign f ts v) (Assign f us u) ≡ true)
              (λ j c. let b = and_parts (pointwise (are_equal_arguments j m) ts us) _ c in and_from _ _ (eq-eqb f f refl) (and_from _ _ (equal_forms j m ts us b.0) b.1))
              (needs_and p path m (λ j. pointwise (are_equal_arguments j m) ts us) (λ j. is_form j m v u) args.0 value.0);
          steady = needs_and p path m (λ j. are_steady j m es (map term_of us)) (λ j. is_steady j m es u) (needs_all_steady p path m within d shown es o (map term_of us) q.1) (needs_steady p path m within d shown es o u h);
          same = (refl, terms_turned ts us args.1, value.1);
          ordered = literal_ordered Equality (Apply f us ∷ u ∷ []) true;
        })))
