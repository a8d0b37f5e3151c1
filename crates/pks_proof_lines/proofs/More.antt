-- A literal that is allowed by what may be relied on is allowed where more may be.
use Rattle.std.proofs.Common.{◌≡◌, ◌&&◌, ◌||◌, ◌==◌, ℕ, zero, suc, Bool, true, false, not, List, [], ◌∷◌, map, slice_get, Option, Some, None, refl, sym, ap, ◌∙◌, ⊎_elim, true≢false}
use Rattle.std.specs.List.{list_any, list_all}
use Rattle.std.specs.Option.{option_map_or}
use Rattle.std.specs.Cmp.Lexicographic.{pointwise}
use Rattle.std.proofs.lemmas.Bool.{or_cases, or_left, or_right, and_parts, and_from}
use Rattle.pks_terms.specs.Sets.{with_others, with_later}
use Rattle.pks_terms.specs.Syntax.{Object, Parameter, Apply, Inner, Term, object, term_of, are_two_objects, Relation, Named, Equality, Literal, Atom, negated}
use Rattle.pks_terms.specs.Orders.{number_of, arguments_of, term_eq, literal_eq, literal, equation, inequation}
use Rattle.pks_terms.specs.Signatures.{Signature}
use Rattle.pks_terms.specs.Databases.{Entry}
use Rattle.pks_terms.specs.Closure.{applications_in}
use Rattle.pks_terms.specs.Actions.{Target, Set, Unset, Clear, Assign, Effect}
use Rattle.pks_terms.specs.Problems.{Problem}
use Rattle.pks_terms.specs.Branching.{Choice, Act, BranchOn, CasesOn, Side, AsTrue, AsFalse, Is}
use Rattle.pks_terms.specs.Settling.{effects_of}
use Rattle.pks_terms.specs.Proofs.{Fact, FactLit, FactKx, FactLcw, Path, deeds, takings, Reason, ByGiven, BySide, BySame, BySwap, ByOnly, ByOthers, ByRange, ByClosed, ByKeep, ByBack, ByEffect, ByMust, ByCannot, ByGrow, ByClear, nth}
use Rattle.pks_terms.specs.Judging.{Judge, IsMore, fact_eq, is_cited, are_cited, is_literal_that, is_group_that, is_region_that, some_literal, some_group, some_region}
use Rattle.pks_terms.specs.Rewriting.{is_equation, are_equal_arguments, has_arguments, readings, is_form, are_forms, one_swapped, inner_eq, swaps_object, swaps_inner, swaps_argument, swaps_term, swaps_terms, turned, swaps_literal, swaps}
use Rattle.pks_terms.specs.Reasons.{are_cited_apart, some_cited_apart, fixed_cited_apart, would_make_true, would_make_false, would_change, cannot_fire, is_barred, are_barred, is_steady, are_steady, says_side, is_by_side, is_swapped, is_only, is_other, others_ruled_out, equates, has_fixed, leaves_out, is_left_out, would_deny, keeps_literal, is_kept, is_from_later, targets_of, is_target_form, is_steady_target, is_steady_form, would_undo, assigns_other, would_make_same, is_effect, is_only_made_by, is_needed, is_missed_by, is_failed, objects_like}
use Rattle.pks_terms.specs.Accepting.{from_moment, to_moment, is_allowed_by}

-- ---- tests that pass more

-- wherever the first is true the second is
abbrev pub Then : Bool → Bool → Type 0
Then a b = a ≡ true → b ≡ true

and_more : (a a' b b' : Bool) → Then a a' → Then b b' → Then (a && b) (a' && b')
and_more a a' b b' f g h = let q = and_parts a b h in and_from a' b' (f q.0) (g q.1)

or_more : (a a' b b' : Bool) → Then a a' → Then b b' → Then (a || b) (a' || b')
or_more a a' b b' f g h = ⊎_elim (λ k. or_left a' b' (f k)) (λ k. or_right a' b' (g k)) (or_cases a b h)

not_more : (a a' : Bool) → Then a a' → Then (not a') (not a)
not_more true a' f h = absurd (true≢false (sym h ∙ ap not (f refl)))
not_more false a' f h = refl

same : (a : Bool) → Then a a
same a h = h

any_more : {X : Type 0} (p q : X → Bool) → ((x : X) → Then (p x) (q x)) → (xs : List X) → Then (list_any p xs) (list_any q xs)
any_more p q f [] h = h
any_more p q f (x ∷ xs) h = or_more (p x) (q x) (list_any p xs) (list_any q xs) (f x) (any_more p q f xs) h

all_more : {X : Type 0} (p q : X → Bool) → ((x : X) → Then (p x) (q x)) → (xs : List X) → Then (list_all p xs) (list_all q xs)
all_more p q f [] h = h
all_more p q f (x ∷ xs) h = and_more (p x) (q x) (list_all p xs) (list_all q xs) (f x) (all_more p q f xs) h

pointwise_more : {X : Type 0} (p q : X → X → Bool) → ((x y : X) → Then (p x y) (q x y)) → (xs ys : List X) → Then (pointwise p xs ys) (pointwise q xs ys)
pointwise_more p q f [] [] h = h
pointwise_more p q f [] (y ∷ ys) h = h
pointwise_more p q f (x ∷ xs) [] h = h
pointwise_more p q f (x ∷ xs) (y ∷ ys) h = and_more (p x y) (q x y) (pointwise p xs ys) (pointwise q xs ys) (f x y) (pointwise_more p q f xs ys) h

swapped_more : {X : Type 0} (e p q : X → X → Bool) → ((x y : X) → Then (p x y) (q x y)) → (xs ys : List X) → Then (one_swapped e p xs ys) (one_swapped e q xs ys)
swapped_more e p q f [] ys h = h
swapped_more e p q f (x ∷ xs) [] h = h
swapped_more e p q f (x ∷ xs) (y ∷ ys) h =
    or_more (p x y && pointwise e xs ys) (q x y && pointwise e xs ys) (e x y && one_swapped e p xs ys) (e x y && one_swapped e q xs ys)
    (and_more (p x y) (q x y) (pointwise e xs ys) (pointwise e xs ys) (f x y) (same (pointwise e xs ys)))
    (and_more (e x y) (e x y) (one_swapped e p xs ys) (one_swapped e q xs ys) (same (e x y)) (swapped_more e p q f xs ys)) h

module _ (j k : Judge) (more : IsMore j k) (m : ℕ) where
  cited : (l : Literal) → Then (is_cited j m l) (is_cited k m l)
  cited l h = more m (fact_eq (FactLit l)) h

  all_cited : (ls : List Literal) → Then (are_cited j m ls) (are_cited k m ls)
  all_cited ls h = all_more (is_cited j m) (is_cited k m) cited ls h

  some_literal_more : (p q : Literal → Bool) → ((l : Literal) → Then (p l) (q l)) → Then (some_literal j m p) (some_literal k m q)
  some_literal_more p q f h = more m (is_literal_that q) (any_more (is_literal_that p) (is_literal_that q) each (j m) h)
    where
      each : (x : Fact) → Then (is_literal_that p x) (is_literal_that q x)
      each (FactLit l) h = f l h
      each (FactKx g) h = h
      each (FactLcw e) h = h

  some_group_more : (p q : List Literal → Bool) → ((g : List Literal) → Then (p g) (q g)) → Then (some_group j m p) (some_group k m q)
  some_group_more p q f h = more m (is_group_that q) (any_more (is_group_that p) (is_group_that q) each (j m) h)
    where
      each : (x : Fact) → Then (is_group_that p x) (is_group_that q x)
      each (FactLit l) h = h
      each (FactKx g) h = f g h
      each (FactLcw e) h = h

  some_region_more : (p q : Entry → Bool) → ((e : Entry) → Then (p e) (q e)) → Then (some_region j m p) (some_region k m q)
  some_region_more p q f h = more m (is_region_that q) (any_more (is_region_that p) (is_region_that q) each (j m) h)
    where
      each : (x : Fact) → Then (is_region_that p x) (is_region_that q x)
      each (FactLit l) h = h
      each (FactKx g) h = h
      each (FactLcw e) h = f e h

  -- ---- forms

  equal_arguments : (a b : Inner) → Then (are_equal_arguments j m a b) (are_equal_arguments k m a b)
  equal_arguments a b = or_more (inner_eq a b) (inner_eq a b) (is_equation j m (term_of a) (term_of b)) (is_equation k m (term_of a) (term_of b)) (same (inner_eq a b)) (cited (equation (term_of a) (term_of b)))

  with_arguments : (t u : Term) → Then (has_arguments j m t u) (has_arguments k m t u)
  with_arguments (Apply f ts) (Apply g us) = and_more (f == g) (f == g) _ _ (same (f == g)) (pointwise_more (are_equal_arguments j m) (are_equal_arguments k m) equal_arguments ts us)
  with_arguments (Apply f ts) (Object d) = λ h. h
  with_arguments (Apply f ts) (Parameter d) = λ h. h
  with_arguments (Object d) u = λ h. h
  with_arguments (Parameter d) u = λ h. h

  form : (t r : Term) → Then (is_form j m t r) (is_form k m t r)
  form t r =
      or_more (has_arguments j m t r) (has_arguments k m t r) (some_literal j m (λ l. list_any (λ q. has_arguments j m t q.0 && has_arguments j m q.1 r) (readings l))) (some_literal k m (λ l. list_any (λ q. has_arguments k m t q.0 && has_arguments k m q.1 r) (readings l))) (with_arguments t r)
      (some_literal_more (λ l. list_any (λ q. has_arguments j m t q.0 && has_arguments j m q.1 r) (readings l)) (λ l. list_any (λ q. has_arguments k m t q.0 && has_arguments k m q.1 r) (readings l))
      (λ l. any_more (λ q. has_arguments j m t q.0 && has_arguments j m q.1 r) (λ q. has_arguments k m t q.0 && has_arguments k m q.1 r)
      (λ q. and_more (has_arguments j m t q.0) (has_arguments k m t q.0) (has_arguments j m q.1 r) (has_arguments k m q.1 r) (with_arguments t q.0) (with_arguments q.1 r)) (readings l)))

  forms : (ts rs : List Term) → Then (are_forms j m ts rs) (are_forms k m ts rs)
  forms = pointwise_more (is_form j m) (is_form k m) form

  -- ---- swaps

  object_swap : (a b : Inner) → Then (swaps_object j m a b) (swaps_object k m a b)
  object_swap (Apply f ds) (Apply g es) = and_more (f == g) (f == g) _ _ (same (f == g)) (swapped_more Rattle.std.specs.Prelude.nat_eq (λ d e. is_equation j m (object d) (object e)) (λ d e. is_equation k m (object d) (object e)) (λ d e. cited (equation (object d) (object e))) ds es)
  object_swap (Apply f ds) (Object e) = λ h. h
  object_swap (Apply f ds) (Parameter e) = λ h. h
  object_swap (Object d) b = λ h. h
  object_swap (Parameter d) b = λ h. h

  inner_swap : (a b : Inner) → Then (swaps_inner j m a b) (swaps_inner k m a b)
  inner_swap a b = or_more (is_equation j m (term_of a) (term_of b)) (is_equation k m (term_of a) (term_of b)) (swaps_object j m a b) (swaps_object k m a b) (cited (equation (term_of a) (term_of b))) (object_swap a b)

  argument_swap : (t u : Term) → Then (swaps_argument j m t u) (swaps_argument k m t u)
  argument_swap (Apply f ts) (Apply g us) = and_more (f == g) (f == g) _ _ (same (f == g)) (swapped_more inner_eq (swaps_inner j m) (swaps_inner k m) inner_swap ts us)
  argument_swap (Apply f ts) (Object d) = λ h. h
  argument_swap (Apply f ts) (Parameter d) = λ h. h
  argument_swap (Object d) u = λ h. h
  argument_swap (Parameter d) u = λ h. h

  term_swap : (t u : Term) → Then (swaps_term j m t u) (swaps_term k m t u)
  term_swap t u = or_more (is_equation j m t u) (is_equation k m t u) (swaps_argument j m t u) (swaps_argument k m t u) (cited (equation t u)) (argument_swap t u)

  terms_swap : (ts us : List Term) → Then (swaps_terms j m ts us) (swaps_terms k m ts us)
  terms_swap = swapped_more term_eq (swaps_term j m) (swaps_term k m) term_swap

  literal_swap : (a l : Literal) → Then (swaps_literal j m a l) (swaps_literal k m a l)
  literal_swap a l =
      let e : Bool = literal_eq l (literal a.relation l.arguments a.positive) in
      and_more e e _ _ (same e) (or_more (swaps_terms j m a.arguments l.arguments) (swaps_terms k m a.arguments l.arguments) (swaps_terms j m a.arguments (turned l.relation l.arguments)) (swaps_terms k m a.arguments (turned l.relation l.arguments)) (terms_swap a.arguments l.arguments) (terms_swap a.arguments (turned l.relation l.arguments)))

  swapped : (l : Literal) → Then (is_swapped j m (FactLit l)) (is_swapped k m (FactLit l))
  swapped l h = more m (λ c. swaps k m c (FactLit l)) (any_more (λ c. swaps j m c (FactLit l)) (λ c. swaps k m c (FactLit l)) each (j m) h)
    where
      each : (c : Fact) → Then (swaps j m c (FactLit l)) (swaps k m c (FactLit l))
      each (FactLit a) h = literal_swap a l h
      each (FactKx g) h = h
      each (FactLcw e) h = h

  -- ---- barred effects and steady terms

  apart : (t u : Term) → Then (are_cited_apart j m t u) (are_cited_apart k m t u)
  apart t u = or_more (is_cited j m (inequation t u)) (is_cited k m (inequation t u)) (are_two_objects t u) (are_two_objects t u) (cited (inequation t u)) (same (are_two_objects t u))

  some_apart_more : (ts us : List Term) → Then (some_cited_apart j m ts us) (some_cited_apart k m ts us)
  some_apart_more (t ∷ ts) (u ∷ us) = or_more (are_cited_apart j m t u) (are_cited_apart k m t u) (some_cited_apart j m ts us) (some_cited_apart k m ts us) (apart t u) (some_apart_more ts us)
  some_apart_more [] us = λ h. h
  some_apart_more (t ∷ ts) [] = λ h. h

  fixed_apart_more : (ss : List (Option Term)) (us : List Term) → Then (fixed_cited_apart j m ss us) (fixed_cited_apart k m ss us)
  fixed_apart_more (Some t ∷ ss) (u ∷ us) = or_more (are_cited_apart j m t u) (are_cited_apart k m t u) (fixed_cited_apart j m ss us) (fixed_cited_apart k m ss us) (apart t u) (fixed_apart_more ss us)
  fixed_apart_more (None ∷ ss) (u ∷ us) = fixed_apart_more ss us
  fixed_apart_more [] us = λ h. h
  fixed_apart_more (Some t ∷ ss) [] = λ h. h
  fixed_apart_more (None ∷ ss) [] = λ h. h

  make_true_less : (p : ℕ) (ts : List Term) (x : Target) → Then (would_make_true k m p ts x) (would_make_true j m p ts x)
  make_true_less p ts (Set a) = and_more (a.predicate == p) (a.predicate == p) _ _ (same (a.predicate == p)) (not_more (some_cited_apart j m a.arguments ts) (some_cited_apart k m a.arguments ts) (some_apart_more a.arguments ts))
  make_true_less p ts (Unset a) = λ h. h
  make_true_less p ts (Clear x) = λ h. h
  make_true_less p ts (Assign f us v) = λ h. h

  make_false_less : (p : ℕ) (ts : List Term) (x : Target) → Then (would_make_false k m p ts x) (would_make_false j m p ts x)
  make_false_less p ts (Unset a) = and_more (a.predicate == p) (a.predicate == p) _ _ (same (a.predicate == p)) (not_more (some_cited_apart j m a.arguments ts) (some_cited_apart k m a.arguments ts) (some_apart_more a.arguments ts))
  make_false_less p ts (Clear x) = and_more (x.predicate == p) (x.predicate == p) _ _ (same (x.predicate == p)) (not_more (fixed_cited_apart j m x.slots ts) (fixed_cited_apart k m x.slots ts) (fixed_apart_more x.slots ts))
  make_false_less p ts (Set a) = λ h. h
  make_false_less p ts (Assign f us v) = λ h. h

  change_less : (f : ℕ) (ts : List Inner) (x : Target) → Then (would_change k m f ts x) (would_change j m f ts x)
  change_less f ts (Assign g us v) = and_more (g == f) (g == f) _ _ (same (g == f)) (not_more (some_cited_apart j m (map term_of us) (map term_of ts)) (some_cited_apart k m (map term_of us) (map term_of ts)) (some_apart_more (map term_of us) (map term_of ts)))
  change_less f ts (Set a) = λ h. h
  change_less f ts (Unset a) = λ h. h
  change_less f ts (Clear x) = λ h. h

  barred : (would would' : Target → Bool) → ((x : Target) → Then (would' x) (would x)) → (es : List Effect) → Then (are_barred j m would es) (are_barred k m would' es)
  barred would would' f es =
      all_more (is_barred j m would) (is_barred k m would') (λ e.
      or_more (cannot_fire j m e) (cannot_fire k m e) (not (would e.target)) (not (would' e.target))
      (any_more (λ l. is_cited j m (negated l)) (λ l. is_cited k m (negated l)) (λ l. cited (negated l)) e.condition) (not_more (would' e.target) (would e.target) (f e.target))) es

  steady : (es : List Effect) (t : Term) → Then (is_steady j m es t) (is_steady k m es t)
  steady es t =
      all_more (λ u. are_barred j m (would_change j m (number_of u) (arguments_of u)) es) (λ u. are_barred k m (would_change k m (number_of u) (arguments_of u)) es)
      (λ u. barred (would_change j m (number_of u) (arguments_of u)) (would_change k m (number_of u) (arguments_of u)) (change_less (number_of u) (arguments_of u)) es) (applications_in t)

  all_steady : (es : List Effect) (ts : List Term) → Then (are_steady j m es ts) (are_steady k m es ts)
  all_steady es = all_more (is_steady j m es) (is_steady k m es) (steady es)

  -- ---- reasons within a moment

  side : (c : Choice) (s : Side) (l : Literal) → Then (says_side j m c s l) (says_side k m c s l)
  side (BranchOn c) AsTrue l = λ h. h
  side (BranchOn c) AsFalse l =
      any_more (λ q. literal_eq l (negated q.0) && are_cited j m q.1) (λ q. literal_eq l (negated q.0) && are_cited k m q.1)
      (λ q. and_more (literal_eq l (negated q.0)) (literal_eq l (negated q.0)) (are_cited j m q.1) (are_cited k m q.1) (same (literal_eq l (negated q.0))) (all_cited q.1)) (with_others c)
  side (BranchOn c) (Is e) l = λ h. h
  side (CasesOn t) (Is e) l = λ h. h
  side (CasesOn t) AsTrue l = λ h. h
  side (CasesOn t) AsFalse l = λ h. h
  side (Act i) s l = λ h. h

  by_side : (path : Path) (n : ℕ) (l : Literal) → Then (is_by_side path j n m l) (is_by_side path k n m l)
  by_side path n l =
      elim (nth (takings 0 path) n) as (λ o. Then (option_map_or (λ (q : Rattle.pks_terms.specs.Proofs.Taking). (q.moment == m) && says_side j m q.choice q.side l) o false) (option_map_or (λ (q : Rattle.pks_terms.specs.Proofs.Taking). (q.moment == m) && says_side k m q.choice q.side l) o false)) [
        | None ↦ λ h. h
        | Some q ↦ and_more (q.moment == m) (q.moment == m) (says_side j m q.choice q.side l) (says_side k m q.choice q.side l) (same (q.moment == m)) (side q.choice q.side l)
      ]

  only : (l : Literal) → Then (is_only j m l) (is_only k m l)
  only l =
      some_group_more (λ g. list_any (λ q. literal_eq l q.0 && are_cited j m (map negated q.1)) (with_others g)) (λ g. list_any (λ q. literal_eq l q.0 && are_cited k m (map negated q.1)) (with_others g))
      (λ g. any_more (λ q. literal_eq l q.0 && are_cited j m (map negated q.1)) (λ q. literal_eq l q.0 && are_cited k m (map negated q.1))
      (λ q. and_more (literal_eq l q.0) (literal_eq l q.0) (are_cited j m (map negated q.1)) (are_cited k m (map negated q.1)) (same (literal_eq l q.0)) (all_cited (map negated q.1))) (with_others g))

  other : (l : Literal) → Then (is_other j m l) (is_other k m l)
  other l =
      some_group_more (λ g. list_any (λ q. literal_eq l (negated q.0) && list_any (is_cited j m) q.1) (with_others g)) (λ g. list_any (λ q. literal_eq l (negated q.0) && list_any (is_cited k m) q.1) (with_others g))
      (λ g. any_more (λ q. literal_eq l (negated q.0) && list_any (is_cited j m) q.1) (λ q. literal_eq l (negated q.0) && list_any (is_cited k m) q.1)
      (λ q. and_more (literal_eq l (negated q.0)) (literal_eq l (negated q.0)) (list_any (is_cited j m) q.1) (list_any (is_cited k m) q.1) (same (literal_eq l (negated q.0))) (any_more (is_cited j m) (is_cited k m) cited q.1)) (with_others g))

  last_left : (t : Term) (d : ℕ) (objects : List ℕ) → Then (others_ruled_out j m t d objects) (others_ruled_out k m t d objects)
  last_left t d =
      all_more (λ e. (e == d) || is_cited j m (inequation t (object e))) (λ e. (e == d) || is_cited k m (inequation t (object e)))
      (λ e. or_more (e == d) (e == d) (is_cited j m (inequation t (object e))) (is_cited k m (inequation t (object e))) (same (e == d)) (cited (inequation t (object e))))

  in_range : (s : Signature) (r : Relation) (ts : List Term) (b : Bool) → Then (equates s j m r ts b) (equates s k m r ts b)
  in_range s Equality (t ∷ Object d ∷ []) true = and_more (list_any (λ e. e == d) (objects_like s t)) (list_any (λ e. e == d) (objects_like s t)) (others_ruled_out j m t d (objects_like s t)) (others_ruled_out k m t d (objects_like s t)) (same (list_any (λ e. e == d) (objects_like s t))) (last_left t d (objects_like s t))
  in_range s Equality (t ∷ Object d ∷ []) false = λ h. h
  in_range s Equality (t ∷ Parameter d ∷ []) b = λ h. h
  in_range s Equality (t ∷ Apply f us ∷ []) b = λ h. h
  in_range s Equality [] b = λ h. h
  in_range s Equality (t ∷ []) b = λ h. h
  in_range s Equality (t ∷ Object d ∷ v ∷ ts) b = λ h. h
  in_range s Equality (t ∷ Parameter d ∷ v ∷ ts) b = λ h. h
  in_range s Equality (t ∷ Apply f us ∷ v ∷ ts) b = λ h. h
  in_range s (Named p) ts b = λ h. h

  shut : (r : Relation) (ts : List Term) (b : Bool) (e : Entry) → Then (leaves_out j m r ts b e) (leaves_out k m r ts b e)
  shut (Named p) ts false e =
      and_more (e.pattern.predicate == p) (e.pattern.predicate == p) _ _ (same (e.pattern.predicate == p))
      (and_more (has_fixed e.pattern.slots ts) (has_fixed e.pattern.slots ts) _ _ (same (has_fixed e.pattern.slots ts)) (all_more (λ (a : Atom). some_cited_apart j m a.arguments ts) (λ (a : Atom). some_cited_apart k m a.arguments ts) (λ a. some_apart_more a.arguments ts) e.listed))
  shut (Named p) ts true e = λ h. h
  shut Equality ts b e = λ h. h

  shut_out : (l : Literal) → Then (is_left_out j m l) (is_left_out k m l)
  shut_out l = some_region_more (leaves_out j m l.relation l.arguments l.positive) (leaves_out k m l.relation l.arguments l.positive) (shut l.relation l.arguments l.positive)

  -- ---- reasons of one step

  deny_less : (r : Relation) (ts : List Term) (b : Bool) (x : Target) → Then (would_deny k m r ts b x) (would_deny j m r ts b x)
  deny_less (Named p) ts true x = make_false_less p ts x
  deny_less (Named p) ts false x = make_true_less p ts x
  deny_less Equality ts b x = λ h. h

  keeps : (es : List Effect) (l : Literal) → Then (keeps_literal j m es l) (keeps_literal k m es l)
  keeps es l =
      and_more (are_steady j m es l.arguments) (are_steady k m es l.arguments) _ _ (all_steady es l.arguments)
      (barred (would_deny j m l.relation l.arguments l.positive) (would_deny k m l.relation l.arguments l.positive) (deny_less l.relation l.arguments l.positive) es)

  kept : (es : List Effect) (l : Literal) → Then (is_kept j m es (FactLit l)) (is_kept k m es (FactLit l))
  kept es l = and_more (is_cited j m l) (is_cited k m l) (keeps_literal j m es l) (keeps_literal k m es l) (cited l) (keeps es l)

  target_form : (x y : Target) → Then (is_target_form j m x y) (is_target_form k m x y)
  target_form (Set a) (Set b) = and_more (a.predicate == b.predicate) (a.predicate == b.predicate) _ _ (same (a.predicate == b.predicate)) (forms a.arguments b.arguments)
  target_form (Unset a) (Unset b) = and_more (a.predicate == b.predicate) (a.predicate == b.predicate) _ _ (same (a.predicate == b.predicate)) (forms a.arguments b.arguments)
  target_form (Assign f ts v) (Assign g us u) = and_more (f == g) (f == g) _ _ (same (f == g)) (and_more (are_forms j m (map term_of ts) (map term_of us)) (are_forms k m (map term_of ts) (map term_of us)) (is_form j m v u) (is_form k m v u) (forms (map term_of ts) (map term_of us)) (form v u))
  target_form (Set a) (Unset b) = λ h. h
  target_form (Set a) (Clear b) = λ h. h
  target_form (Set a) (Assign g us u) = λ h. h
  target_form (Unset a) (Set b) = λ h. h
  target_form (Unset a) (Clear b) = λ h. h
  target_form (Unset a) (Assign g us u) = λ h. h
  target_form (Assign f ts v) (Set b) = λ h. h
  target_form (Assign f ts v) (Unset b) = λ h. h
  target_form (Assign f ts v) (Clear b) = λ h. h
  target_form (Clear a) y = λ h. h

  steady_target : (es : List Effect) (x : Target) → Then (is_steady_target j m es x) (is_steady_target k m es x)
  steady_target es (Set a) = all_steady es a.arguments
  steady_target es (Unset a) = all_steady es a.arguments
  steady_target es (Assign f ts v) = and_more (are_steady j m es (map term_of ts)) (are_steady k m es (map term_of ts)) (is_steady j m es v) (is_steady k m es v) (all_steady es (map term_of ts)) (steady es v)
  steady_target es (Clear x) = λ h. h

  steady_form : (es : List Effect) (e : Effect) (x : Target) → Then (is_steady_form j m es e x) (is_steady_form k m es e x)
  steady_form es e x = and_more (is_target_form j m e.target x) (is_target_form k m e.target x) (is_steady_target j m es x) (is_steady_target k m es x) (target_form e.target x) (steady_target es x)

  undo_less : (x y : Target) → Then (would_undo k m x y) (would_undo j m x y)
  undo_less (Set a) y = make_false_less a.predicate a.arguments y
  undo_less (Unset a) y = make_true_less a.predicate a.arguments y
  undo_less (Assign f ts v) y = change_less f ts y
  undo_less (Clear x) y = λ h. h

  other_value : (v : Term) (y : Target) → Then (assigns_other j m v y) (assigns_other k m v y)
  other_value v (Assign f ts new) = cited (inequation new v)
  other_value v (Set a) = λ h. h
  other_value v (Unset a) = λ h. h
  other_value v (Clear x) = λ h. h

  make_same_less : (x y : Target) → Then (would_make_same k m x y) (would_make_same j m x y)
  make_same_less (Set a) y = make_true_less a.predicate a.arguments y
  make_same_less (Unset a) y = make_false_less a.predicate a.arguments y
  make_same_less (Assign f ts v) y = and_more (would_change k m f ts y) (would_change j m f ts y) _ _ (change_less f ts y) (not_more (assigns_other j m v y) (assigns_other k m v y) (other_value v y))
  make_same_less (Clear x) y = λ h. h

  effect : (es : List Effect) (l : Literal) → Then (is_effect j m es l) (is_effect k m es l)
  effect es l =
      any_more (λ x. list_any (λ q. is_steady_form j m es q.0 x && (are_cited j m q.0.condition && are_barred j m (would_undo j m x) q.1)) (with_later es)) (λ x. list_any (λ q. is_steady_form k m es q.0 x && (are_cited k m q.0.condition && are_barred k m (would_undo k m x) q.1)) (with_later es)) (λ x.
      any_more (λ q. is_steady_form j m es q.0 x && (are_cited j m q.0.condition && are_barred j m (would_undo j m x) q.1)) (λ q. is_steady_form k m es q.0 x && (are_cited k m q.0.condition && are_barred k m (would_undo k m x) q.1)) (λ q.
      and_more (is_steady_form j m es q.0 x) (is_steady_form k m es q.0 x) _ _ (steady_form es q.0 x)
      (and_more (are_cited j m q.0.condition) (are_cited k m q.0.condition) (are_barred j m (would_undo j m x) q.1) (are_barred k m (would_undo k m x) q.1) (all_cited q.0.condition) (barred (would_undo j m x) (would_undo k m x) (undo_less x) q.1))) (with_later es)) (targets_of l)

  made_by : (es : List Effect) (q : Effect × List Effect) (l : Literal) → Then (is_only_made_by j m es q l) (is_only_made_by k m es q l)
  made_by es q l =
      and_more (is_cited j m (negated l)) (is_cited k m (negated l)) _ _ (cited (negated l))
      (any_more (λ x. is_steady_form j m es q.0 x && are_barred j m (would_make_same j m x) q.1) (λ x. is_steady_form k m es q.0 x && are_barred k m (would_make_same k m x) q.1) (λ x.
      and_more (is_steady_form j m es q.0 x) (is_steady_form k m es q.0 x) (are_barred j m (would_make_same j m x) q.1) (are_barred k m (would_make_same k m x) q.1) (steady_form es q.0 x) (barred (would_make_same j m x) (would_make_same k m x) (make_same_less x) q.1)) (targets_of l))

  missed : (es : List Effect) (q : Effect × List Effect) (l : Literal) → Then (is_missed_by j m es q l) (is_missed_by k m es q l)
  missed es q l =
      any_more (λ x. is_steady_form j m es q.0 x && are_barred j m (would_undo j m x) q.1) (λ x. is_steady_form k m es q.0 x && are_barred k m (would_undo k m x) q.1) (λ x.
      and_more (is_steady_form j m es q.0 x) (is_steady_form k m es q.0 x) (are_barred j m (would_undo j m x) q.1) (are_barred k m (would_undo k m x) q.1) (steady_form es q.0 x) (barred (would_undo j m x) (would_undo k m x) (undo_less x) q.1)) (targets_of (negated l))

module _ (j k : Judge) (more : IsMore j k) (m : ℕ) where
  from_later : (es : List Effect) (l : Literal) → Then (is_from_later j m es l) (is_from_later k m es l)
  from_later es l = and_more (is_cited j (suc m) l) (is_cited k (suc m) l) (keeps_literal j m es (negated l)) (keeps_literal k m es (negated l)) (cited j k more (suc m) l) (keeps j k more m es (negated l))

  needed : (es : List Effect) (l : Literal) → Then (is_needed j m es l) (is_needed k m es l)
  needed es l =
      any_more (λ q. list_any (literal_eq l) q.0.condition && some_literal j (suc m) (is_only_made_by j m es q)) (λ q. list_any (literal_eq l) q.0.condition && some_literal k (suc m) (is_only_made_by k m es q)) (λ q.
      and_more (list_any (literal_eq l) q.0.condition) (list_any (literal_eq l) q.0.condition) _ _ (same (list_any (literal_eq l) q.0.condition)) (some_literal_more j k more (suc m) (is_only_made_by j m es q) (is_only_made_by k m es q) (made_by j k more m es q))) (with_others es)

  failed : (es : List Effect) (l : Literal) → Then (is_failed j m es l) (is_failed k m es l)
  failed es l =
      any_more (λ q. list_any (λ c. literal_eq l (negated c.0) && are_cited j m c.1) (with_others q.0.condition) && some_literal j (suc m) (is_missed_by j m es q)) (λ q. list_any (λ c. literal_eq l (negated c.0) && are_cited k m c.1) (with_others q.0.condition) && some_literal k (suc m) (is_missed_by k m es q)) (λ q.
      and_more (list_any (λ c. literal_eq l (negated c.0) && are_cited j m c.1) (with_others q.0.condition)) (list_any (λ c. literal_eq l (negated c.0) && are_cited k m c.1) (with_others q.0.condition)) _ _
      (any_more (λ c. literal_eq l (negated c.0) && are_cited j m c.1) (λ c. literal_eq l (negated c.0) && are_cited k m c.1) (λ c. and_more (literal_eq l (negated c.0)) (literal_eq l (negated c.0)) (are_cited j m c.1) (are_cited k m c.1) (same (literal_eq l (negated c.0))) (all_cited j k more m c.1)) (with_others q.0.condition))
      (some_literal_more j k more (suc m) (is_missed_by j m es q) (is_missed_by k m es q) (missed j k more m es q))) (with_later es)

module _ (p : Problem) (path : Path) (j k : Judge) (more : IsMore j k) where
  from_more : (m : ℕ) (q r : List Effect → Bool) → ((es : List Effect) → Then (q es) (r es)) → Then (from_moment p path m q) (from_moment p path m r)
  from_more m q r f =
      elim (slice_get (deeds path) m) as (λ o. Then (option_map_or (λ i. q (effects_of p i)) o false) (option_map_or (λ i. r (effects_of p i)) o false)) [ None ↦ λ h. h | Some i ↦ f (effects_of p i) ]

  to_more : (m : ℕ) (q r : ℕ → List Effect → Bool) → ((n : ℕ) (es : List Effect) → Then (q n es) (r n es)) → Then (to_moment p path m q) (to_moment p path m r)
  to_more zero q r f h = h
  to_more (suc n) q r f h = from_more n (q n) (r n) (f n) h

  -- a literal stays allowed where more may be relied on
  pub literal_more : (m : ℕ) (l : Literal) (r : Reason) → Then (is_allowed_by p path j m (FactLit l) r) (is_allowed_by p path k m (FactLit l) r)
  literal_more m l (ByGiven n) = λ h. h
  literal_more m l (BySide n) = by_side j k more m path n l
  literal_more m l BySame = λ h. h
  literal_more m l BySwap = swapped j k more m l
  literal_more m l ByOnly = only j k more m l
  literal_more m l ByOthers = other j k more m l
  literal_more m l ByRange = in_range j k more m p.signature l.relation l.arguments l.positive
  literal_more m l ByClosed = shut_out j k more m l
  literal_more m l ByKeep = to_more m (λ n es. is_kept j n es (FactLit l)) (λ n es. is_kept k n es (FactLit l)) (λ n es. kept j k more n es l)
  literal_more m l ByBack = from_more m (λ es. is_from_later j m es l) (λ es. is_from_later k m es l) (λ es. from_later j k more m es l)
  literal_more m l ByEffect = to_more m (λ n es. is_effect j n es l) (λ n es. is_effect k n es l) (λ n es. effect j k more n es l)
  literal_more m l ByMust = from_more m (λ es. is_needed j m es l) (λ es. is_needed k m es l) (λ es. needed j k more m es l)
  literal_more m l ByCannot = from_more m (λ es. is_failed j m es l) (λ es. is_failed k m es l) (λ es. failed j k more m es l)
  literal_more m l ByGrow = to_more m (λ n es. false) (λ n es. false) (λ n es h. h)
  literal_more m l ByClear = to_more m (λ n es. false) (λ n es. false) (λ n es h. h)
