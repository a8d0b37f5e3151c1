-- Terms whose equation is shown may stand for each other.
use Rattle.std.proofs.Common.{◌≡◌, ◌&&◌, ◌||◌, ◌≤◌, ℕ, Bool, true, false, cond, List, [], ◌∷◌, ◌++◌, append_assoc, map, Option, Some, None, is_lt, refl, sym, ap, ◌∙◌, subst, inl, inr, ⊎_elim, true≢false}
use Rattle.std.specs.List.{list_any}
use Rattle.std.specs.Option.{option_map_or, option_and_then}
use Rattle.std.specs.Cmp.Lexicographic.{pointwise}
use Rattle.std.proofs.lemmas.Bool.{or_cases, or_left, or_right, and_parts, and_from, eq-eqb}
use Rattle.pks_terms.specs.Sets.{IsIn, all_some}
use Rattle.pks_terms.specs.Syntax.{Form, Object, Parameter, Apply, Inner, Term, object, place, term_of, as_object, Relation, Named, Equality, Literal}
use Rattle.pks_terms.specs.Orders.{term_cmp, term_eq, in_order, literal, equation}
use Rattle.pks_terms.specs.Databases.{values_at, least, inner_normal, normal, is_evident}
use Rattle.pks_terms.specs.Problems.{Problem}
use Rattle.pks_terms.specs.Moments.{IsInOrder}
use Rattle.pks_terms.proofs.ListLaws.{any_in}
use Rattle.pks_laws.proofs.Values.{least_in}
use Rattle.pks_laws.proofs.Least.{in_order_swapped, literal_eq_itself, term_eq_itself, value_literal}
use Rattle.pks_terms.specs.Proofs.{Fact, FactLit, Path, final_moment, BySame, BySwap}
use Rattle.pks_terms.specs.Judging.{Judge, fact_eq, is_cited}
use Rattle.pks_terms.specs.Rewriting.{is_equation, one_swapped, inner_eq, swaps_inner, swaps_term, swaps_terms, turned, swaps_literal, swaps}
use Rattle.pks_laws_explain.proofs.Growing.{Shown, shown_within}

-- ---- what is among the facts is cited

pub cited_in : (j : Judge) (m : ℕ) (fs : List Fact) (l : Literal) → j m ≡ fs → IsIn (FactLit l) fs → is_cited j m l ≡ true
cited_in j m fs l e i = ap (list_any (fact_eq (FactLit l))) e ∙ any_in (fact_eq (FactLit l)) fs (FactLit l) i (literal_eq_itself l l refl)

-- ---- one element replaced

pub itself : {X : Type 0} (same : X → X → Bool) → ((x : X) → same x x ≡ true) → (xs : List X) → pointwise same xs xs ≡ true
itself same r [] = refl
itself same r (x ∷ xs) = and_from _ _ (r x) (itself same r xs)

pub swapped_there : {X : Type 0} (same swapped : X → X → Bool) → ((x : X) → same x x ≡ true) → (xs ys : List X) (x y : X) → swapped x y ≡ true → one_swapped same swapped (xs ++ x ∷ ys) (xs ++ y ∷ ys) ≡ true
swapped_there same swapped r [] ys x y h = or_left _ _ (and_from _ _ h (itself same r ys))
swapped_there same swapped r (z ∷ xs) ys x y h = or_right _ _ (and_from _ _ (r z) (swapped_there same swapped r xs ys x y h))

-- a pair with one element replaced, the other way round
swapped_turned : {X : Type 0} (same swapped : X → X → Bool) (a b c d : X) → one_swapped same swapped (a ∷ b ∷ []) (c ∷ d ∷ []) ≡ true → one_swapped same swapped (b ∷ a ∷ []) (d ∷ c ∷ []) ≡ true
swapped_turned same swapped a b c d h =
    ⊎_elim
    (λ k. let q = and_parts (swapped a c) _ k in or_right _ _ (and_from _ _ (and_parts (same b d) _ q.1).0 (or_left _ _ (and_from _ _ q.0 refl))))
    (λ k. let q = and_parts (same a c) _ k in
    ⊎_elim (λ n. or_left _ _ (and_from _ _ (and_parts (swapped b d) _ n).0 (and_from _ _ q.0 refl))) (λ n. absurd (true≢false (sym (and_parts (same b d) _ n).1))) (or_cases (swapped b d && true) _ q.1))
    (or_cases (swapped a c && (same b d && true)) _ h)

in_order_twice : (r : Relation) (ts : List Term) → in_order r (in_order r ts) ≡ in_order r ts
in_order_twice (Named p) ts = refl
in_order_twice Equality (t ∷ u ∷ []) =
    elim (is_lt (term_cmp t u)) as (λ c. is_lt (term_cmp t u) ≡ c → in_order Equality (cond c (u ∷ t ∷ []) (t ∷ u ∷ [])) ≡ cond c (u ∷ t ∷ []) (t ∷ u ∷ [])) [
      | true ↦ λ e. in_order_swapped u t ∙ ap (λ c. cond c (u ∷ t ∷ []) (t ∷ u ∷ [])) e
      | false ↦ λ e. ap (λ c. cond c (u ∷ t ∷ []) (t ∷ u ∷ [])) e
    ] refl
in_order_twice Equality [] = refl
in_order_twice Equality (t ∷ []) = refl
in_order_twice Equality (t ∷ u ∷ v ∷ ts) = refl

-- the literal with its sides in order
pub ordered : (r : Relation) (ts : List Term) (b : Bool) → literal r (in_order r ts) b ≡ literal r ts b
unfolding literal
ordered r ts b = λ i. record { relation = r; arguments = in_order_twice r ts i; positive = b }

pub literal_ordered : (r : Relation) (ts : List Term) (b : Bool) → IsInOrder (literal r ts b)
unfolding literal
literal_ordered r ts b = ap (λ (l : Literal). l.arguments) (ordered r ts b)

pub equation_turned : (t u : Term) → equation t u ≡ equation u t
unfolding literal
equation_turned t u = λ i. record { relation = Equality; arguments = in_order_swapped t u i; positive = true }

-- ---- objects as terms

pub objects_same : {A : Type 0} (ts : List (Form A)) (ds : List ℕ) → all_some (map as_object ts) ≡ Some ds → ts ≡ map Object ds
objects_same [] ds h = ap (map Object) (Rattle.std.proofs.lemmas.Option.same_Some [] ds h)
objects_same {A} (Object d ∷ ts) ds h =
    elim (all_some (map as_object ts)) as (λ o. all_some (map as_object ts) ≡ o → ◌≡◌ {A = Option (List ℕ)} (elim o [ None ↦ None | Some ys ↦ Some (d ∷ ys) ]) (Some ds) → Object d ∷ ts ≡ map Object ds) [
      | None ↦ λ q k. absurd (Rattle.std.proofs.lemmas.Option.none-some ds k)
      | Some es ↦ λ q k. (λ i. Object d ∷ objects_same ts es q i) ∙ ap (map Object) (Rattle.std.proofs.lemmas.Option.same_Some (d ∷ es) ds k)
    ] refl h
objects_same (Parameter d ∷ ts) ds h = absurd (Rattle.std.proofs.lemmas.Option.none-some ds h)
objects_same (Apply f us ∷ ts) ds h = absurd (Rattle.std.proofs.lemmas.Option.none-some ds h)

pub map_same : (ds : List ℕ) → map (λ d. d) ds ≡ ds
map_same [] = refl
map_same (d ∷ ds) = λ i. d ∷ map_same ds i

pub some_all : (ds : List ℕ) → all_some (map Some ds) ≡ Some ds
some_all [] = refl
some_all (d ∷ ds) = ap (λ o. elim o [ None ↦ None | Some ys ↦ Some (d ∷ ys) ]) (some_all ds)

-- one term replaced in a literal
module _ (j : Judge) (m : ℕ) where
  either : (r : Relation) (ts us : List Term) → swaps_terms j m ts us ≡ true → (swaps_terms j m (in_order r ts) (in_order r us) || swaps_terms j m (in_order r ts) (turned r (in_order r us))) ≡ true
  either (Named p) ts us h = or_left _ _ h
  either Equality (t ∷ u ∷ []) (t' ∷ u' ∷ []) h =
      elim (is_lt (term_cmp t u)) as (λ a. (swaps_terms j m (cond a (u ∷ t ∷ []) (t ∷ u ∷ [])) (in_order Equality (t' ∷ u' ∷ [])) || swaps_terms j m (cond a (u ∷ t ∷ []) (t ∷ u ∷ [])) (turned Equality (in_order Equality (t' ∷ u' ∷ [])))) ≡ true) [
        | true ↦ elim (is_lt (term_cmp t' u')) as (λ b. (swaps_terms j m (u ∷ t ∷ []) (cond b (u' ∷ t' ∷ []) (t' ∷ u' ∷ [])) || swaps_terms j m (u ∷ t ∷ []) (turned Equality (cond b (u' ∷ t' ∷ []) (t' ∷ u' ∷ [])))) ≡ true) [
          | true ↦ or_left _ _ (swapped_turned term_eq (swaps_term j m) t u t' u' h)
          | false ↦ or_right _ _ (swapped_turned term_eq (swaps_term j m) t u t' u' h)
        ]
        | false ↦ elim (is_lt (term_cmp t' u')) as (λ b. (swaps_terms j m (t ∷ u ∷ []) (cond b (u' ∷ t' ∷ []) (t' ∷ u' ∷ [])) || swaps_terms j m (t ∷ u ∷ []) (turned Equality (cond b (u' ∷ t' ∷ []) (t' ∷ u' ∷ [])))) ≡ true) [
          | true ↦ or_right _ _ h
          | false ↦ or_left _ _ h
        ]
      ]
  either Equality [] us h = absurd (true≢false (sym h))
  either Equality (t ∷ []) [] h = absurd (true≢false (sym h))
  either Equality (t ∷ []) (t' ∷ []) h = or_left _ _ h
  either Equality (t ∷ []) (t' ∷ u' ∷ us) h = absurd (none (swaps_term j m t t') (term_eq t t') h)
    where
      none : (a b : Bool) → ((a && false) || (b && false)) ≡ true → ⊥
      none true true h = true≢false (sym h)
      none true false h = true≢false (sym h)
      none false true h = true≢false (sym h)
      none false false h = true≢false (sym h)
  either Equality (t ∷ u ∷ ts) [] h = absurd (true≢false (sym h))
  either Equality (t ∷ u ∷ ts) (t' ∷ []) h = absurd (none (swaps_term j m t t') (term_eq t t') h)
    where
      none : (a b : Bool) → ((a && false) || (b && false)) ≡ true → ⊥
      none true true h = true≢false (sym h)
      none true false h = true≢false (sym h)
      none false true h = true≢false (sym h)
      none false false h = true≢false (sym h)
  either Equality (t ∷ u ∷ []) (t' ∷ u' ∷ v' ∷ us) h = absurd (none (swaps_term j m t t') (term_eq u u') (term_eq t t') (swaps_term j m u u') h)
    where
      none : (a b c d : Bool) → ((a && (b && false)) || (c && ((d && false) || (b && false)))) ≡ true → ⊥
      none true true true true h = true≢false (sym h)
      none true true true false h = true≢false (sym h)
      none true true false d h = true≢false (sym h)
      none true false true true h = true≢false (sym h)
      none true false true false h = true≢false (sym h)
      none true false false d h = true≢false (sym h)
      none false true true true h = true≢false (sym h)
      none false true true false h = true≢false (sym h)
      none false true false d h = true≢false (sym h)
      none false false true true h = true≢false (sym h)
      none false false true false h = true≢false (sym h)
      none false false false d h = true≢false (sym h)
  either Equality (t ∷ u ∷ v ∷ ts) (t' ∷ u' ∷ []) h = absurd (none (swaps_term j m t t') (term_eq u u') (term_eq t t') (swaps_term j m u u') h)
    where
      none : (a b c d : Bool) → ((a && (b && false)) || (c && ((d && false) || (b && false)))) ≡ true → ⊥
      none true true true true h = true≢false (sym h)
      none true true true false h = true≢false (sym h)
      none true true false d h = true≢false (sym h)
      none true false true true h = true≢false (sym h)
      none true false true false h = true≢false (sym h)
      none true false false d h = true≢false (sym h)
      none false true true true h = true≢false (sym h)
      none false true true false h = true≢false (sym h)
      none false true false d h = true≢false (sym h)
      none false false true true h = true≢false (sym h)
      none false false true false h = true≢false (sym h)
      none false false false d h = true≢false (sym h)
  either Equality (t ∷ u ∷ v ∷ ts) (t' ∷ u' ∷ v' ∷ us) h = or_left _ _ h

  pub literal_swaps : (r : Relation) (ts us : List Term) (b : Bool) → swaps_terms j m ts us ≡ true → swaps_literal j m (literal r ts b) (literal r us b) ≡ true
  unfolding literal
  literal_swaps r ts us b h = and_from _ _ (literal_eq_itself (literal r us b) (literal r (in_order r us) b) (sym (ordered r us b))) (either r ts us h)

module _ (p : Problem) (path : Path) (m : ℕ) (within : m ≤ final_moment path) where
  abbrev pub Lit : Literal → Type 0
  Lit l = Shown p path m (FactLit l)

  -- an equation of the terms is shown
  abbrev pub Same : Term → Term → Type 0
  Same t u = Lit (equation t u)

  pub evident_shown : (l : Literal) → is_evident p.signature l.relation l.arguments l.positive ≡ true → Lit l
  evident_shown l h = shown_within p path [] m tt (FactLit l) BySame within (λ j e. h)

  pub same_itself : (t : Term) → Same t t
  same_itself t = evident_shown (equation t t) (evident t)
    where
      evident : (t : Term) → is_evident p.signature (equation t t).relation (equation t t).arguments (equation t t).positive ≡ true
      evident t = unfold literal in elim (is_lt (term_cmp t t)) as (λ c. is_evident p.signature Equality (cond c (t ∷ t ∷ []) (t ∷ t ∷ [])) true ≡ true) [ true ↦ term_eq_itself t t refl | false ↦ term_eq_itself t t refl ]

  pub same_turned : (t u : Term) → Same t u → Same u t
  same_turned t u s = subst Lit (equation_turned t u) s

  -- by an equation that is shown, with one term replaced
  swap_shown : (k l : Literal) (t u : Term) → Lit k → Same t u → ((j : Judge) → is_equation j m t u ≡ true → swaps_literal j m k l ≡ true) → Lit l
  swap_shown k l t u shown same swap =
      let fs : List Fact = FactLit k ∷ FactLit (equation t u) ∷ [] in
      shown_within p path fs m (shown, (same, tt)) (FactLit l) BySwap within (λ j e.
      ap (list_any (λ c. swaps j m c (FactLit l))) e ∙ or_left (swaps j m (FactLit k) (FactLit l)) _ (swap j (cited_in j m fs (equation t u) e (inr (inl refl)))))

  same_term_itself : (t : Term) → term_eq t t ≡ true
  same_term_itself t = term_eq_itself t t refl

  one_replaced : (r : Relation) (b : Bool) (xs ys : List Term) (t u : Term) → Same t u → Lit (literal r (xs ++ t ∷ ys) b) → Lit (literal r (xs ++ u ∷ ys) b)
  one_replaced r b xs ys t u same shown =
      swap_shown (literal r (xs ++ t ∷ ys) b) (literal r (xs ++ u ∷ ys) b) t u shown same (λ j e.
      literal_swaps j m r (xs ++ t ∷ ys) (xs ++ u ∷ ys) b (swapped_there term_eq (swaps_term j m) same_term_itself xs ys t u (or_left (is_equation j m t u) _ e)))

  -- equations one by one
  abbrev pub AllSame : List Term → List Term → Type 0
  AllSame [] [] = Unit {0}
  AllSame (t ∷ ts) (u ∷ us) = Same t u × AllSame ts us
  AllSame [] (u ∷ us) = ⊥
  AllSame (t ∷ ts) [] = ⊥

  rest_replaced : (r : Relation) (b : Bool) (xs ts us : List Term) → AllSame ts us → Lit (literal r (xs ++ ts) b) → Lit (literal r (xs ++ us) b)
  rest_replaced r b xs [] [] a shown = shown
  rest_replaced r b xs (t ∷ ts) (u ∷ us) a shown =
      subst (λ vs. Lit (literal r vs b)) (append_assoc xs (u ∷ []) us)
      (rest_replaced r b (xs ++ u ∷ []) ts us a.1 (subst (λ vs. Lit (literal r vs b)) (sym (append_assoc xs (u ∷ []) ts)) (one_replaced r b xs ts t u a.0 shown)))
  rest_replaced r b xs [] (u ∷ us) a shown = absurd a
  rest_replaced r b xs (t ∷ ts) [] a shown = absurd a

  -- all terms of a literal replaced
  pub all_replaced : (r : Relation) (b : Bool) (ts us : List Term) → AllSame ts us → Lit (literal r ts b) → Lit (literal r us b)
  all_replaced r b ts us a shown = rest_replaced r b [] ts us a shown

  pub same_through : (t u v : Term) → Same t u → Same u v → Same t v
  same_through t u v a b = one_replaced Equality true (t ∷ []) [] u v b a

  -- ---- applications

  inner_itself : (a : Inner) → inner_eq a a ≡ true
  inner_itself a = term_eq_itself (term_of a) (term_of a) refl

  one_argument : (f : ℕ) (xs ys : List Inner) (a c : Inner) → Same (term_of a) (term_of c) → Same (Apply f (xs ++ a ∷ ys)) (Apply f (xs ++ c ∷ ys))
  one_argument f xs ys a c same =
      let t : Term = Apply f (xs ++ a ∷ ys) in
      let u : Term = Apply f (xs ++ c ∷ ys) in
      swap_shown (equation t t) (equation t u) (term_of a) (term_of c) (same_itself t) same (λ j e.
      literal_swaps j m Equality (t ∷ t ∷ []) (t ∷ u ∷ []) true
      (swapped_there term_eq (swaps_term j m) same_term_itself (t ∷ []) [] t u
      (or_right (is_equation j m t u) _ (and_from _ _ (eq-eqb f f refl) (swapped_there inner_eq (swaps_inner j m) inner_itself xs ys a c (or_left (is_equation j m (term_of a) (term_of c)) _ e))))))

  abbrev pub AllSameInner : List Inner → List Inner → Type 0
  AllSameInner [] [] = Unit {0}
  AllSameInner (t ∷ ts) (u ∷ us) = Same (term_of t) (term_of u) × AllSameInner ts us
  AllSameInner [] (u ∷ us) = ⊥
  AllSameInner (t ∷ ts) [] = ⊥

  rest_arguments : (f : ℕ) (xs ts us : List Inner) → AllSameInner ts us → Same (Apply f (xs ++ ts)) (Apply f (xs ++ us))
  rest_arguments f xs [] [] a = same_itself (Apply f (xs ++ []))
  rest_arguments f xs (t ∷ ts) (u ∷ us) a =
      same_through (Apply f (xs ++ t ∷ ts)) (Apply f (xs ++ u ∷ ts)) (Apply f (xs ++ u ∷ us)) (one_argument f xs ts t u a.0)
      (subst (λ vs. Same (Apply f (xs ++ u ∷ ts)) (Apply f vs)) (append_assoc xs (u ∷ []) us) (subst (λ vs. Same (Apply f vs) (Apply f ((xs ++ u ∷ []) ++ us))) (append_assoc xs (u ∷ []) ts) (rest_arguments f (xs ++ u ∷ []) ts us a.1)))
  rest_arguments f xs [] (u ∷ us) a = absurd a
  rest_arguments f xs (t ∷ ts) [] a = absurd a

  pub same_applied : (f : ℕ) (ts us : List Inner) → AllSameInner ts us → Same (Apply f ts) (Apply f us)
  same_applied f ts us a = rest_arguments f [] ts us a

  -- ---- normal forms

  module _ (kf : List Literal) (known : (l : Literal) → IsIn l kf → Lit l) where
    pub value_shown : (f : ℕ) (ds : List ℕ) (e : ℕ) → IsIn e (values_at kf f ds) → Same (place f ds) (object e)
    unfolding literal term_cmp
    value_shown f ds e i = known (equation (place f ds) (object e)) (value_literal kf f ds e i)

    abbrev InValues : ℕ → List ℕ → ℕ → Type 0
    InValues f ds e = IsIn e (values_at kf f ds)

    pub least_shown : (f : ℕ) (ds : List ℕ) (e : ℕ) → least (values_at kf f ds) ≡ Some e → Same (place f ds) (object e)
    least_shown f ds e h = value_shown f ds e (least_in (InValues f ds) (values_at kf f ds) e (Rattle.pks_terms.proofs.ListLaws.each_of (InValues f ds) (values_at kf f ds) (λ x i. i)) h)

    pub inner_normal_shown : (t : Inner) → Same (term_of t) (term_of (inner_normal kf t))
    inner_normal_shown (Object d) = same_itself (Object d)
    inner_normal_shown (Parameter d) = same_itself (Parameter d)
    inner_normal_shown (Apply f ds) =
        let all : all_some (map Some (map (λ d. d) ds)) ≡ Some ds = ap (λ es. all_some (map Some es)) (map_same ds) ∙ some_all ds in
        subst (λ o. Same (place f ds) (term_of (option_map_or Object (option_and_then (λ es. least (values_at kf f es)) o) (Apply f (map (λ d. d) ds))))) (sym all)
        (elim (least (values_at kf f ds)) as (λ o. least (values_at kf f ds) ≡ o → Same (place f ds) (term_of (option_map_or Object o (Apply f (map (λ d. d) ds))))) [
          | None ↦ λ q. subst (λ es. Same (place f ds) (place f es)) (sym (map_same ds)) (same_itself (place f ds))
          | Some e ↦ λ q. least_shown f ds e q
        ] refl)

    pub inner_normals_shown : (ts : List Inner) → AllSameInner ts (map (inner_normal kf) ts)
    inner_normals_shown [] = tt
    inner_normals_shown (t ∷ ts) = (inner_normal_shown t, inner_normals_shown ts)

    -- a term and its normal form
    pub normal_shown : (t : Term) → Same t (normal kf t)
    unfolding normal
    normal_shown (Object d) = same_itself (Object d)
    normal_shown (Parameter d) = same_itself (Parameter d)
    normal_shown (Apply f ts) =
        let us : List Inner = map (inner_normal kf) ts in
        let args = same_applied f ts us (inner_normals_shown ts) in
        elim (all_some (map as_object us)) as (λ o. all_some (map as_object us) ≡ o → Same (Apply f ts) (option_map_or Object (option_and_then (λ es. least (values_at kf f es)) o) (Apply f us))) [
          | None ↦ λ q. args
          | Some ds ↦ λ q. elim (least (values_at kf f ds)) as (λ o. least (values_at kf f ds) ≡ o → Same (Apply f ts) (option_map_or Object o (Apply f us))) [
            | None ↦ λ k. args
            | Some e ↦ λ k. same_through (Apply f ts) (Apply f us) (object e) args (subst (λ vs. Same (Apply f vs) (object e)) (sym (objects_same us ds q)) (least_shown f ds e k))
          ] refl
        ] refl

    pub normals_shown : (ts : List Term) → AllSame ts (map (normal kf) ts)
    normals_shown [] = tt
    normals_shown (t ∷ ts) = (normal_shown t, normals_shown ts)

    pub from_normals : (ts : List Term) → AllSame (map (normal kf) ts) ts
    from_normals [] = tt
    from_normals (t ∷ ts) = (same_turned t (normal kf t) (normal_shown t), from_normals ts)
