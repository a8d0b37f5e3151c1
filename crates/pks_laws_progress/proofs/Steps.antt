-- A literal with an application replaced by a value that is kept isn't spoiled where the literal isn't.
use Rattle.std.proofs.Common.{◌≡◌, ◌||◌, ◌++◌, ℕ, Bool, true, false, not, cond, is_lt, List, [], ◌∷◌, map, filter, Option, Some, None, option_and_then, refl, sym, ap, ◌∙◌, subst, inl, inr, ⊎_elim}
use Rattle.std.specs.List.{list_all}
use Rattle.std.specs.Option.{option_map_or}
use Rattle.std.proofs.lemmas.Bool.{or_parts, and_parts, and_from, not-false}
use Rattle.std.proofs.lemmas.Option.{none-some, same_Some}
use Rattle.pks_terms.specs.Sets.{IsIn, all_some, one_replaced}
use Rattle.pks_terms.specs.Syntax.{Object, Parameter, Apply, Inner, Term, term_of, place, as_object, Relation, Named, Equality, Literal}
use Rattle.pks_terms.specs.Orders.{term_cmp, in_order, literal}
use Rattle.pks_terms.specs.Signatures.{Signature, HasValues}
use Rattle.pks_terms.specs.Databases.{Five, values_at, least, applied, inner_normal, normal}
use Rattle.pks_terms.specs.Closure.{inner_steps, term_steps, by_value, is_application, applications_in, first_clash}
use Rattle.pks_terms.specs.Saturated.{Within, IsSaturated}
use Rattle.pks_terms.specs.Actions.{Effect}
use Rattle.pks_terms.specs.Spoiling.{may_be_changed, is_stable, are_stable, may_be_denied, spoils}
use Rattle.pks_terms.proofs.ListLaws.{in_mapped, in_appended}
use Rattle.pks_laws.proofs.Least.{in_left, in_right, values_within, least_one, one_value, value_is}
use Rattle.pks_laws_progress.proofs.Looking.{Related, AreAlike, be_changed_alike, be_denied_alike}

-- ---- lists in which one element is replaced

module _ {X : Type 0} (R : X → X → Type 0) (itself : (x : X) → R x x) where
  related_itself : (xs : List X) → Related R xs xs
  related_itself [] = tt
  related_itself (x ∷ xs) = (itself x, related_itself xs)

  replaced_related : (step : X → List X) → ((x y : X) → IsIn y (step x) → R x y) → (xs ys : List X) → IsIn ys (one_replaced step xs) → Related R xs ys
  replaced_related step h [] ys i = absurd i
  replaced_related step h (x ∷ xs) ys i =
      ⊎_elim
      (λ j. let r = in_mapped (λ y. y ∷ xs) (step x) ys j in subst (Related R (x ∷ xs)) r.2 (h x r.0 r.1, related_itself xs))
      (λ j. let r = in_mapped (λ zs. x ∷ zs) (one_replaced step xs) ys j in subst (Related R (x ∷ xs)) r.2 (itself x, replaced_related step h xs r.0 r.1))
      (in_appended (map (λ y. y ∷ xs) (step x)) (map (λ zs. x ∷ zs) (one_replaced step xs)) ys i)

related_weaker : {X Y : Type 0} (R : X → X → Type 0) (Q : Y → Y → Type 0) (f : X → Y) → ((x y : X) → R x y → Q (f x) (f y)) → (xs ys : List X) → Related R xs ys → Related Q (map f xs) (map f ys)
related_weaker R Q f h [] [] a = tt
related_weaker R Q f h (x ∷ xs) (y ∷ ys) a = (h x y a.0, related_weaker R Q f h xs ys a.1)
related_weaker R Q f h [] (y ∷ ys) a = absurd a
related_weaker R Q f h (x ∷ xs) [] a = absurd a

related_same : {X Y : Type 0} (f : X → Y) (xs ys : List X) → Related (λ x y. f x ≡ f y) xs ys → map f xs ≡ map f ys
related_same f [] [] a = refl
related_same f (x ∷ xs) (y ∷ ys) a = λ i. a.0 i ∷ related_same f xs ys a.1 i
related_same f [] (y ∷ ys) a = absurd a
related_same f (x ∷ xs) [] a = absurd a

-- ---- lists of which all pass

pub all_each : {X : Type 0} (p : X → Bool) (xs : List X) → list_all p xs ≡ true → (x : X) → IsIn x xs → p x ≡ true
all_each p [] h x i = absurd i
all_each p (y ∷ ys) h x (inl e) = ap p (sym e) ∙ (and_parts (p y) _ h).0
all_each p (y ∷ ys) h x (inr i) = all_each p ys (and_parts (p y) _ h).1 x i

pub all_of : {X : Type 0} (p : X → Bool) (xs : List X) → ((x : X) → IsIn x xs → p x ≡ true) → list_all p xs ≡ true
all_of p [] h = refl
all_of p (x ∷ xs) h = and_from (p x) _ (h x (inl refl)) (all_of p xs (λ y i. h y (inr i)))

pub all_in_order : (p : Term → Bool) (r : Relation) (ts : List Term) → list_all p ts ≡ true → list_all p (in_order r ts) ≡ true
all_in_order p (Named q) ts h = h
all_in_order p Equality (t ∷ u ∷ []) h =
    elim (is_lt (term_cmp t u)) as (λ c. list_all p (cond c (u ∷ t ∷ []) (t ∷ u ∷ [])) ≡ true) [
      | true ↦ let a = and_parts (p t) _ h in and_from (p u) _ (and_parts (p u) true a.1).0 (and_from (p t) true a.0 refl)
      | false ↦ h
    ]
all_in_order p Equality [] h = h
all_in_order p Equality (t ∷ []) h = h
all_in_order p Equality (t ∷ u ∷ v ∷ ts) h = h

no_applications : (ds : List ℕ) → filter is_application (map term_of (map (λ d. let t : Inner = Object d in t) ds)) ≡ []
no_applications [] = refl
no_applications (d ∷ ds) = no_applications ds

objects_are : (ts : List Inner) (ds : List ℕ) → all_some (map as_object ts) ≡ Some ds → ts ≡ map Object ds
objects_are [] ds e = ap (map Object) (same_Some [] ds e)
objects_are (Object d ∷ ts) ds e =
    elim (all_some (map as_object ts)) as (λ r. all_some (map as_object ts) ≡ r → ◌≡◌ {A = Option (List ℕ)} (elim r [ None ↦ None | Some ys ↦ Some (d ∷ ys) ]) (Some ds) → Object d ∷ ts ≡ map Object ds) [
      | None ↦ λ q k. absurd (none-some ds k)
      | Some ys ↦ λ q k. (λ i. Object d ∷ objects_are ts ys q i) ∙ ap (map Object) (same_Some (d ∷ ys) ds k)
    ] refl e
objects_are (Parameter d ∷ ts) ds e = absurd (none-some ds e)
objects_are (Apply g us ∷ ts) ds e = absurd (none-some ds e)

all_found : (ds : List ℕ) → all_some (map Some (map (λ d. d) ds)) ≡ Some ds
all_found [] = refl
all_found (d ∷ ds) = ap (λ o. elim o [ None ↦ None | Some ys ↦ Some (d ∷ ys) ]) (all_found ds)

module _ (s : Signature) (d : Five) (inhabited : HasValues s) (saturated : IsSaturated s d) (fine : first_clash s d ≡ None) (es : List Effect) where
  one : (f : ℕ) (ds : List ℕ) (e e' : ℕ) → IsIn e (values_at d.kf f ds) → IsIn e' (values_at d.kf f ds) → e ≡ e'
  one = one_value s d inhabited saturated fine

  -- no effect may change an application in the term
  abbrev Stays : Term → Type 0
  Stays u = not (may_be_changed s d es u) ≡ true

  stable_at : (t : Term) → is_stable s d es t ≡ true → (u : Term) → IsIn u (applications_in t) → Stays u
  unfolding is_stable
  stable_at t h = all_each (λ u. not (may_be_changed s d es u)) (applications_in t) h

  stable_from : (t : Term) → ((u : Term) → IsIn u (applications_in t) → Stays u) → is_stable s d es t ≡ true
  unfolding is_stable
  stable_from t h = all_of (λ u. not (may_be_changed s d es u)) (applications_in t) h

  -- an application in a stable term is stable
  pub part_stable : (t u : Term) → is_stable s d es t ≡ true → IsIn u (applications_in t) → is_stable s d es u ≡ true
  part_stable (Object e) u h i = absurd i
  part_stable (Parameter e) u h i = absurd i
  part_stable (Apply f ts) u h (inl e) = subst (λ v. is_stable s d es v ≡ true) e h
  part_stable (Apply f ts) u h (inr i) = inside ts (λ v j. stable_at (Apply f ts) h v (inr j)) i
    where
      inside : (us : List Inner) → ((v : Term) → IsIn v (filter is_application (map term_of us)) → Stays v) → IsIn u (filter is_application (map term_of us)) → is_stable s d es u ≡ true
      inside [] g j = absurd j
      inside (Object e ∷ us) g j = inside us g j
      inside (Parameter e ∷ us) g j = inside us g j
      inside (Apply g' ds ∷ us) g (inr j) = inside us (λ v k. g v (inr k)) j
      inside (Apply g' ds ∷ us) g (inl e) =
          subst (λ v. is_stable s d es v ≡ true) e
          (stable_from (place g' ds) (λ v k. ⊎_elim (λ q. subst Stays q (g (place g' ds) (inl refl))) (λ j. absurd (subst (IsIn v) (no_applications ds) j)) k))

  module _ (small : List Literal) (within : Within small d.kf) where
    there : (f : ℕ) (ds : List ℕ) (e : ℕ) → IsIn e (values_at small f ds) → IsIn e (values_at d.kf f ds)
    there f ds e i = values_within s small d.kf within one f ds e i

    -- of an argument and what a step makes of it: the same normal form, and no more applications
    abbrev InnerStep : Inner → Inner → Type 0
    InnerStep x y = (inner_normal d.kf x ≡ inner_normal d.kf y) × (normal d.kf (term_of x) ≡ normal d.kf (term_of y)) × Within (filter is_application (term_of y ∷ [])) (filter is_application (term_of x ∷ []))

    inner_same : (x : Inner) → InnerStep x x
    inner_same x = (refl, refl, λ u i. i)

    inner_step : (x y : Inner) → IsIn y (inner_steps small x) → InnerStep x y
    unfolding normal
    inner_step (Object e) y i = absurd i
    inner_step (Parameter e) y i = absurd i
    inner_step (Apply f ds) y i =
        let r = in_mapped Object (values_at small f ds) y i in
        let j = there f ds r.0 r.1 in
        subst (InnerStep (Apply f ds)) r.2 (
          ap (λ o. option_map_or Object (option_and_then (λ ds. least (values_at d.kf f ds)) o) (Apply f (map (λ d. d) ds))) (all_found ds)
              ∙ ap (λ o. option_map_or Object o (Apply f (map (λ d. d) ds))) (least_one s d.kf d.kf (λ x k. k) one f ds r.0 j),
          value_is s d inhabited saturated fine f ds r.0 j,
          λ u k. absurd k,
        )

    both_within : (ps qs us vs : List Term) → Within ps qs → Within us vs → Within (ps ++ us) (qs ++ vs)
    both_within ps qs us vs f g u i = ⊎_elim (λ j. in_left qs vs u (f u j)) (λ j. in_right qs vs u (g u j)) (in_appended ps us u i)

    apart : (z : Inner) (zs : List Inner) → filter is_application (map term_of (z ∷ zs)) ≡ filter is_application (term_of z ∷ []) ++ filter is_application (map term_of zs)
    apart (Object e) zs = refl
    apart (Parameter e) zs = refl
    apart (Apply f ds) zs = refl

    inners_within : (xs ys : List Inner) → Related InnerStep xs ys → Within (filter is_application (map term_of ys)) (filter is_application (map term_of xs))
    inners_within [] [] a = λ u i. i
    inners_within (x ∷ xs) (y ∷ ys) a = λ u i.
        subst (IsIn u) (sym (apart x xs)) (both_within (filter is_application (term_of y ∷ [])) (filter is_application (term_of x ∷ [])) _ _ a.0.2 (inners_within xs ys a.1) u (subst (IsIn u) (apart y ys) i))
    inners_within [] (y ∷ ys) a = absurd a
    inners_within (x ∷ xs) [] a = absurd a

    -- of a term and what a step makes of it: the same normal form, and it is as stable
    abbrev TermStep : Term → Term → Type 0
    TermStep t u = (normal d.kf t ≡ normal d.kf u) × (is_stable s d es t ≡ true → is_stable s d es u ≡ true)

    term_same : (t : Term) → TermStep t t
    term_same t = (refl, λ h. h)

    own_step : (f : ℕ) (ts : List Inner) (u : Term) → IsIn u (map Object (option_map_or (values_at small f) (all_some (map as_object ts)) [])) → TermStep (Apply f ts) u
    unfolding normal
    own_step f ts u i =
        elim (all_some (map as_object ts)) as (λ o. all_some (map as_object ts) ≡ o → IsIn u (map Object (option_map_or (values_at small f) o [])) → TermStep (Apply f ts) u) [
          | None ↦ λ q j. absurd j
          | Some ds ↦ λ q j.
              let r = in_mapped Object (values_at small f ds) u j in
              subst (TermStep (Apply f ts)) r.2 (
                ap (λ us. normal d.kf (Apply f us)) (objects_are ts ds q) ∙ value_is s d inhabited saturated fine f ds r.0 (there f ds r.0 r.1),
                λ h. stable_from (Object r.0) (λ v k. absurd k),
              )
        ] refl i

    inner_changes : (f : ℕ) (ts us : List Inner) → Related InnerStep ts us → TermStep (Apply f ts) (Apply f us)
    unfolding normal
    inner_changes f ts us a = (
      ap (applied as_object d.kf f) (related_same (inner_normal d.kf) ts us (unmapped ts us a)),
      λ h. stable_from (Apply f us) (λ v k. ⊎_elim
          (λ e. subst Stays e (ap not (sym (be_changed_alike s d f ts us (related_weaker InnerStep (AreAlike s d.kf) term_of (λ x y r. r.1) ts us a) es)) ∙ stable_at (Apply f ts) h (Apply f ts) (inl refl)))
          (λ j. stable_at (Apply f ts) h v (inr (inners_within ts us a v j))) k),
    )
      where
        unmapped : (xs ys : List Inner) → Related InnerStep xs ys → Related (λ x y. inner_normal d.kf x ≡ inner_normal d.kf y) xs ys
        unmapped [] [] a = tt
        unmapped (x ∷ xs) (y ∷ ys) a = (a.0.0, unmapped xs ys a.1)
        unmapped [] (y ∷ ys) a = absurd a
        unmapped (x ∷ xs) [] a = absurd a

    term_step : (t u : Term) → IsIn u (term_steps small t) → TermStep t u
    unfolding term_steps
    term_step (Object e) u i = absurd i
    term_step (Parameter e) u i = absurd i
    term_step (Apply f ts) u i =
        ⊎_elim (own_step f ts u)
        (λ j. let r = in_mapped (Apply f) (one_replaced (inner_steps small) ts) u j in
        subst (TermStep (Apply f ts)) r.2 (inner_changes f ts r.0 (replaced_related InnerStep inner_same (inner_steps small) inner_step ts r.0 r.1)))
        (in_appended (map Object (option_map_or (values_at small f) (all_some (map as_object ts)) [])) (map (Apply f) (one_replaced (inner_steps small) ts)) u i)

    stay_stable : (ts us : List Term) → Related TermStep ts us → are_stable s d es ts ≡ true → are_stable s d es us ≡ true
    stay_stable [] [] a h = refl
    stay_stable (t ∷ ts) (u ∷ us) a h = let p = and_parts (is_stable s d es t) _ h in and_from (is_stable s d es u) _ (a.0.1 p.0) (stay_stable ts us a.1 p.1)
    stay_stable [] (u ∷ us) a h = absurd a
    stay_stable (t ∷ ts) [] a h = absurd a

    alike : (ts us : List Term) → Related TermStep ts us → Related (AreAlike s d.kf) ts us
    alike [] [] a = tt
    alike (t ∷ ts) (u ∷ us) a = (a.0.0, alike ts us a.1)
    alike [] (u ∷ us) a = absurd a
    alike (t ∷ ts) [] a = absurd a

    -- what isn't spoiled isn't with an application replaced by a value
    pub step_unspoiled : (l k : Literal) → IsIn k (by_value small l) → spoils s d es l ≡ false → spoils s d es k ≡ false
    unfolding by_value spoils literal
    step_unspoiled l k i h =
        let r = in_mapped (λ ts. literal l.relation ts l.positive) (one_replaced (term_steps small) l.arguments) k i in
        let a = replaced_related TermStep term_same (term_steps small) term_step l.arguments r.0 r.1 in
        let p = or_parts (not (are_stable s d es l.arguments)) _ h in
        let stable : are_stable s d es (in_order l.relation r.0) ≡ true = all_in_order (is_stable s d es) l.relation r.0 (stay_stable l.arguments r.0 a (not-false _ p.0)) in
        subst (λ (m : Literal). spoils s d es m ≡ false) r.2
        (λ j. not (stable j) || (same l.relation r.0 l.positive ∙ sym (be_denied_alike s d l.relation l.arguments r.0 l.positive (alike l.arguments r.0 a) es) ∙ p.1) j)
      where
        same : (q : Relation) (ts : List Term) (b : Bool) → may_be_denied s d es q (in_order q ts) b ≡ may_be_denied s d es q ts b
        same (Named n) ts b = refl
        same Equality ts b = refl
