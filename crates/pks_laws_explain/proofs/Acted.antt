-- What an action's adds put into the known literals is shown after it, and so are the groups that it leaves.
use Rattle.std.proofs.Common.{◌≡◌, ◌&&◌, ◌==◌, ◌≤◌, ℕ, suc, Bool, true, false, cond, not, is_some, List, [], ◌∷◌, map, slice_get, Option, Some, None, option_map, is_lt, refl, sym, ap, ◌∙◌, subst, inl, inr, ⊎_elim, true≢false}
use Rattle.std.specs.List.{list_any, list_all}
use Rattle.std.specs.Option.{option_map_or, option_and_then}
use Rattle.std.specs.Cmp.Lexicographic.{pointwise}
use Rattle.std.proofs.lemmas.Bool.{or_cases, or_left, or_right, and_parts, and_from, eq-eqb, not-true}
use Rattle.pks_terms.specs.Sets.{Each, IsIn, with_later}
use Rattle.pks_terms.specs.Syntax.{Object, Parameter, Apply, Inner, Term, term_of, are_two_objects, Relation, Named, Equality, Literal, affirmed, denied, negated}
use Rattle.pks_terms.specs.Orders.{term_cmp, literal_eq, in_order, literal, equation, inequation, arguments_of}
use Rattle.pks_terms.specs.Databases.{Five, inner_normal, normal, normal_literal, is_evident, holds}
use Rattle.pks_terms.specs.Queries.{Plain, Know, KnowWhether, KnowValue, answers_plain}
use Rattle.pks_terms.specs.Actions.{Target, Set, Unset, Clear, Assign, Effect, Item, ItemKf, ItemKw, ItemKv, ItemLcw, Add, Schema, Instance, inner_at, term_at, literal_at, conj_at, target_at, effect_at, plain_at}
use Rattle.pks_terms.specs.Spoiling.{is_stable, are_stable, spoils}
use Rattle.pks_terms.specs.Problems.{Problem, schema_of}
use Rattle.pks_terms.specs.Settling.{effects_of}
use Rattle.pks_terms.specs.Justified.{given_of, asks_known, is_given, are_given, apart, target_literal, may_undo, makes_so, is_made_so, known_case, item_case, case_of, is_place}
use Rattle.pks_terms.specs.Progress.{is_untouched, place_at, has_stable_arguments, has_place, added_literal, added_equation, literals_added}
use Rattle.pks_terms.proofs.ListLaws.{found, found_in, any_in, in_mapped, none_in, in_with_later_map, map-map}
use Rattle.pks_terms.proofs.OrderLaws.{same_term, same_literal, literal_cmp_tells}
use Rattle.pks_terms.proofs.SetLaws.{in_set_of}
use Rattle.pks_terms.specs.Totality.{literal_cmp_total}
use Rattle.pks_terms.specs.Moments.{IsInOrder}
use Rattle.pks_laws.proofs.Least.{in_order-map, literal_eq_itself, term_eq_itself}
use Rattle.pks_terms.specs.Proofs.{Fact, FactLit, FactKx, Path, deeds, final_moment, ByKeep, ByEffect}
use Rattle.pks_terms.specs.Judging.{Judge, fact_eq, is_cited, are_cited, is_literal_that}
use Rattle.pks_terms.specs.Rewriting.{are_equal_arguments, is_form, are_forms}
use Rattle.pks_terms.specs.Reasons.{are_cited_apart, is_barred, are_barred, is_steady, are_steady, keeps_literal, keeps_group, is_kept, targets_of, is_target_form, is_steady_target, is_steady_form, would_undo, would_change, would_make_true, would_make_false, is_effect}
use Rattle.pks_laws_explain.specs.Shown.{IsShownInOrder, IsShown, AreShown}
use Rattle.pks_laws_explain.proofs.Equal.{Lit, AllSame, evident_shown, same_itself, same_turned, all_replaced, inner_normal_shown, from_normals}
use Rattle.pks_laws_explain.proofs.Needed.{Needs, needs_nothing, needs_then, needs_and, needs_all, needs_cited, all_at, needs_steady, needs_all_steady, needs_kept}
use Rattle.pks_laws_explain.proofs.Equal.{literal_ordered}
use Rattle.pks_laws_explain.proofs.Derived.{held}
use Rattle.pks_laws_explain.proofs.Formed.{equal_forms, assignment_among}
use Rattle.pks_laws_explain.proofs.NormalForms.{inners_of, normal_of, normals_of}
use Rattle.pks_laws_explain.proofs.Stepped.{within, orderly, after_by}

-- arguments put into an argument, taken as a term
pub at_term_of : (given : List Inner) (t : Inner) → term_at given (term_of t) ≡ term_of (inner_at given t)
at_term_of given (Object d) = refl
at_term_of given (Parameter i) = refl
at_term_of given (Apply f ds) = ap (Apply f) (map-map Object (inner_at given) ds)

pub at_terms_of : (given : List Inner) (ts : List Inner) → map (term_at given) (map term_of ts) ≡ map term_of (map (inner_at given) ts)
at_terms_of given [] = refl
at_terms_of given (t ∷ ts) = λ i. at_term_of given t i ∷ at_terms_of given ts i

pub at_ordered : (given : List Inner) (r : Relation) (ts : List Term) (b : Bool) → literal_at given (literal r ts b) ≡ literal r (map (term_at given) ts) b
unfolding literal_at literal
at_ordered given r ts b = λ i. record { relation = r; arguments = in_order-map (term_at given) r ts i; positive = b }

module _ (p : Problem) (path : Path) (m : ℕ) (next : suc m ≤ final_moment path) (i : Instance) (there : slice_get (deeds path) m ≡ Some i) (d : Five) (shown : AreShown p path m d) where
  abbrev wi : m ≤ final_moment path
  wi = within p path m next i there d shown

  abbrev L : Literal → Type 0
  L = Lit p path m wi

  abbrev N : (Judge → Type 0) → Type 0
  N T = Needs p path m T

  abbrev given : List Inner
  given = i.arguments

  abbrev sc : Schema
  sc = schema_of p i.action

  abbrev effs : List Effect
  effs = effects_of p i

  -- ---- normal forms are forms

  inners_normal_formed : (ts : List Inner) → N (λ j. pointwise (are_equal_arguments j m) ts (map (inner_normal d.kf) ts) ≡ true)
  inners_normal_formed ts = inners_of p.signature d (IsShown p path m) m (held p path m wi d shown) ts

  pub normal_formed : (t : Term) → N (λ j. is_form j m t (normal d.kf t) ≡ true)
  normal_formed t = normal_of p.signature d (IsShown p path m) m (held p path m wi d shown) t

  normals_formed : (ts : List Term) → N (λ j. are_forms j m ts (map (normal d.kf) ts) ≡ true)
  normals_formed ts = normals_of p.signature d (IsShown p path m) m (held p path m wi d shown) ts

  -- ---- what is given is shown

  module _ (g : List Plain) (answered : Each (λ q. answers_plain p.signature d (plain_at given q) ≡ true) g) where
    asked : (l : Literal) (q : Plain) → answers_plain p.signature d (plain_at given q) ≡ true → asks_known l q ≡ true → holds p.signature d (literal_at given l) ≡ true
    asked l (Know k) a h = ap (λ n. holds p.signature d (literal_at given n)) (sym (same_literal k l h)) ∙ a
    asked l (KnowWhether c) a h = absurd (true≢false (sym h))
    asked l (KnowValue t) a h = absurd (true≢false (sym h))

    given_holds : (l : Literal) → is_given g l ≡ true → holds p.signature d (literal_at given l) ≡ true
    unfolding is_given
    given_holds l h = let f = found (λ q. answers_plain p.signature d (plain_at given q) ≡ true) (asks_known l) g answered h in asked l f.0 f.1 f.2

    at_literal_ordered : (l : Literal) → IsInOrder (literal_at given l)
    unfolding literal_at
    at_literal_ordered l = literal_ordered l.relation (map (term_at given) l.arguments) l.positive

    given_shown : (l : Literal) → is_given g l ≡ true → L (literal_at given l)
    given_shown l h = held p path m wi d shown (literal_at given l) (at_literal_ordered l) (given_holds l h)

    -- the conditions of an effect that are given
    conditions_cited : (e : Effect) → are_given g e.condition ≡ true → N (λ j. are_cited j m (effect_at given e).condition ≡ true)
    conditions_cited e h =
        needs_all p path m (λ j l. is_cited j m l) (conj_at given e.condition) (λ l k.
        let o = in_mapped (literal_at given) e.condition l (in_set_of literal_cmp_total literal_cmp_tells (map (literal_at given) e.condition) l k) in
        needs_cited p path m l (subst L o.2 (given_shown o.0 (all_at (is_given g) e.condition h o.0 o.1))))

    -- terms that are apart
    apart_shown : (t u : Term) → apart g t u ≡ true → L (inequation (term_at given t) (term_at given u))
    unfolding apart
    apart_shown t u h =
        ⊎_elim (λ k. objects t u k)
        (λ k. subst L (at_ordered given Equality (t ∷ u ∷ []) false) (given_shown (inequation t u) k))
        (or_cases (are_two_objects t u) _ h)
      where
        objects : (t u : Term) → are_two_objects t u ≡ true → L (inequation (term_at given t) (term_at given u))
        objects (Object a) (Object b) k = evident_shown p path m wi (inequation (Object a) (Object b)) (evident a b k)
          where
            turned : (a b : ℕ) → not (a == b) ≡ true → not (b == a) ≡ true
            turned a b k = ap not (Rattle.pks_laws.proofs.Holding.eqb_comm b a) ∙ k

            evident : (a b : ℕ) → not (a == b) ≡ true → is_evident p.signature (inequation (Object a) (Object b)).relation (inequation (Object a) (Object b)).arguments (inequation (Object a) (Object b)).positive ≡ true
            evident a b k = unfold literal in elim (is_lt (term_cmp (Object a) (Object b))) as (λ c. is_evident p.signature Equality (cond c (Object b ∷ Object a ∷ []) (Object a ∷ Object b ∷ [])) false ≡ true) [ true ↦ turned a b k | false ↦ k ]
        objects (Object a) (Parameter b) k = absurd (true≢false (sym k))
        objects (Object a) (Apply b us) k = absurd (true≢false (sym k))
        objects (Parameter a) u k = absurd (true≢false (sym k))
        objects (Apply a ts) u k = absurd (true≢false (sym k))

    -- at some position, where the first ones are replaced by equal ones
    needs_given_apart : (ts us vs : List Term) → AllSame p path m wi vs (map (term_at given) ts) → Rattle.pks_terms.specs.Justified.some_apart g ts us ≡ true → N (λ j. Rattle.pks_terms.specs.Reasons.some_cited_apart j m (map (term_at given) us) vs ≡ true)
    needs_given_apart (t ∷ ts) (u ∷ us) (v ∷ vs) a h =
        ⊎_elim
        (λ k.
        let t' = term_at given t in
        let u' = term_at given u in
        let so : L (inequation u' v) = subst L (turned v u') (all_replaced p path m wi Equality false (t' ∷ u' ∷ []) (v ∷ u' ∷ []) (same_turned p path m wi v t' a.0, (same_itself p path m wi u', tt)) (apart_shown t u k)) in
        needs_then p path m (λ j. is_cited j m (inequation u' v) ≡ true) (λ j. Rattle.pks_terms.specs.Reasons.some_cited_apart j m (u' ∷ map (term_at given) us) (v ∷ vs) ≡ true) (λ j c. or_left _ _ (or_left (is_cited j m (inequation u' v)) _ c)) (needs_cited p path m (inequation u' v) so))
        (λ k. needs_then p path m (λ j. Rattle.pks_terms.specs.Reasons.some_cited_apart j m (map (term_at given) us) vs ≡ true) (λ j. Rattle.pks_terms.specs.Reasons.some_cited_apart j m (term_at given u ∷ map (term_at given) us) (v ∷ vs) ≡ true) (λ j c. or_right (are_cited_apart j m (term_at given u) v) _ c) (needs_given_apart ts us vs a.1 k))
        (or_cases (apart g t u) _ h)
      where
        turned : (t u : Term) → inequation t u ≡ inequation u t
        turned t u = unfold literal in λ k. record { relation = Equality; arguments = Rattle.pks_laws.proofs.Least.in_order_swapped t u k; positive = false }
    needs_given_apart [] us vs a h = absurd (true≢false (sym h))
    needs_given_apart (t ∷ ts) [] vs a h = absurd (true≢false (sym h))
    needs_given_apart (t ∷ ts) (u ∷ us) [] a h = absurd a

    needs_given_fixed : (ts : List Term) (ss : List (Option Term)) (vs : List Term) → AllSame p path m wi vs (map (term_at given) ts) → Rattle.pks_terms.specs.Justified.some_fixed_apart g ts ss ≡ true → N (λ j. Rattle.pks_terms.specs.Reasons.fixed_cited_apart j m (map (option_map (term_at given)) ss) vs ≡ true)
    needs_given_fixed (t ∷ ts) (Some u ∷ ss) (v ∷ vs) a h =
        ⊎_elim
        (λ k.
        let t' = term_at given t in
        let u' = term_at given u in
        let so : L (inequation u' v) = subst L (turned v u') (all_replaced p path m wi Equality false (t' ∷ u' ∷ []) (v ∷ u' ∷ []) (same_turned p path m wi v t' a.0, (same_itself p path m wi u', tt)) (apart_shown t u k)) in
        needs_then p path m (λ j. is_cited j m (inequation u' v) ≡ true) (λ j. Rattle.pks_terms.specs.Reasons.fixed_cited_apart j m (Some u' ∷ map (option_map (term_at given)) ss) (v ∷ vs) ≡ true) (λ j c. or_left _ _ (or_left (is_cited j m (inequation u' v)) _ c)) (needs_cited p path m (inequation u' v) so))
        (λ k. needs_then p path m (λ j. Rattle.pks_terms.specs.Reasons.fixed_cited_apart j m (map (option_map (term_at given)) ss) vs ≡ true) (λ j. Rattle.pks_terms.specs.Reasons.fixed_cited_apart j m (Some (term_at given u) ∷ map (option_map (term_at given)) ss) (v ∷ vs) ≡ true) (λ j c. or_right (are_cited_apart j m (term_at given u) v) _ c) (needs_given_fixed ts ss vs a.1 k))
        (or_cases (apart g t u) _ h)
      where
        turned : (t u : Term) → inequation t u ≡ inequation u t
        turned t u = unfold literal in λ k. record { relation = Equality; arguments = Rattle.pks_laws.proofs.Least.in_order_swapped t u k; positive = false }
    needs_given_fixed (t ∷ ts) (None ∷ ss) (v ∷ vs) a h = needs_given_fixed ts ss vs a.1 h
    needs_given_fixed [] ss vs a h = absurd (true≢false (sym h))
    needs_given_fixed (t ∷ ts) [] vs a h = absurd (true≢false (sym h))
    needs_given_fixed (t ∷ ts) (Some u ∷ ss) [] a h = absurd a
    needs_given_fixed (t ∷ ts) (None ∷ ss) [] a h = absurd a

    -- a position at which a later target misses
    needs_miss : (a b : Bool) (far : Judge → Bool) (near : Bool) → a ≡ b → (near ≡ true → N (λ j. far j ≡ true)) → (a && not near) ≡ false → N (λ j. not (b && not (far j)) ≡ true)
    needs_miss a false far near e f h = needs_nothing p path m (λ j. not (false && not (far j)) ≡ true) (λ j. refl)
    needs_miss a true far near e f h = needs_then p path m (λ j. far j ≡ true) (λ j. not (true && not (far j)) ≡ true) (λ j c. ap (λ b. not (not b)) c) (f (back near (ap (λ x. x && not near) (sym e) ∙ h)))
      where
        back : (b : Bool) → not b ≡ false → b ≡ true
        back true h = refl
        back false h = absurd (true≢false h)

    -- what may not undo a target, as far as is given, is barred from undoing a form of it
    later_misses : (r : ℕ) (b : Bool) (ts vs : List Term) → AllSame p path m wi vs (map (term_at given) ts) → (y : Target) → may_undo g (cond b (Set (record { predicate = r; arguments = ts })) (Unset (record { predicate = r; arguments = ts }))) y ≡ false
        → N (λ j. not (would_undo j m (cond b (Set (record { predicate = r; arguments = vs })) (Unset (record { predicate = r; arguments = vs }))) (target_at given y)) ≡ true)
    later_misses r true ts vs a (Unset c) h = needs_miss (r == c.predicate) (c.predicate == r) (λ j. Rattle.pks_terms.specs.Reasons.some_cited_apart j m (map (term_at given) c.arguments) vs) (Rattle.pks_terms.specs.Justified.some_apart g ts c.arguments) (Rattle.pks_laws.proofs.Holding.eqb_comm r c.predicate) (needs_given_apart ts c.arguments vs a) h
    later_misses r true ts vs a (Clear x) h = needs_miss (r == x.predicate) (x.predicate == r) (λ j. Rattle.pks_terms.specs.Reasons.fixed_cited_apart j m (map (option_map (term_at given)) x.slots) vs) (Rattle.pks_terms.specs.Justified.some_fixed_apart g ts x.slots) (Rattle.pks_laws.proofs.Holding.eqb_comm r x.predicate) (needs_given_fixed ts x.slots vs a) h
    later_misses r true ts vs a (Set c) h = needs_nothing p path m (λ j. not (would_undo j m (Set (record { predicate = r; arguments = vs })) (target_at given (Set c))) ≡ true) (λ j. refl)
    later_misses r true ts vs a (Assign f us v) h = needs_nothing p path m (λ j. not (would_undo j m (Set (record { predicate = r; arguments = vs })) (target_at given (Assign f us v))) ≡ true) (λ j. refl)
    later_misses r false ts vs a (Set c) h = needs_miss (r == c.predicate) (c.predicate == r) (λ j. Rattle.pks_terms.specs.Reasons.some_cited_apart j m (map (term_at given) c.arguments) vs) (Rattle.pks_terms.specs.Justified.some_apart g ts c.arguments) (Rattle.pks_laws.proofs.Holding.eqb_comm r c.predicate) (needs_given_apart ts c.arguments vs a) h
    later_misses r false ts vs a (Unset c) h = needs_nothing p path m (λ j. not (would_undo j m (Unset (record { predicate = r; arguments = vs })) (target_at given (Unset c))) ≡ true) (λ j. refl)
    later_misses r false ts vs a (Clear c) h = needs_nothing p path m (λ j. not (would_undo j m (Unset (record { predicate = r; arguments = vs })) (target_at given (Clear c))) ≡ true) (λ j. refl)
    later_misses r false ts vs a (Assign f us v) h = needs_nothing p path m (λ j. not (would_undo j m (Unset (record { predicate = r; arguments = vs })) (target_at given (Assign f us v))) ≡ true) (λ j. refl)

    assigned_misses : (f : ℕ) (ts vs : List Inner) (v u : Term) → AllSame p path m wi (map term_of vs) (map term_of (map (inner_at given) ts)) → (y : Target) → may_undo g (Assign f ts v) y ≡ false → N (λ j. not (would_undo j m (Assign f vs u) (target_at given y)) ≡ true)
    assigned_misses f ts vs v u a (Assign c us w) h =
        needs_miss (f == c) (c == f) (λ j. Rattle.pks_terms.specs.Reasons.some_cited_apart j m (map term_of (map (inner_at given) us)) (map term_of vs)) (Rattle.pks_terms.specs.Justified.some_apart g (map term_of ts) (map term_of us)) (Rattle.pks_laws.proofs.Holding.eqb_comm f c)
        (λ k. subst (λ ws. N (λ j. Rattle.pks_terms.specs.Reasons.some_cited_apart j m ws (map term_of vs) ≡ true)) (at_terms_of given us) (needs_given_apart (map term_of ts) (map term_of us) (map term_of vs) (subst (AllSame p path m wi (map term_of vs)) (sym (at_terms_of given ts)) a) k)) h
    assigned_misses f ts vs v u a (Set c) h = needs_nothing p path m (λ j. not (would_undo j m (Assign f vs u) (target_at given (Set c))) ≡ true) (λ j. refl)
    assigned_misses f ts vs v u a (Unset c) h = needs_nothing p path m (λ j. not (would_undo j m (Assign f vs u) (target_at given (Unset c))) ≡ true) (λ j. refl)
    assigned_misses f ts vs v u a (Clear c) h = needs_nothing p path m (λ j. not (would_undo j m (Assign f vs u) (target_at given (Clear c))) ≡ true) (λ j. refl)

    -- the later effects are barred
    later_barred : (x y : Target) (q : Effect × List Effect) → ((z : Target) → may_undo g y z ≡ false → N (λ j. not (would_undo j m x (target_at given z)) ≡ true)) → list_any (λ (f : Effect). may_undo g y f.target) q.1 ≡ false → N (λ j. are_barred j m (would_undo j m x) (map (effect_at given) q.1) ≡ true)
    later_barred x y q misses h =
        needs_all p path m (λ j e. is_barred j m (would_undo j m x) e) (map (effect_at given) q.1) (λ e k.
        let o = in_mapped (effect_at given) q.1 e k in
        subst (λ (e : Effect). N (λ j. is_barred j m (would_undo j m x) e ≡ true)) o.2
        (needs_then p path m (λ j. not (would_undo j m x (target_at given o.0.target)) ≡ true) (λ j. is_barred j m (would_undo j m x) (effect_at given o.0) ≡ true) (λ j c. or_right _ _ c)
        (misses o.0.target (none_in (λ (f : Effect). may_undo g y f.target) q.1 o.0 h o.1))))

    -- a literal that is a steady form of the target of such an effect
    effect_shown : (l : Literal) (x : Target) (q : Effect × List Effect) → IsIn q (with_later sc.effects) → IsIn x (targets_of l) → N (λ j. is_steady_form j m effs (effect_at given q.0) x ≡ true) → are_given g q.0.condition ≡ true → N (λ j. are_barred j m (would_undo j m x) (map (effect_at given) q.1) ≡ true) → IsShown p path (suc m) (FactLit l)
    effect_shown l x q k among form cond barred =
        let n = needs_and p path m (λ j. is_steady_form j m effs (effect_at given q.0) x) (λ j. are_cited j m (effect_at given q.0).condition && are_barred j m (would_undo j m x) (map (effect_at given) q.1)) form
        (needs_and p path m (λ j. are_cited j m (effect_at given q.0).condition) (λ j. are_barred j m (would_undo j m x) (map (effect_at given) q.1)) (conditions_cited q.0 cond) barred) in
        after_by p path m next i there d shown n.facts n.so (FactLit l) ByEffect (λ j k es. is_literal_that (is_effect j k es) (FactLit l)) (λ j e.
        any_in (λ x. list_any (λ q. is_steady_form j m effs q.0 x && (are_cited j m q.0.condition && are_barred j m (would_undo j m x) q.1)) (with_later effs)) (targets_of l) x among
        (any_in (λ q. is_steady_form j m effs q.0 x && (are_cited j m q.0.condition && are_barred j m (would_undo j m x) q.1)) (with_later effs) (effect_at given q.0, map (effect_at given) q.1) (in_with_later_map (effect_at given) sc.effects q k) (n.then j n.facts e (λ f y. y)))) (λ j. refl)

    -- ---- a literal on a predicate

    normals_same : (ts : List Term) → AllSame p path m wi (map (normal d.kf) ts) ts
    normals_same ts = from_normals p path m wi d.kf shown.known ts

    set_among : (r : ℕ) (ts : List Term) → IsIn (Set (record { predicate = r; arguments = ts })) (targets_of (literal (Named r) ts true))
    set_among r ts = unfold literal in inl refl

    unset_among : (r : ℕ) (ts : List Term) → IsIn (Unset (record { predicate = r; arguments = ts })) (targets_of (literal (Named r) ts false))
    unset_among r ts = unfold literal in inl refl

    predicate_shown : (l : Literal) (q : Effect × List Effect) → IsIn q (with_later sc.effects) → (x : Target) → q.0.target ≡ x → makes_so g l q ≡ true → (r : ℕ) → l.relation ≡ Named r
        → (ts : List Term) → ts ≡ map (term_at given) l.arguments → are_stable p.signature d effs (map (normal d.kf) ts) ≡ true → IsShown p path (suc m) (FactLit (literal (Named r) (map (normal d.kf) ts) l.positive))
    predicate_shown l q k (Set a) xe h r re ts te stable =
        let b = and_parts (option_map_or (λ n. literal_eq n l) (target_literal q.0.target) false) _ h in
        let c = and_parts (are_given g q.0.condition) _ b.1 in
        let e : affirmed a ≡ l = same_literal (affirmed a) l (ap (λ x. option_map_or (λ n. literal_eq n l) (target_literal x) false) (sym xe) ∙ b.0) in
        let pr : a.predicate ≡ r = named (ap (λ (n : Literal). n.relation) e ∙ re) in
        let args : ts ≡ map (term_at given) a.arguments = te ∙ ap (λ (n : Literal). map (term_at given) n.arguments) (sym e) in
        let sg : true ≡ l.positive = ap (λ (n : Literal). n.positive) e in
        let vs = map (normal d.kf) ts in
        let x : Target = Set (record { predicate = r; arguments = vs }) in
        let form : N (λ j. is_target_form j m (target_at given q.0.target) x ≡ true) = subst (λ y. N (λ j. is_target_form j m (target_at given y) x ≡ true)) (sym xe)
        (needs_then p path m (λ j. are_forms j m ts vs ≡ true) (λ j. is_target_form j m (target_at given (Set a)) x ≡ true) (λ j f. and_from _ _ (eq-eqb a.predicate r pr) (ap (λ us. are_forms j m us vs) (sym args) ∙ f)) (normals_formed ts)) in
        let same : AllSame p path m wi vs (map (term_at given) a.arguments) = subst (AllSame p path m wi vs) args (normals_same ts) in
        subst (λ s. IsShown p path (suc m) (FactLit (literal (Named r) vs s))) sg
        (effect_shown (literal (Named r) vs true) x q k (set_among r vs)
        (needs_and p path m (λ j. is_target_form j m (target_at given q.0.target) x) (λ j. is_steady_target j m effs x) form (needs_all_steady p path m wi d shown effs (orderly p path m next i there d shown) vs stable)) c.0
        (later_barred x (Set (record { predicate = r; arguments = a.arguments })) q (later_misses r true a.arguments vs same) (ap (λ y. list_any (λ (f : Effect). may_undo g y f.target) q.1) (sym (xe ∙ (λ z. Set (record { predicate = pr z; arguments = a.arguments })))) ∙ not-true _ c.1)))
      where
        named : {u v : ℕ} → Named u ≡ Named v → u ≡ v
        named e = cc
    predicate_shown l q k (Unset a) xe h r re ts te stable =
        let b = and_parts (option_map_or (λ n. literal_eq n l) (target_literal q.0.target) false) _ h in
        let c = and_parts (are_given g q.0.condition) _ b.1 in
        let e : denied a ≡ l = same_literal (denied a) l (ap (λ x. option_map_or (λ n. literal_eq n l) (target_literal x) false) (sym xe) ∙ b.0) in
        let pr : a.predicate ≡ r = named (ap (λ (n : Literal). n.relation) e ∙ re) in
        let args : ts ≡ map (term_at given) a.arguments = te ∙ ap (λ (n : Literal). map (term_at given) n.arguments) (sym e) in
        let sg : false ≡ l.positive = ap (λ (n : Literal). n.positive) e in
        let vs = map (normal d.kf) ts in
        let x : Target = Unset (record { predicate = r; arguments = vs }) in
        let form : N (λ j. is_target_form j m (target_at given q.0.target) x ≡ true) = subst (λ y. N (λ j. is_target_form j m (target_at given y) x ≡ true)) (sym xe)
        (needs_then p path m (λ j. are_forms j m ts vs ≡ true) (λ j. is_target_form j m (target_at given (Unset a)) x ≡ true) (λ j f. and_from _ _ (eq-eqb a.predicate r pr) (ap (λ us. are_forms j m us vs) (sym args) ∙ f)) (normals_formed ts)) in
        let same : AllSame p path m wi vs (map (term_at given) a.arguments) = subst (AllSame p path m wi vs) args (normals_same ts) in
        subst (λ s. IsShown p path (suc m) (FactLit (literal (Named r) vs s))) sg
        (effect_shown (literal (Named r) vs false) x q k (unset_among r vs)
        (needs_and p path m (λ j. is_target_form j m (target_at given q.0.target) x) (λ j. is_steady_target j m effs x) form (needs_all_steady p path m wi d shown effs (orderly p path m next i there d shown) vs stable)) c.0
        (later_barred x (Unset (record { predicate = r; arguments = a.arguments })) q (later_misses r false a.arguments vs same) (ap (λ y. list_any (λ (f : Effect). may_undo g y f.target) q.1) (sym (xe ∙ (λ z. Unset (record { predicate = pr z; arguments = a.arguments })))) ∙ not-true _ c.1)))
      where
        named : {u v : ℕ} → Named u ≡ Named v → u ≡ v
        named e = cc
    predicate_shown l q k (Clear y) xe h r re ts te stable =
        let b = and_parts (option_map_or (λ n. literal_eq n l) (target_literal q.0.target) false) _ h in
        absurd (true≢false (sym (ap (λ x. option_map_or (λ n. literal_eq n l) (target_literal x) false) (sym xe) ∙ b.0)))
    predicate_shown l q k (Assign f us v) xe h r re ts te stable =
        let b = and_parts (option_map_or (λ n. literal_eq n l) (target_literal q.0.target) false) _ h in
        let e : equation (Apply f us) v ≡ l = same_literal (equation (Apply f us) v) l (ap (λ x. option_map_or (λ n. literal_eq n l) (target_literal x) false) (sym xe) ∙ b.0) in
        absurd (unlike (ap (λ (n : Literal). n.relation) e ∙ re))
      where
        unlike : (equation (Apply f us) v).relation ≡ Named r → ⊥
        unlike e = unfold literal in no e
          where
            no : Equality ≡ Named r → ⊥
            no e = cc

    -- ---- an equation

    other_side : (a b t u : Term) → in_order Equality (a ∷ b ∷ []) ≡ t ∷ u ∷ [] → a ≡ t → b ≡ u
    other_side a b t u e q =
        elim (is_lt (term_cmp a b)) as (λ c. cond c (b ∷ a ∷ []) (a ∷ b ∷ []) ≡ t ∷ u ∷ [] → b ≡ u) [ true ↦ λ h. cc | false ↦ λ h. cc ] e

    equation_shown : (l : Literal) (t u : Term) → l.arguments ≡ t ∷ u ∷ [] → (q : Effect × List Effect) → IsIn q (with_later sc.effects) → (x : Target) → q.0.target ≡ x → is_place t x ≡ true → makes_so g l q ≡ true
        → has_stable_arguments p.signature d effs (place_at d.kf given t) ≡ true → is_stable p.signature d effs (normal d.kf (term_at given u)) ≡ true → IsShown p path (suc m) (FactLit (equation (place_at d.kf given t) (normal d.kf (term_at given u))))
    equation_shown l t u le q k (Assign f ts v) xe pl h stable value =
        let b = and_parts (option_map_or (λ n. literal_eq n l) (target_literal q.0.target) false) _ h in
        let c = and_parts (are_given g q.0.condition) _ b.1 in
        let e : equation (Apply f ts) v ≡ l = same_literal (equation (Apply f ts) v) l (ap (λ x. option_map_or (λ n. literal_eq n l) (target_literal x) false) (sym xe) ∙ b.0) in
        let to : Apply f ts ≡ t = same_term (Apply f ts) t pl in
        let val : v ≡ u = other_side (Apply f ts) v t u (sides f ts v ∙ ap (λ (n : Literal). n.arguments) e ∙ le) to in
        let vs : List Inner = map (λ y. inner_normal d.kf (inner_at given y)) ts in
        let split : vs ≡ map (inner_normal d.kf) (map (inner_at given) ts) = sym (map-map (inner_at given) (inner_normal d.kf) ts) in
        let new = normal d.kf (term_at given v) in
        let x : Target = Assign f vs new in
        let form : N (λ j. is_target_form j m (target_at given q.0.target) x ≡ true) = subst (λ y. N (λ j. is_target_form j m (target_at given y) x ≡ true)) (sym xe)
        (needs_then p path m (λ j. (pointwise (are_equal_arguments j m) (map (inner_at given) ts) vs && is_form j m (term_at given v) new) ≡ true) (λ j. is_target_form j m (target_at given (Assign f ts v)) x ≡ true)
        (λ j z. let w = and_parts (pointwise (are_equal_arguments j m) (map (inner_at given) ts) vs) _ z in and_from _ _ (eq-eqb f f refl) (and_from _ _ (equal_forms j m (map (inner_at given) ts) vs w.0) w.1))
        (needs_and p path m (λ j. pointwise (are_equal_arguments j m) (map (inner_at given) ts) vs) (λ j. is_form j m (term_at given v) new)
        (subst (λ ws. N (λ j. pointwise (are_equal_arguments j m) (map (inner_at given) ts) ws ≡ true)) (sym split) (inners_normal_formed (map (inner_at given) ts))) (normal_formed (term_at given v)))) in
        let same : AllSame p path m wi (map term_of vs) (map term_of (map (inner_at given) ts)) = subst (λ ws. AllSame p path m wi (map term_of ws) (map term_of (map (inner_at given) ts))) (sym split) (inner_normals_same (map (inner_at given) ts)) in
        let steady_args : are_stable p.signature d effs (map term_of vs) ≡ true = ap (λ y. are_stable p.signature d effs (map term_of (map (λ z. inner_normal d.kf (inner_at given z)) (arguments_of y)))) to ∙ stable in
        let steady_value : is_stable p.signature d effs new ≡ true = ap (λ y. is_stable p.signature d effs (normal d.kf (term_at given y))) val ∙ value in
        subst (λ (n : Term × Term). IsShown p path (suc m) (FactLit (equation n.0 n.1))) (pair (ap (place_at d.kf given) to) (ap (λ y. normal d.kf (term_at given y)) val))
        (effect_shown (equation (Apply f vs) new) x q k (assignment_among p path m wi d shown f vs new)
        (needs_and p path m (λ j. is_target_form j m (target_at given q.0.target) x) (λ j. is_steady_target j m effs x) form
        (needs_and p path m (λ j. are_steady j m effs (map term_of vs)) (λ j. is_steady j m effs new) (needs_all_steady p path m wi d shown effs (orderly p path m next i there d shown) (map term_of vs) steady_args) (needs_steady p path m wi d shown effs (orderly p path m next i there d shown) new steady_value))) c.0
        (later_barred x (Assign f ts v) q (assigned_misses f ts vs v new same) (ap (λ y. list_any (λ (f : Effect). may_undo g y f.target) q.1) (sym xe) ∙ not-true _ c.1)))
      where
        sides : (f : ℕ) (ts : List Inner) (v : Term) → in_order Equality (Apply f ts ∷ v ∷ []) ≡ (equation (Apply f ts) v).arguments
        sides f ts v = unfold literal in refl

        pair : {a b c e : Term} → a ≡ b → c ≡ e → ◌≡◌ {A = Term × Term} (a, c) (b, e)
        pair y z = λ w. (y w, z w)

        inner_normals_same : (ts : List Inner) → AllSame p path m wi (map term_of (map (inner_normal d.kf) ts)) (map term_of ts)
        inner_normals_same [] = tt
        inner_normals_same (t ∷ ts) = (same_turned p path m wi (term_of t) (term_of (inner_normal d.kf t)) (inner_normal_shown p path m wi d.kf shown.known t), inner_normals_same ts)
    equation_shown l t u le q k (Set a) xe pl h stable value = absurd (true≢false (sym pl))
    equation_shown l t u le q k (Unset a) xe pl h stable value = absurd (true≢false (sym pl))
    equation_shown l t u le q k (Clear a) xe pl h stable value = absurd (true≢false (sym pl))

  -- ---- adds

  module _ (a : Add) (answered : Each (λ q. answers_plain p.signature d (plain_at given q) ≡ true) (given_of sc a)) (justified : is_some (case_of sc a) ≡ true) where
    known_made : (l : Literal) → a.item ≡ ItemKf l → is_made_so (given_of sc a) l sc.effects ≡ true
    unfolding case_of
    known_made l item =
        elim (is_made_so (given_of sc a) l sc.effects) as (λ b. is_made_so (given_of sc a) l sc.effects ≡ b → is_some (cond b (Some (known_case l.relation)) None) ≡ true → is_made_so (given_of sc a) l sc.effects ≡ true) [
          | true ↦ λ q h. q
          | false ↦ λ q h. absurd (true≢false (sym h))
        ] refl (ap (λ i. is_some (item_case (given_of sc a) sc i)) (sym item) ∙ justified)

    normal_at : (l : Literal) (r : ℕ) → l.relation ≡ Named r → normal_literal d.kf (literal_at given l) ≡ literal (Named r) (map (normal d.kf) (map (term_at given) l.arguments)) l.positive
    unfolding normal_literal literal_at literal
    normal_at l r e = λ i. record { relation = e i; arguments = in_order (e i) (map (normal d.kf) (in_order (e i) (map (term_at given) l.arguments))); positive = l.positive }

    added_shown : (l : Literal) → a.item ≡ ItemKf l → (r : Relation) → l.relation ≡ r → Each (IsShownInOrder p path (suc m)) (added_literal p.signature d effs given sc a l r)
    unfolding is_made_so
    added_shown l item (Named r) e =
        elim (are_stable p.signature d effs (normal_literal d.kf (literal_at given l)).arguments) as (λ b. are_stable p.signature d effs (normal_literal d.kf (literal_at given l)).arguments ≡ b → Each (IsShownInOrder p path (suc m)) (cond b (normal_literal d.kf (literal_at given l) ∷ []) [])) [
          | false ↦ λ q. tt
          | true ↦ λ q.
              let f = found_in (makes_so (given_of sc a) l) (with_later sc.effects) (known_made l item) in
              let form = normal_at l r e in
              let ts = map (term_at given) l.arguments in
              let stable : are_stable p.signature d effs (map (normal d.kf) ts) ≡ true = ap (are_stable p.signature d effs) (args r (map (normal d.kf) ts) l.positive) ∙ ap (λ (n : Literal). are_stable p.signature d effs n.arguments) (sym form) ∙ q in
              (subst (IsShownInOrder p path (suc m)) (sym form) (predicate_shown (given_of sc a) answered l f.0 f.1 f.0.0.target refl f.2 r e ts refl stable, literal_ordered (Named r) (map (normal d.kf) ts) l.positive), tt)
        ] refl
      where
        args : (r : ℕ) (ts : List Term) (b : Bool) → ts ≡ (literal (Named r) ts b).arguments
        args r ts b = unfold literal in refl
    added_shown l item Equality e = sides l.arguments refl
      where
        sides : (ts : List Term) → l.arguments ≡ ts → Each (IsShownInOrder p path (suc m)) (added_equation p.signature d effs given sc a l ts)
        sides (t ∷ u ∷ []) le =
            elim (has_place sc a l t && (has_stable_arguments p.signature d effs (place_at d.kf given t) && is_stable p.signature d effs (normal d.kf (term_at given u)))) as (λ b. (has_place sc a l t && (has_stable_arguments p.signature d effs (place_at d.kf given t) && is_stable p.signature d effs (normal d.kf (term_at given u)))) ≡ b
            → Each (IsShownInOrder p path (suc m)) (cond b (equation (place_at d.kf given t) (normal d.kf (term_at given u)) ∷ []) [])) [
              | false ↦ λ q. tt
              | true ↦ λ q.
                  let b = and_parts (has_place sc a l t) _ q in
                  let c = and_parts (has_stable_arguments p.signature d effs (place_at d.kf given t)) _ b.1 in
                  let f = found_in (λ y. is_place t y.0.target && makes_so (given_of sc a) l y) (with_later sc.effects) b.0 in
                  let h = and_parts (is_place t f.0.0.target) _ f.2 in
                  ((equation_shown (given_of sc a) answered l t u le f.0 f.1 f.0.0.target refl h.0 h.1 c.0 c.1, literal_ordered Equality (place_at d.kf given t ∷ normal d.kf (term_at given u) ∷ []) true), tt)
            ] refl
        sides [] le = tt
        sides (t ∷ []) le = tt
        sides (t ∷ u ∷ v ∷ ts) le = tt

    pub literals_added_shown : (x : Item) → a.item ≡ x → Each (IsShownInOrder p path (suc m)) (literals_added p.signature d effs given sc a x)
    literals_added_shown (ItemKf l) e = added_shown l e l.relation refl
    literals_added_shown (ItemKw c) e = tt
    literals_added_shown (ItemKv t) e = tt
    literals_added_shown (ItemLcw x) e = tt

  -- ---- groups

  pub untouched_shown : (g : List Literal) → IsIn g d.kx → is_untouched p.signature d effs g ≡ true → IsShown p path (suc m) (FactKx g)
  untouched_shown g k h =
      let o = orderly p path m next i there d shown in
      let n = needs_all p path m (λ j l. keeps_literal j m effs l && keeps_literal j m effs (negated l)) g (λ l y.
      let b = and_parts (not (spoils p.signature d effs l)) _ (all_at (λ l. not (spoils p.signature d effs l) && not (spoils p.signature d effs (negated l))) g h l y) in
      needs_and p path m (λ j. keeps_literal j m effs l) (λ j. keeps_literal j m effs (negated l)) (needs_kept p path m wi d shown effs o l (not-true _ b.0)) (needs_kept p path m wi d shown effs o (negated l) (not-true _ b.1))) in
      let fs : List Fact = FactKx g ∷ n.facts in
      after_by p path m next i there d shown fs (shown.groups g k, n.so) (FactKx g) ByKeep (λ j k es. is_kept j k es (FactKx g)) (λ j e.
      and_from _ _ (ap (list_any (fact_eq (FactKx g))) e ∙ or_left (fact_eq (FactKx g) (FactKx g)) _ (ap Rattle.std.specs.Ordering.is_eq (Rattle.std.proofs.lemmas.Cmp.tied_itself Rattle.pks_terms.specs.Totality.conj_cmp_total g))) (n.then j fs e (λ f y. inr y))) (λ j. refl)
