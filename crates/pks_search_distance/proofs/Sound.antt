-- What is so in an allowed world may be so, and what actions make so there may be so after them.
use Rattle.std.proofs.Common.{◌≡◌, ◌&&◌, ◌==◌, ℕ, Bool, true, false, cond, not, List, [], ◌∷◌, ◌++◌, map, flat_map, Option, Some, None, refl, sym, subst, inl, append_assoc, append-nil}
use Rattle.std.specs.List.{list_any, list_all}
use Rattle.std.specs.Option.{IfSome, option_map_or, option_to_list}
use Rattle.std.proofs.lemmas.Bool.{and_parts, and_from, eqb-true}
use Rattle.std.proofs.lemmas.Option.{none-some, same_Some}
use Rattle.pks_terms.specs.Sets.{Each, IsIn}
use Rattle.pks_terms.specs.Syntax.{Object, Parameter, Apply, Inner, Term, place, Relation, Named, Equality, Literal, Atom, Pattern}
use Rattle.pks_terms.specs.Worlds.{World, inner_value, value_of, signed, relates, true_in, all_true_in}
use Rattle.pks_terms.specs.Databases.{same_objects}
use Rattle.pks_terms.specs.Meaning.{is_instance, is_value_of}
use Rattle.pks_terms.specs.Queries.{Query}
use Rattle.pks_terms.specs.Actions.{Target, Set, Unset, Clear, Assign, Effect, query_at, fires}
use Rattle.pks_terms.specs.Problems.{Aim, Now, AtStart, Always, Once}
use Rattle.pks_terms.proofs.ListLaws.{each_in, each_front, each_back, in_map, any_in}
use Rattle.pks_laws.proofs.Least.{in_flat}
use Rattle.pks_laws.proofs.Values.{same_objects_same}
use Rattle.pks_world.specs.Contents.{ground}
use Rattle.pks_search_distance.specs.Runs.{asked, IsSo, IsAim}
use Rattle.pks_search_distance.specs.Levels.{Chances, Allows, Has, HasAll}
use Rattle.pks_search_distance.specs.Relaxed.{tuples, inner_values, term_values, may_relate, may, aim_may, NewTruth, NewValue, NewFalse, atom_news, place_news, news, effect_news, GroundAction, ground_action_news, IsNewIn, asked_at}
use Rattle.pks_search_distance.proofs.Lists.{all_appended}

module _ {A : Type 0} (values : A → List ℕ) (value : A → ℕ) (has : (t : A) → IsIn (value t) (values t)) where
  pub tuple_in : (ds : List ℕ) (ts : List A) → IsIn (ds ++ map value ts) (tuples values ds ts)
  tuple_in ds [] = inl (sym (append-nil ds))
  tuple_in ds (t ∷ ts) =
      in_flat (λ d. tuples values (ds ++ d ∷ []) ts) (values t) (value t) (ds ++ value t ∷ map value ts) (has t)
      (subst (λ xs. IsIn xs (tuples values (ds ++ value t ∷ []) ts)) (append_assoc ds (value t ∷ []) (map value ts)) (tuple_in (ds ++ value t ∷ []) ts))

same_list : (ds : List ℕ) → map (λ d. d) ds ≡ ds
same_list [] = refl
same_list (d ∷ ds) = λ i. d ∷ same_list ds i

not_so : (b : Bool) → not b ≡ true → b ≡ false
not_so true h = sym h
not_so false h = refl

module _ (m : Chances) (v : World) (a : Allows m v) where
  pub inner_in : (t : Inner) → IsIn (inner_value v t) (inner_values m t)
  inner_in (Object d) = inl refl
  inner_in (Parameter i) = inl refl
  inner_in (Apply f ds) = subst (λ es. IsIn (v.value f es) (m.values f ds)) (sym (same_list ds)) (a.values f ds)

  pub term_in : (t : Term) → IsIn (value_of v t) (term_values m t)
  unfolding value_of
  term_in (Object d) = inl refl
  term_in (Parameter i) = inl refl
  term_in (Apply f ts) = in_flat (m.values f) (tuples (inner_values m) [] ts) (map (inner_value v) ts) (v.value f (map (inner_value v) ts)) (tuple_in (inner_values m) (inner_value v) inner_in [] ts) (a.values f (map (inner_value v) ts))

  named : (b : Bool) (p : ℕ) (ds : List ℕ) → signed b (v.truth p ds) ≡ true → m.truth b p ds ≡ true
  named true p ds h = subst (λ c. m.truth c p ds ≡ true) h (a.truth p ds)
  named false p ds h = subst (λ c. m.truth c p ds ≡ true) (not_so (v.truth p ds) h) (a.truth p ds)

  related : (b : Bool) (r : Relation) (ts : List Term) → signed b (relates v r (map (value_of v) ts)) ≡ true → may_relate m b r ts ≡ true
  related b (Named p) ts h = any_in (m.truth b p) (tuples (term_values m) [] ts) (map (value_of v) ts) (tuple_in (term_values m) (value_of v) term_in [] ts) (named b p (map (value_of v) ts) h)
  related b Equality [] h = refl
  related b Equality (t ∷ []) h = refl
  related b Equality (t ∷ u ∷ []) h =
      any_in (λ d. list_any (λ e. signed b (d == e)) (term_values m u)) (term_values m t) (value_of v t) (term_in t)
      (any_in (λ e. signed b (value_of v t == e)) (term_values m u) (value_of v u) (term_in u) h)
  related b Equality (t ∷ u ∷ x ∷ ts) h = refl

  -- what is true may be true
  pub may_true : (l : Literal) → true_in v l ≡ true → may m l ≡ true
  unfolding true_in
  may_true l h = related l.positive l.relation l.arguments h

  pub all_may : (c : List Literal) → list_all (true_in v) c ≡ true → list_all (may m) c ≡ true
  all_may [] h = refl
  all_may (l ∷ c) h = let q = and_parts (true_in v l) (list_all (true_in v) c) h in and_from (may m l) (list_all (may m) c) (may_true l q.0) (all_may c q.1)

  some_may : (o : Option Literal) → IfSome o (λ l. true_in v l ≡ true) → option_map_or (may m) o true ≡ true
  some_may None h = refl
  some_may (Some l) h = may_true l h

  listed_may : (o : Option Literal) → IfSome o (λ l. true_in v l ≡ true) → list_all (may m) (option_to_list o) ≡ true
  listed_may None h = refl
  listed_may (Some l) h = and_from (may m l) true (may_true l h) refl

  pub asked_may : (given : List Inner) (qs : List Query) → Each (λ q. IsSo v (query_at given q)) qs → list_all (may m) (asked_at given qs) ≡ true
  asked_may given [] k = refl
  asked_may given (q ∷ qs) k = all_appended (may m) (option_to_list (asked (query_at given q))) (asked_at given qs) (listed_may (asked (query_at given q)) k.0) (asked_may given qs k.1)

  pub goal_may : (aims : List Aim) → Each (IsAim v) aims → list_all (aim_may m) aims ≡ true
  goal_may [] k = refl
  goal_may (x ∷ aims) k = and_from (aim_may m x) (list_all (aim_may m) aims) (one x k.0) (goal_may aims k.1)
    where
      one : (x : Aim) → IsAim v x → aim_may m x ≡ true
      one (Now q) h = some_may (asked q) h
      one (AtStart q) h = refl
      one (Always q) h = refl
      one (Once q) h = refl

  -- ---- what actions make so

  atom_has : (n : Chances) (c : Bool) (x : Atom) → Each (IsNewIn n) (atom_news m c x) → (p : ℕ) (ds : List ℕ) (b : Bool) → cond (is_value_of v p ds x) (Some c) None ≡ Some b → n.truth b p ds ≡ true
  atom_has n c x e p ds b h =
      elim (is_value_of v p ds x) as (λ k. is_value_of v p ds x ≡ k → ◌≡◌ {A = Option Bool} (cond k (Some c) None) (Some b) → n.truth b p ds ≡ true) [
        | true ↦ λ q s.
            let r = and_parts (x.predicate == p) (same_objects (map (value_of v) x.arguments) ds) q in
            let pred : x.predicate ≡ p = eqb-true x.predicate p r.0 in
            let objects : map (value_of v) x.arguments ≡ ds = same_objects_same _ _ r.1 in
            subst (λ k. n.truth k p ds ≡ true) (same_Some c b s)
            (each_in (IsNewIn n) (atom_news m c x) (NewTruth c (ground x.predicate (map (value_of v) x.arguments))) e
            (in_map (λ es. NewTruth c (ground x.predicate es)) (tuples (term_values m) [] x.arguments) (map (value_of v) x.arguments) (tuple_in (term_values m) (value_of v) term_in [] x.arguments)) p ds (λ i. ground (pred i) (objects i)))
        | false ↦ λ q s. absurd (none-some b s)
      ] refl h

  cleared_has : (n : Chances) (x : Pattern) → IsNewIn n (NewFalse x.predicate) → (p : ℕ) (ds : List ℕ) (b : Bool) → cond ((x.predicate == p) && is_instance v x.slots ds) (Some false) None ≡ Some b → n.truth b p ds ≡ true
  cleared_has n x e p ds b h =
      elim ((x.predicate == p) && is_instance v x.slots ds) as (λ k. ((x.predicate == p) && is_instance v x.slots ds) ≡ k → ◌≡◌ {A = Option Bool} (cond k (Some false) None) (Some b) → n.truth b p ds ≡ true) [
        | true ↦ λ q s.
            let r = and_parts (x.predicate == p) (is_instance v x.slots ds) q in
            subst (λ k. n.truth k p ds ≡ true) (same_Some false b s) (subst (λ q. n.truth false q ds ≡ true) (eqb-true x.predicate p r.0) (e ds))
        | false ↦ λ q s. absurd (none-some b s)
      ] refl h

  place_has : (n : Chances) (g : ℕ) (ts : List Inner) (t : Term) → Each (IsNewIn n) (place_news m g ts t) → (f : ℕ) (ds : List ℕ) (d : ℕ) → cond ((g == f) && same_objects (map (inner_value v) ts) ds) (Some (value_of v t)) None ≡ Some d → IsIn d (n.values f ds)
  place_has n g ts t e f ds d h =
      elim ((g == f) && same_objects (map (inner_value v) ts) ds) as (λ k. ((g == f) && same_objects (map (inner_value v) ts) ds) ≡ k → ◌≡◌ {A = Option ℕ} (cond k (Some (value_of v t)) None) (Some d) → IsIn d (n.values f ds)) [
        | true ↦ λ q s.
            let r = and_parts (g == f) (same_objects (map (inner_value v) ts) ds) q in
            let fun : g ≡ f = eqb-true g f r.0 in
            let objects : map (inner_value v) ts ≡ ds = same_objects_same _ _ r.1 in
            subst (λ k. IsIn k (n.values f ds)) (same_Some (value_of v t) d s)
            (each_in (IsNewIn n) (place_news m g ts t) (NewValue (place g (map (inner_value v) ts)) (value_of v t)) e
            (in_flat (λ es. map (NewValue (place g es)) (term_values m t)) (tuples (inner_values m) [] ts) (map (inner_value v) ts) (NewValue (place g (map (inner_value v) ts)) (value_of v t))
            (tuple_in (inner_values m) (inner_value v) inner_in [] ts)
            (in_map (NewValue (place g (map (inner_value v) ts))) (term_values m t) (value_of v t) (term_in t))) f ds (λ i. place (fun i) (objects i)))
        | false ↦ λ q s. absurd (none-some d s)
      ] refl h

  pub target_has : (n : Chances) (t : Target) → Each (IsNewIn n) (news m t) → Has n v t
  target_has n (Set x) e = record { truth = atom_has n true x e; values = λ f ds d h. absurd (none-some d h) }
  target_has n (Unset x) e = record { truth = atom_has n false x e; values = λ f ds d h. absurd (none-some d h) }
  target_has n (Clear x) e = record { truth = cleared_has n x e.0; values = λ f ds d h. absurd (none-some d h) }
  target_has n (Assign g ts t) e = record { truth = λ p ds b h. absurd (none-some b h); values = place_has n g ts t e }

  fired : (n : Chances) (e : Effect) → fires v e ≡ true → Each (IsNewIn n) (effect_news m e) → Each (IsNewIn n) (news m e.target)
  unfolding all_true_in
  fired n e f k = subst (λ b. Each (IsNewIn n) (cond b (news m e.target) [])) (all_may e.condition f) k

  pub effects_have : (n : Chances) (es : List Effect) → Each (IsNewIn n) (flat_map (effect_news m) es) → HasAll n v es
  effects_have n [] k = tt
  effects_have n (e ∷ es) k = (
    λ f. target_has n e.target (fired n e f (each_front (IsNewIn n) (effect_news m e) (flat_map (effect_news m) es) k)),
    effects_have n es (each_back (IsNewIn n) (effect_news m e) (flat_map (effect_news m) es) k),
  )

  pub ground_action_has : (n : Chances) (x : GroundAction) → list_all (may m) x.pre ≡ true → Each (IsNewIn n) (ground_action_news m x) → HasAll n v x.effects
  ground_action_has n x h k = effects_have n x.effects (subst (λ b. Each (IsNewIn n) (cond b (flat_map (effect_news m) x.effects) [])) h k)
