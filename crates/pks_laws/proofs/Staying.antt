-- An action of a typed problem leads from a world of the signature to a world of it.
use Rattle.std.proofs.Common.{◌≡◌, ◌==◌, ℕ, zero, suc, Bool, true, false, cond, List, [], ◌∷◌, map, filter_map, slice_get, Option, Some, None, option_map, refl, sym, ap, ◌∙◌, subst, ⊎_elim, true≢false}
use Rattle.std.specs.Option.{option_map_or}
use Rattle.std.proofs.lemmas.Bool.{and_parts, eqb-true}
use Rattle.std.proofs.lemmas.Option.{none-some, same_Some, cond_some}
use Rattle.pks_terms.specs.Sets.{Each, IsIn, all_some, choices_from}
use Rattle.pks_terms.specs.Syntax.{Object, Parameter, Apply, Inner, Term, term_of, as_object}
use Rattle.pks_terms.specs.Signatures.{Shape, Signature, fits_type, objects_of, has_type}
use Rattle.pks_terms.specs.Worlds.{World, inner_value, value_of}
use Rattle.pks_terms.specs.Databases.{Five}
use Rattle.pks_terms.specs.Meaning.{AreOfTypes, IsWorld, IsTrueIn}
use Rattle.pks_terms.specs.Actions.{Target, Set, Unset, Clear, Assign, Effect, Instance, argument, term_at, target_at, effect_at, written_truth, written_value, applied_to}
use Rattle.pks_terms.specs.Problems.{Problem, schema_of}
use Rattle.pks_terms.specs.Branching.{as_inner, candidates, instances}
use Rattle.pks_terms.proofs.ListLaws.{each_in, in_mapped, in_appended, in_flat_mapped, map-map}
use Rattle.pks_laws.proofs.Least.{in_filter_mapped}
use Rattle.pks_laws.proofs.Values.{same_objects_same}
use Rattle.pks_laws.proofs.Changing.{last_written_has, value_of-term_of}
use Rattle.pks_terms.proofs.Types.{wider}
use Rattle.pks_laws.proofs.Instances.{allowed_instance}
use Rattle.pks_terms.specs.Typed.{may_stand, AllMayStand, IsTypedTarget, IsTyped}
use Rattle.pks_terms.specs.Knowledge.{grounded, after_action}
use Rattle.pks_laws.proofs.Doing.{effects_do}

module _ (s : Signature) (w : World) (i : IsWorld s w) where
  chosen : (b : Bool) (o : Option Inner) (u : Inner) → cond b o None ≡ Some u → (b ≡ true) × (o ≡ Some u)
  chosen true o u e = (refl, e)
  chosen false o u e = absurd (none-some u e)

  -- a term that is an argument has a value of its type
  inner_typed : (x : Term) (u : Inner) (a : ℕ) → has_type s x a ≡ true → as_inner x ≡ Some u → IsIn (inner_value w u) (objects_of s a)
  inner_typed (Object d) u a h e = absurd (none-some u e)
  inner_typed (Parameter d) u a h e = absurd (none-some u e)
  inner_typed (Apply f ts) u a h e =
      elim (slice_get s.functions f) as (λ o. slice_get s.functions f ≡ o → option_map_or (λ own. fits_type s own a) (option_map (λ (x : Shape). x.result) o) false ≡ true → IsIn (inner_value w u) (objects_of s a)) [
        | None ↦ λ q k. absurd (true≢false (sym k))
        | Some x ↦ λ q k. elim (all_some (map as_object ts)) as (λ o. ◌≡◌ {A = Option Inner} (option_map (λ ds. Apply f ds) o) (Some u) → IsIn (inner_value w u) (objects_of s a)) [
          | None ↦ λ r. absurd (none-some u r)
          | Some ds ↦ λ r. wider s x.result a (inner_value w u) k (subst (λ v. IsIn (inner_value w v) (objects_of s x.result)) (same_Some (Apply f ds) u r) (i.typed f (map (λ d. d) ds) x q))
        ] e
      ] refl h

  -- a known value or an object that may stand for a parameter has a value of its type
  candidate_typed : (d : Five) (a : ℕ) (t : Inner) → IsIn t (candidates s d a) → IsIn (inner_value w t) (objects_of s a)
  candidate_typed d a t j =
      ⊎_elim
      (λ k. let r = in_mapped Object (objects_of s a) t k in subst (λ u. IsIn (inner_value w u) (objects_of s a)) r.2 r.1)
      (λ k. let r = in_filter_mapped (λ x. cond (has_type s x a) (as_inner x) None) d.kv t k in let c = chosen (has_type s r.0 a) (as_inner r.0) t r.2 in inner_typed r.0 t a c.0 c.1)
      (in_appended (map Object (objects_of s a)) (filter_map (λ x. cond (has_type s x a) (as_inner x) None) d.kv) t j)

  -- the arguments of an instance
  abbrev pub AreTyped : List ℕ → List Inner → Type 0
  AreTyped params given = (k b : ℕ) → slice_get params k ≡ Some b → IsIn (inner_value w (argument given k)) (objects_of s b)

  arguments_typed : (d : Five) (params : List ℕ) (given : List Inner) → IsIn given (choices_from (map (candidates s d) params)) → AreTyped params given
  arguments_typed d [] given j k b h = absurd (none-some b h)
  arguments_typed d (a ∷ params) given j k b h =
      let r = in_flat_mapped (λ x. map (λ ys. x ∷ ys) (choices_from (map (candidates s d) params))) (candidates s d a) given j in
      let q = in_mapped (λ ys. r.0 ∷ ys) (choices_from (map (candidates s d) params)) given r.2 in
      subst (λ g. IsIn (inner_value w (argument g k)) (objects_of s b)) q.2 (at_place r.0 q.0 r.1 (arguments_typed d params q.0 q.1) k h)
    where
      at_place : (x : Inner) (ys : List Inner) → IsIn x (candidates s d a) → AreTyped params ys → (k : ℕ) → slice_get (a ∷ params) k ≡ Some b → IsIn (inner_value w (argument (x ∷ ys) k)) (objects_of s b)
      at_place x ys m n zero h = subst (λ c. IsIn (inner_value w x) (objects_of s c)) (same_Some a b h) (candidate_typed d a x m)
      at_place x ys m n (suc k) h = n k b h

  module _ (params : List ℕ) (given : List Inner) (typed : AreTyped params given) where
    stands : (a : ℕ) (t : Term) → may_stand s params a t → IsIn (value_of w (term_at given t)) (objects_of s a)
    unfolding value_of
    stands a (Object d) m = m
    stands a (Parameter k) m = wider s m.0 a (value_of w (term_of (argument given k))) m.2 (subst (λ v. IsIn v (objects_of s m.0)) (sym (value_of-term_of w (argument given k))) (typed k m.0 m.1))
    stands a (Apply f ts) m = wider s m.0.result a _ m.2 (i.typed f _ m.0 m.1)

    all_stand : (tys : List ℕ) (ts : List Term) → AllMayStand s params tys ts → AreOfTypes s tys (map (λ t. value_of w (term_at given t)) ts)
    all_stand [] [] m = tt
    all_stand (a ∷ tys) (t ∷ ts) m = (stands a t m.0, all_stand tys ts m.1)
    all_stand [] (t ∷ ts) m = m
    all_stand (a ∷ tys) [] m = m

    -- what an effect writes is typed
    writes_atom : (x : Target) (p : ℕ) (ds : List ℕ) → IsTypedTarget s params x → written_truth w p ds (target_at given x) ≡ Some true → (y : Shape) × (slice_get s.predicates p ≡ Some y) × AreOfTypes s y.arguments ds
    writes_atom (Set a) p ds m h =
        let q = and_parts (a.predicate == p) _ (cond_some _ true true h).0 in
        let same : map (λ t. value_of w (term_at given t)) a.arguments ≡ ds = sym (map-map (term_at given) (value_of w) a.arguments) ∙ same_objects_same _ _ q.1 in
        (m.0, ap (slice_get s.predicates) (sym (eqb-true a.predicate p q.0)) ∙ m.1, subst (AreOfTypes s m.0.arguments) same (all_stand m.0.arguments a.arguments m.2))
    writes_atom (Unset a) p ds m h = absurd (true≢false (sym (cond_some _ false true h).1))
    writes_atom (Clear x) p ds m h = absurd (true≢false (sym (cond_some _ false true h).1))
    writes_atom (Assign f ts v) p ds m h = absurd (none-some true h)

    writes_value : (x : Target) (f : ℕ) (ds : List ℕ) (e : ℕ) (y : Shape) → slice_get s.functions f ≡ Some y → IsTypedTarget s params x → written_value w f ds (target_at given x) ≡ Some e → IsIn e (objects_of s y.result)
    writes_value (Assign g ts value) f ds e y q m h =
        let c = cond_some _ (value_of w (term_at given value)) e h in
        let b = and_parts (g == f) _ c.0 in
        let same : m.0 ≡ y = same_Some m.0 y (sym m.1 ∙ ap (slice_get s.functions) (eqb-true g f b.0) ∙ q) in
        subst (λ v. IsIn v (objects_of s y.result)) c.1 (subst (λ (z : Shape). IsIn (value_of w (term_at given value)) (objects_of s z.result)) same (stands m.0.result value m.2))
    writes_value (Set a) f ds e y q m h = absurd (none-some e h)
    writes_value (Unset a) f ds e y q m h = absurd (none-some e h)
    writes_value (Clear x) f ds e y q m h = absurd (none-some e h)

    pub still_world : (effects : List Effect) → Each (λ e. IsTypedTarget s params e.target) effects → IsWorld s (applied_to w (map (effect_at given) effects))
    unfolding applied_to
    still_world effects all = record {
      atoms = λ p ds h.
          last_written_has (λ y. y ≡ true → (x : Shape) × (slice_get s.predicates p ≡ Some x) × AreOfTypes s x.arguments ds) (written_truth w p ds) w (map (effect_at given) effects) _
          (λ e y j k r t. let o = in_mapped (effect_at given) effects e j in
          writes_atom o.0.target p ds (each_in (λ (e : Effect). IsTypedTarget s params e.target) effects o.0 all o.1) (ap (λ (e : Effect). written_truth w p ds e.target) o.2 ∙ r ∙ ap Some t)) (i.atoms p ds) h;
      typed = λ f ds y q.
          last_written_has (λ v. IsIn v (objects_of s y.result)) (written_value w f ds) w (map (effect_at given) effects) _
          (λ e v j k r. let o = in_mapped (effect_at given) effects e j in
          writes_value o.0.target f ds v y q (each_in (λ (e : Effect). IsTypedTarget s params e.target) effects o.0 all o.1) (ap (λ (e : Effect). written_value w f ds e.target) o.2 ∙ r)) (i.typed f ds y q);
    }

pub worlds_stay : (p : Problem) → IsTyped p → (w : World) (d : Five) (i : Instance) → IsWorld p.signature w → IsTrueIn p.signature w d → IsIn i (instances p d) → IsWorld p.signature (after_action p w (grounded w i))
worlds_stay p typed w d x i m chosen =
    let sc = schema_of p x.action in
    subst (IsWorld p.signature) (effects_do p w x)
    (still_world p.signature w i sc.parameters x.arguments (arguments_typed p.signature w i d sc.parameters x.arguments (allowed_instance p d x chosen).1) sc.effects (typed x.action))
