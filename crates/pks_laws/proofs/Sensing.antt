-- What the justified adds of an action put into Kw and Kv is alike in two worlds in which the same is observed.
use Rattle.std.proofs.Common.{◌≡◌, ◌&&◌, ◌==◌, ℕ, Bool, true, false, cond, List, [], ◌∷◌, ◌++◌, map, filter, flat_map, unwrap_or, Option, Some, None, option_map, refl, sym, ap, ◌∙◌, subst, inl, inr, ⊎_elim, true≢false}
use Rattle.std.specs.List.{list_any}
use Rattle.std.specs.Cmp.{Equal-is}
use Rattle.std.specs.FinMap.{slice_cmp-IsAntisymmetric}
use Rattle.std.proofs.lemmas.Bool.{and_parts, and_from, eqb-true, eq-eqb}
use Rattle.pks_terms.specs.Sets.{Each, IsIn}
use Rattle.pks_terms.specs.Syntax.{Object, Parameter, Apply, Inner, Term, term_of, Relation, Named, Equality, Literal, Pattern}
use Rattle.pks_terms.specs.Orders.{term_eq, conj_cmp}
use Rattle.pks_terms.specs.Signatures.{Signature, no_shape, predicate_shape, objects_of}
use Rattle.pks_terms.specs.Worlds.{World, inner_value, value_of, relates, signed, true_in, all_true_in}
use Rattle.pks_terms.specs.Databases.{Five, inner_normal}
use Rattle.pks_terms.specs.Meaning.{AreOfTypes, IsWorld, is_instance, IsTrueIn, IsTrueOf}
use Rattle.pks_terms.specs.Actions.{Effect, Sense, SenseWhether, SenseValue, SenseAll, Schema, argument, term_at, literal_at, conj_at, effect_at, sense_at, applied_to, instances_of, seen, observed}
use Rattle.pks_terms.specs.Spoiling.{is_stable}
use Rattle.pks_terms.specs.Justified.{is_plain_term, covers, senses_all, senses_whether, senses_value}
use Rattle.pks_terms.specs.Progress.{is_untouched, parameters_in, conj_parameters, arguments_stable}
use Rattle.pks_terms.proofs.ListLaws.{each_front, each_back, each_in, each_map, each_filter, each_flat_map, each_weaker, found_in, all_same, same_at, in_map}
use Rattle.pks_terms.proofs.OrderLaws.{same_term, literal_cmp_tells}
use Rattle.pks_laws.proofs.Values.{inner_value-normal}
use Rattle.pks_laws.proofs.Changing.{value_of-term_of, stable_value}
use Rattle.pks_laws.proofs.PuttingIn.{SameAt, argument-map, true_in-literal_at, conj_at_alike, term_at_alike}
use Rattle.pks_laws.proofs.Progressing.{untouched_same}

-- a true atom has objects of its predicate's types
pub true_atoms_typed : (s : Signature) (w : World) → IsWorld s w → (p : ℕ) (ds : List ℕ) → w.truth p ds ≡ true → AreOfTypes s (predicate_shape s p).arguments ds
true_atoms_typed s w world p ds h = let a = world.atoms p ds h in subst (λ o. AreOfTypes s (unwrap_or o no_shape).arguments ds) (sym a.1) a.2

module _ (s : Signature) (w w' : World) (d : Five) (m : IsTrueOf s w w' d) (given : List Inner) (sc : Schema) (same_args : (i : ℕ) → inner_value w (argument given i) ≡ inner_value w' (argument given i)) where
  abbrev pub acts : List Effect
  acts = map (effect_at given) sc.effects

  abbrev pub new : World
  new = applied_to w acts

  abbrev pub new' : World
  new' = applied_to w' acts

  -- the arguments' values, in either world
  abbrev pub grounds : List Inner
  grounds = map (λ t. Object (inner_value w t)) given

  abbrev pub normals : List Inner
  normals = map (inner_normal d.kf) given

  pub kept_whether : Each (λ c. all_true_in new c ≡ all_true_in new' c) (filter (is_untouched s d acts) d.kw)
  unfolding all_true_in
  kept_whether = each_filter (λ c. all_true_in new c ≡ all_true_in new' c) (is_untouched s d acts) d.kw
      (λ c i h. all_same (true_in new) (true_in w) c (untouched_same w d m.first acts c h) ∙ each_in (λ c. all_true_in w c ≡ all_true_in w' c) d.kw c m.whether i ∙ sym (all_same (true_in new') (true_in w') c (untouched_same w' d m.second acts c h)))

  pub kept_values : Each (λ t. value_of new t ≡ value_of new' t) (filter (is_stable s d acts) d.kv)
  kept_values = each_filter (λ t. value_of new t ≡ value_of new' t) (is_stable s d acts) d.kv
      (λ t i h. stable_value w d m.first acts t h ∙ each_in (λ t. value_of w t ≡ value_of w' t) d.kv t m.values i ∙ sym (stable_value w' d m.second acts t h))

  -- ---- arguments in normal form and their values, in the new worlds

  normal_argument : (i : ℕ) → is_stable s d acts (term_of (argument normals i)) ≡ true → (SameAt new normals grounds i) × (SameAt new' normals grounds i)
  normal_argument i h = (one w m.first (λ _. refl) i h, one w' m.second same_args i h)
    where
      one : (u : World) → IsTrueIn s u d → ((i : ℕ) → inner_value w (argument given i) ≡ inner_value u (argument given i)) → (i : ℕ) → is_stable s d acts (term_of (argument normals i)) ≡ true → SameAt (applied_to u acts) normals grounds i
      one u t same i h =
          sym (value_of-term_of (applied_to u acts) (argument normals i)) ∙ stable_value u d t acts (term_of (argument normals i)) h ∙ value_of-term_of u (argument normals i)
          ∙ ap (inner_value u) (argument-map (inner_normal d.kf) refl given i) ∙ inner_value-normal u d.kf t.known (argument given i)
          ∙ sym (same i) ∙ ap (inner_value (applied_to u acts)) (sym (argument-map (λ t. Object (inner_value w t)) refl given i))

  normal_arguments : (is : List ℕ) → arguments_stable s d acts normals is ≡ true → Each (SameAt new normals grounds) is × Each (SameAt new' normals grounds) is
  normal_arguments [] h = (tt, tt)
  normal_arguments (i ∷ is) h =
      let p = and_parts (is_stable s d acts (term_of (argument normals i))) _ h in
      let a = normal_argument i p.0 in
      let b = normal_arguments is p.1 in
      ((a.0, b.0), (a.1, b.1))

  module _ (seen_alike : observed s new (map (sense_at grounds) sc.senses) ≡ observed s new' (map (sense_at grounds) sc.senses)) where
    sense_alike : (x : Sense) → IsIn x sc.senses → seen s new (sense_at grounds x) ≡ seen s new' (sense_at grounds x)
    unfolding observed
    sense_alike x i = same_at (seen s new) (seen s new') (map (sense_at grounds) sc.senses) seen_alike (sense_at grounds x) (in_map (sense_at grounds) sc.senses x i)

    pub sensed_whether : (c : List Literal) → list_any (senses_whether c) sc.senses ≡ true → arguments_stable s d acts normals (conj_parameters c) ≡ true → all_true_in new (conj_at normals c) ≡ all_true_in new' (conj_at normals c)
    sensed_whether c h stable =
        let f = found_in (senses_whether c) sc.senses h in
        let a = normal_arguments (conj_parameters c) stable in
        conj_at_alike new normals grounds c a.0 ∙ by_sense f.0 f.2 (sense_alike f.0 f.1) ∙ sym (conj_at_alike new' normals grounds c a.1)
      where
        by_sense : (x : Sense) → senses_whether c x ≡ true → seen s new (sense_at grounds x) ≡ seen s new' (sense_at grounds x) → all_true_in new (conj_at grounds c) ≡ all_true_in new' (conj_at grounds c)
        by_sense (SenseWhether b) k e =
            let same = slice_cmp-IsAntisymmetric literal_cmp_tells b c ((Equal-is (conj_cmp b c)).0 k) in
            let truths : all_true_in new (conj_at grounds b) ≡ all_true_in new' (conj_at grounds b) = cc in
            ap (λ b. all_true_in new (conj_at grounds b)) (sym same) ∙ truths ∙ ap (λ b. all_true_in new' (conj_at grounds b)) same
        by_sense (SenseValue t) k e = absurd (true≢false (sym k))
        by_sense (SenseAll x) k e = absurd (true≢false (sym k))

    pub sensed_value : (t : Term) → list_any (senses_value t) sc.senses ≡ true → arguments_stable s d acts normals (parameters_in t) ≡ true → value_of new (term_at normals t) ≡ value_of new' (term_at normals t)
    sensed_value t h stable =
        let f = found_in (senses_value t) sc.senses h in
        let a = normal_arguments (parameters_in t) stable in
        term_at_alike new normals grounds t a.0 ∙ by_sense f.0 f.2 (sense_alike f.0 f.1) ∙ sym (term_at_alike new' normals grounds t a.1)
      where
        by_sense : (x : Sense) → senses_value t x ≡ true → seen s new (sense_at grounds x) ≡ seen s new' (sense_at grounds x) → value_of new (term_at grounds t) ≡ value_of new' (term_at grounds t)
        by_sense (SenseValue u) k e =
            let same = same_term u t k in
            let values : value_of new (term_at grounds u) ≡ value_of new' (term_at grounds u) = cc in
            ap (λ u. value_of new (term_at grounds u)) (sym same) ∙ values ∙ ap (λ u. value_of new' (term_at grounds u)) same
        by_sense (SenseWhether c) k e = absurd (true≢false (sym k))
        by_sense (SenseAll x) k e = absurd (true≢false (sym k))

    -- ---- all instances of a pattern

    module _ (i : IsWorld s new) (i' : IsWorld s new') where
      in_instances : (u : World) (tys : List ℕ) (ss : List (Option Term)) (ds : List ℕ) → AreOfTypes s tys ds → is_instance u ss ds ≡ true → IsIn ds (instances_of s u tys ss)
      in_instances u [] [] [] a h = inl refl
      in_instances u (a ∷ tys) (None ∷ ss) (e ∷ ds) t h = in_flat (objects_of s a) e ds t.0 (in_instances u tys ss ds t.1 h)
        where
          in_append_left : (xs ys : List (List ℕ)) (x : List ℕ) → IsIn x xs → IsIn x (xs ++ ys)
          in_append_left [] ys x j = absurd j
          in_append_left (y ∷ xs) ys x (inl q) = inl q
          in_append_left (y ∷ xs) ys x (inr j) = inr (in_append_left xs ys x j)

          in_append_right : (xs ys : List (List ℕ)) (x : List ℕ) → IsIn x ys → IsIn x (xs ++ ys)
          in_append_right [] ys x j = j
          in_append_right (y ∷ xs) ys x j = inr (in_append_right xs ys x j)

          in_flat : (os : List ℕ) (e : ℕ) (ds : List ℕ) → IsIn e os → IsIn ds (instances_of s u tys ss) → IsIn (e ∷ ds) (flat_map (λ o. map (λ ds. o ∷ ds) (instances_of s u tys ss)) os)
          in_flat [] e ds j k = absurd j
          in_flat (o ∷ os) e ds (inl q) k = in_append_left (map (λ ds. o ∷ ds) (instances_of s u tys ss)) _ (e ∷ ds) (subst (λ x. IsIn (e ∷ ds) (map (λ ds. x ∷ ds) (instances_of s u tys ss))) (sym q) (in_map (λ ds. e ∷ ds) (instances_of s u tys ss) ds k))
          in_flat (o ∷ os) e ds (inr j) k = in_append_right (map (λ ds. o ∷ ds) (instances_of s u tys ss)) _ (e ∷ ds) (in_flat os e ds j k)
      in_instances u (a ∷ tys) (Some t ∷ ss) (e ∷ ds) a' h =
          let p = and_parts (value_of u t == e) _ h in
          subst (λ x. IsIn (x ∷ ds) (map (λ ds. value_of u t ∷ ds) (instances_of s u tys ss))) (eqb-true (value_of u t) e p.0) (in_map (λ ds. value_of u t ∷ ds) (instances_of s u tys ss) ds (in_instances u tys ss ds a'.1 p.1))
      in_instances u [] [] (e ∷ ds) a h = absurd a
      in_instances u [] (None ∷ ss) [] a h = absurd (true≢false (sym h))
      in_instances u [] (None ∷ ss) (e ∷ ds) a h = absurd a
      in_instances u [] (Some t ∷ ss) [] a h = absurd (true≢false (sym h))
      in_instances u [] (Some t ∷ ss) (e ∷ ds) a h = absurd a
      in_instances u (x ∷ tys) ss [] a h = absurd a
      in_instances u (x ∷ tys) [] (e ∷ ds) a h = absurd (true≢false (sym h))

      in_filter : (p : List ℕ → Bool) (xs : List (List ℕ)) (x : List ℕ) → IsIn x xs → p x ≡ true → IsIn x (filter p xs)
      in_filter p [] x j h = absurd j
      in_filter p (y ∷ xs) x j h =
          elim (p y) as (λ b. p y ≡ b → IsIn x (cond b (y ∷ filter p xs) (filter p xs))) [
            | true ↦ λ q. ⊎_elim (λ e. inl e) (λ k. inr (in_filter p xs x k h)) j
            | false ↦ λ q. ⊎_elim (λ e. absurd (true≢false (sym h ∙ ap p (sym e) ∙ q))) (λ k. in_filter p xs x k h) j
          ] refl

      instances_are : (u : World) (tys : List ℕ) (ss : List (Option Term)) → Each (λ ds. is_instance u ss ds ≡ true) (instances_of s u tys ss)
      instances_are u [] [] = (refl, tt)
      instances_are u (a ∷ tys) (None ∷ ss) =
          each_flat_map (λ ds. is_instance u (None ∷ ss) ds ≡ true) (λ o. map (λ ds. o ∷ ds) (instances_of s u tys ss)) (objects_of s a)
          (λ o j. each_map (λ ds. is_instance u (None ∷ ss) ds ≡ true) (λ ds. o ∷ ds) (instances_of s u tys ss) (instances_are u tys ss))
      instances_are u (a ∷ tys) (Some t ∷ ss) =
          each_map (λ ds. is_instance u (Some t ∷ ss) ds ≡ true) (λ ds. value_of u t ∷ ds) (instances_of s u tys ss)
          (each_weaker (λ ds. is_instance u ss ds ≡ true) (λ ds. ((value_of u t == value_of u t) && is_instance u ss ds) ≡ true) (λ ds h. and_from _ _ (eq-eqb (value_of u t) (value_of u t) refl) h) (instances_of s u tys ss) (instances_are u tys ss))
      instances_are u [] (x ∷ ss) = tt
      instances_are u (a ∷ tys) [] = tt

      -- one way: what is a true instance in the one world is one in the other
      all_seen_one : (u u' : World) → IsWorld s u → (p : ℕ) (ss : List (Option Term)) (ds : List ℕ) → is_instance u ss ds ≡ true
          → filter (u.truth p) (instances_of s u (predicate_shape s p).arguments ss) ≡ filter (u'.truth p) (instances_of s u' (predicate_shape s p).arguments ss) → u.truth p ds ≡ true → (u'.truth p ds ≡ true) × (is_instance u' ss ds ≡ true)
      all_seen_one u u' wu p ss ds inst e t =
          let here = in_filter (u.truth p) (instances_of s u (predicate_shape s p).arguments ss) ds (in_instances u (predicate_shape s p).arguments ss ds (true_atoms_typed s u wu p ds t) inst) t in
          each_in (λ ds. (u'.truth p ds ≡ true) × (is_instance u' ss ds ≡ true)) (filter (u'.truth p) (instances_of s u' (predicate_shape s p).arguments ss)) ds
          (each_filter (λ ds. (u'.truth p ds ≡ true) × (is_instance u' ss ds ≡ true)) (u'.truth p) (instances_of s u' (predicate_shape s p).arguments ss)
          (λ ds j h. (h, each_in (λ ds. is_instance u' ss ds ≡ true) (instances_of s u' (predicate_shape s p).arguments ss) ds (instances_are u' (predicate_shape s p).arguments ss) j))) (subst (IsIn ds) e here)

      same_bool : (a b : Bool) → (a ≡ true → b ≡ true) → (b ≡ true → a ≡ true) → a ≡ b
      same_bool true b f g = sym (f refl)
      same_bool false true f g = g refl
      same_bool false false f g = refl

      -- the literal's arguments are an instance of a pattern that covers it
      covered : (u : World) (ss : List (Option Term)) (ts : List Term) → covers ss ts ≡ true → Each (SameAt u normals grounds) (flat_map parameters_in ts)
          → is_instance u (map (option_map (term_at grounds)) ss) (map (λ t. value_of u (term_at normals t)) ts) ≡ true
      covered u [] [] h a = refl
      covered u (None ∷ ss) (t ∷ ts) h a = covered u ss ts (and_parts (is_plain_term t) _ h).1 (each_back (SameAt u normals grounds) (parameters_in t) _ a)
      covered u (Some x ∷ ss) (t ∷ ts) h a =
          let p = and_parts (term_eq x t) _ h in
          and_from _ _ (eq-eqb (value_of u (term_at grounds x)) (value_of u (term_at normals t)) (ap (λ y. value_of u (term_at grounds y)) (same_term x t p.0) ∙ sym (term_at_alike u normals grounds t (each_front (SameAt u normals grounds) (parameters_in t) _ a))))
          (covered u ss ts p.1 (each_back (SameAt u normals grounds) (parameters_in t) _ a))
      covered u [] (t ∷ ts) h a = absurd (true≢false (sym h))
      covered u (None ∷ ss) [] h a = absurd (true≢false (sym h))
      covered u (Some x ∷ ss) [] h a = absurd (true≢false (sym h))

      abbrev value_in : World → Term → ℕ
      value_in u t = value_of u (term_at normals t)

      -- objects and parameters have the same value in both worlds
      plain_alike : (u u' : World) (t : Term) → is_plain_term t ≡ true → Each (SameAt u normals grounds) (parameters_in t) → Each (SameAt u' normals grounds) (parameters_in t) → value_in u t ≡ value_in u' t
      unfolding value_of
      plain_alike u u' (Object e) h a b = refl
      plain_alike u u' (Parameter e) h a b =
          term_at_alike u normals grounds (Parameter e) a ∙ ground_value u e ∙ sym (ground_value u' e) ∙ sym (term_at_alike u' normals grounds (Parameter e) b)
        where
          ground_value : (u : World) (e : ℕ) → value_of u (term_of (argument grounds e)) ≡ inner_value w (argument given e)
          ground_value u e = value_of-term_of u (argument grounds e) ∙ ap (inner_value u) (argument-map (λ t. Object (inner_value w t)) refl given e)
      plain_alike u u' (Apply f ts) h a b = absurd (true≢false (sym h))

      -- where a covered literal's objects are an instance in the other world, its arguments have these values there too
      values_alike : (u u' : World) (ss : List (Option Term)) (ts : List Term) → covers ss ts ≡ true → Each (SameAt u normals grounds) (flat_map parameters_in ts) → Each (SameAt u' normals grounds) (flat_map parameters_in ts)
          → is_instance u' (map (option_map (term_at grounds)) ss) (map (value_in u) ts) ≡ true → map (value_in u) ts ≡ map (value_in u') ts
      values_alike u u' [] [] h a b k = refl
      values_alike u u' (None ∷ ss) (t ∷ ts) h a b k =
          let p = and_parts (is_plain_term t) _ h in
          let first = plain_alike u u' t p.0 (each_front (SameAt u normals grounds) (parameters_in t) _ a) (each_front (SameAt u' normals grounds) (parameters_in t) _ b) in
          let rest = values_alike u u' ss ts p.1 (each_back (SameAt u normals grounds) (parameters_in t) _ a) (each_back (SameAt u' normals grounds) (parameters_in t) _ b) k in
          λ i. first i ∷ rest i
      values_alike u u' (Some x ∷ ss) (t ∷ ts) h a b k =
          let p = and_parts (term_eq x t) _ h in
          let q = and_parts (value_of u' (term_at grounds x) == value_in u t) _ k in
          let first : value_in u t ≡ value_in u' t =
          sym (eqb-true _ _ q.0) ∙ ap (λ y. value_of u' (term_at grounds y)) (same_term x t p.0) ∙ sym (term_at_alike u' normals grounds t (each_front (SameAt u' normals grounds) (parameters_in t) _ b)) in
          let rest = values_alike u u' ss ts p.1 (each_back (SameAt u normals grounds) (parameters_in t) _ a) (each_back (SameAt u' normals grounds) (parameters_in t) _ b) q.1 in
          λ i. first i ∷ rest i
      values_alike u u' [] (t ∷ ts) h a b k = absurd (true≢false (sym h))
      values_alike u u' (None ∷ ss) [] h a b k = absurd (true≢false (sym h))
      values_alike u u' (Some x ∷ ss) [] h a b k = absurd (true≢false (sym h))

      one_way : (u u' : World) → IsWorld s u → (l : Literal) (p : ℕ) (x : Pattern) → l.relation ≡ Named p → x.predicate ≡ p → covers x.slots l.arguments ≡ true → Each (SameAt u normals grounds) (flat_map parameters_in l.arguments) → Each (SameAt u' normals grounds) (flat_map parameters_in l.arguments)
          → seen s u (sense_at grounds (SenseAll x)) ≡ seen s u' (sense_at grounds (SenseAll x)) → u.truth p (map (value_in u) l.arguments) ≡ true → u'.truth p (map (value_in u') l.arguments) ≡ true
      one_way u u' wu l p x named same_p c a b e t =
          let ss : List (Option Term) = map (option_map (term_at grounds)) x.slots in
          let lists : filter (u.truth x.predicate) (instances_of s u (predicate_shape s x.predicate).arguments ss) ≡ filter (u'.truth x.predicate) (instances_of s u' (predicate_shape s x.predicate).arguments ss) = cc in
          let r = all_seen_one u u' wu x.predicate ss (map (value_in u) l.arguments) (covered u x.slots l.arguments c a) lists (ap (λ q. u.truth q (map (value_in u) l.arguments)) same_p ∙ t) in
          sym ((λ i. u'.truth (same_p i) (values_alike u u' x.slots l.arguments c a b r.1 i))) ∙ r.0

      pub sensed_all : (l : Literal) → list_any (senses_all l l.relation) sc.senses ≡ true → arguments_stable s d acts normals (flat_map parameters_in l.arguments) ≡ true → true_in new (literal_at normals l) ≡ true_in new' (literal_at normals l)
      sensed_all l h stable =
          let f = found_in (senses_all l l.relation) sc.senses h in
          let a = normal_arguments (flat_map parameters_in l.arguments) stable in
          true_in-literal_at new normals l ∙ by_sense l.relation refl f.0 f.2 (sense_alike f.0 f.1) a.0 a.1 ∙ sym (true_in-literal_at new' normals l)
        where
          by_sense : (r : Relation) → l.relation ≡ r → (x : Sense) → senses_all l r x ≡ true → seen s new (sense_at grounds x) ≡ seen s new' (sense_at grounds x) → Each (SameAt new normals grounds) (flat_map parameters_in l.arguments) → Each (SameAt new' normals grounds) (flat_map parameters_in l.arguments)
              → signed l.positive (relates new l.relation (map (value_in new) l.arguments)) ≡ signed l.positive (relates new' l.relation (map (value_in new') l.arguments))
          by_sense (Named p) named (SenseAll x) k e a b =
              let c = and_parts (x.predicate == p) _ k in
              let same_p = eqb-true x.predicate p c.0 in
              ap (λ r. signed l.positive (relates new r (map (value_in new) l.arguments))) named
              ∙ ap (signed l.positive) (same_bool (new.truth p (map (value_in new) l.arguments)) (new'.truth p (map (value_in new') l.arguments)) (one_way new new' i l p x named same_p c.1 a b e) (one_way new' new i' l p x named same_p c.1 b a (sym e)))
              ∙ sym (ap (λ r. signed l.positive (relates new' r (map (value_in new') l.arguments))) named)
          by_sense Equality named (SenseAll x) k e a b = absurd (true≢false (sym k))
          by_sense (Named p) named (SenseWhether c) k e a b = absurd (true≢false (sym k))
          by_sense (Named p) named (SenseValue t) k e a b = absurd (true≢false (sym k))
          by_sense Equality named (SenseWhether c) k e a b = absurd (true≢false (sym k))
          by_sense Equality named (SenseValue t) k e a b = absurd (true≢false (sym k))
