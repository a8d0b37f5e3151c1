-- What conditional effects and assignments tell two worlds alike, and the third law: databases stay true of two worlds through an action.
use Rattle.std.proofs.Common.{◌≡◌, ◌||◌, ◌==◌, ℕ, Bool, true, false, cond, not, is_some, List, [], ◌∷◌, map, filter, filter_map, flat_map, Some, None, unwrap_or, refl, sym, ap, ◌∙◌, ⊎_elim, true≢false, append-nil}
use Rattle.std.specs.List.{list_any, list_all}
use Rattle.std.specs.Option.{option_map_or}
use Rattle.std.specs.Cmp.{Equal-is}
use Rattle.std.specs.FinMap.{slice_cmp-IsAntisymmetric}
use Rattle.std.proofs.lemmas.Bool.{or_cases, and_parts, and_from, and_left, eq-eqb, not-true, cond-true, cond-false}
use Rattle.std.proofs.lemmas.Option.{none-some, same_Some}
use Rattle.pks_terms.specs.Sets.{Each, IsIn, with_later, set_of}
use Rattle.pks_terms.specs.Syntax.{Object, Parameter, Apply, Inner, Term, Relation, Named, Equality, Literal, negated, affirmed, denied}
use Rattle.pks_terms.specs.Orders.{term_cmp, literal_cmp, literal_eq, conj_cmp, in_order, literal, number_of, arguments_of}
use Rattle.pks_terms.specs.Signatures.{Signature}
use Rattle.pks_terms.specs.Worlds.{World, inner_value, value_of, relates, signed, true_in, all_true_in}
use Rattle.pks_terms.specs.Databases.{entry_cmp, Five, normal, inner_normal, normal_literal}
use Rattle.pks_terms.specs.Meaning.{IsWorld, Meets, IsTrueIn, IsTrueOf}
use Rattle.pks_terms.specs.Closure.{normal_conj}
use Rattle.pks_terms.specs.Queries.{Plain, Know, KnowWhether, KnowValue, known_value, known_whether, answers_plain}
use Rattle.pks_terms.specs.Actions.{Target, Set, Unset, Clear, Assign, Effect, Item, ItemKf, ItemKw, ItemKv, ItemLcw, Add, Schema, argument, inner_at, term_at, literal_at, conj_at, target_at, effect_at, sense_at, plain_at, fires, written_truth, last_written, applied_to, observed}
use Rattle.pks_terms.specs.Spoiling.{is_stable, are_stable}
use Rattle.pks_terms.specs.Justified.{J3, J4, J5, J6, J7, asks_whether, asks_value, is_given_whether, is_given_value, is_given_either_way, is_given, are_given, is_plain_term, senses_all, senses_whether, senses_value, given_of, alone_case, whether_case, item_case, case_of, is_empty_list, is_unconditional, is_place, value_assigned, is_plain_value, assigns_known, is_target_on, is_about, single, is_decided_by, decides}
use Rattle.pks_terms.specs.Typed.{AreJustified}
use Rattle.pks_terms.specs.Branching.{is_allowed}
use Rattle.pks_terms.specs.Progress.{parameters_in, conj_parameters, arguments_stable, place_at, has_stable_arguments, added_formula, added_value, formulas_added, values_added, regions_added, literals_added, is_applied_in, progressed}
use Rattle.pks_terms.proofs.ListLaws.{each_added, each_set_of, each_in, each_filter, each_flat_map, each_from_all, found, found_in, map-map, and_true, all_same}
use Rattle.pks_terms.proofs.OrderLaws.{same_term, same_literal, literal_cmp_tells}
use Rattle.pks_laws.proofs.Values.{values-normal}
use Rattle.pks_laws.proofs.Holding.{true_in-negated, holds_true, same_objects_itself}
use Rattle.pks_laws.proofs.Answering.{known_value_alike, known_whether_alike}
use Rattle.pks_laws.proofs.Changing.{value_of-term_of, stable_values}
use Rattle.pks_laws.proofs.PuttingIn.{true_in-literal_at, all_true_in-conj_at}
use Rattle.pks_laws.proofs.Justifying.{MadeSo, made, given_holds}
use Rattle.pks_laws.proofs.Progressing.{given_answered, kept_known, kept_groups, kept_regions}
use Rattle.pks_laws.proofs.Adding.{place_values, literals_added_true, regions_added_true}
use Rattle.pks_laws.proofs.Sensing.{kept_whether, kept_values, sensed_whether, sensed_value, sensed_all}

signed_alike : (a b c : Bool) → signed a b ≡ signed a c → b ≡ c
signed_alike true b c e = e
signed_alike false true true e = refl
signed_alike false true false e = sym e
signed_alike false false true e = sym e
signed_alike false false false e = refl

-- ---- the one effect on a predicate

module _ (u : World) (given : List Inner) (p : ℕ) (ds : List ℕ) where
  not_on : (t : Target) → is_target_on p t ≡ false → written_truth u p ds (target_at given t) ≡ None
  not_on (Set a) h = cond-false _ (Some true) None (and_left (a.predicate == p) _ h)
  not_on (Unset a) h = cond-false _ (Some false) None (and_left (a.predicate == p) _ h)
  not_on (Clear x) h = cond-false _ (Some false) None (and_left (x.predicate == p) _ h)
  not_on (Assign f ts v) h = refl

  abbrev on_it : Effect → Bool
  on_it e = is_target_on p e.target

  skip : (e : Effect) (x : Bool) → on_it e ≡ false → cond (fires u (effect_at given e)) (unwrap_or (written_truth u p ds (target_at given e.target)) x) x ≡ x
  skip e x h =
      elim (fires u (effect_at given e)) as (λ b. cond b (unwrap_or (written_truth u p ds (target_at given e.target)) x) x ≡ x) [ true ↦ ap (λ o. unwrap_or o x) (not_on e.target h) | false ↦ refl ]

  none_on : (es : List Effect) (x : Bool) → filter on_it es ≡ [] → last_written (written_truth u p ds) u (map (effect_at given) es) x ≡ x
  none_on [] x h = refl
  none_on (e ∷ es) x h =
      elim (on_it e) as (λ b. on_it e ≡ b → cond b (e ∷ filter on_it es) (filter on_it es) ≡ [] → last_written (written_truth u p ds) u (map (effect_at given) (e ∷ es)) x ≡ x) [
        | true ↦ λ q k. cc
        | false ↦ λ q k. ap (last_written (written_truth u p ds) u (map (effect_at given) es)) (skip e x q) ∙ none_on es x k
      ] refl h

  pub only_on : (es : List Effect) (x : Bool) (e : Effect) → single (filter on_it es) ≡ Some e → last_written (written_truth u p ds) u (map (effect_at given) es) x ≡ cond (fires u (effect_at given e)) (unwrap_or (written_truth u p ds (target_at given e.target)) x) x
  only_on [] x e h = absurd (none-some e h)
  only_on (f ∷ es) x e h =
      elim (on_it f) as (λ b. on_it f ≡ b → single (cond b (f ∷ filter on_it es) (filter on_it es)) ≡ Some e → last_written (written_truth u p ds) u (map (effect_at given) (f ∷ es)) x ≡ cond (fires u (effect_at given e)) (unwrap_or (written_truth u p ds (target_at given e.target)) x) x) [
        | false ↦ λ q k. ap (last_written (written_truth u p ds) u (map (effect_at given) es)) (skip f x q) ∙ only_on es x e k
        | true ↦ λ q. elim (filter on_it es) as (λ r. filter on_it es ≡ r → single (f ∷ r) ≡ Some e → last_written (written_truth u p ds) u (map (effect_at given) (f ∷ es)) x ≡ cond (fires u (effect_at given e)) (unwrap_or (written_truth u p ds (target_at given e.target)) x) x) [
          | [] ↦ λ r k. none_on es _ r ∙ ap (λ (e : Effect). cond (fires u (effect_at given e)) (unwrap_or (written_truth u p ds (target_at given e.target)) x) x) (same_Some f e k)
          | g ∷ gs ↦ λ r k. absurd (none-some e k)
        ] refl
      ] refl h

-- what an effect that is about a literal writes, at the literal's own arguments
abbrev sign_written : Target → Bool
sign_written (Set a) = true
sign_written (Unset a) = false
sign_written (Clear x) = false
sign_written (Assign f ts v) = false

about_writes : (u : World) (given : List Inner) (l : Literal) (p : ℕ) (t : Target) → l.relation ≡ Named p → is_about l t ≡ true → written_truth u p (map (λ t. value_of u (term_at given t)) l.arguments) (target_at given t) ≡ Some (sign_written t)
about_writes u given l p (Set a) named h =
    let same : Named a.predicate ≡ Named p = ⊎_elim (λ e. ap (λ (k : Literal). k.relation) (same_literal (affirmed a) l e) ∙ named) (λ e. ap (λ (k : Literal). k.relation) (same_literal (affirmed a) (negated l) e) ∙ named) (or_cases (literal_eq (affirmed a) l) _ h) in
    let args : a.arguments ≡ l.arguments = ⊎_elim (λ e. ap (λ (k : Literal). k.arguments) (same_literal (affirmed a) l e)) (λ e. ap (λ (k : Literal). k.arguments) (same_literal (affirmed a) (negated l) e)) (or_cases (literal_eq (affirmed a) l) _ h) in
    cond-true _ (Some true) None (and_from _ _ (eq-eqb a.predicate p cc) (same_objects_itself _ _ (map-map (term_at given) (value_of u) a.arguments ∙ ap (map (λ t. value_of u (term_at given t))) args)))
about_writes u given l p (Unset a) named h =
    let same : Named a.predicate ≡ Named p = ⊎_elim (λ e. ap (λ (k : Literal). k.relation) (same_literal (denied a) l e) ∙ named) (λ e. ap (λ (k : Literal). k.relation) (same_literal (denied a) (negated l) e) ∙ named) (or_cases (literal_eq (denied a) l) _ h) in
    let args : a.arguments ≡ l.arguments = ⊎_elim (λ e. ap (λ (k : Literal). k.arguments) (same_literal (denied a) l e)) (λ e. ap (λ (k : Literal). k.arguments) (same_literal (denied a) (negated l) e)) (or_cases (literal_eq (denied a) l) _ h) in
    cond-true _ (Some false) None (and_from _ _ (eq-eqb a.predicate p cc) (same_objects_itself _ _ (map-map (term_at given) (value_of u) a.arguments ∙ ap (map (λ t. value_of u (term_at given t))) args)))
about_writes u given l p (Clear x) named h = absurd (true≢false (sym h))
about_writes u given l p (Assign f ts v) named h = absurd (true≢false (sym h))

module _ {s : Signature} (w w' : World) (d : Five) (m : IsTrueOf s w w' d) (given : List Inner) (sc : Schema) (same_args : (i : ℕ) → inner_value w (argument given i) ≡ inner_value w' (argument given i)) where
  abbrev deeds : List Effect
  deeds = map (effect_at given) sc.effects

  abbrev after : World
  after = applied_to w deeds

  abbrev after' : World
  after' = applied_to w' deeds

  module _ (g : List Plain) (answered : Each (λ q. answers_plain s d (plain_at given q) ≡ true) g) where
    whether_answered : (c : List Literal) → is_given_whether g c ≡ true → known_whether s d (conj_at given c) ≡ true
    unfolding is_given_whether
    whether_answered c h = let f = found (λ q. answers_plain s d (plain_at given q) ≡ true) (asks_whether c) g answered h in by_query f.0 f.1 f.2
      where
        by_query : (q : Plain) → answers_plain s d (plain_at given q) ≡ true → asks_whether c q ≡ true → known_whether s d (conj_at given c) ≡ true
        by_query (KnowWhether b) a k = ap (λ b. known_whether s d (conj_at given b)) (sym (slice_cmp-IsAntisymmetric literal_cmp_tells b c ((Equal-is (conj_cmp b c)).0 k))) ∙ a
        by_query (Know l) a k = absurd (true≢false (sym k))
        by_query (KnowValue t) a k = absurd (true≢false (sym k))

    alone : (l : Literal) → is_given_whether g (l ∷ []) ≡ true → true_in w (literal_at given l) ≡ true_in w' (literal_at given l)
    unfolding all_true_in
    alone l h = sym (and_true _) ∙ known_whether_alike w w' d m (conj_at given (l ∷ [])) (whether_answered (l ∷ []) h) ∙ and_true _

    negated_at : (u : World) (l : Literal) → true_in u (literal_at given (negated l)) ≡ not (true_in u (literal_at given l))
    unfolding literal_at literal
    negated_at u l = true_in-negated u (literal_at given l)

    not_alike : (a b : Bool) → not a ≡ not b → a ≡ b
    not_alike true true e = refl
    not_alike true false e = sym e
    not_alike false true e = sym e
    not_alike false false e = refl

    -- the worlds agree on a literal that is given either way
    either_way : (l : Literal) → is_given_either_way g l ≡ true → true_in w (literal_at given l) ≡ true_in w' (literal_at given l)
    either_way l h =
        ⊎_elim
        (λ e. ⊎_elim (known l) (λ k. not_alike _ _ (sym (negated_at w l) ∙ known (negated l) k ∙ negated_at w' l)) (or_cases (is_given g l) _ e))
        (λ e. ⊎_elim (alone l) (λ k. not_alike _ _ (sym (negated_at w l) ∙ alone (negated l) k ∙ negated_at w' l)) (or_cases (is_given_whether g (l ∷ [])) _ e))
        (or_cases (is_given g l || is_given g (negated l)) _ h)
      where
        known : (l : Literal) → is_given g l ≡ true → true_in w (literal_at given l) ≡ true_in w' (literal_at given l)
        known l k = let held = given_holds w d m.first given g answered l k in holds_true w d m.first (literal_at given l) held ∙ sym (holds_true w' d m.second (literal_at given l) held)

    condition_alike : (c : List Literal) → (is_given_whether g c || list_all (is_given_either_way g) c) ≡ true → all_true_in w (conj_at given c) ≡ all_true_in w' (conj_at given c)
    condition_alike c h =
        ⊎_elim (λ k. known_whether_alike w w' d m (conj_at given c) (whether_answered c k))
        (λ k. all_true_in-conj_at w given c ∙ all_same (λ l. true_in w (literal_at given l)) (λ l. true_in w' (literal_at given l)) c (each_from_all (λ l. true_in w (literal_at given l) ≡ true_in w' (literal_at given l)) (is_given_either_way g) either_way c k) ∙ sym (all_true_in-conj_at w' given c))
        (or_cases (is_given_whether g c) _ h)

    value_answered : (t : Term) → is_given_value g t ≡ true → known_value d (term_at given t) ≡ true
    unfolding is_given_value
    value_answered t h = let f = found (λ q. answers_plain s d (plain_at given q) ≡ true) (asks_value t) g answered h in by_query f.0 f.1 f.2
      where
        by_query : (q : Plain) → answers_plain s d (plain_at given q) ≡ true → asks_value t q ≡ true → known_value d (term_at given t) ≡ true
        by_query (KnowValue u) a k = ap (λ u. known_value d (term_at given u)) (sym (same_term u t k)) ∙ a
        by_query (Know l) a k = absurd (true≢false (sym k))
        by_query (KnowWhether c) a k = absurd (true≢false (sym k))

    plain_value_alike : (t : Term) → is_plain_value g t ≡ true → value_of w (term_at given t) ≡ value_of w' (term_at given t)
    plain_value_alike t h = ⊎_elim (plain t) (λ k. known_value_alike w w' d m (term_at given t) (value_answered t k)) (or_cases (is_plain_term t) _ h)
      where
        plain : (t : Term) → is_plain_term t ≡ true → value_of w (term_at given t) ≡ value_of w' (term_at given t)
        plain (Object e) k = unfold value_of in refl
        plain (Parameter i) k = value_of-term_of w (argument given i) ∙ same_args i ∙ sym (value_of-term_of w' (argument given i))
        plain (Apply f ts) k = absurd (true≢false (sym k))

    -- the literal that one conditional effect decides
    decided_alike : (l : Literal) (p : ℕ) → l.relation ≡ Named p → (e : Effect) → single (filter (λ e. is_target_on p e.target) sc.effects) ≡ Some e → decides g l e ≡ true
        → after.truth p (map (λ t. value_of w (term_at given t)) l.arguments) ≡ after'.truth p (map (λ t. value_of w' (term_at given t)) l.arguments)
    unfolding applied_to
    decided_alike l p named e one h =
        let a = and_parts (is_about l e.target) _ h in
        let b = and_parts (not (is_unconditional e)) _ a.1 in
        let c = and_parts (is_given_either_way g l) _ b.1 in
        let same : w.truth p (map (λ t. value_of w (term_at given t)) l.arguments) ≡ w'.truth p (map (λ t. value_of w' (term_at given t)) l.arguments) =
        signed_alike l.positive _ _ (sym (ap (λ r. signed l.positive (relates w r (map (λ t. value_of w (term_at given t)) l.arguments))) named) ∙ sym (true_in-literal_at w given l) ∙ either_way l c.0 ∙ true_in-literal_at w' given l ∙ ap (λ r. signed l.positive (relates w' r (map (λ t. value_of w' (term_at given t)) l.arguments))) named) in
        let ds : List ℕ = map (λ t. value_of w (term_at given t)) l.arguments in
        let ds' : List ℕ = map (λ t. value_of w' (term_at given t)) l.arguments in
        only_on w given p ds sc.effects (w.truth p ds) e one
        ∙ ap (λ o. cond (fires w (effect_at given e)) (unwrap_or o (w.truth p ds)) (w.truth p ds)) (about_writes w given l p e.target named a.0)
        ∙ (λ i. cond (condition_alike e.condition c.1 i) (sign_written e.target) (same i))
        ∙ sym (ap (λ o. cond (fires w' (effect_at given e)) (unwrap_or o (w'.truth p ds')) (w'.truth p ds')) (about_writes w' given l p e.target named a.0))
        ∙ sym (only_on w' given p ds' sc.effects (w'.truth p ds') e one)

    decided_true : (l : Literal) (r : Relation) → l.relation ≡ r → is_decided_by g l r sc.effects ≡ true → are_stable s d deeds (normal_literal d.kf (literal_at given l)).arguments ≡ true → true_in after (normal_literal d.kf (literal_at given l)) ≡ true_in after' (normal_literal d.kf (literal_at given l))
    unfolding normal_literal literal_at literal true_in
    decided_true l (Named p) named h stable =
        let values : (u : World) → IsTrueIn s u d → map (value_of (applied_to u deeds)) (normal_literal d.kf (literal_at given l)).arguments ≡ map (λ t. value_of u (term_at given t)) l.arguments = λ u t.
        stable_values u d t deeds (normal_literal d.kf (literal_at given l)).arguments stable
        ∙ ap (map (value_of u)) (ap (λ r. in_order r (map (normal d.kf) (in_order r (map (term_at given) l.arguments)))) named)
        ∙ values-normal u d.kf t.known (map (term_at given) l.arguments) ∙ map-map (term_at given) (value_of u) l.arguments in
        elim (single (filter (λ e. is_target_on p e.target) sc.effects)) as (λ o. single (filter (λ e. is_target_on p e.target) sc.effects) ≡ o → option_map_or (decides g l) o false ≡ true
        → signed l.positive (relates after l.relation (map (value_of after) (normal_literal d.kf (literal_at given l)).arguments)) ≡ signed l.positive (relates after' l.relation (map (value_of after') (normal_literal d.kf (literal_at given l)).arguments))) [
          | None ↦ λ q k. absurd (true≢false (sym k))
          | Some e ↦ λ q k.
              (λ i. signed l.positive (relates after (named i) (values w m.first i))) ∙ ap (signed l.positive) (decided_alike l p named e q k) ∙ sym (λ i. signed l.positive (relates after' (named i) (values w' m.second i)))
        ] refl h
    decided_true l Equality named h stable = absurd (true≢false (sym h))

    -- the place of an assignment whose value is known
    assigned_alike : (t : Term) (q : Effect × List Effect) → IsIn q (with_later sc.effects) → assigns_known g t q ≡ true → has_stable_arguments s d deeds (place_at d.kf given t) ≡ true → value_of after (place_at d.kf given t) ≡ value_of after' (place_at d.kf given t)
    assigned_alike t q i h stable =
        let a = and_parts (is_place t q.0.target) _ h in
        let b = and_parts (is_unconditional q.0) _ a.1 in
        let c = and_parts (is_plain_value g (value_assigned q.0.target)) _ b.1 in
        let fires_now : are_given g q.0.condition ≡ true = nothing_given q.0.condition b.0 in
        one w m.first q.0.target a.0 (made w d m.first given g answered sc.effects q i fires_now (not-true _ c.1))
        ∙ plain_value_alike (value_assigned q.0.target) c.0
        ∙ sym (one w' m.second q.0.target a.0 (made w' d m.second given g answered sc.effects q i fires_now (not-true _ c.1)))
      where
        nothing_given : (c : List Literal) → is_empty_list c ≡ true → are_given g c ≡ true
        nothing_given [] k = refl
        nothing_given (l ∷ ls) k = absurd (true≢false (sym k))

        one : (u : World) (n : IsTrueIn s u d) (x : Target) → is_place t x ≡ true → MadeSo u d n given g answered (applied_to u deeds) x → value_of (applied_to u deeds) (place_at d.kf given t) ≡ value_of u (term_at given (value_assigned x))
        one u n (Assign f ts v) k made_so =
            unfold value_of in
            ap ((applied_to u deeds).value (number_of t)) (place_values u d n given sc.effects (arguments_of t) stable)
            ∙ ap (λ y. (applied_to u deeds).value (number_of y) (map (inner_value u) (map (inner_at given) (arguments_of y)))) (sym (same_term (Apply f ts) t k))
            ∙ made_so
        one u n (Set a) k made_so = absurd (true≢false (sym k))
        one u n (Unset a) k made_so = absurd (true≢false (sym k))
        one u n (Clear x) k made_so = absurd (true≢false (sym k))

-- ---- what the adds give

module _ (s : Signature) (w w' : World) (d : Five) (m : IsTrueOf s w w' d) (given : List Inner) (sc : Schema) (same_args : (i : ℕ) → inner_value w (argument given i) ≡ inner_value w' (argument given i)) where
  abbrev grounds_of : List Inner
  grounds_of = map (λ t. Object (inner_value w t)) given

  abbrev done : List Effect
  done = map (effect_at given) sc.effects

  abbrev w1 : World
  w1 = applied_to w done

  abbrev w1' : World
  w1' = applied_to w' done

  abbrev C : List Literal → Type 0
  C c = all_true_in w1 c ≡ all_true_in w1' c

  abbrev V : Term → Type 0
  V t = value_of w1 t ≡ value_of w1' t

  module _ (i : IsWorld s w1) (i' : IsWorld s w1') (seen_alike : observed s w1 (map (sense_at grounds_of) sc.senses) ≡ observed s w1' (map (sense_at grounds_of) sc.senses)) (a : Add) (answered : Each (λ q. answers_plain s d (plain_at given q) ≡ true) (given_of sc a)) where
    abbrev normals_of : List Inner
    normals_of = map (inner_normal d.kf) given

    sensed_formula : (c : List Literal) → (arguments_stable s d done normals_of (conj_parameters c) ≡ true → C (conj_at normals_of c)) → Each C (cond (arguments_stable s d done normals_of (conj_parameters c)) (conj_at normals_of c ∷ []) [])
    sensed_formula c f =
        elim (arguments_stable s d done normals_of (conj_parameters c)) as (λ b. arguments_stable s d done normals_of (conj_parameters c) ≡ b → Each C (cond b (conj_at normals_of c ∷ []) [])) [ true ↦ λ q. (f q, tt) | false ↦ λ q. tt ] refl

    sensed_alone : (l : Literal) → list_any (senses_all l l.relation) sc.senses ≡ true → arguments_stable s d done normals_of (conj_parameters (l ∷ [])) ≡ true → C (conj_at normals_of (l ∷ []))
    unfolding all_true_in
    sensed_alone l h stable =
        and_true _ ∙ sensed_all s w w' d m given sc same_args seen_alike i i' l h (ap (arguments_stable s d done normals_of) (sym (append-nil (flat_map parameters_in l.arguments))) ∙ stable) ∙ sym (and_true _)

    world_formula : (l : Literal) → is_decided_by (given_of sc a) l l.relation sc.effects ≡ true → Each C (added_formula s d done given normals_of J5 (l ∷ []))
    unfolding all_true_in
    world_formula l h =
        elim (list_all (λ l. are_stable s d done l.arguments) (normal_conj d.kf (conj_at given (l ∷ [])))) as (λ b. list_all (λ l. are_stable s d done l.arguments) (normal_conj d.kf (conj_at given (l ∷ []))) ≡ b → Each C (cond b (normal_conj d.kf (conj_at given (l ∷ [])) ∷ []) [])) [
          | true ↦ λ q. (and_true _ ∙ decided_true w w' d m given sc same_args (given_of sc a) answered l l.relation refl h (and_parts (are_stable s d done (normal_literal d.kf (literal_at given l)).arguments) true q).0 ∙ sym (and_true _), tt)
          | false ↦ λ q. tt
        ] refl

    alone_add : (c : List Literal) → Each C (option_map_or (λ k. added_formula s d done given normals_of k c) (alone_case (given_of sc a) sc c) [])
    alone_add [] = tt
    alone_add (l ∷ x ∷ c) = tt
    alone_add (l ∷ []) =
        elim (list_any (senses_all l l.relation) sc.senses) as (λ b. list_any (senses_all l l.relation) sc.senses ≡ b
        → Each C (option_map_or (λ k. added_formula s d done given normals_of k (l ∷ [])) (cond b (Some J4) (cond (is_decided_by (given_of sc a) l l.relation sc.effects) (Some J5) None)) [])) [
          | true ↦ λ q. sensed_formula (l ∷ []) (sensed_alone l q)
          | false ↦ λ q.
              elim (is_decided_by (given_of sc a) l l.relation sc.effects) as (λ b. is_decided_by (given_of sc a) l l.relation sc.effects ≡ b → Each C (option_map_or (λ k. added_formula s d done given normals_of k (l ∷ [])) (cond b (Some J5) None) [])) [
                | true ↦ λ k. world_formula l k
                | false ↦ λ k. tt
              ] refl
        ] refl

    formula_add : (c : List Literal) → Each C (option_map_or (λ k. added_formula s d done given normals_of k c) (whether_case (given_of sc a) sc c) [])
    formula_add c =
        elim (list_any (senses_whether c) sc.senses) as (λ b. list_any (senses_whether c) sc.senses ≡ b → Each C (option_map_or (λ k. added_formula s d done given normals_of k c) (cond b (Some J3) (alone_case (given_of sc a) sc c)) [])) [
          | true ↦ λ q. sensed_formula c (sensed_whether s w w' d m given sc same_args seen_alike c q)
          | false ↦ λ q. alone_add c
        ] refl

    value_add : (t : Term) → Each V (option_map_or (λ k. added_value s d done given normals_of k t) (item_case (given_of sc a) sc (ItemKv t)) [])
    value_add t =
        elim (list_any (senses_value t) sc.senses) as (λ b. list_any (senses_value t) sc.senses ≡ b
        → Each V (option_map_or (λ k. added_value s d done given normals_of k t) (cond b (Some J6) (cond (list_any (assigns_known (given_of sc a) t) (with_later sc.effects)) (Some J7) None)) [])) [
          | true ↦ λ q.
              elim (arguments_stable s d done normals_of (parameters_in t)) as (λ b. arguments_stable s d done normals_of (parameters_in t) ≡ b → Each V (cond b (term_at normals_of t ∷ []) [])) [
                | true ↦ λ k. (sensed_value s w w' d m given sc same_args seen_alike t q k, tt)
                | false ↦ λ k. tt
              ] refl
          | false ↦ λ q.
              elim (list_any (assigns_known (given_of sc a) t) (with_later sc.effects)) as (λ b. list_any (assigns_known (given_of sc a) t) (with_later sc.effects) ≡ b → Each V (option_map_or (λ k. added_value s d done given normals_of k t) (cond b (Some J7) None) [])) [
                | false ↦ λ k. tt
                | true ↦ λ k.
                    let f = found_in (assigns_known (given_of sc a) t) (with_later sc.effects) k in
                    elim (has_stable_arguments s d done (place_at d.kf given t)) as (λ b. has_stable_arguments s d done (place_at d.kf given t) ≡ b → Each V (cond b (place_at d.kf given t ∷ []) [])) [
                      | true ↦ λ r. (assigned_alike w w' d m given sc same_args (given_of sc a) answered t f.0 f.1 f.2 r, tt)
                      | false ↦ λ r. tt
                    ] refl
              ] refl
        ] refl

    formulas_added_alike : (x : Item) → Each C (formulas_added s d done given normals_of (item_case (given_of sc a) sc x) x)
    formulas_added_alike (ItemKw c) = formula_add c
    formulas_added_alike (ItemKf l) = tt
    formulas_added_alike (ItemKv t) = tt
    formulas_added_alike (ItemLcw p) = tt

    values_added_alike : (x : Item) → Each V (values_added s d done given normals_of (item_case (given_of sc a) sc x) x)
    values_added_alike (ItemKv t) = value_add t
    values_added_alike (ItemKf l) = tt
    values_added_alike (ItemKw c) = tt
    values_added_alike (ItemLcw p) = tt

-- ---- the third law

module _ {s : Signature} (w : World) (d : Five) (m : IsTrueIn s w d) (given : List Inner) (sc : Schema) (allowed : is_allowed s d sc given ≡ true) (justified : AreJustified sc) (i : IsWorld s (applied_to w (map (effect_at given) sc.effects))) where
  progressed_true_in : IsTrueIn s (applied_to w (map (effect_at given) sc.effects)) (progressed s d sc given)
  unfolding progressed
  progressed_true_in =
      let es : List Effect = map (effect_at given) sc.effects in
      let after : World = applied_to w es in
      let T : Literal → Type 0 = λ l. true_in after l ≡ true in
      let adds : List Add = filter (is_applied_in s d given) sc.adds in
      let at : (a : Add) → IsIn a adds → (is_applied_in s d given a ≡ true) × (is_some (case_of sc a) ≡ true) = λ a j.
      each_in (λ a. (is_applied_in s d given a ≡ true) × (is_some (case_of sc a) ≡ true)) adds a (each_filter (λ a. (is_applied_in s d given a ≡ true) × (is_some (case_of sc a) ≡ true)) (is_applied_in s d given) sc.adds (λ a j h. (h, each_in (λ a. is_some (case_of sc a) ≡ true) sc.adds a justified j))) j in
      record {
        world = i;
        known = each_added T literal_cmp (filter (λ l. not (Rattle.pks_terms.specs.Spoiling.spoils s d es l)) d.kf) (flat_map (λ a. literals_added s d es given sc a a.item) adds) (kept_known w d m es)
            (each_flat_map T (λ a. literals_added s d es given sc a a.item) adds (λ a j. let c = at a j in literals_added_true w d m given sc.effects sc refl a (given_answered s d sc given a allowed c.0) c.1 a.item refl));
        groups = kept_groups w d m es;
        regions = each_added (Meets after) entry_cmp (set_of entry_cmp (filter_map (Rattle.pks_terms.specs.Progress.kept_entry s d es) d.lcw)) (flat_map (λ a. regions_added s d es given a.item) adds)
            (each_set_of (Meets after) entry_cmp (filter_map (Rattle.pks_terms.specs.Progress.kept_entry s d es) d.lcw) (kept_regions w d m es))
            (each_flat_map (Meets after) (λ a. regions_added s d es given a.item) adds (λ a j. let c = at a j in regions_added_true w d m given sc.effects sc refl a (given_answered s d sc given a allowed c.0) c.1 a.item refl));
      }

pub progressed_true : (s : Signature) (w w' : World) (d : Five) → IsTrueOf s w w' d → (given : List Inner) (sc : Schema) → ((i : ℕ) → inner_value w (argument given i) ≡ inner_value w' (argument given i))
    → is_allowed s d sc given ≡ true → AreJustified sc → IsWorld s (applied_to w (map (effect_at given) sc.effects)) → IsWorld s (applied_to w' (map (effect_at given) sc.effects))
    → observed s (applied_to w (map (effect_at given) sc.effects)) (map (sense_at (map (λ t. Object (inner_value w t)) given)) sc.senses) ≡ observed s (applied_to w' (map (effect_at given) sc.effects)) (map (sense_at (map (λ t. Object (inner_value w t)) given)) sc.senses)
    → IsTrueOf s (applied_to w (map (effect_at given) sc.effects)) (applied_to w' (map (effect_at given) sc.effects)) (progressed s d sc given)
unfolding progressed case_of
progressed_true s w w' d m given sc same_args allowed justified i i' seen_alike =
    let es : List Effect = map (effect_at given) sc.effects in
    let v : World = applied_to w es in
    let v' : World = applied_to w' es in
    let adds : List Add = filter (is_applied_in s d given) sc.adds in
    let at : (a : Add) → IsIn a adds → is_applied_in s d given a ≡ true = λ a j. each_in (λ a. is_applied_in s d given a ≡ true) adds a (each_filter (λ a. is_applied_in s d given a ≡ true) (is_applied_in s d given) sc.adds (λ a j h. h)) j in
    let F : List Literal → Type 0 = λ c. all_true_in v c ≡ all_true_in v' c in
    let X : Term → Type 0 = λ t. value_of v t ≡ value_of v' t in
    record {
      first = progressed_true_in w d m.first given sc allowed justified i;
      second = progressed_true_in w' d m.second given sc allowed justified i';
      whether = each_added F conj_cmp (filter (Rattle.pks_terms.specs.Progress.is_untouched s d es) d.kw) (flat_map (λ a. formulas_added s d es given (map (inner_normal d.kf) given) (case_of sc a) a.item) adds) (kept_whether s w w' d m given sc same_args)
          (each_flat_map F (λ a. formulas_added s d es given (map (inner_normal d.kf) given) (case_of sc a) a.item) adds (λ a j. formulas_added_alike s w w' d m given sc same_args i i' seen_alike a (given_answered s d sc given a allowed (at a j)) a.item));
      values = each_added X term_cmp (filter (is_stable s d es) d.kv) (flat_map (λ a. values_added s d es given (map (inner_normal d.kf) given) (case_of sc a) a.item) adds) (kept_values s w w' d m given sc same_args)
          (each_flat_map X (λ a. values_added s d es given (map (inner_normal d.kf) given) (case_of sc a) a.item) adds (λ a j. values_added_alike s w w' d m given sc same_args i i' seen_alike a (given_answered s d sc given a allowed (at a j)) a.item));
    }
