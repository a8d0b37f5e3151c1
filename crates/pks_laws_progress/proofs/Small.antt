-- Literals in which all numbers and lengths are below a bound, and the rules that lead to no others.
use Rattle.std.proofs.Common.{◌≡◌, ◌++◌, ◌<◌, ◌≤◌, ℕ, suc, Bool, true, false, not, cond, List, [], ◌∷◌, length, map, filter, flat_map, slice_get, Option, Some, None, refl, sym, ap, subst, inl, inr, ⊎_elim, true≢false, is_lt, arith}
use Rattle.std.specs.List.{list_all}
use Rattle.std.specs.Option.{option_map_or}
use Rattle.pks_terms.specs.Sets.{Each, IsIn, all_some, one_replaced, with_others, with_later, choices_from}
use Rattle.pks_terms.specs.Syntax.{Form, Object, Parameter, Apply, Inner, Term, object, term_of, as_object, Relation, Named, Equality, Literal, negated}
use Rattle.pks_terms.specs.Orders.{term_cmp, in_order, literal, equation}
use Rattle.pks_terms.specs.Signatures.{Shape, Signature, objects_of, object_is_of, fits_type, range_of}
use Rattle.pks_terms.specs.Databases.{Five, values_at, holds}
use Rattle.pks_terms.specs.Closure.{inner_steps, term_steps, by_value, by_member, by_group, is_application, applications_in, is_last_left, by_range, additions}
use Rattle.pks_terms.specs.Actions.{Target, Set, Unset, Clear, Assign, Effect}
use Rattle.pks_terms.specs.Spoiling.{is_stable, are_stable, spoils}
use Rattle.pks_terms.specs.Settling.{inner_forms, argument_forms, term_forms, stable_forms, target_forms, lasting, lasted, fired, must_have_fired, cannot_have_fired}
use Rattle.pks_terms.proofs.ListLaws.{each_in, each_of, each_append, each_map, each_filter, each_kept, each_flat_map, each_weaker, in_mapped, in_appended, in_flat_mapped, in_filtered}
use Rattle.pks_terms.proofs.Types.{objects_are_of}
use Rattle.pks_laws.proofs.Least.{value_literal}
use Rattle.pks_laws.proofs.BelongingSteps.{declared}
use Rattle.pks_laws.proofs.BelongingHistories.{later_each, other_each}

abbrev pub FormSmall : {A : Type 0} → (A → Type 0) → ℕ → Form A → Type 0
FormSmall P b (Object d) = d < b
FormSmall P b (Parameter i) = i < b
FormSmall P b (Apply f ts) = (f < b) × (length ts ≤ b) × Each P ts

abbrev pub InnerSmall : ℕ → Inner → Type 0
InnerSmall b = FormSmall (λ d. d < b) b

abbrev pub TermSmall : ℕ → Term → Type 0
TermSmall b = FormSmall (InnerSmall b) b

abbrev pub RelationSmall : ℕ → Relation → Type 0
RelationSmall b (Named p) = p < b
RelationSmall b Equality = Unit {0}

abbrev pub LiteralSmall : ℕ → Literal → Type 0
LiteralSmall b l = RelationSmall b l.relation × (length l.arguments ≤ b) × Each (TermSmall b) l.arguments

abbrev pub TargetSmall : ℕ → Target → Type 0
TargetSmall b (Set a) = (a.predicate < b) × (length a.arguments ≤ b) × Each (TermSmall b) a.arguments
TargetSmall b (Unset a) = (a.predicate < b) × (length a.arguments ≤ b) × Each (TermSmall b) a.arguments
TargetSmall b (Clear x) = Unit {0}
TargetSmall b (Assign f ts value) = ((f < b) × (length ts ≤ b) × Each (InnerSmall b) ts) × TermSmall b value

abbrev pub EffectSmall : ℕ → Effect → Type 0
EffectSmall b e = Each (LiteralSmall b) e.condition × TargetSmall b e.target

-- the groups alone count beside the known literals
abbrev pub FiveSmall : ℕ → Five → Type 0
FiveSmall b d = Each (LiteralSmall b) d.kf × Each (Each (LiteralSmall b)) d.kx

-- ---- lists of small ones

replaced_small : {X : Type 0} (P : X → Type 0) (step : X → List X) → ((x : X) → P x → Each P (step x)) → (xs ys : List X) → Each P xs → IsIn ys (one_replaced step xs) → (length ys ≡ length xs) × Each P ys
replaced_small P step f [] ys a i = absurd i
replaced_small {X} P step f (x ∷ xs) ys a i =
    ⊎_elim
    (λ j. let r = in_mapped (λ y. y ∷ xs) (step x) ys j in subst (λ (zs : List X). (length zs ≡ suc (length xs)) × Each P zs) r.2 (refl, (each_in P (step x) r.0 (f x a.0) r.1, a.1)))
    (λ j. let r = in_mapped (λ zs. x ∷ zs) (one_replaced step xs) ys j in let q = replaced_small P step f xs r.0 a.1 r.1 in subst (λ (zs : List X). (length zs ≡ suc (length xs)) × Each P zs) r.2 (ap suc q.0, (a.0, q.1)))
    (in_appended (map (λ y. y ∷ xs) (step x)) (map (λ zs. x ∷ zs) (one_replaced step xs)) ys i)

choices_small : {X : Type 0} (P : X → Type 0) (forms : X → List X) → ((x : X) → P x → Each P (forms x)) → (xs ys : List X) → Each P xs → IsIn ys (choices_from (map forms xs)) → (length ys ≡ length xs) × Each P ys
choices_small {X} P forms f [] ys a i = ⊎_elim (λ e. subst (λ (zs : List X). (length zs ≡ 0) × Each P zs) e (refl, tt)) (λ j. absurd j) i
choices_small {X} P forms f (x ∷ xs) ys a i =
    let r = in_flat_mapped (λ z. map (λ zs. z ∷ zs) (choices_from (map forms xs))) (forms x) ys i in
    let q = in_mapped (λ zs. r.0 ∷ zs) (choices_from (map forms xs)) ys r.2 in
    let rest = choices_small P forms f xs q.0 a.1 q.1 in
    subst (λ (zs : List X). (length zs ≡ suc (length xs)) × Each P zs) q.2 (ap suc rest.0, (each_in P (forms x) r.0 (f x a.0) r.1, rest.1))

ordered_small : (P : Term → Type 0) (r : Relation) (ts : List Term) → Each P ts → (length (in_order r ts) ≡ length ts) × Each P (in_order r ts)
ordered_small P Equality (t ∷ u ∷ []) a =
    elim (is_lt (term_cmp t u)) as (λ c. (length (cond c (u ∷ t ∷ []) (t ∷ u ∷ [])) ≡ 2) × Each P (cond c (u ∷ t ∷ []) (t ∷ u ∷ []))) [ true ↦ (refl, (a.1.0, (a.0, tt))) | false ↦ (refl, a) ]
ordered_small P Equality [] a = (refl, a)
ordered_small P Equality (t ∷ []) a = (refl, a)
ordered_small P Equality (t ∷ u ∷ v ∷ ts) a = (refl, a)
ordered_small P (Named p) ts a = (refl, a)

module _ (b : ℕ) (two : 2 ≤ b) where
  literal_small : (r : Relation) (ts : List Term) (sign : Bool) → RelationSmall b r → length ts ≤ b → Each (TermSmall b) ts → LiteralSmall b (literal r ts sign)
  unfolding literal
  literal_small r ts sign h l a = let o = ordered_small (TermSmall b) r ts a in (h, subst (λ n. n ≤ b) (sym o.0) l, o.1)

  equation_small : (t u : Term) → TermSmall b t → TermSmall b u → LiteralSmall b (equation t u)
  equation_small t u h k = literal_small Equality (t ∷ u ∷ []) true tt two (h, (k, tt))

  term_of_small : (u : Inner) → InnerSmall b u → TermSmall b (term_of u)
  term_of_small (Object d) h = h
  term_of_small (Parameter i) h = h
  term_of_small (Apply f ds) h = (h.0, subst (λ n. n ≤ b) (sym (map_length ds)) h.1, each_map (InnerSmall b) Object ds h.2)
    where
      map_length : (ds : List ℕ) → length (map (λ d. let t : Inner = Object d in t) ds) ≡ length ds
      map_length [] = refl
      map_length (d ∷ ds) = ap suc (map_length ds)

  -- ---- by the rules of one moment

  module _ (kf : List Literal) (small : Each (LiteralSmall b) kf) where
    value_small : (f : ℕ) (ds : List ℕ) → Each (λ e. e < b) (values_at kf f ds)
    value_small f ds = each_of (λ e. e < b) (values_at kf f ds) (λ e i. (each_in (LiteralSmall b) kf _ small (value_literal kf f ds e i)).2.1.0)

    some_values_small : (f : ℕ) (o : Option (List ℕ)) → Each (λ e. e < b) (option_map_or (values_at kf f) o [])
    some_values_small f None = tt
    some_values_small f (Some ds) = value_small f ds

    inner_steps_small : (u : Inner) → InnerSmall b u → Each (InnerSmall b) (inner_steps kf u)
    inner_steps_small (Object d) h = tt
    inner_steps_small (Parameter i) h = tt
    inner_steps_small (Apply f ds) h = each_map (InnerSmall b) Object (values_at kf f ds) (value_small f ds)

    term_steps_small : (t : Term) → TermSmall b t → Each (TermSmall b) (term_steps kf t)
    unfolding term_steps
    term_steps_small (Object d) h = tt
    term_steps_small (Parameter i) h = tt
    term_steps_small (Apply f ts) h =
        each_append (TermSmall b) (map Object (option_map_or (values_at kf f) (all_some (map as_object ts)) [])) (map (Apply f) (one_replaced (inner_steps kf) ts))
        (each_map (TermSmall b) Object (option_map_or (values_at kf f) (all_some (map as_object ts)) []) (some_values_small f (all_some (map as_object ts))))
        (each_map (TermSmall b) (Apply f) (one_replaced (inner_steps kf) ts)
        (each_of (λ us. TermSmall b (Apply f us)) (one_replaced (inner_steps kf) ts)
        (λ us i. let q = replaced_small (InnerSmall b) (inner_steps kf) inner_steps_small ts us h.2 i in (h.0, subst (λ n. n ≤ b) (sym q.0) h.1, q.1))))

    by_value_small : (l : Literal) → LiteralSmall b l → Each (LiteralSmall b) (by_value kf l)
    unfolding by_value
    by_value_small l h =
        each_map (LiteralSmall b) (λ ts. literal l.relation ts l.positive) (one_replaced (term_steps kf) l.arguments)
        (each_of (λ ts. LiteralSmall b (literal l.relation ts l.positive)) (one_replaced (term_steps kf) l.arguments)
        (λ ts i. let q = replaced_small (TermSmall b) (term_steps kf) term_steps_small l.arguments ts h.2 i in literal_small l.relation ts l.positive h.0 (subst (λ n. n ≤ b) (sym q.0) h.1) q.1))

    -- ---- the forms of a target

    inner_forms_small : (u : Inner) → InnerSmall b u → Each (InnerSmall b) (inner_forms kf u)
    inner_forms_small (Object d) h = (h, tt)
    inner_forms_small (Parameter i) h = (h, tt)
    inner_forms_small (Apply f ds) h = (h, each_map (InnerSmall b) Object (values_at kf f ds) (value_small f ds))

    argument_forms_small : (ts us : List Inner) → Each (InnerSmall b) ts → IsIn us (argument_forms kf ts) → (length us ≡ length ts) × Each (InnerSmall b) us
    argument_forms_small = choices_small (InnerSmall b) (inner_forms kf) inner_forms_small

    term_forms_small : (t : Term) → TermSmall b t → Each (TermSmall b) (term_forms kf t)
    term_forms_small (Object d) h = (h, tt)
    term_forms_small (Parameter i) h = (h, tt)
    term_forms_small (Apply f ts) h =
        each_flat_map (TermSmall b) (λ us. Apply f us ∷ map Object (option_map_or (values_at kf f) (all_some (map as_object us)) [])) (argument_forms kf ts)
        (λ us i. let q = argument_forms_small ts us h.2 i in
        ((h.0, subst (λ n. n ≤ b) (sym q.0) h.1, q.1), each_map (TermSmall b) Object (option_map_or (values_at kf f) (all_some (map as_object us)) []) (some_values_small f (all_some (map as_object us)))))

  range_small : (s : Signature) → length s.objects ≤ b → (t : Term) → TermSmall b t → (e : ℕ) → IsIn e (range_of s t) → e < b
  range_small s l (Object d) h e (inl q) = subst (λ n. n < b) q h
  range_small s l (Object d) h e (inr i) = absurd i
  range_small s l (Parameter i) h e j = absurd j
  range_small s l (Apply f ts) h e i = go (slice_get s.functions f) i
    where
      below : (x : Shape) (o : Option ℕ) → slice_get s.objects e ≡ o → option_map_or (λ own. fits_type s own x.result) o false ≡ true → e < b
      below x None q k = absurd (true≢false (sym k))
      below x (Some own) q k = let d = declared s.objects e own q in omega arith

      go : (o : Option Shape) → IsIn e (option_map_or (λ (x : Shape). objects_of s x.result) o []) → e < b
      go None i = absurd i
      go (Some x) i = below x (slice_get s.objects e) refl (unfold object_is_of in objects_are_of s x.result e i)

  applications_small : (t : Term) → TermSmall b t → Each (TermSmall b) (applications_in t)
  applications_small (Object d) h = tt
  applications_small (Parameter i) h = tt
  applications_small (Apply f ts) h = (h, each_kept (TermSmall b) is_application (map term_of ts) (each_map (TermSmall b) term_of ts (each_weaker (InnerSmall b) (λ u. TermSmall b (term_of u)) term_of_small ts h.2)))

  negated_small : (ms : List Literal) → Each (LiteralSmall b) ms → Each (LiteralSmall b) (map negated ms)
  negated_small ms a = each_map (LiteralSmall b) negated ms (each_weaker (LiteralSmall b) (λ m. LiteralSmall b (negated m)) (λ m h. h) ms a)

  if_small : (c : Bool) (ls : List Literal) → Each (LiteralSmall b) ls → Each (LiteralSmall b) (cond c ls [])
  if_small true ls a = a
  if_small false ls a = tt

  pub additions_small : (s : Signature) (d : Five) → length s.objects ≤ b → FiveSmall b d → Each (LiteralSmall b) (additions s d)
  unfolding additions by_group by_range
  additions_small s d l h =
      each_append (LiteralSmall b) (flat_map (by_value d.kf) d.kf) _
      (each_flat_map (LiteralSmall b) (by_value d.kf) d.kf (λ k i. by_value_small d.kf h.0 k (each_in (LiteralSmall b) d.kf k h.0 i)))
      (each_append (LiteralSmall b) (flat_map (λ g. flat_map (by_member s d) (with_others g)) d.kx) _
      (each_flat_map (LiteralSmall b) (λ g. flat_map (by_member s d) (with_others g)) d.kx
      (λ g i. each_flat_map (LiteralSmall b) (by_member s d) (with_others g)
      (λ q j. let a = each_in (λ (q : Literal × List Literal). LiteralSmall b q.0 × Each (LiteralSmall b) q.1) (with_others g) q (other_each (LiteralSmall b) g (each_in (Each (LiteralSmall b)) d.kx g h.1 i)) j in
      each_append (LiteralSmall b) (cond (list_all (λ m. holds s d (negated m)) q.1) (q.0 ∷ []) []) (cond (holds s d q.0) (map negated q.1) []) (if_small _ (q.0 ∷ []) (a.0, tt)) (if_small _ (map negated q.1) (negated_small q.1 a.1)))))
      (each_flat_map (LiteralSmall b) (λ k. flat_map (λ t. map (λ e. equation t (object e)) (filter (is_last_left s d t (range_of s t)) (range_of s t))) (flat_map applications_in k.arguments)) d.kf
      (λ k i. each_flat_map (LiteralSmall b) (λ t. map (λ e. equation t (object e)) (filter (is_last_left s d t (range_of s t)) (range_of s t))) (flat_map applications_in k.arguments)
      (λ t j.
      let own = each_in (LiteralSmall b) d.kf k h.0 i in
      let of : TermSmall b t = each_in (TermSmall b) (flat_map applications_in k.arguments) t (each_flat_map (TermSmall b) applications_in k.arguments (λ u m. applications_small u (each_in (TermSmall b) k.arguments u own.2 m))) j in
      each_map (LiteralSmall b) (λ e. equation t (object e)) (filter (is_last_left s d t (range_of s t)) (range_of s t))
      (each_filter (λ e. LiteralSmall b (equation t (object e))) (is_last_left s d t (range_of s t)) (range_of s t) (λ e m q. equation_small t (object e) of (range_small s l t of e m)))))))

  -- ---- from moment to moment

  module _ (s : Signature) (es : List Effect) (effects : Each (EffectSmall b) es) (d : Five) (small : Each (LiteralSmall b) d.kf) where
    forms_small : (r : ℕ) (ts : List Term) (sign : Bool) → r < b → length ts ≤ b → Each (TermSmall b) ts → Each (LiteralSmall b) (map (λ us. literal (Named r) us sign) (stable_forms s d es ts))
    forms_small r ts sign h l a =
        each_map (LiteralSmall b) (λ us. literal (Named r) us sign) (stable_forms s d es ts)
        (each_of (λ us. LiteralSmall b (literal (Named r) us sign)) (stable_forms s d es ts)
        (λ us i. let q = choices_small (TermSmall b) (term_forms d.kf) (term_forms_small d.kf small) ts us a (in_filtered (are_stable s d es) (choices_from (map (term_forms d.kf) ts)) us i).0 in
        literal_small (Named r) us sign h (subst (λ n. n ≤ b) (sym q.0) l) q.1))

    target_small : (x : Target) → TargetSmall b x → Each (LiteralSmall b) (target_forms s d es x)
    target_small (Set a) h = forms_small a.predicate a.arguments true h.0 h.1 h.2
    target_small (Unset a) h = forms_small a.predicate a.arguments false h.0 h.1 h.2
    target_small (Clear x) h = tt
    target_small (Assign f ts value) h =
        each_flat_map (LiteralSmall b) (λ us. map (equation (Apply f us)) (filter (is_stable s d es) (term_forms d.kf value))) (filter (λ us. are_stable s d es (map term_of us)) (argument_forms d.kf ts))
        (λ us i. let q = argument_forms_small d.kf small ts us h.0.2 (in_filtered (λ us. are_stable s d es (map term_of us)) (argument_forms d.kf ts) us i).0 in
        each_map (LiteralSmall b) (equation (Apply f us)) (filter (is_stable s d es) (term_forms d.kf value))
        (each_weaker (TermSmall b) (λ u. LiteralSmall b (equation (Apply f us) u)) (λ u k. equation_small (Apply f us) u (h.0.0, subst (λ n. n ≤ b) (sym q.0) h.0.1, q.1) k) (filter (is_stable s d es) (term_forms d.kf value))
        (each_kept (TermSmall b) (is_stable s d es) (term_forms d.kf value) (term_forms_small d.kf small value h.1))))

    pub forward_small : Each (LiteralSmall b) (lasting s es d ++ flat_map (fired s es d) (with_later es))
    forward_small =
        each_append (LiteralSmall b) (lasting s es d) (flat_map (fired s es d) (with_later es)) (each_kept (LiteralSmall b) (λ l. not (spoils s d es l)) d.kf small)
        (each_flat_map (LiteralSmall b) (fired s es d) (with_later es)
        (λ q i. if_small _ (target_forms s d es q.0.target) (target_small q.0.target (each_in (λ (q : Effect × List Effect). EffectSmall b q.0 × Each (EffectSmall b) q.1) (with_later es) q (later_each (EffectSmall b) es effects) i).0.1)))

    pub backward_small : (after : Five) → Each (LiteralSmall b) after.kf → Each (LiteralSmall b) (lasted s es d after ++ (flat_map (must_have_fired s es d after) (with_others es) ++ flat_map (cannot_have_fired s es d after) (with_later es)))
    backward_small after h =
        each_append (LiteralSmall b) (lasted s es d after) _ (each_kept (LiteralSmall b) (λ l. not (spoils s d es (negated l))) after.kf h)
        (each_append (LiteralSmall b) (flat_map (must_have_fired s es d after) (with_others es)) _
        (each_flat_map (LiteralSmall b) (must_have_fired s es d after) (with_others es)
        (λ q i. if_small _ q.0.condition (each_in (λ (q : Effect × List Effect). EffectSmall b q.0 × Each (EffectSmall b) q.1) (with_others es) q (other_each (EffectSmall b) es effects) i).0.0))
        (each_flat_map (LiteralSmall b) (cannot_have_fired s es d after) (with_later es)
        (λ q i.
        let own = (each_in (λ (q : Effect × List Effect). EffectSmall b q.0 × Each (EffectSmall b) q.1) (with_later es) q (later_each (EffectSmall b) es effects) i).0.0 in
        if_small _ (flat_map (λ c. cond (list_all (holds s d) c.1) (negated c.0 ∷ []) []) (with_others q.0.condition))
        (each_flat_map (LiteralSmall b) (λ (c : Literal × List Literal). cond (list_all (holds s d) c.1) (negated c.0 ∷ []) []) (with_others q.0.condition)
        (λ c j. if_small (list_all (holds s d) c.1) (negated c.0 ∷ []) ((each_in (λ (c : Literal × List Literal). LiteralSmall b c.0 × Each (LiteralSmall b) c.1) (with_others q.0.condition) c (other_each (LiteralSmall b) q.0.condition own) j).0, tt))))))
