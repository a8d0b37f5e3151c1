-- Arguments with the same values, put into literals and effects, give the same truths and the same worlds.
use Rattle.std.proofs.Common.{◌≡◌, ◌&&◌, ◌==◌, ℕ, zero, suc, Bool, true, false, cond, List, [], ◌∷◌, map, flat_map, unwrap_or, Option, Some, None, option_map, refl, sym, ap, ◌∙◌}
use Rattle.std.specs.List.{list_all}
use Rattle.pks_terms.specs.Sets.{Each}
use Rattle.pks_terms.specs.Syntax.{Object, Parameter, Apply, Inner, Term, Relation, Literal, Atom}
use Rattle.pks_terms.specs.Orders.{literal_cmp, literal}
use Rattle.pks_terms.specs.Worlds.{World, inner_value, value_of, relates, signed, true_in, all_true_in}
use Rattle.pks_terms.specs.Databases.{same_objects}
use Rattle.pks_terms.specs.Meaning.{is_instance, is_value_of}
use Rattle.pks_terms.specs.Actions.{Target, Set, Unset, Clear, Assign, Effect, argument, inner_at, term_at, literal_at, conj_at, atom_at, target_at, effect_at, fires, written_truth, written_value, last_written, applied_to}
use Rattle.pks_terms.specs.Progress.{form_parameters, parameters_in, conj_parameters}
use Rattle.pks_terms.proofs.ListLaws.{each_front, each_back, each_of, map-map, all_set_of, all_alike}
use Rattle.pks_terms.proofs.OrderLaws.{literal_cmp_tells}
use Rattle.pks_laws.proofs.Holding.{relates-in_order, true_in-literal}
use Rattle.pks_laws.proofs.Changing.{value_of-term_of}

pub true_in-literal_at : (w : World) (given : List Inner) (l : Literal) → true_in w (literal_at given l) ≡ signed l.positive (relates w l.relation (map (λ t. value_of w (term_at given t)) l.arguments))
unfolding literal_at
true_in-literal_at w given l =
    true_in-literal w l.relation (map (term_at given) l.arguments) l.positive
    ∙ ap (λ ds. signed l.positive (relates w l.relation ds)) (map-map (term_at given) (value_of w) l.arguments)

pub true_in-ordered_at : (w : World) (given : List Inner) (r : Relation) (ts : List Term) (b : Bool) → true_in w (literal_at given (literal r ts b)) ≡ signed b (relates w r (map (λ t. value_of w (term_at given t)) ts))
unfolding literal
true_in-ordered_at w given r ts b =
    true_in-literal_at w given (literal r ts b) ∙ ap (signed b) (relates-in_order w (λ t. value_of w (term_at given t)) r ts)

pub all_true_in-conj_at : (w : World) (given : List Inner) (c : List Literal) → all_true_in w (conj_at given c) ≡ list_all (λ l. true_in w (literal_at given l)) c
unfolding all_true_in
all_true_in-conj_at w given c =
    all_set_of literal_cmp literal_cmp_tells (true_in w) (map (literal_at given) c) ∙ all_alike (true_in w) (λ l. true_in w (literal_at given l)) (literal_at given) (λ l. refl) c

-- the arguments for a parameter have the same value
abbrev pub SameAt : World → List Inner → List Inner → ℕ → Type 0
SameAt w given other i = inner_value w (argument given i) ≡ inner_value w (argument other i)

module _ (w : World) (given other : List Inner) where
  inner_at_alike : (t : Inner) → Each (SameAt w given other) (form_parameters (λ d. []) t) → inner_value w (inner_at given t) ≡ inner_value w (inner_at other t)
  inner_at_alike (Object d) a = refl
  inner_at_alike (Parameter i) a = a.0
  inner_at_alike (Apply f ds) a = refl

  pub inners_at_alike : (ts : List Inner) → Each (SameAt w given other) (flat_map (form_parameters (λ d. [])) ts) → map (inner_value w) (map (inner_at given) ts) ≡ map (inner_value w) (map (inner_at other) ts)
  inners_at_alike [] a = refl
  inners_at_alike (t ∷ ts) a =
      let front = inner_at_alike t (each_front (SameAt w given other) (form_parameters (λ d. []) t) _ a) in
      let back = inners_at_alike ts (each_back (SameAt w given other) (form_parameters (λ d. []) t) _ a) in
      λ i. front i ∷ back i

  pub term_at_alike : (t : Term) → Each (SameAt w given other) (parameters_in t) → value_of w (term_at given t) ≡ value_of w (term_at other t)
  unfolding value_of
  term_at_alike (Object d) a = refl
  term_at_alike (Parameter i) a = value_of-term_of w (argument given i) ∙ a.0 ∙ sym (value_of-term_of w (argument other i))
  term_at_alike (Apply f ts) a = ap (w.value f) (inners_at_alike ts a)

  pub terms_at_alike : (ts : List Term) → Each (SameAt w given other) (flat_map parameters_in ts) → map (λ t. value_of w (term_at given t)) ts ≡ map (λ t. value_of w (term_at other t)) ts
  terms_at_alike [] a = refl
  terms_at_alike (t ∷ ts) a =
      let front = term_at_alike t (each_front (SameAt w given other) (parameters_in t) _ a) in
      let back = terms_at_alike ts (each_back (SameAt w given other) (parameters_in t) _ a) in
      λ i. front i ∷ back i

  pub literal_at_alike : (l : Literal) → Each (SameAt w given other) (flat_map parameters_in l.arguments) → true_in w (literal_at given l) ≡ true_in w (literal_at other l)
  literal_at_alike l a =
      true_in-literal_at w given l ∙ ap (λ ds. signed l.positive (relates w l.relation ds)) (terms_at_alike l.arguments a) ∙ sym (true_in-literal_at w other l)

  conj_alike : (c : List Literal) → Each (SameAt w given other) (conj_parameters c) → list_all (λ l. true_in w (literal_at given l)) c ≡ list_all (λ l. true_in w (literal_at other l)) c
  conj_alike [] a = refl
  conj_alike (l ∷ ls) a =
      let front = literal_at_alike l (each_front (SameAt w given other) (flat_map parameters_in l.arguments) _ a) in
      let back = conj_alike ls (each_back (SameAt w given other) (flat_map parameters_in l.arguments) _ a) in
      λ i. front i && back i

  pub conj_at_alike : (c : List Literal) → Each (SameAt w given other) (conj_parameters c) → all_true_in w (conj_at given c) ≡ all_true_in w (conj_at other c)
  conj_at_alike c a = all_true_in-conj_at w given c ∙ conj_alike c a ∙ sym (all_true_in-conj_at w other c)

  -- where all arguments have the same values, so do the effects
  module _ (same : (i : ℕ) → SameAt w given other i) where
    each_same : (is : List ℕ) → Each (SameAt w given other) is
    each_same is = each_of (SameAt w given other) is (λ i j. same i)

    pub pattern_at_alike : (ss : List (Option Term)) (ds : List ℕ) → is_instance w (map (option_map (term_at given)) ss) ds ≡ is_instance w (map (option_map (term_at other)) ss) ds
    pattern_at_alike [] [] = refl
    pattern_at_alike [] (d ∷ ds) = refl
    pattern_at_alike (None ∷ ss) [] = refl
    pattern_at_alike (None ∷ ss) (d ∷ ds) = pattern_at_alike ss ds
    pattern_at_alike (Some t ∷ ss) [] = refl
    pattern_at_alike (Some t ∷ ss) (d ∷ ds) = λ i. (term_at_alike t (each_same (parameters_in t)) i == d) && pattern_at_alike ss ds i

    atom_at_alike : (p : ℕ) (ds : List ℕ) (a : Atom) → is_value_of w p ds (atom_at given a) ≡ is_value_of w p ds (atom_at other a)
    atom_at_alike p ds a =
        ap (λ vs. (a.predicate == p) && same_objects vs ds)
        (map-map (term_at given) (value_of w) a.arguments ∙ terms_at_alike a.arguments (each_same _) ∙ sym (map-map (term_at other) (value_of w) a.arguments))

    truth_alike : (p : ℕ) (ds : List ℕ) (x : Target) → written_truth w p ds (target_at given x) ≡ written_truth w p ds (target_at other x)
    truth_alike p ds (Set a) = ap (λ b. cond b (Some true) None) (atom_at_alike p ds a)
    truth_alike p ds (Unset a) = ap (λ b. cond b (Some false) None) (atom_at_alike p ds a)
    truth_alike p ds (Clear x) = ap (λ b. cond ((x.predicate == p) && b) (Some false) None) (pattern_at_alike x.slots ds)
    truth_alike p ds (Assign f ts value) = refl

    value_alike : (f : ℕ) (ds : List ℕ) (x : Target) → written_value w f ds (target_at given x) ≡ written_value w f ds (target_at other x)
    value_alike f ds (Assign g ts value) =
        λ i. cond ((g == f) && same_objects (inners_at_alike ts (each_same _) i) ds) (Some (term_at_alike value (each_same _) i)) None
    value_alike f ds (Set a) = refl
    value_alike f ds (Unset a) = refl
    value_alike f ds (Clear x) = refl

    written_alike : {X : Type 0} (written : Target → Option X) → ((x : Target) → written (target_at given x) ≡ written (target_at other x)) → (es : List Effect) (x : X) → last_written written w (map (effect_at given) es) x ≡ last_written written w (map (effect_at other) es) x
    written_alike written h [] x = refl
    written_alike {X} written h (e ∷ es) x =
        written_alike written h es (cond (fires w (effect_at given e)) (unwrap_or (written (target_at given e.target)) x) x)
        ∙ ap (last_written written w (map (effect_at other) es)) (λ i. cond (conj_at_alike e.condition (each_same _) i) (unwrap_or (h e.target i) x) x)

    -- the same world comes about
    pub applied_alike : (es : List Effect) → applied_to w (map (effect_at given) es) ≡ applied_to w (map (effect_at other) es)
    unfolding applied_to
    applied_alike es = λ i. record {
      truth = λ p ds. written_alike (written_truth w p ds) (truth_alike p ds) es (w.truth p ds) i;
      value = λ f ds. written_alike (written_value w f ds) (value_alike f ds) es (w.value f ds) i;
    }

-- arguments changed one by one
pub argument-map : (f : Inner → Inner) → f (Object 0) ≡ Object 0 → (given : List Inner) (i : ℕ) → argument (map f given) i ≡ f (argument given i)
argument-map f h [] i = sym h
argument-map f h (t ∷ ts) zero = refl
argument-map f h (t ∷ ts) (suc i) = argument-map f h ts i

-- the values of arguments instead of them
pub same_at_ground : (w : World) (given : List Inner) (i : ℕ) → SameAt w given (map (λ t. Object (inner_value w t)) given) i
same_at_ground w given i = ap (inner_value w) (sym (argument-map (λ t. Object (inner_value w t)) refl given i))
