-- In a tree of a problem each name is there.
use Rattle.std.proofs.Common.{◌≡◌, ◌<◌, ◌&&◌, ℕ, Bool, true, false, List, [], ◌∷◌, length, Option, Some, None, slice_get, refl, sym, ◌∙◌, subst, true≢false}
use Rattle.std.proofs.lemmas.List.{length-map}
use Rattle.std.specs.Option.{option_map_or}
use Rattle.std.proofs.lemmas.Bool.{and_parts}
use Rattle.std.proofs.lemmas.Option.{slice_get_within}
use Rattle.pks_terms.specs.Sets.{Each}
use Rattle.pks_terms.specs.Syntax.{Form, Object, Parameter, Apply, Inner, Term, Relation, Named, Equality, Literal}
use Rattle.pks_terms.specs.Signatures.{Signature, fits_type, object_is_of}
use Rattle.pks_terms.specs.Actions.{Instance}
use Rattle.pks_terms.specs.Problems.{Problem, schema_of}
use Rattle.pks_terms.specs.Trees.{Tree, Goal, Impossible, Do, Branch, Cases, Chain, End, More}
use Rattle.pks_terms.specs.Valid.{all_fit, form_fits, inner_fits, term_fits, type_in, is_term, is_related, is_literal}
use Rattle.pks_terms.specs.Handed.{IsStepOf, IsConjOf, IsTreeOf, IsChainOf}
use Rattle.pks_terms.specs.Printed.{Names, tree_text}
use Rattle.pks_terms.specs.declared.problem.Problem.{Problem as DProblem}
use Rattle.pks_terms.specs.ValidProblems.{IsValidProblem}
use Rattle.pks_terms.specs.Views as view
use Rattle.pks_terms.specs.Views.{shape_of, problem_of, names_of}
use Rattle.pks_plan.specs.Naming.{AreNamesOf}
use Rattle.pks_plan.proofs.TellingParts.{AreProper, IsNamedForm, IsNamedInner, IsNamedTerm, IsNamedRelation, IsNamedLiteral, IsNamedInstance}
use Rattle.pks_plan.proofs.TellingTrees.{IsNamedTree, IsNamedChain, tree_tells}

of_some : {A : Type 0} (f : A → Bool) (o : Option A) → option_map_or f o false ≡ true → (x : A) × (o ≡ Some x) × (f x ≡ true)
of_some f None h = absurd (true≢false (sym h))
of_some f (Some x) h = (x, refl, h)

all_so : {A : Type 0} (P : A → Type 0) (fits : ℕ → A → Bool) → ((wanted : ℕ) (t : A) → fits wanted t ≡ true → P t) → (tys : List ℕ) (ts : List A) → all_fit fits tys ts ≡ true → Each P ts
all_so P fits so tys [] h = tt
all_so P fits so [] (t ∷ ts) h = absurd (true≢false (sym h))
all_so P fits so (ty ∷ tys) (t ∷ ts) h = let p = and_parts (fits ty t) _ h in (so ty t p.0, all_so P fits so tys ts p.1)

pub proper : (p : Problem) (names : Names) → AreNamesOf p names → AreProper names
proper p names c = record {
  objects = record { spelled = c.objects.spelled; different = c.objects.different };
  predicates = record { spelled = c.predicates.spelled; different = c.predicates.different };
  functions = record { spelled = c.functions.spelled; different = c.functions.different };
  actions = record { spelled = c.actions.spelled; different = c.actions.different };
  none_is_not = c.none_is_not;
}

module _ (p : Problem) (names : Names) (c : AreNamesOf p names) where
  abbrev s : Signature
  s = p.signature

  object_there : (d : ℕ) → d < length s.objects → d < length names.objects
  object_there d h = subst (λ n. d < n) (sym c.objects.counted) h

  object_named : (wanted d : ℕ) → object_is_of s wanted d ≡ true → d < length names.objects
  unfolding object_is_of
  object_named wanted d h = let q = of_some (λ own. fits_type s own wanted) (slice_get s.objects d) h in object_there d (slice_get_within s.objects d q.0 q.1)

  form_named : {A : Type 0} (P : A → Type 0) (fits : ℕ → A → Bool) → ((wanted : ℕ) (t : A) → fits wanted t ≡ true → P t) → (wanted : ℕ) (t : Form A) → form_fits fits s [] wanted t ≡ true → IsNamedForm P names t
  form_named P fits so wanted (Object d) h = object_named wanted d h
  form_named P fits so wanted (Parameter i) h = true≢false (sym h)
  form_named P fits so wanted (Apply f ts) h =
      let q = of_some (λ x. all_fit fits x.arguments ts && fits_type s x.result wanted) (slice_get s.functions f) h in
      let b = and_parts (all_fit fits q.0.arguments ts) (fits_type s q.0.result wanted) q.2 in
      (subst (λ n. f < n) (sym c.functions.counted) (slice_get_within s.functions f q.0 q.1), all_so P fits so q.0.arguments ts b.0)

  inner_named : (wanted : ℕ) (t : Inner) → inner_fits s [] wanted t ≡ true → IsNamedInner names t
  inner_named wanted t h = form_named (λ d. d < length names.objects) (object_is_of s) object_named wanted t h

  fitting_named : (wanted : ℕ) (t : Term) → term_fits s [] wanted t ≡ true → IsNamedTerm names t
  unfolding term_fits
  fitting_named wanted t h = form_named (IsNamedInner names) (inner_fits s []) inner_named wanted t h

  term_named : (t : Term) → is_term s [] t ≡ true → IsNamedTerm names t
  term_named t h = let q = of_some (λ own. term_fits s [] own t) (type_in s [] t) h in fitting_named q.0 t q.2

  related_named : (r : Relation) (ts : List Term) → is_related s [] r ts ≡ true → IsNamedRelation names r × Each (IsNamedTerm names) ts
  related_named (Named n) ts h =
      let q = of_some (λ x. all_fit (term_fits s []) x.arguments ts) (slice_get s.predicates n) h in
      (subst (λ m. n < m) (sym c.predicates.counted) (slice_get_within s.predicates n q.0 q.1), all_so (IsNamedTerm names) (term_fits s []) fitting_named q.0.arguments ts q.2)
  related_named Equality [] h = absurd (true≢false (sym h))
  related_named Equality (t ∷ []) h = absurd (true≢false (sym h))
  related_named Equality (t ∷ u ∷ []) h = let b = and_parts (is_term s [] t) (is_term s [] u) h in (tt, (term_named t b.0, (term_named u b.1, tt)))
  related_named Equality (t ∷ u ∷ v ∷ ts) h = absurd (true≢false (sym h))

  literal_named : (l : Literal) → is_literal s [] l ≡ true → IsNamedLiteral names l
  unfolding is_literal
  literal_named l h = let q = related_named l.relation l.arguments h in record { relation = q.0; arguments = q.1 }

  conj_named : (ls : List Literal) → IsConjOf s ls → Each (IsNamedLiteral names) ls
  conj_named [] h = tt
  conj_named (l ∷ ls) h = (literal_named l h.0, conj_named ls h.1)

  step_named : (i : Instance) → IsStepOf p i → IsNamedInstance names i
  step_named i h = record {
    action = subst (λ n. i.action < n) (sym c.actions.counted) h.action;
    arguments = all_so (IsNamedInner names) (inner_fits s []) inner_named (schema_of p i.action).parameters i.arguments h.arguments;
  }

  mutual
    tree_named : (t : Tree) → IsTreeOf p t → IsNamedTree names t
    tree_named Goal h = tt
    tree_named Impossible h = tt
    tree_named (Do i t) h = (step_named i h.0, tree_named t h.1)
    tree_named (Branch ls t u) h = (conj_named ls h.0, tree_named t h.1, tree_named u h.2)
    tree_named (Cases x k) h = (term_named x h.0, chain_named k h.1)

    chain_named : (k : Chain) → IsChainOf p k → IsNamedChain names k
    chain_named End h = tt
    chain_named (More d t k) h = (object_there d h.0, tree_named t h.1, chain_named k h.2)

  pub same_text_same_tree : (t u : Tree) → IsTreeOf p t → IsTreeOf p u → tree_text names t ≡ tree_text names u → t ≡ u
  same_text_same_tree t u h k e = tree_tells names (proper p names c) t u (tree_named t h) (tree_named u k) e

-- ---- the names of valid problems

pub names_of_valid : (p : DProblem) → IsValidProblem p → AreNamesOf (problem_of p) (names_of p)
names_of_valid p v = record {
  objects = record { counted = v.objects.counted ∙ sym (length-map p.signature.objects (λ t. t.0)); spelled = v.objects.spelled; different = v.objects.different };
  predicates = record { counted = v.predicates.counted ∙ sym (length-map p.signature.predicates shape_of); spelled = v.predicates.spelled; different = v.predicates.different };
  none_is_not = v.none_is_not;
  functions = record { counted = v.functions.counted ∙ sym (length-map p.signature.functions shape_of); spelled = v.functions.spelled; different = v.functions.different };
  actions = record { counted = v.actions.counted ∙ sym (length-map p.schemas view.schema_of); spelled = v.actions.spelled; different = v.actions.different };
}
