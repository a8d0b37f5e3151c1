-- The problem without the aims that a history meets for good is valid, begins the same, and has the same best tree.
use Rattle.std.proofs.Common.{◌≡◌, ◌≤◌, ℕ, true, false, cond, not, List, [], ◌∷◌, map, Option, Some, None, refl, sym, ap, ◌∙◌, subst, inl, inr, ⊎_elim, true≢false}
use Rattle.std.proofs.lemmas.Bool.{cases_Bool}
use Rattle.pks_terms.specs.declared.problem.Aim.{Aim as DAim}
use Rattle.pks_terms.specs.declared.problem.Problem.{Problem as DProblem}
use Rattle.pks_terms.specs.Answers.{unjustified}
use Rattle.pks_terms.specs.Closure.{Next, Closes}
use Rattle.pks_terms.specs.Counts.{AimCounts}
use Rattle.pks_terms.specs.Databases.{Five}
use Rattle.pks_terms.specs.Problems.{Problem, initial}
use Rattle.pks_terms.specs.Aims.{met}
use Rattle.pks_terms.specs.Settling.{History, At}
use Rattle.pks_terms.specs.Signatures.{Signature, HasValues}
use Rattle.pks_terms.specs.Trees.{Tree, Goal, IsBest}
use Rattle.pks_terms.specs.Valid.{IsPlainText, IsValid}
use Rattle.pks_terms.specs.ValidProblems.{IsValidProblem}
use Rattle.pks_terms.specs.Versions.{IsNow, query_in}
use Rattle.pks_terms.specs.Views.{aim_of, signature_of, problem_of}
use Rattle.pks_terms.proofs.ListLaws.{each_kept}
use Rattle.pks_laws_forget.specs.Fewer.{is_met_for_good, unmet, with_aims, without_met}
use Rattle.pks_laws_forget.proofs.Fewer.{trees_without, before_back, best_back}
use Rattle.pks_laws_forget.proofs.OtherAims.{costs_same}
use Rattle.pks_search.specs.Limits.{IsCheapWithin, IsBestWithin}
use Rattle.pks_search.specs.Fewer.{unmet_aims, with_goal}

-- the problem with those that the history doesn't meet for good
abbrev pub with_unmet : DProblem → History → DProblem
with_unmet p h = with_goal p (unmet_aims (signature_of p.signature) h p.goal)

aims_unmet : (s : Signature) (d : History) (aims : List DAim) → map aim_of (unmet_aims s d aims) ≡ unmet s d (map aim_of aims)
aims_unmet s d [] = refl
aims_unmet s d (a ∷ aims) =
    elim (is_met_for_good s d (aim_of a)) as (λ b. map aim_of (cond (not b) (a ∷ unmet_aims s d aims) (unmet_aims s d aims)) ≡ cond (not b) (aim_of a ∷ unmet s d (map aim_of aims)) (unmet s d (map aim_of aims))) [
      | true ↦ aims_unmet s d aims
      | false ↦ ap (λ xs. aim_of a ∷ xs) (aims_unmet s d aims)
    ]

-- the aims of the problem itself
pub unmet_is : (p : DProblem) (h : History) (goal aims : List DAim) → goal ≡ unmet_aims (signature_of p.signature) h aims → aims ≡ p.goal → with_goal p goal ≡ with_unmet p h
unmet_is p h goal aims a b = ap (with_goal p) (a ∙ ap (unmet_aims (signature_of p.signature) h) b)

module _ (p : DProblem) (d : History) where
  abbrev P : Problem
  P = problem_of p

  pub seen_unmet : problem_of (with_unmet p d) ≡ without_met P d
  seen_unmet = ap (with_aims P) (aims_unmet P.signature d p.goal)

  fewer_valid : IsValid P → IsValid (without_met P d)
  fewer_valid v = record {
    version = ⊎_elim (λ e. inl e) (λ f. inr (record { version = f.version; parents = f.parents; costs = f.costs; aims = each_kept IsNow (λ a. not (is_met_for_good P.signature d a)) P.goal f.aims })) v.version;
    signature = v.signature;
    schemas = v.schemas;
    init = v.init;
    goal = each_kept (λ x. IsPlainText P.signature [] (query_in x).asks) (λ a. not (is_met_for_good P.signature d a)) P.goal v.goal;
  }

  pub unmet_valid : IsValidProblem p → IsValidProblem (with_unmet p d)
  unmet_valid v = record {
    says = subst IsValid (sym seen_unmet) (fewer_valid v.says);
    counts = record {
      signature = v.counts.signature;
      schemas = v.counts.schemas;
      init = v.counts.init;
      goal = each_kept AimCounts (λ a. not (is_met_for_good P.signature d (aim_of a))) p.goal v.counts.goal;
    };
    places = v.places;
    numbered = v.numbered;
    types = v.types;
    objects = v.objects;
    predicates = v.predicates;
    none_is_not = v.none_is_not;
    functions = v.functions;
    actions = v.actions;
    parameters = v.parameters;
  }

  pub unmet_justified : unjustified P ≡ [] → unjustified (problem_of (with_unmet p d)) ≡ []
  unfolding unjustified
  unmet_justified e = e

  pub unmet_begins : (o : Five) → Closes P.signature (initial P) (Next o) → Closes (problem_of (with_unmet p d)).signature (initial (problem_of (with_unmet p d))) (Next o)
  unfolding initial
  unmet_begins o c = record { count = c.count; last = c.last; gives = c.gives }

  pub unmet_best : IsValidProblem p → d.steps ≡ [] → Closes P.signature (initial P) (Next d.start) → (n : ℕ) (o : Option Tree) → IsBest (problem_of (with_unmet p d)) n o → IsBest P n o
  unmet_best v alone c n o b =
      let same : d ≡ record { start = d.start; steps = [] } = λ i. record { start = d.start; steps = alone i } in
      best_back P v.says.signature.values d.start c n o (subst (λ h. IsBest (without_met P h) n o) same (subst (λ q. IsBest q n o) seen_unmet b))

-- what is taken for these aims is of the problem without those that are met for good
pub taken_is : (p q : DProblem) (h : History) (goal aims : List DAim) → goal ≡ unmet_aims (signature_of p.signature) h aims → aims ≡ p.goal → problem_of q ≡ problem_of (with_goal p goal) → problem_of q ≡ without_met (problem_of p) h
taken_is p q h goal aims a b e = e ∙ ap problem_of (unmet_is p h goal aims a b) ∙ seen_unmet p h

module _ (p : Problem) (inhabited : HasValues p.signature) (h : History) where
  abbrev Q : Problem
  Q = without_met p h

  -- the goal isn't met by the other aims either
  pub still_unmet : met p h ≡ false → met Q h ≡ false
  still_unmet n = ⊎_elim (λ t. absurd (true≢false (sym ((trees_without p inhabited h Goal).1 t) ∙ n))) (λ f. f) (cases_Bool (met Q h))

  cheap_on : (n limit : ℕ) (t : Tree) → IsCheapWithin p (At h) n limit t → IsCheapWithin Q (At h) n limit t
  cheap_on n limit t k = (((trees_without p inhabited h t).0 k.0.0, k.0.1), subst (λ f. f t ≤ limit) (sym (costs_same p (unmet p.signature h p.goal))) k.1)

  cheap_back : (n limit : ℕ) (t : Tree) → IsCheapWithin Q (At h) n limit t → IsCheapWithin p (At h) n limit t
  cheap_back n limit t k = (((trees_without p inhabited h t).1 k.0.0, k.0.1), subst (λ f. f t ≤ limit) (costs_same p (unmet p.signature h p.goal)) k.1)

  pub best_within_back : (n limit : ℕ) (o : Option Tree) → IsBestWithin Q (At h) n limit o → IsBestWithin p (At h) n limit o
  best_within_back n limit None b = λ t k. b t (cheap_on n limit t k)
  best_within_back n limit (Some t) b = (cheap_back n limit t b.0, λ u k. before_back p inhabited h t u (b.1 u (cheap_on n limit u k)))
