-- Derived trees, and the choices at a history, are of the problem.
use Rattle.std.proofs.Common.{◌≡◌, ◌<◌, true, false, not, ℕ, List, [], map, filter, length, slice_get, Some, None, refl, sym, ap, subst, ⊎_elim, true≢false}
use Rattle.std.specs.Option.{option_map_or}
use Rattle.pks_terms.specs.Sets.{Each, IsIn}
use Rattle.pks_terms.specs.Syntax.{Term, object}
use Rattle.pks_terms.specs.Orders.{inequation}
use Rattle.pks_terms.specs.Signatures.{Signature, range_of}
use Rattle.pks_terms.specs.Databases.{Five, holds}
use Rattle.pks_terms.specs.Closure.{Next, Clash, Outcome, Closes}
use Rattle.pks_terms.specs.Problems.{Problem, initial}
use Rattle.pks_terms.specs.Branching.{instances, is_undecided, left, may_split, Choice, Act, BranchOn, CasesOn, choices, AsTrue, AsFalse, Is}
use Rattle.pks_terms.specs.Settling.{History, last_moment, State, At, Stopped}
use Rattle.pks_terms.specs.Trees.{Tree, Goal, Impossible, Do, Branch, Cases, Chain, End, More, objects_in, Acts, Takes, Derives, DerivesEach, start_state, IsPlan}
use Rattle.pks_terms.specs.Valid.{term_fits, AreOf, IsValid}
use Rattle.pks_terms.specs.Handed.{IsChoiceOf, IsTreeOf, IsChainOf}
use Rattle.pks_terms.proofs.ListLaws.{each_in, each_of, in_appended, in_mapped, in_filtered}
use Rattle.pks_laws.proofs.Belonging.{L, T, in_range_of}
use Rattle.pks_laws.proofs.BelongingSteps.{declared, choice_of}
use Rattle.pks_laws.proofs.BelongingHistories.{is_clash, history_or}
use Rattle.pks_laws.proofs.SearchStates.{last_of_it, start_of, acts_of, takes_of}
use Rattle.pks_terms.specs.Moments.{AreMomentsOf}
use Rattle.pks_laws.specs.OfSignature.{IsSideOf}

-- an object that may be the value of a term is declared
declared_object : (s : Signature) (x : Term) (e : ℕ) → T s x → IsIn e (range_of s x) → e < length s.objects
declared_object s x e h i =
    elim (slice_get s.objects e) as (λ o. slice_get s.objects e ≡ o → option_map_or (λ own. term_fits s [] own (object e)) o false ≡ true → e < length s.objects) [
      | None ↦ λ q k. absurd (true≢false (sym k))
      | Some own ↦ λ q k. declared s.objects e own q
    ] refl (in_range_of s x e h i)

-- each choice is one of the problem
pub choices_of : (p : Problem) (d : Five) → AreOf p.signature d → (c : Choice) → IsIn c (choices p d) → IsChoiceOf p c
unfolding choices
choices_of p d m c i =
    ⊎_elim
    (λ j. let r = in_mapped Act (instances p d) c j in subst (IsChoiceOf p) r.2 (choice_of p d r.0 m r.1))
    (λ j. ⊎_elim
    (λ k. let r = in_mapped BranchOn (filter (is_undecided p.signature d) d.kw) c k in subst (IsChoiceOf p) r.2 (each_in (Each (L p.signature)) d.kw r.0 m.whether (in_filtered (is_undecided p.signature d) d.kw r.0 r.1).0))
    (λ k. let r = in_mapped CasesOn (filter (may_split p.signature d) d.kv) c k in subst (IsChoiceOf p) r.2 (each_in (T p.signature) d.kv r.0 m.values (in_filtered (may_split p.signature d) d.kv r.0 r.1).0))
    (in_appended (map BranchOn (filter (is_undecided p.signature d) d.kw)) (map CasesOn (filter (may_split p.signature d) d.kv)) c j))
    (in_appended (map Act (instances p d)) _ c i)

module _ (p : Problem) (v : IsValid p) where
  -- the state is a history that is of the signature, or a clash
  abbrev pub IsStateOf : State → Type 0
  IsStateOf x = (g : History) → x ≡ At g → AreMomentsOf p g

  left_in_range : (d : Five) (x : Term) (es : List ℕ) → es ≡ left p.signature d x → Each (λ e. IsIn e (range_of p.signature x)) es
  unfolding left
  left_in_range d x es q =
      subst (Each (λ e. IsIn e (range_of p.signature x))) (sym q)
      (each_of (λ e. IsIn e (range_of p.signature x)) (filter (λ e. not (holds p.signature d (inequation x (object e)))) (range_of p.signature x)) (λ e i. (in_filtered (λ e. not (holds p.signature d (inequation x (object e)))) (range_of p.signature x) e i).0))

  mutual
    pub tree_of : (t : Tree) (x : State) → IsStateOf x → Derives p x t → IsTreeOf p t
    tree_of Goal x m d = tt
    tree_of Impossible x m d = tt
    tree_of (Do i t) (At h) m d =
        let now = m h refl in
        (choice_of p (last_moment h) i (last_of_it p v h now).of d.0, tree_of t d.1.0 (λ g e. acts_of p v h g i now d.0 (subst (Acts p h i) e d.1.1)) d.1.2)
    tree_of (Branch c t u) (At h) m d =
        let now = m h refl in (
          each_in (Each (L p.signature)) (last_moment h).kw c (last_of_it p v h now).of.whether d.0,
          tree_of t d.2.0 (λ g e. takes_of p v h g (BranchOn c) AsTrue now d.0 tt (subst (Takes p h (BranchOn c) AsTrue) e d.2.1)) d.2.2,
          tree_of u d.3.0 (λ g e. takes_of p v h g (BranchOn c) AsFalse now d.0 tt (subst (Takes p h (BranchOn c) AsFalse) e d.3.1)) d.3.2,
        )
    tree_of (Cases x k) (At h) m d =
        let now = m h refl in
        let of = each_in (T p.signature) (last_moment h).kv x (last_of_it p v h now).of.values d.0 in
        (of, chain_of k h x now d.0 of (left_in_range (last_moment h) x (objects_in k) d.2) d.3)
    tree_of (Do i t) Stopped m d = absurd d
    tree_of (Branch c t u) Stopped m d = absurd d
    tree_of (Cases x k) Stopped m d = absurd d

    chain_of : (k : Chain) (h : History) (x : Term) → AreMomentsOf p h → IsIn x (last_moment h).kv → T p.signature x → Each (λ e. IsIn e (range_of p.signature x)) (objects_in k) → DerivesEach p h x k → IsChainOf p k
    chain_of End h x m i of a d = tt
    chain_of (More e t k) h x m i of a d = (
      declared_object p.signature x e of a.0,
      tree_of t d.0.0 (λ g q. takes_of p v h g (CasesOn x) (Is e) m i a.0 (subst (Takes p h (CasesOn x) (Is e)) q d.0.1)) d.0.2,
      chain_of k h x m i of a.1 d.1,
    )

  pub derived_of : (h : History) → AreMomentsOf p h → (t : Tree) → Derives p (At h) t → IsTreeOf p t
  derived_of h m t d = tree_of t (At h) (λ g e. subst (AreMomentsOf p) (ap (history_or g) e) m) d

  start_of_it : (o : Outcome) → Closes p.signature (initial p) o → IsStateOf (start_state o)
  start_of_it (Next d) c g e = subst (AreMomentsOf p) (ap (history_or g) e) (start_of p v d c)
  start_of_it (Clash l) c g e = absurd (true≢false (ap is_clash e))

  -- a plan of a valid problem is a tree of it
  pub plan_of : (t : Tree) → IsPlan p t → IsTreeOf p t
  plan_of t k = tree_of t (start_state k.outcome) (start_of_it k.outcome k.closes) k.derives

-- the objects left of a term are sides of the cases on it
pub left_is_side : (s : Signature) (d : Five) (x : Term) (e : ℕ) → IsIn e (left s d x) → IsSideOf s (CasesOn x) (Is e)
unfolding left
left_is_side s d x e i = (in_filtered (λ e. not (holds s d (inequation x (object e)))) (range_of s x) e i).0
