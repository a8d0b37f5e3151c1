-- States that lead to like states have the same derived trees.
use Rattle.std.proofs.Common.{◌≡◌, ◌&&◌, ℕ, true, List, [], ◌∷◌, refl, ap, ◌∙◌, sym, subst, true≢false}
use Rattle.std.specs.List.{list_all}
use Rattle.pks_laws.proofs.BelongingHistories.{is_clash}
use Rattle.pks_terms.specs.Sets.{Each, IsIn}
use Rattle.pks_terms.specs.Syntax.{Term}
use Rattle.pks_terms.specs.Actions.{Instance}
use Rattle.pks_terms.specs.Aims.{is_met, met}
use Rattle.pks_terms.specs.Branching.{instances, is_undecided, left, may_split, Choice, BranchOn, CasesOn, Side, AsTrue, AsFalse, Is, IsMember}
use Rattle.pks_terms.specs.Databases.{Five}
use Rattle.pks_terms.specs.Signatures.{Signature}
use Rattle.pks_terms.specs.Versions.{IsNow}
use Rattle.pks_terms.specs.Problems.{Aim, Now, AtStart, Always, Once, Problem}
use Rattle.pks_terms.specs.Queries.{answers}
use Rattle.pks_terms.specs.Settling.{History, last_moment, State, At, Stopped}
use Rattle.pks_terms.specs.Trees.{Tree, Goal, Impossible, Do, Branch, Cases, Chain, End, More, objects_in, Acts, Takes, Derives, DerivesEach}
use Rattle.pks_laws.specs.OfSignature.{IsSideOf}
use Rattle.pks_laws.proofs.TreesOf.{left_is_side}
use Rattle.pks_terms.proofs.ListLaws.{each_of}

all_met : (s : Signature) (h g : History) → last_moment h ≡ last_moment g → (xs : List Aim) → Each IsNow xs → list_all (is_met s h) xs ≡ list_all (is_met s g) xs
all_met s h g e [] a = refl
all_met s h g e (Now q ∷ xs) a = λ j. answers s (e j) q && all_met s h g e xs a.1 j
all_met s h g e (AtStart q ∷ xs) a = absurd a.0
all_met s h g e (Always q ∷ xs) a = absurd a.0
all_met s h g e (Once q ∷ xs) a = absurd a.0

-- aims of the last moment are met alike where it is the same
pub met_alike : (p : Problem) → Each IsNow p.goal → (h g : History) → last_moment h ≡ last_moment g → met p h ≡ met p g
unfolding met
met_alike p plain h g e = all_met p.signature h g e p.goal plain

-- what a history leads to, the like one leads to the like of
pub record Likens (p : Problem) (Like : State → State → Type 0) : Type 1 where
  pub stopped : (y : State) → Like Stopped y → y ≡ Stopped
  pub goes_on : (h : History) (y : State) → Like (At h) y → (g : History) × (y ≡ At g)
  pub last : (h g : History) → Like (At h) (At g) → last_moment h ≡ last_moment g
  pub same_goal : (h g : History) → Like (At h) (At g) → met p h ≡ met p g
  pub acts : (h g : History) (i : Instance) (x : State) → Like (At h) (At g) → IsIn i (instances p (last_moment h)) → Acts p h i x → (y : State) × Acts p g i y × Like x y
  pub takes : (h g : History) (c : Choice) (side : Side) (x : State) → Like (At h) (At g) → IsMember (last_moment h) c → IsSideOf p.signature c side → Takes p h c side x → (y : State) × Takes p g c side y × Like x y

module _ (p : Problem) (Like : State → State → Type 0) (like : Likens p Like) where
  -- each object of the cases is left
  left_sides : (d : Five) (t : Term) (es : List ℕ) → es ≡ left p.signature d t → Each (λ e. IsSideOf p.signature (CasesOn t) (Is e)) es
  left_sides d t es q = subst (Each (λ e. IsSideOf p.signature (CasesOn t) (Is e))) (sym q) (each_of (λ e. IsSideOf p.signature (CasesOn t) (Is e)) (left p.signature d t) (left_is_side p.signature d t))

  -- it is enough to look at a history that the state is
  at : (t : Tree) (h : History) (y : State) → Like (At h) y → ((g : History) → Like (At h) (At g) → Derives p (At g) t) → Derives p y t
  at t h y k f = let r = like.goes_on h y k in subst (λ z. Derives p z t) (sym r.1) (f r.0 (subst (Like (At h)) r.1 k))

  mutual
    pub like_trees : (t : Tree) (x y : State) → Like x y → Derives p x t → Derives p y t
    like_trees Goal (At h) y k d = at Goal h y k (λ g l. sym (like.same_goal h g l) ∙ d)
    like_trees Impossible (At h) y k d = absurd (true≢false (ap is_clash (sym d)))
    like_trees (Do i t) (At h) y k d = at (Do i t) h y k (λ g l.
        let r = like.acts h g i d.1.0 l d.0 d.1.1 in
        (subst (λ x. IsIn i (instances p x)) (like.last h g l) d.0, (r.0, r.1, like_trees t d.1.0 r.0 r.2 d.1.2)))
    like_trees (Branch c t u) (At h) y k d = at (Branch c t u) h y k (λ g l.
        let r = like.takes h g (BranchOn c) AsTrue d.2.0 l d.0 tt d.2.1 in
        let q = like.takes h g (BranchOn c) AsFalse d.3.0 l d.0 tt d.3.1 in (
          subst (λ (x : Five). IsIn c x.kw) (like.last h g l) d.0,
          subst (λ x. is_undecided p.signature x c ≡ true) (like.last h g l) d.1,
          (r.0, r.1, like_trees t d.2.0 r.0 r.2 d.2.2),
          (q.0, q.1, like_trees u d.3.0 q.0 q.2 d.3.2),
        ))
    like_trees (Cases t c) (At h) y k d = at (Cases t c) h y k (λ g l. (
      subst (λ (x : Five). IsIn t x.kv) (like.last h g l) d.0,
      subst (λ x. may_split p.signature x t ≡ true) (like.last h g l) d.1,
      subst (λ x. objects_in c ≡ left p.signature x t) (like.last h g l) d.2,
      like_chain c h g t l d.0 (left_sides (last_moment h) t (objects_in c) d.2) d.3,
    ))
    like_trees t Stopped y k d = subst (λ z. Derives p z t) (sym (like.stopped y k)) d

    like_chain : (c : Chain) (h g : History) (t : Term) → Like (At h) (At g) → IsIn t (last_moment h).kv → Each (λ e. IsSideOf p.signature (CasesOn t) (Is e)) (objects_in c) → DerivesEach p h t c → DerivesEach p g t c
    like_chain End h g t k i a d = tt
    like_chain (More e u c) h g t k i a d =
        let r = like.takes h g (CasesOn t) (Is e) d.0.0 k i a.0 d.0.1 in
        ((r.0, r.1, like_trees u d.0.0 r.0 r.2 d.0.2), like_chain c h g t k i a.1 d.1)
