-- What is made of trees that are better is better; and there is one best tree.
use Rattle.std.proofs.Common.{◌≡◌, ◌≤◌, ◌<◌, ◌+◌, ◌⊎◌, inl, inr, max, ℕ, List, [], ◌∷◌, Option, Some, None, Equal, Less, Greater, Ordering, nat_cmp, refl, sym, ap, subst, ◌∙◌, ⊎_elim, arith}
use Rattle.std.specs.Ordering.{ordering_then, ordering_reverse}
use Rattle.std.specs.Cmp.{nat_cmp_is, tied_itself}
use Rattle.std.proofs.lemmas.Bool.{cases_lt}
use Rattle.pks_terms.specs.Syntax.{Term, Literal}
use Rattle.pks_terms.specs.Orders.{term_cmp, conj_cmp}
use Rattle.std.specs.Cmp.Lexicographic.{slice_cmp}
use Rattle.pks_terms.specs.Actions.{Instance}
use Rattle.pks_terms.specs.Problems.{Problem, schema_of}
use Rattle.pks_terms.specs.Trees.{Tree, Do, Branch, Cases, Chain, End, More, cost, chain_cost, objects_in, root_step, instance_cmp, root_cmp, tree_cmp, chain_cmp, IsBefore, IsBestOf}
use Rattle.pks_terms.specs.Searching.{ChainBefore}
use Rattle.pks_laws.proofs.TreeOrder.{root_cmp_total}
use Rattle.pks_laws.proofs.TreeTotal.{tree_by_roots, then_nothing, tree_cmp_total}

same_first : (o q z : Ordering) → o ≡ q → ordering_then o z ≡ ordering_then q z
same_first o q z e = λ i. ordering_then (e i) z

greater_first : (o a b : Ordering) → o ≡ Greater → ordering_then (ordering_then o a) b ≡ Greater
greater_first o a b e = λ i. ordering_then (ordering_then (e i) a) b

less_first : (o a b : Ordering) → o ≡ Less → ordering_then (ordering_then o a) b ≡ Less
less_first o a b e = λ i. ordering_then (ordering_then (e i) a) b

module _ (p : Problem) where
  tree_itself : (t : Tree) → tree_cmp (cost p) t t ≡ Equal
  tree_itself t = tied_itself (tree_cmp_total (cost p)) t

  dearer : (t u : Tree) → cost p u < cost p t → tree_cmp (cost p) t u ≡ Greater
  unfolding root_cmp
  dearer t u h = sym (tree_by_roots (cost p) t u [] [] ∙ then_nothing (tree_cmp (cost p) t u)) ∙ greater_first (nat_cmp (cost p t) (cost p u)) _ _ (sym (nat_cmp_is (cost p t) (cost p u) Greater h))

  cheaper : (t u : Tree) → cost p t < cost p u → tree_cmp (cost p) t u ≡ Less
  unfolding root_cmp
  cheaper t u h = sym (tree_by_roots (cost p) t u [] [] ∙ then_nothing (tree_cmp (cost p) t u)) ∙ less_first (nat_cmp (cost p t) (cost p u)) _ _ (sym (nat_cmp_is (cost p t) (cost p u) Less h))

  no_dearer : (t u : Tree) → IsBefore p t u → cost p t ≤ cost p u
  no_dearer t u (inl e) = let d : cost p t ≡ cost p u = ap (cost p) e in omega arith
  no_dearer t u (inr l) = ⊎_elim (λ lt. let g = sym l ∙ dearer t u lt in cc) (λ ge. ge) (cases_lt (cost p u) (cost p t))

  do_root : (i : Instance) (t u : Tree) → cost p t ≡ cost p u → root_cmp (cost p) (Do i t) (Do i u) ≡ Equal
  unfolding root_cmp
  do_root i t u e = same_first (nat_cmp (cost p (Do i t)) (cost p (Do i u))) (nat_cmp (cost p (Do i t)) (cost p (Do i t))) _ (λ k. nat_cmp (cost p (Do i t)) ((schema_of p i.action).cost + sym e k)) ∙ tied_itself (root_cmp_total (cost p)) (Do i t)

  branch_root : (c : List Literal) (t t' u u' : Tree) → cost p (Branch c t u) ≡ cost p (Branch c t' u') → root_cmp (cost p) (Branch c t u) (Branch c t' u') ≡ Equal
  unfolding root_cmp
  branch_root c t t' u u' e = same_first (nat_cmp (cost p (Branch c t u)) (cost p (Branch c t' u'))) (nat_cmp (cost p (Branch c t u)) (cost p (Branch c t u))) _ (λ k. nat_cmp (cost p (Branch c t u)) (sym e k)) ∙ tied_itself (root_cmp_total (cost p)) (Branch c t u)

  pub before_do : (i : Instance) (t u : Tree) → IsBefore p t u → IsBefore p (Do i t) (Do i u)
  before_do i t u (inl e) = inl (ap (Do i) e)
  before_do i t u (inr l) =
      ⊎_elim
      (λ lt. inr (cheaper (Do i t) (Do i u) (omega arith)))
      (λ ge. let le = no_dearer t u (inr l) in let e : cost p t ≡ cost p u = omega arith in inr (same_first (root_cmp (cost p) (Do i t) (Do i u)) Equal (tree_cmp (cost p) t u) (do_root i t u e) ∙ l))
      (cases_lt (cost p t) (cost p u))

  pub before_branch : (c : List Literal) (t t' u u' : Tree) → IsBefore p t t' → IsBefore p u u' → IsBefore p (Branch c t u) (Branch c t' u')
  before_branch c t t' u u' b b' =
      ⊎_elim
      (λ lt. inr (cheaper (Branch c t u) (Branch c t' u') lt))
      (λ ge.
      let e : cost p (Branch c t u) ≡ cost p (Branch c t' u') = same_max (cost p t) (cost p t') (cost p u) (cost p u') (no_dearer t t' b) (no_dearer u u' b') ge in
      by_children b b' (same_first (root_cmp (cost p) (Branch c t u) (Branch c t' u')) Equal _ (branch_root c t t' u u' e)))
      (cases_lt (cost p (Branch c t u)) (cost p (Branch c t' u')))
    where
      same_max : (a a' d d' : ℕ) → a ≤ a' → d ≤ d' → max a' d' + 1 ≤ max a d + 1 → max a d + 1 ≡ max a' d' + 1
      same_max a a' d d' h k g = omega arith

      by_children : IsBefore p t t' → IsBefore p u u' → tree_cmp (cost p) (Branch c t u) (Branch c t' u') ≡ ordering_then (tree_cmp (cost p) t t') (tree_cmp (cost p) u u') → IsBefore p (Branch c t u) (Branch c t' u')
      by_children (inl e) (inl f) s = inl (λ i. Branch c (e i) (f i))
      by_children (inl e) (inr l) s = inr (s ∙ same_first (tree_cmp (cost p) t t') Equal (tree_cmp (cost p) u u') (sym (ap (tree_cmp (cost p) t) e) ∙ tree_itself t) ∙ l)
      by_children (inr l) f s = inr (s ∙ same_first (tree_cmp (cost p) t t') Less (tree_cmp (cost p) u u') l)

  pub before_end : ChainBefore p End End
  before_end = record { objects = refl; costs = omega arith; order = inl refl }

  pub before_more : (e : ℕ) (t u : Tree) (k m : Chain) → IsBefore p t u → ChainBefore p k m → ChainBefore p (More e t k) (More e u m)
  before_more e t u k m b c =
      record {
        objects = ap (λ ds. e ∷ ds) c.objects;
        costs = higher (cost p t) (cost p u) (chain_cost p k) (chain_cost p m) (no_dearer t u b) c.costs;
        order = by_children b c.order;
      }
    where
      higher : (a a' d d' : ℕ) → a ≤ a' → d ≤ d' → max a d ≤ max a' d'
      higher a a' d d' h k = omega arith

      by_children : IsBefore p t u → (k ≡ m) ⊎ (chain_cmp (cost p) k m ≡ Less) → (More e t k ≡ More e u m) ⊎ (chain_cmp (cost p) (More e t k) (More e u m) ≡ Less)
      by_children (inl a) (inl f) = inl (λ i. More e (a i) (f i))
      by_children (inl a) (inr l) = inr (same_first (tree_cmp (cost p) t u) Equal (chain_cmp (cost p) k m) (sym (ap (tree_cmp (cost p) t) a) ∙ tree_itself t) ∙ l)
      by_children (inr l) f = inr (same_first (tree_cmp (cost p) t u) Less (chain_cmp (cost p) k m) l)

  abbrev cases_cmp : Term → Instance → (d d' : ℕ) → List ℕ → List ℕ → Ordering
  cases_cmp x n d d' os os' = ordering_then (nat_cmp d d') (ordering_then (nat_cmp 4 4) (ordering_then (instance_cmp n n) (ordering_then (conj_cmp [] []) (ordering_then (term_cmp x x) (slice_cmp nat_cmp os os')))))

  cases_root : (x : Term) (k m : Chain) → chain_cost p k ≡ chain_cost p m → objects_in k ≡ objects_in m → root_cmp (cost p) (Cases x k) (Cases x m) ≡ Equal
  unfolding root_cmp
  cases_root x k m e o = (λ i. cases_cmp x (root_step (Cases x k)) (chain_cost p k + 1) (sym e i + 1) (objects_in k) (sym o i)) ∙ tied_itself (root_cmp_total (cost p)) (Cases x k)

  pub before_cases : (x : Term) (k m : Chain) → ChainBefore p k m → IsBefore p (Cases x k) (Cases x m)
  before_cases x k m c =
      ⊎_elim
      (λ lt. inr (cheaper (Cases x k) (Cases x m) (omega arith)))
      (λ ge.
      let le = c.costs in
      let e : chain_cost p k ≡ chain_cost p m = omega arith in
      ⊎_elim (λ f. inl (ap (Cases x) f)) (λ l. inr (same_first (root_cmp (cost p) (Cases x k) (Cases x m)) Equal (chain_cmp (cost p) k m) (cases_root x k m e c.objects) ∙ l)) c.order)
      (cases_lt (chain_cost p k) (chain_cost p m))

  before_itself : (t : Tree) → IsBefore p t t
  before_itself t = inl refl

  pub before_through : (t u v : Tree) → IsBefore p t u → IsBefore p u v → IsBefore p t v
  before_through t u v (inl e) b = subst (λ x. IsBefore p x v) (sym e) b
  before_through t u v (inr l) (inl e) = inr (ap (tree_cmp (cost p) t) (sym e) ∙ l)
  before_through t u v (inr l) (inr m) = inr ((tree_cmp_total (cost p)).trans t u v l m)

  -- of all trees with a property one at most is the best
  pub best_one : (P : Tree → Type 0) (a b : Option Tree) → IsBestOf p P a → IsBestOf p P b → a ≡ b
  best_one P None None k l = refl
  best_one P None (Some t) k l = absurd (k t l.0)
  best_one P (Some t) None k l = absurd (l t k.0)
  best_one P (Some t) (Some u) k l =
      ⊎_elim (λ e. ap Some e)
      (λ f. ⊎_elim (λ e. ap Some (sym e)) (λ g. let c : Less ≡ Greater = sym f ∙ (tree_cmp_total (cost p)).antisymm t u ∙ ap ordering_reverse g in cc) (l.1 t k.0))
      (k.1 u l.0)
