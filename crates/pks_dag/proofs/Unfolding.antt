-- What nodes unfold to.
use Rattle.std.proofs.Common.{◌≡◌, ◌≤◌, ◌<◌, ℕ, zero, suc, List, [], ◌∷◌, ◌++◌, map, length, Some, refl, sym, ap, ◌∙◌, subst, arith}
use Rattle.std.proofs.lemmas.Option.{none-some, same_Some, slice_get_within}
use Rattle.pks_terms.specs.Sets.{Each}
use Rattle.pks_terms.specs.Trees.{Tree, Goal, Impossible, Do, Branch, Cases, Chain, End, More, root_kind}
use Rattle.pks_terms.specs.Nodes.{Node, GoalNode, ImpossibleNode, DoNode, BranchNode, CasesNode, at_number, Unfolds, UnfoldEach, children_of}
use Rattle.pks_dag.proofs.Listing.{get_kept}

at_kept : {X : Type 0} (xs ys : List X) (n : ℕ) (x : X) → at_number xs n ≡ Some x → at_number (xs ++ ys) n ≡ Some x
at_kept xs ys zero x e = absurd (none-some x e)
at_kept xs ys (suc n) x e = get_kept xs ys n x e

-- the node unfolds to the tree, be it among these nodes or not
abbrev pub Fits : List Node → Node → Tree → Type 0
Fits nodes x Goal = x ≡ GoalNode
Fits nodes x Impossible = x ≡ ImpossibleNode
Fits nodes x (Do i t) = (next : ℕ) × (x ≡ DoNode i next) × Unfolds nodes next t
Fits nodes x (Branch c t u) = (k m : ℕ) × (x ≡ BranchNode c k m) × Unfolds nodes k t × Unfolds nodes m u
Fits nodes x (Cases y k) = (cases : List (ℕ × ℕ)) × (x ≡ CasesNode y cases) × UnfoldEach nodes cases k

pub fits_of : (nodes : List Node) (n : ℕ) (t : Tree) → Unfolds nodes n t → (x : Node) × (at_number nodes n ≡ Some x) × Fits nodes x t
fits_of nodes n Goal h = (GoalNode, h, refl)
fits_of nodes n Impossible h = (ImpossibleNode, h, refl)
fits_of nodes n (Do i t) h = (DoNode i h.0, h.1, (h.0, refl, h.2))
fits_of nodes n (Branch c t u) h = (BranchNode c h.0 h.1, h.2, (h.0, h.1, refl, h.3, h.4))
fits_of nodes n (Cases y k) h = (CasesNode y h.0, h.1, (h.0, refl, h.2))

pub unfolds_from : (nodes : List Node) (n : ℕ) (x : Node) (t : Tree) → at_number nodes n ≡ Some x → Fits nodes x t → Unfolds nodes n t
unfolds_from nodes n x Goal a f = a ∙ ap Some f
unfolds_from nodes n x Impossible a f = a ∙ ap Some f
unfolds_from nodes n x (Do i t) a f = (f.0, a ∙ ap Some f.1, f.2)
unfolds_from nodes n x (Branch c t u) a f = (f.0, f.1, a ∙ ap Some f.2, f.3, f.4)
unfolds_from nodes n x (Cases y k) a f = (f.0, a ∙ ap Some f.1, f.2)

-- ---- more nodes change nothing

mutual
  pub unfolds_kept : (nodes more : List Node) (n : ℕ) (t : Tree) → Unfolds nodes n t → Unfolds (nodes ++ more) n t
  unfolds_kept nodes more n Goal h = at_kept nodes more n GoalNode h
  unfolds_kept nodes more n Impossible h = at_kept nodes more n ImpossibleNode h
  unfolds_kept nodes more n (Do i t) h = (h.0, at_kept nodes more n (DoNode i h.0) h.1, unfolds_kept nodes more h.0 t h.2)
  unfolds_kept nodes more n (Branch c t u) h = (h.0, h.1, at_kept nodes more n (BranchNode c h.0 h.1) h.2, unfolds_kept nodes more h.0 t h.3, unfolds_kept nodes more h.1 u h.4)
  unfolds_kept nodes more n (Cases y k) h = (h.0, at_kept nodes more n (CasesNode y h.0) h.1, each_kept nodes more h.0 k h.2)

  each_kept : (nodes more : List Node) (cases : List (ℕ × ℕ)) (k : Chain) → UnfoldEach nodes cases k → UnfoldEach (nodes ++ more) cases k
  each_kept nodes more cases End h = h
  each_kept nodes more cases (More e t k) h = (h.0, h.1, h.2, unfolds_kept nodes more h.0 t h.3, each_kept nodes more h.1 k h.4)

pub fits_kept : (nodes more : List Node) (x : Node) (t : Tree) → Fits nodes x t → Fits (nodes ++ more) x t
fits_kept nodes more x Goal f = f
fits_kept nodes more x Impossible f = f
fits_kept nodes more x (Do i t) f = (f.0, f.1, unfolds_kept nodes more f.0 t f.2)
fits_kept nodes more x (Branch c t u) f = (f.0, f.1, f.2, unfolds_kept nodes more f.0 t f.3, unfolds_kept nodes more f.1 u f.4)
fits_kept nodes more x (Cases y k) f = (f.0, f.1, each_kept nodes more f.0 k f.2)

-- ---- a number unfolds to one tree

abbrev node_kind : Node → ℕ
node_kind GoalNode = 0
node_kind ImpossibleNode = 1
node_kind (DoNode i next) = 2
node_kind (BranchNode c m n) = 3
node_kind (CasesNode x cases) = 4

fits_kind : (nodes : List Node) (x : Node) (t : Tree) → Fits nodes x t → node_kind x ≡ root_kind t
fits_kind nodes x Goal f = ap node_kind f
fits_kind nodes x Impossible f = ap node_kind f
fits_kind nodes x (Do i t) f = ap node_kind f.1
fits_kind nodes x (Branch c t u) f = ap node_kind f.2
fits_kind nodes x (Cases y k) f = ap node_kind f.1

kinds : (nodes : List Node) (n : ℕ) (t u : Tree) → Unfolds nodes n t → Unfolds nodes n u → root_kind t ≡ root_kind u
kinds nodes n t u p q =
    let f = fits_of nodes n t p in
    let g = fits_of nodes n u q in
    sym (fits_kind nodes f.0 t f.2) ∙ ap node_kind (same_Some f.0 g.0 (sym f.1 ∙ g.1)) ∙ fits_kind nodes g.0 u g.2

mutual
  pub same_trees : (nodes : List Node) (n : ℕ) (t u : Tree) → Unfolds nodes n t → Unfolds nodes n u → t ≡ u
  same_trees nodes n Goal Goal p q = refl
  same_trees nodes n Impossible Impossible p q = refl
  same_trees nodes n (Do i t) (Do j u) p q =
      let e : DoNode i p.0 ≡ DoNode j q.0 = same_Some (DoNode i p.0) (DoNode j q.0) (sym p.1 ∙ q.1) in
      let step : i ≡ j = cc in
      let next : p.0 ≡ q.0 = cc in
      let rest = same_trees nodes q.0 t u (subst (λ m. Unfolds nodes m t) next p.2) q.2 in
      λ h. Do (step h) (rest h)
  same_trees nodes n (Branch c t t') (Branch d u u') p q =
      let e : BranchNode c p.0 p.1 ≡ BranchNode d q.0 q.1 = same_Some (BranchNode c p.0 p.1) (BranchNode d q.0 q.1) (sym p.2 ∙ q.2) in
      let test : c ≡ d = cc in
      let taken : p.0 ≡ q.0 = cc in
      let other : p.1 ≡ q.1 = cc in
      let first = same_trees nodes q.0 t u (subst (λ m. Unfolds nodes m t) taken p.3) q.3 in
      let second = same_trees nodes q.1 t' u' (subst (λ m. Unfolds nodes m t') other p.4) q.4 in
      λ h. Branch (test h) (first h) (second h)
  same_trees nodes n (Cases x k) (Cases y m) p q =
      let e : CasesNode x p.0 ≡ CasesNode y q.0 = same_Some (CasesNode x p.0) (CasesNode y q.0) (sym p.1 ∙ q.1) in
      let term : x ≡ y = cc in
      let cases : p.0 ≡ q.0 = cc in
      let rest = same_chains nodes q.0 k m (subst (λ l. UnfoldEach nodes l k) cases p.2) q.2 in
      λ h. Cases (term h) (rest h)
  same_trees nodes n Goal Impossible p q = let h = kinds nodes n Goal Impossible p q in cc
  same_trees nodes n Goal (Do j u) p q = let h = kinds nodes n Goal (Do j u) p q in cc
  same_trees nodes n Goal (Branch d u u') p q = let h = kinds nodes n Goal (Branch d u u') p q in cc
  same_trees nodes n Goal (Cases y m) p q = let h = kinds nodes n Goal (Cases y m) p q in cc
  same_trees nodes n Impossible Goal p q = let h = kinds nodes n Impossible Goal p q in cc
  same_trees nodes n Impossible (Do j u) p q = let h = kinds nodes n Impossible (Do j u) p q in cc
  same_trees nodes n Impossible (Branch d u u') p q = let h = kinds nodes n Impossible (Branch d u u') p q in cc
  same_trees nodes n Impossible (Cases y m) p q = let h = kinds nodes n Impossible (Cases y m) p q in cc
  same_trees nodes n (Do i t) Goal p q = let h = kinds nodes n (Do i t) Goal p q in cc
  same_trees nodes n (Do i t) Impossible p q = let h = kinds nodes n (Do i t) Impossible p q in cc
  same_trees nodes n (Do i t) (Branch d u u') p q = let h = kinds nodes n (Do i t) (Branch d u u') p q in cc
  same_trees nodes n (Do i t) (Cases y m) p q = let h = kinds nodes n (Do i t) (Cases y m) p q in cc
  same_trees nodes n (Branch c t t') Goal p q = let h = kinds nodes n (Branch c t t') Goal p q in cc
  same_trees nodes n (Branch c t t') Impossible p q = let h = kinds nodes n (Branch c t t') Impossible p q in cc
  same_trees nodes n (Branch c t t') (Do j u) p q = let h = kinds nodes n (Branch c t t') (Do j u) p q in cc
  same_trees nodes n (Branch c t t') (Cases y m) p q = let h = kinds nodes n (Branch c t t') (Cases y m) p q in cc
  same_trees nodes n (Cases x k) Goal p q = let h = kinds nodes n (Cases x k) Goal p q in cc
  same_trees nodes n (Cases x k) Impossible p q = let h = kinds nodes n (Cases x k) Impossible p q in cc
  same_trees nodes n (Cases x k) (Do j u) p q = let h = kinds nodes n (Cases x k) (Do j u) p q in cc
  same_trees nodes n (Cases x k) (Branch d u u') p q = let h = kinds nodes n (Cases x k) (Branch d u u') p q in cc

  same_chains : (nodes : List Node) (cases : List (ℕ × ℕ)) (k m : Chain) → UnfoldEach nodes cases k → UnfoldEach nodes cases m → k ≡ m
  same_chains nodes cases End End p q = refl
  same_chains nodes cases End (More d u m) p q = let e : [] ≡ (d, q.0) ∷ q.1 = sym p ∙ q.2 in cc
  same_chains nodes cases (More e t k) End p q = let h : (e, p.0) ∷ p.1 ≡ [] = sym p.2 ∙ q in cc
  same_chains nodes cases (More e t k) (More d u m) p q =
      let h : (e, p.0) ∷ p.1 ≡ (d, q.0) ∷ q.1 = sym p.2 ∙ q.2 in
      let one : ◌≡◌ {A = ℕ × ℕ} (e, p.0) (d, q.0) = cc in
      let others : p.1 ≡ q.1 = cc in
      let tree = same_trees nodes q.0 t u (subst (λ n. Unfolds nodes n t) (ap (λ (l : ℕ × ℕ). l.1) one) p.3) q.3 in
      let rest = same_chains nodes q.1 k m (subst (λ l. UnfoldEach nodes l k) others p.4) q.4 in
      λ i. More (ap (λ (l : ℕ × ℕ). l.0) one i) (tree i) (rest i)

-- ---- numbers are those of nodes

pub number_within : (nodes : List Node) (n : ℕ) (t : Tree) → Unfolds nodes n t → (1 ≤ n) × (n < suc (length nodes))
number_within nodes zero t h = absurd (none-some (fits_of nodes zero t h).0 (fits_of nodes zero t h).1)
number_within nodes (suc k) t h =
    let f = fits_of nodes (suc k) t h in
    let within : k < length nodes = slice_get_within nodes k f.0 f.1 in
    let least : 1 ≤ suc k = omega arith in
    let most : suc k < suc (length nodes) = omega (arith, within) in
    (least, most)

abbrev IsWithin : List Node → ℕ → Type 0
IsWithin nodes n = (1 ≤ n) × (n < suc (length nodes))

links_within : (nodes : List Node) (cases : List (ℕ × ℕ)) (k : Chain) → UnfoldEach nodes cases k → Each (IsWithin nodes) (map (λ (one : ℕ × ℕ). one.1) cases)
links_within nodes cases End h = subst (λ l. Each (IsWithin nodes) (map (λ (one : ℕ × ℕ). one.1) l)) (sym h) tt
links_within nodes cases (More e t k) h =
    subst (λ l. Each (IsWithin nodes) (map (λ (one : ℕ × ℕ). one.1) l)) (sym h.2) (number_within nodes h.0 t h.3, links_within nodes h.1 k h.4)

pub children_within : (nodes : List Node) (x : Node) (t : Tree) → Fits nodes x t → Each (λ n. (1 ≤ n) × (n < suc (length nodes))) (children_of x)
children_within nodes x Goal f = subst (λ y. Each (IsWithin nodes) (children_of y)) (sym f) tt
children_within nodes x Impossible f = subst (λ y. Each (IsWithin nodes) (children_of y)) (sym f) tt
children_within nodes x (Do i t) f = subst (λ y. Each (IsWithin nodes) (children_of y)) (sym f.1) (number_within nodes f.0 t f.2, tt)
children_within nodes x (Branch c t u) f = subst (λ y. Each (IsWithin nodes) (children_of y)) (sym f.2) (number_within nodes f.0 t f.3, (number_within nodes f.1 u f.4, tt))
children_within nodes x (Cases y k) f = subst (λ z. Each (IsWithin nodes) (children_of z)) (sym f.1) (links_within nodes f.0 k f.2)
