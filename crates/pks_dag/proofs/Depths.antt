-- The depths of nodes are those of the trees that they unfold to.
use Rattle.std.proofs.Common.{◌≡◌, ◌≤◌, ◌<◌, ◌+◌, ℕ, zero, suc, max, List, [], ◌∷◌, ◌++◌, map, length, slice_get, Some, unwrap_or, append_assoc, append-nil, refl, sym, ap, ◌∙◌, subst, ⊎_elim, arith}
use Rattle.std.proofs.Math.Nat.{max-zero}
use Rattle.std.proofs.lemmas.Option.{none-some, same_Some}
use Rattle.pks_terms.specs.Sets.{Each}
use Rattle.pks_terms.specs.Trees.{Tree, Goal, Impossible, Do, Branch, Cases, Chain, End, More, depth, chain_depth}
use Rattle.pks_terms.specs.Nodes.{Node, at_number, Unfolds, UnfoldEach, IsShared, children_of, deepest, node_depth, last_depth}
use Rattle.pks_dag.specs.Sharing.{shared_in}
use Rattle.pks_dag.proofs.Listing.{get_either, longer}
use Rattle.pks_dag.proofs.Unfolding.{Fits, fits_of, number_within}
use Rattle.pks_dag.proofs.SharedOnce.{share_right, shared_is, shared_one}

reached : {X : Type 0} (xs : List X) (k : ℕ) → k < length xs → (x : X) × (slice_get xs k ≡ Some x)
reached [] k h = absurd (omega (arith, h))
reached (x ∷ xs) zero h = (x, refl)
reached (x ∷ xs) (suc k) h = let within : k < length xs = omega (arith, h) in reached xs k within

get_middle : {X : Type 0} (front rest : List X) (x : X) → slice_get (front ++ x ∷ rest) (length front) ≡ Some x
get_middle [] rest x = refl
get_middle (y ∷ front) rest x = get_middle front rest x

-- the depths are those of the trees that the first nodes unfold to
abbrev AreDepths : List Node → List ℕ → Type 0
AreDepths nodes before = (k d : ℕ) (t : Tree) → slice_get before k ≡ Some d → Unfolds nodes (suc k) t → d ≡ depth t

-- these are numbers of the first nodes
abbrev AreBefore : List ℕ → List ℕ → Type 0
AreBefore before ns = Each (λ n. (1 ≤ n) × (n < suc (length before))) ns

module _ (nodes : List Node) (before : List ℕ) (told : AreDepths nodes before) where
  child_depth : (n : ℕ) (t : Tree) → (1 ≤ n) × (n < suc (length before)) → Unfolds nodes n t → unwrap_or (at_number before n) 0 ≡ depth t
  child_depth zero t h u = absurd (omega (arith, h.0))
  child_depth (suc k) t h u =
      let within : k < length before = omega (arith, h.1) in
      let r = reached before k within in
      ap (λ o. unwrap_or o 0) r.1 ∙ told k r.0 t r.1 u

  links_depth : (links : List (ℕ × ℕ)) (k : Chain) → AreBefore before (map (λ (one : ℕ × ℕ). one.1) links) → UnfoldEach nodes links k → deepest before (map (λ (one : ℕ × ℕ). one.1) links) ≡ chain_depth k
  links_depth links End h u = ap (λ (l : List (ℕ × ℕ)). deepest before (map (λ (one : ℕ × ℕ). one.1) l)) u
  links_depth links (More e t k) h u =
      let g = subst (λ (l : List (ℕ × ℕ)). AreBefore before (map (λ (one : ℕ × ℕ). one.1) l)) u.2 h in
      let first = child_depth u.0 t g.0 u.3 in
      let rest = links_depth u.1 k g.1 u.4 in
      ap (λ (l : List (ℕ × ℕ)). deepest before (map (λ (one : ℕ × ℕ). one.1) l)) u.2 ∙ (λ i. max (first i) (rest i))

  depth_of_node : (x : Node) (t : Tree) → AreBefore before (children_of x) → Fits nodes x t → node_depth before x ≡ depth t
  depth_of_node x Goal h f = ap (node_depth before) f
  depth_of_node x Impossible h f = ap (node_depth before) f
  depth_of_node x (Do i t) h f =
      let g = subst (λ y. AreBefore before (children_of y)) f.1 h in
      ap (node_depth before) f.1 ∙ ap (λ n. n + 1) (max-zero (unwrap_or (at_number before f.0) 0) ∙ child_depth f.0 t g.0 f.2)
  depth_of_node x (Branch c t u) h f =
      let g = subst (λ y. AreBefore before (children_of y)) f.2 h in
      let first = child_depth f.0 t g.0 f.3 in
      let second = max-zero (unwrap_or (at_number before f.1) 0) ∙ child_depth f.1 u g.1.0 f.4 in
      ap (node_depth before) f.2 ∙ (λ i. max (first i) (second i) + 1)
  depth_of_node x (Cases y k) h f =
      let g = subst (λ z. AreBefore before (children_of z)) f.1 h in
      ap (node_depth before) f.1 ∙ ap (λ n. n + 1) (links_depth f.0 k g f.2)

-- each child has a smaller number
abbrev AreBehind : List Node → Type 0
AreBehind nodes = (k : ℕ) (x : Node) → slice_get nodes k ≡ Some x → Each (λ n. (1 ≤ n) × (n < suc k)) (children_of x)

module _ (nodes : List Node) (behind : AreBehind nodes) where
  depth_at : (before : List ℕ) (x : Node) (t : Tree) → AreDepths nodes before → slice_get nodes (length before) ≡ Some x → Unfolds nodes (suc (length before)) t → node_depth before x ≡ depth t
  depth_at before x t told at u =
      let f = fits_of nodes (suc (length before)) t u in
      let same : f.0 ≡ x = same_Some f.0 x (sym f.1 ∙ at) in
      depth_of_node nodes before told x t (behind (length before) x at) (subst (λ y. Fits nodes y t) same f.2)

  one_more : (before : List ℕ) (x : Node) → AreDepths nodes before → slice_get nodes (length before) ≡ Some x → AreDepths nodes (before ++ node_depth before x ∷ [])
  one_more before x told at k d t e u =
      ⊎_elim (λ h. told k d t h u)
      (λ h. sym h.1 ∙ depth_at before x t told at (subst (λ n. Unfolds nodes (suc n) t) h.0 u))
      (get_either before (node_depth before x) k d e)

  last_is : (front rest : List Node) (before : List ℕ) (last : ℕ) → nodes ≡ front ++ rest → length before ≡ length front → AreDepths nodes before
      → ((t : Tree) → Unfolds nodes (length before) t → last ≡ depth t) → (t : Tree) → Unfolds nodes (length nodes) t → last_depth before last rest ≡ depth t
  last_is front [] before last e l told right t u =
      let all : length nodes ≡ length before = ap length (e ∙ append-nil front) ∙ sym l in
      right t (subst (λ n. Unfolds nodes n t) all u)
  last_is front (x ∷ rest) before last e l told right t u =
      let at : slice_get nodes (length before) ≡ Some x = ap (slice_get nodes) l ∙ ap (λ xs. slice_get xs (length front)) e ∙ get_middle front rest x in
      let d = node_depth before x in
      let more = longer before d in
      last_is (front ++ x ∷ []) rest (before ++ d ∷ []) d (e ∙ sym (append_assoc front (x ∷ []) rest)) (more ∙ ap suc l ∙ sym (longer front x)) (one_more before x told at)
      (λ v h. depth_at before x v told at (subst (λ n. Unfolds nodes n v) more h)) t u

pub depth_is_printed : (t : Tree) (nodes : List Node) → IsShared t nodes → last_depth [] 0 nodes ≡ depth t
depth_is_printed t nodes s =
    let own = (shared_in [] t).0 in
    let is = shared_is t in
    ap (last_depth [] 0) (shared_one t nodes own s is)
    ∙ last_is own (share_right t).built.behind [] own [] 0 refl refl (λ k d u e h. absurd (none-some d e)) (λ u h. absurd (omega (arith, (number_within own 0 u h).0))) t is.whole
