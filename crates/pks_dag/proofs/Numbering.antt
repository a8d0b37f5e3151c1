-- Nodes that unfold to trees of which no two are equal.
use Rattle.std.proofs.Common.{◌≡◌, ◌≤◌, ◌<◌, ℕ, zero, suc, Bool, true, false, cond, List, [], ◌∷◌, ◌++◌, length, slice_get, Some, append-nil, refl, sym, ap, ◌∙◌, subst, ⊎_elim, true≢false, add-one, is_eq}
use Rattle.std.specs.List.{list_any, position_or_len}
use Rattle.std.specs.Cmp.{Equal-is}
use Rattle.std.proofs.lemmas.Cmp.{tied_itself}
use Rattle.std.proofs.lemmas.Option.{none-some, same_Some}
use Rattle.pks_terms.specs.Sets.{Each}
use Rattle.pks_terms.specs.Trees.{Tree, Goal, Impossible, Do, Branch, Cases, Chain, End, More, depth, tree_cmp}
use Rattle.pks_terms.specs.Nodes.{Node, DoNode, BranchNode, CasesNode, Unfolds, UnfoldEach, same_tree, children_of}
use Rattle.pks_terms.proofs.ListLaws.{found_in, any_in, none_in}
use Rattle.pks_laws.proofs.TreeOrder.{tree_tells}
use Rattle.pks_laws.proofs.TreeTotal.{tree_cmp_total}
use Rattle.pks_dag.specs.NodeEquality.{same_node, same_node_is, same_node_decides}
use Rattle.pks_dag.specs.Sharing.{with_node, number_in}
use Rattle.pks_dag.proofs.Listing.{get_last, get_either, same_reach, list_same, in_place, place_in, longer, first_found, none_found, bool_same, put}
use Rattle.pks_dag.proofs.Unfolding.{Fits, fits_of, unfolds_from, unfolds_kept, fits_kept, same_trees, children_within}

pub same_tree_is : (t u : Tree) → same_tree t u ≡ true → t ≡ u
same_tree_is t u e = tree_tells depth t u ((Equal-is (tree_cmp depth t u)).0 e)

pub same_tree_itself : (t : Tree) → same_tree t t ≡ true
same_tree_itself t = ap is_eq (tied_itself (tree_cmp_total depth) t)

-- the nodes unfold to the trees, one by one, and no two trees are equal
pub record Lists (nodes : List Node) (ts : List Tree) : Type 0 where
  pub counted : length nodes ≡ length ts
  pub each : (k : ℕ) (t : Tree) → slice_get ts k ≡ Some t → Unfolds nodes (suc k) t
  pub apart : (i j : ℕ) (t : Tree) → slice_get ts i ≡ Some t → slice_get ts j ≡ Some t → i ≡ j

pub place_of : (nodes : List Node) (ts : List Tree) → Lists nodes ts → (n : ℕ) (t : Tree) → Unfolds nodes n t → (k : ℕ) × (n ≡ suc k) × (slice_get ts k ≡ Some t)
place_of nodes ts l zero t h = absurd (none-some (fits_of nodes zero t h).0 (fits_of nodes zero t h).1)
place_of nodes ts l (suc k) t h =
    let f = fits_of nodes (suc k) t h in
    let r = same_reach nodes ts l.counted k f.0 f.1 in
    (k, refl, r.1 ∙ ap Some (same_trees nodes (suc k) r.0 t (l.each k r.0 r.1) h))

-- ---- two such lists of nodes for the same trees

module _ (xs ys : List Node) (ts : List Tree) (l : Lists xs ts) (m : Lists ys ts) where
  number_same : (a b : ℕ) (t : Tree) → Unfolds xs a t → Unfolds ys b t → a ≡ b
  number_same a b t p q =
      let f = place_of xs ts l a t p in
      let g = place_of ys ts m b t q in
      f.1 ∙ ap suc (l.apart f.0 g.0 t f.2 g.2) ∙ sym g.1

  links_same : (k : Chain) (cs ds : List (ℕ × ℕ)) → UnfoldEach xs cs k → UnfoldEach ys ds k → cs ≡ ds
  links_same End cs ds f g = f ∙ sym g
  links_same (More e t k) cs ds f g =
      let number = number_same f.0 g.0 t f.3 g.3 in
      let rest = links_same k f.1 g.1 f.4 g.4 in
      f.2 ∙ (λ i. (e, number i) ∷ rest i) ∙ sym g.2

  pub node_same : (t : Tree) (x y : Node) → Fits xs x t → Fits ys y t → x ≡ y
  node_same Goal x y f g = f ∙ sym g
  node_same Impossible x y f g = f ∙ sym g
  node_same (Do i t) x y f g = f.1 ∙ ap (DoNode i) (number_same f.0 g.0 t f.2 g.2) ∙ sym g.1
  node_same (Branch c t u) x y f g =
      let taken = number_same f.0 g.0 t f.3 g.3 in
      let other = number_same f.1 g.1 u f.4 g.4 in
      f.2 ∙ (λ i. BranchNode c (taken i) (other i)) ∙ sym g.2
  node_same (Cases z k) x y f g = f.1 ∙ ap (CasesNode z) (links_same k f.0 g.0 f.2 g.2) ∙ sym g.1

  pub lists_same : xs ≡ ys
  lists_same =
      list_same xs ys (l.counted ∙ sym m.counted)
      (λ k x y p q.
      let r = same_reach xs ts l.counted k x p in
      let f = fits_of xs (suc k) r.0 (l.each k r.0 r.1) in
      let g = fits_of ys (suc k) r.0 (m.each k r.0 r.1) in
      same_Some x f.0 (sym p ∙ f.1) ∙ node_same r.0 f.0 g.0 f.2 g.2 ∙ sym (same_Some y g.0 (sym q ∙ g.1)))

-- ---- one more node

-- and the children have smaller numbers
pub record Built (nodes : List Node) (ts : List Tree) : Type 0 where
  pub lists : Lists nodes ts
  pub behind : (k : ℕ) (x : Node) → slice_get nodes k ≡ Some x → Each (λ n. (1 ≤ n) × (n < suc k)) (children_of x)

-- the nodes with one more, or with none where the tree was there
pub record Noted (nodes : List Node) (number : ℕ) (old : List Node) (ts : List Tree) (t : Tree) : Type 0 where
  pub built : Built nodes ts
  pub unfolds : Unfolds nodes number t
  pub more : (ys : List Node) × (nodes ≡ old ++ ys)

module _ (nodes : List Node) (ts : List Tree) (b : Built nodes ts) (x : Node) (t : Tree) (f : Fits nodes x t) where
  -- the node is there where the tree is
  agree : list_any (same_node x) nodes ≡ list_any (same_tree t) ts
  agree =
      bool_same (list_any (same_node x) nodes) (list_any (same_tree t) ts)
      (λ e.
      let y = found_in (same_node x) nodes e in
      let k = in_place y.0 nodes y.1 in
      let p = place_of nodes ts b.lists (suc k.0) t (unfolds_from nodes (suc k.0) x t (k.1 ∙ ap Some (sym (same_node_is x y.0 y.2))) f) in
      any_in (same_tree t) ts t (place_in ts p.0 t p.2) (same_tree_itself t))
      (λ e.
      let u = found_in (same_tree t) ts e in
      let k = in_place u.0 ts u.1 in
      let g = fits_of nodes (suc k.0) t (b.lists.each k.0 t (k.1 ∙ ap Some (sym (same_tree_is t u.0 u.2)))) in
      let same = node_same nodes nodes ts b.lists b.lists t g.0 x g.2 f in
      any_in (same_node x) nodes x (place_in nodes k.0 x (g.1 ∙ ap Some same)) ((same_node_decides x x).1 refl))

  there : list_any (same_node x) nodes ≡ true → Noted nodes (number_in nodes x) nodes ts t
  there e =
      let r = first_found (same_node x) nodes e in
      let spot = unfolds_from nodes (suc (position_or_len (same_node x) nodes)) x t (r.1 ∙ ap Some (sym (same_node_is x r.0 r.2))) f in
      record {
        built = b;
        unfolds = subst (λ n. Unfolds nodes n t) (sym (add-one (position_or_len (same_node x) nodes))) spot;
        more = ([], sym (append-nil nodes));
      }

  module _ (missing : list_any (same_node x) nodes ≡ false) where
    absent : (k : ℕ) → slice_get ts k ≡ Some t → ⊥
    absent k e = true≢false (sym (same_tree_itself t) ∙ none_in (same_tree t) ts t (sym agree ∙ missing) (place_in ts k t e))

    last_unfolds : Unfolds (nodes ++ x ∷ []) (suc (length nodes)) t
    last_unfolds = unfolds_from (nodes ++ x ∷ []) (suc (length nodes)) x t (get_last nodes x) (fits_kept nodes (x ∷ []) x t f)

    lists_more : Lists (nodes ++ x ∷ []) (ts ++ t ∷ [])
    lists_more = record {
      counted = longer nodes x ∙ ap suc b.lists.counted ∙ sym (longer ts t);
      each = λ k u e.
          ⊎_elim (λ h. unfolds_kept nodes (x ∷ []) (suc k) u (b.lists.each k u h))
          (λ h. subst (λ v. Unfolds (nodes ++ x ∷ []) (suc k) v) h.1 (subst (λ m. Unfolds (nodes ++ x ∷ []) (suc m) t) (b.lists.counted ∙ sym h.0) last_unfolds))
          (get_either ts t k u e);
      apart = λ i j u p q.
          ⊎_elim
          (λ h. ⊎_elim (λ g. b.lists.apart i j u h g) (λ g. absurd (absent i (h ∙ ap Some (sym g.1)))) (get_either ts t j u q))
          (λ h. ⊎_elim (λ g. absurd (absent j (g ∙ ap Some (sym h.1)))) (λ g. h.0 ∙ sym g.0) (get_either ts t j u q))
          (get_either ts t i u p);
    }

    new : Noted (nodes ++ x ∷ []) (number_in nodes x) nodes (ts ++ t ∷ []) t
    new = record {
      built = record {
        lists = lists_more;
        behind = λ k y e.
            ⊎_elim (λ h. b.behind k y h)
            (λ h. subst (λ z. Each (λ n. (1 ≤ n) × (n < suc k)) (children_of z)) h.1 (subst (λ m. Each (λ n. (1 ≤ n) × (n < suc m)) (children_of x)) (sym h.0) (children_within nodes x t f)))
            (get_either nodes x k y e);
      };
      unfolds =
          subst (λ n. Unfolds (nodes ++ x ∷ []) n t) (sym (add-one (position_or_len (same_node x) nodes) ∙ ap suc (none_found (same_node x) nodes missing))) last_unfolds;
      more = (x ∷ [], refl);
    }

  noted_by : (q : Bool) → list_any (same_node x) nodes ≡ q → Noted (cond q nodes (nodes ++ x ∷ [])) (number_in nodes x) nodes (cond q ts (ts ++ t ∷ [])) t
  noted_by true e = there e
  noted_by false e = new e

  pub note_right : Noted (with_node nodes x) (number_in nodes x) nodes (put same_tree ts t) t
  note_right =
      subst (λ q. Noted (with_node nodes x) (number_in nodes x) nodes (cond q ts (ts ++ t ∷ [])) t) agree (noted_by (list_any (same_node x) nodes) refl)
