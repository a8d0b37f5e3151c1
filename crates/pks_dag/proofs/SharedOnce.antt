-- The nodes of a tree, made one after another, are the one list of its nodes.
use Rattle.std.proofs.Common.{◌≡◌, ◌≤◌, ◌<◌, ◌+◌, ℕ, zero, suc, max, Bool, true, false, List, [], ◌∷◌, ◌++◌, length, fold, slice_get, Some, append_assoc, append-nil, refl, sym, ap, ◌∙◌, subst, le_refl, cond, arith}
use Rattle.std.proofs.Math.Nat.{le-max_left, le-max_right}
use Rattle.std.proofs.lemmas.List.Sums.{fold-append}
use Rattle.std.proofs.lemmas.Option.{none-some, same_Some}
use Rattle.pks_terms.specs.Sets.{Each}
use Rattle.pks_terms.specs.Trees.{Tree, Goal, Impossible, Do, Branch, Cases, Chain, End, More, depth, chain_depth}
use Rattle.pks_terms.specs.Nodes.{Node, GoalNode, ImpossibleNode, DoNode, BranchNode, CasesNode, Unfolds, UnfoldEach, UnfoldTo, same_tree, walk_of, walk_in, first_ends, IsShared, children_of, AreBehindChildren}
use Rattle.pks_terms.proofs.ListLaws.{each_append, each_weaker}
use Rattle.pks_dag.specs.Sharing.{with_node, number_in, shared_in, shared_cases}
use Rattle.pks_dag.proofs.Listing.{get_last, same_reach, to_distinct, longer, none_passes, put, put_all, each_put}
use Rattle.pks_dag.proofs.Unfolding.{Fits, fits_of, unfolds_from, unfolds_kept, same_trees}
use Rattle.pks_dag.proofs.Numbering.{same_tree_is, Lists, place_of, lists_same, Built, Noted, note_right}

-- ---- node after node

abbrev put_trees : List Tree → List Tree → List Tree
put_trees ts us = fold (put same_tree) ts us

record CasesRight (nodes : List Node) (links : List (ℕ × ℕ)) (old : List Node) (ts : List Tree) (k : Chain) : Type 0 where
  built : Built nodes ts
  unfolds_each : UnfoldEach nodes links k
  more : (ys : List Node) × (nodes ≡ old ++ ys)

both_more : (old mid new : List Node) → ((ys : List Node) × (mid ≡ old ++ ys)) → ((ys : List Node) × (new ≡ mid ++ ys)) → (ys : List Node) × (new ≡ old ++ ys)
both_more old mid new a b = (a.0 ++ b.0, b.1 ∙ ap (λ z. z ++ b.0) a.1 ∙ append_assoc old a.0 b.0)

kept_along : (old new : List Node) (n : ℕ) (t : Tree) → ((ys : List Node) × (new ≡ old ++ ys)) → Unfolds old n t → Unfolds new n t
kept_along old new n t m h = subst (λ z. Unfolds z n t) (sym m.1) (unfolds_kept old m.0 n t h)

-- one more tree behind those that a walk ended
after : (nodes mid : List Node) (ts us : List Tree) (x : Node) (t : Tree) → Built mid (put_trees ts us) → ((ys : List Node) × (mid ≡ nodes ++ ys)) → Fits mid x t → Noted (with_node mid x) (number_in mid x) nodes (put_trees ts (us ++ t ∷ [])) t
after nodes mid ts us x t b m f =
    let n = note_right mid (put_trees ts us) b x t f in
    record {
      built = subst (λ vs. Built (with_node mid x) vs) (sym (fold-append (put same_tree) ts us (t ∷ []))) n.built;
      unfolds = n.unfolds;
      more = both_more nodes mid (with_node mid x) m n.more;
    }

mutual
  tree_right : (t : Tree) (nodes : List Node) (ts : List Tree) → Built nodes ts → Noted (shared_in nodes t).0 (shared_in nodes t).1 nodes (put_trees ts (walk_of t)) t
  tree_right Goal nodes ts b = after nodes nodes ts [] GoalNode Goal b ([], sym (append-nil nodes)) refl
  tree_right Impossible nodes ts b = after nodes nodes ts [] ImpossibleNode Impossible b ([], sym (append-nil nodes)) refl
  tree_right (Do i t) nodes ts b =
      let s = shared_in nodes t in
      let r = tree_right t nodes ts b in
      after nodes s.0 ts (walk_of t) (DoNode i s.1) (Do i t) r.built r.more (s.1, refl, r.unfolds)
  tree_right (Branch c t u) nodes ts b =
      let s = shared_in nodes t in
      let r = tree_right t nodes ts b in
      let s' = shared_in s.0 u in
      let r' = tree_right u s.0 (put_trees ts (walk_of t)) r.built in
      let both = subst (λ vs. Built s'.0 vs) (sym (fold-append (put same_tree) ts (walk_of t) (walk_of u))) r'.built in
      let n = after nodes s'.0 ts (walk_of t ++ walk_of u) (BranchNode c s.1 s'.1) (Branch c t u) both (both_more nodes s.0 s'.0 r.more r'.more) (s.1, s'.1, refl, kept_along s.0 s'.0 s.1 t r'.more r.unfolds, r'.unfolds) in
      subst (λ vs. Noted (shared_in nodes (Branch c t u)).0 (shared_in nodes (Branch c t u)).1 nodes (put_trees ts vs) (Branch c t u)) (append_assoc (walk_of t) (walk_of u) (Branch c t u ∷ [])) n
  tree_right (Cases x k) nodes ts b =
      let s = shared_cases nodes k in
      let r = cases_right k nodes ts b in
      after nodes s.0 ts (walk_in k) (CasesNode x s.1) (Cases x k) r.built r.more (s.1, refl, r.unfolds_each)

  cases_right : (k : Chain) (nodes : List Node) (ts : List Tree) → Built nodes ts → CasesRight (shared_cases nodes k).0 (shared_cases nodes k).1 nodes (put_trees ts (walk_in k)) k
  cases_right End nodes ts b = record { built = b; unfolds_each = refl; more = ([], sym (append-nil nodes)) }
  cases_right (More e t k) nodes ts b =
      let s = shared_in nodes t in
      let r = tree_right t nodes ts b in
      let s' = shared_cases s.0 k in
      let r' = cases_right k s.0 (put_trees ts (walk_of t)) r.built in
      record {
        built = subst (λ vs. Built s'.0 vs) (sym (fold-append (put same_tree) ts (walk_of t) (walk_in k))) r'.built;
        unfolds_each = (s.1, s'.1, refl, kept_along s.0 s'.0 s.1 t r'.more r.unfolds, r'.unfolds_each);
        more = both_more nodes s.0 s'.0 r.more r'.more;
      }

none_built : Built [] []
none_built = record {
  lists = record { counted = refl; each = λ k t e. absurd (none-some t e); apart = λ i j t e f. absurd (none-some t e) };
  behind = λ k x e. absurd (none-some x e);
}

ends_are : (t : Tree) → put_trees [] (walk_of t) ≡ first_ends t
unfolding first_ends
ends_are t = put_all same_tree [] [] (walk_of t) (λ y. refl)

pub share_right : (t : Tree) → Noted (shared_in [] t).0 (shared_in [] t).1 [] (first_ends t) t
share_right t = subst (λ ts. Noted (shared_in [] t).0 (shared_in [] t).1 [] ts t) (ends_are t) (tree_right t [] [] none_built)

-- ---- the tree itself ends last

mutual
  walk_low : (n : ℕ) (t : Tree) → depth t ≤ n → Each (λ u. depth u ≤ n) (walk_of t)
  walk_low n Goal h = (h, tt)
  walk_low n Impossible h = (h, tt)
  walk_low n (Do i t) h = let below : depth t ≤ n = omega (arith, h) in each_append (λ u. depth u ≤ n) (walk_of t) (Do i t ∷ []) (walk_low n t below) (h, tt)
  walk_low n (Branch c t u) h =
      let left = le-max_left (depth t) (depth u) in
      let right = le-max_right (depth t) (depth u) in
      let first : depth t ≤ n = omega (arith, h, left) in
      let second : depth u ≤ n = omega (arith, h, right) in
      each_append (λ u. depth u ≤ n) (walk_of t) (walk_of u ++ Branch c t u ∷ []) (walk_low n t first) (each_append (λ u. depth u ≤ n) (walk_of u) (Branch c t u ∷ []) (walk_low n u second) (h, tt))
  walk_low n (Cases x k) h = let below : chain_depth k ≤ n = omega (arith, h) in each_append (λ u. depth u ≤ n) (walk_in k) (Cases x k ∷ []) (cases_low n k below) (h, tt)

  cases_low : (n : ℕ) (k : Chain) → chain_depth k ≤ n → Each (λ u. depth u ≤ n) (walk_in k)
  cases_low n End h = tt
  cases_low n (More e t k) h =
      let left = le-max_left (depth t) (chain_depth k) in
      let right = le-max_right (depth t) (chain_depth k) in
      let first : depth t ≤ n = omega (arith, h, left) in
      let second : chain_depth k ≤ n = omega (arith, h, right) in
      each_append (λ u. depth u ≤ n) (walk_of t) (walk_in k) (walk_low n t first) (cases_low n k second)

-- what a walk ends before the tree itself
abbrev front_of : Tree → List Tree
front_of Goal = []
front_of Impossible = []
front_of (Do i t) = walk_of t
front_of (Branch c t u) = walk_of t ++ walk_of u
front_of (Cases x k) = walk_in k

walk_is : (t : Tree) → walk_of t ≡ front_of t ++ t ∷ []
walk_is Goal = refl
walk_is Impossible = refl
walk_is (Do i t) = refl
walk_is (Branch c t u) = sym (append_assoc (walk_of t) (walk_of u) (Branch c t u ∷ []))
walk_is (Cases x k) = refl

lower : (n : ℕ) (ts : List Tree) → Each (λ u. depth u ≤ n) ts → Each (λ u. depth u < n + 1) ts
lower n ts h = each_weaker (λ u. depth u ≤ n) (λ u. depth u < n + 1) (λ u l. omega (arith, l)) ts h

front_low : (t : Tree) → Each (λ u. depth u < depth t) (front_of t)
front_low Goal = tt
front_low Impossible = tt
front_low (Do i t) = lower (depth t) (walk_of t) (walk_low (depth t) t (le_refl (depth t)))
front_low (Branch c t u) =
    lower (max (depth t) (depth u)) (walk_of t ++ walk_of u)
    (each_append (λ v. depth v ≤ max (depth t) (depth u)) (walk_of t) (walk_of u) (walk_low (max (depth t) (depth u)) t (le-max_left (depth t) (depth u))) (walk_low (max (depth t) (depth u)) u (le-max_right (depth t) (depth u))))
front_low (Cases x k) = lower (chain_depth k) (walk_in k) (cases_low (chain_depth k) k (le_refl (chain_depth k)))

other_tree : (t u : Tree) → depth u < depth t → (b : Bool) → same_tree t u ≡ b → b ≡ false
other_tree t u less false e = refl
other_tree t u less true e = let same : depth t ≡ depth u = ap depth (same_tree_is t u e) in absurd (omega (arith, less, same))

last_of : (t : Tree) → (us : List Tree) × (first_ends t ≡ us ++ t ∷ [])
last_of t =
    let us = put_trees [] (front_of t) in
    let fresh = none_passes (same_tree t) us (each_weaker (λ u. depth u < depth t) (λ u. same_tree t u ≡ false) (λ u l. other_tree t u l (same_tree t u) refl) us (each_put same_tree (λ u. depth u < depth t) [] (front_of t) tt (front_low t))) in
    (us, sym (ends_are t) ∙ ap (put_trees []) (walk_is t) ∙ fold-append (put same_tree) [] (front_of t) (t ∷ []) ∙ ap (λ b. cond b us (us ++ t ∷ [])) fresh)

-- ---- the one list

to_unfold : (nodes : List Node) (n : ℕ) (xs : List Node) (ts : List Tree) → length xs ≡ length ts → ((k : ℕ) (t : Tree) → slice_get ts k ≡ Some t → Unfolds nodes (k + n) t) → UnfoldTo nodes n xs ts
to_unfold nodes n [] [] e f = tt
to_unfold nodes n [] (t ∷ ts) e f = absurd (omega (arith, e))
to_unfold nodes n (x ∷ xs) [] e f = absurd (omega (arith, e))
to_unfold nodes n (x ∷ xs) (t ∷ ts) e f =
    let same : length xs ≡ length ts = omega (arith, e) in
    let first : 0 + n ≡ n = omega arith in (
      subst (λ m. Unfolds nodes m t) first (f 0 t refl),
      to_unfold nodes (n + 1) xs ts same (λ k u h. let next : suc k + n ≡ k + (n + 1) = omega arith in subst (λ m. Unfolds nodes m u) next (f (suc k) u h)),
    )

from_unfold : (nodes : List Node) (n : ℕ) (xs : List Node) (ts : List Tree) → UnfoldTo nodes n xs ts → (length xs ≡ length ts) × ((k : ℕ) (t : Tree) → slice_get ts k ≡ Some t → Unfolds nodes (k + n) t)
from_unfold nodes n [] [] h = (refl, λ k t e. absurd (none-some t e))
from_unfold nodes n [] (t ∷ ts) h = absurd h
from_unfold nodes n (x ∷ xs) [] h = absurd h
from_unfold nodes n (x ∷ xs) (t ∷ ts) h =
    let r = from_unfold nodes (n + 1) xs ts h.1 in
    (ap suc r.0, λ k u e. at_place nodes n t ts h.0 r.1 k u e)
  where
    at_place : (nodes : List Node) (n : ℕ) (t : Tree) (ts : List Tree) → Unfolds nodes n t → ((k : ℕ) (u : Tree) → slice_get ts k ≡ Some u → Unfolds nodes (k + (n + 1)) u) → (k : ℕ) (u : Tree) → slice_get (t ∷ ts) k ≡ Some u → Unfolds nodes (k + n) u
    at_place nodes n t ts first rest zero u e = let start : n ≡ 0 + n = omega arith in subst (λ m. Unfolds nodes m u) start (subst (λ v. Unfolds nodes n v) (same_Some t u e) first)
    at_place nodes n t ts first rest (suc k) u e = let next : k + (n + 1) ≡ suc k + n = omega arith in subst (λ m. Unfolds nodes m u) next (rest k u e)

to_behind : (n : ℕ) (xs : List Node) → ((k : ℕ) (x : Node) → slice_get xs k ≡ Some x → Each (λ c. (1 ≤ c) × (c < k + n)) (children_of x)) → AreBehindChildren n xs
to_behind n [] f = tt
to_behind n (x ∷ xs) f =
    let first : 0 + n ≡ n = omega arith in (
      subst (λ m. Each (λ c. (1 ≤ c) × (c < m)) (children_of x)) first (f 0 x refl),
      to_behind (n + 1) xs (λ k y h. let next : suc k + n ≡ k + (n + 1) = omega arith in subst (λ m. Each (λ c. (1 ≤ c) × (c < m)) (children_of y)) next (f (suc k) y h)),
    )

module _ (nodes : List Node) (ts : List Tree) (l : Lists nodes ts) where
  nodes_apart : (i j : ℕ) (x : Node) → slice_get nodes i ≡ Some x → slice_get nodes j ≡ Some x → i ≡ j
  nodes_apart i j x p q =
      let t = same_reach nodes ts l.counted i x p in
      let u = same_reach nodes ts l.counted j x q in
      let g = fits_of nodes (suc j) u.0 (l.each j u.0 u.1) in
      let other = unfolds_from nodes (suc i) g.0 u.0 (p ∙ sym q ∙ g.1) g.2 in
      let same = same_trees nodes (suc i) t.0 u.0 (l.each i t.0 t.1) other in
      l.apart i j u.0 (t.1 ∙ ap Some same) u.1

pub shared_is : (t : Tree) → IsShared t (shared_in [] t).0
shared_is t =
    let r = share_right t in
    let nodes = (shared_in [] t).0 in
    let l = r.built.lists in
    let last = last_of t in
    let p = place_of nodes (first_ends t) l (shared_in [] t).1 t r.unfolds in
    let there : slice_get (first_ends t) (length last.0) ≡ Some t = ap (λ ts. slice_get ts (length last.0)) last.1 ∙ get_last last.0 t in
    let number : (shared_in [] t).1 ≡ length nodes = p.1 ∙ ap suc (l.apart p.0 (length last.0) t p.2 there) ∙ sym (longer last.0 t) ∙ sym (ap length last.1) ∙ sym l.counted in
    record {
      distinct = to_distinct nodes (nodes_apart nodes (first_ends t) l);
      order = to_unfold nodes 1 nodes (first_ends t) l.counted (λ k u e. let spot : suc k ≡ k + 1 = omega arith in subst (λ m. Unfolds nodes m u) spot (l.each k u e));
      whole = subst (λ n. Unfolds nodes n t) number r.unfolds;
    }

pub shared_behind : (t : Tree) → AreBehindChildren 1 (shared_in [] t).0
shared_behind t =
    to_behind 1 (shared_in [] t).0
    (λ k x e. let spot : suc k ≡ k + 1 = omega arith in subst (λ m. Each (λ c. (1 ≤ c) × (c < m)) (children_of x)) spot ((share_right t).built.behind k x e))

lists_of : (t : Tree) (nodes : List Node) → IsShared t nodes → Lists nodes (first_ends t)
lists_of t nodes s =
    let r = from_unfold nodes 1 nodes (first_ends t) s.order in
    record {
      counted = r.0;
      each = λ k u e. let spot : k + 1 ≡ suc k = omega arith in subst (λ m. Unfolds nodes m u) spot (r.1 k u e);
      apart = (share_right t).built.lists.apart;
    }

-- there is one list of nodes of a tree
pub shared_one : (t : Tree) (xs ys : List Node) → IsShared t xs → IsShared t ys → xs ≡ ys
shared_one t xs ys a b = lists_same xs ys (first_ends t) (lists_of t xs a) (lists_of t ys b)
