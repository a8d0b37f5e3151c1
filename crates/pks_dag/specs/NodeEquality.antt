-- When two nodes are equal.
use Rattle.std.specs.Prelude.{◌≡◌, ℕ, Bool, true, false, ◌&&◌, ◌==◌, refl}
use Rattle.std.specs.Bool.{Decides}
use Rattle.std.specs.Ordering.{is_eq}
use Rattle.std.specs.Cmp.{IsEquivalence, IsTotalOrder, decided, Equal-is}
use Rattle.std.specs.Cmp.Lexicographic.{pointwise, pointwise_decides}
use Rattle.std.specs.FinMap.{nat_cmp-IsAntisymmetric, slice_cmp-IsAntisymmetric}
use Rattle.std.proofs.Common.{sym, ap, subst, true≢false, nat_cmp, eqb-true}
use Rattle.std.proofs.lemmas.Bool.Decides.{Decides-eqb}
use Rattle.std.proofs.lemmas.Bool.{and_parts, and_from}
use Rattle.std.proofs.lemmas.Cmp.{nat_cmp_total, on_total, then_total, lists_total, tied_itself}
use Rattle.pks_terms.specs.Orders.{term_cmp, term_eq, conj_cmp}
use Rattle.pks_terms.specs.Totality.{inner_cmp_total, term_cmp_total, conj_cmp_total}
use Rattle.pks_terms.specs.Actions.{Instance}
use Rattle.pks_terms.specs.Trees.{instance_cmp}
use Rattle.pks_terms.specs.Nodes.{Node, GoalNode, ImpossibleNode, DoNode, BranchNode, CasesNode}
use Rattle.pks_terms.proofs.OrderLaws.{both_equal, form_cmp_tells, conj_cmp_tells, same_term}

-- an object and the number of its node are equal to others
abbrev pub same_link : ℕ × ℕ → ℕ × ℕ → Bool
same_link a b = (a.0 == b.0) && (a.1 == b.1)

-- the nodes are equal
abbrev pub same_node : Node → Node → Bool
same_node GoalNode GoalNode = true
same_node ImpossibleNode ImpossibleNode = true
same_node (DoNode i m) (DoNode j n) = is_eq (instance_cmp i j) && (m == n)
same_node (BranchNode c m n) (BranchNode d o q) = is_eq (conj_cmp c d) && ((m == o) && (n == q))
same_node (CasesNode t k) (CasesNode u l) = term_eq t u && pointwise same_link k l
same_node x y = false

-- ---- the test decides equality

same_step : (i j : Instance) → is_eq (instance_cmp i j) ≡ true → i ≡ j
same_step i j e =
    let p = both_equal (nat_cmp i.action j.action) _ ((Equal-is (instance_cmp i j)).0 e) in
    λ k. record { action = nat_cmp-IsAntisymmetric i.action j.action p.0 k; arguments = slice_cmp-IsAntisymmetric (form_cmp_tells nat_cmp-IsAntisymmetric) i.arguments j.arguments p.1 k }

same_link_decides : (a b : ℕ × ℕ) → Decides (same_link a b) (a ≡ b)
same_link_decides a b = (
  λ e. let p = and_parts (a.0 == b.0) (a.1 == b.1) e in λ k. (eqb-true a.0 b.0 p.0 k, eqb-true a.1 b.1 p.1 k),
  λ e. and_from (a.0 == b.0) (a.1 == b.1) ((Decides-eqb a.0 b.0).1 (ap (λ (c : ℕ × ℕ). c.0) e)) ((Decides-eqb a.1 b.1).1 (ap (λ (c : ℕ × ℕ). c.1) e)),
)

pub same_node_is : (x y : Node) → same_node x y ≡ true → x ≡ y
same_node_is GoalNode GoalNode e = refl
same_node_is ImpossibleNode ImpossibleNode e = refl
same_node_is (DoNode i m) (DoNode j n) e = let p = and_parts (is_eq (instance_cmp i j)) (m == n) e in λ k. DoNode (same_step i j p.0 k) (eqb-true m n p.1 k)
same_node_is (BranchNode c m n) (BranchNode d o q) e =
    let p = and_parts (is_eq (conj_cmp c d)) ((m == o) && (n == q)) e in
    let r = and_parts (m == o) (n == q) p.1 in
    λ k. BranchNode (conj_cmp_tells c d ((Equal-is (conj_cmp c d)).0 p.0) k) (eqb-true m o r.0 k) (eqb-true n q r.1 k)
same_node_is (CasesNode t k) (CasesNode u l) e =
    let p = and_parts (term_eq t u) (pointwise same_link k l) e in
    λ h. CasesNode (same_term t u p.0 h) ((pointwise_decides same_link_decides k l).0 p.1 h)
same_node_is GoalNode ImpossibleNode e = absurd (true≢false (sym e))
same_node_is GoalNode (DoNode j o) e = absurd (true≢false (sym e))
same_node_is GoalNode (BranchNode d o q) e = absurd (true≢false (sym e))
same_node_is GoalNode (CasesNode u l) e = absurd (true≢false (sym e))
same_node_is ImpossibleNode GoalNode e = absurd (true≢false (sym e))
same_node_is ImpossibleNode (DoNode j o) e = absurd (true≢false (sym e))
same_node_is ImpossibleNode (BranchNode d o q) e = absurd (true≢false (sym e))
same_node_is ImpossibleNode (CasesNode u l) e = absurd (true≢false (sym e))
same_node_is (DoNode i m) GoalNode e = absurd (true≢false (sym e))
same_node_is (DoNode i m) ImpossibleNode e = absurd (true≢false (sym e))
same_node_is (DoNode i m) (BranchNode d o q) e = absurd (true≢false (sym e))
same_node_is (DoNode i m) (CasesNode u l) e = absurd (true≢false (sym e))
same_node_is (BranchNode c m n) GoalNode e = absurd (true≢false (sym e))
same_node_is (BranchNode c m n) ImpossibleNode e = absurd (true≢false (sym e))
same_node_is (BranchNode c m n) (DoNode j o) e = absurd (true≢false (sym e))
same_node_is (BranchNode c m n) (CasesNode u l) e = absurd (true≢false (sym e))
same_node_is (CasesNode t k) GoalNode e = absurd (true≢false (sym e))
same_node_is (CasesNode t k) ImpossibleNode e = absurd (true≢false (sym e))
same_node_is (CasesNode t k) (DoNode j o) e = absurd (true≢false (sym e))
same_node_is (CasesNode t k) (BranchNode d o q) e = absurd (true≢false (sym e))

instance_cmp_total : IsTotalOrder instance_cmp
instance_cmp_total = then_total (on_total (λ i. i.action) nat_cmp_total) (on_total (λ i. i.arguments) (lists_total inner_cmp_total))

itself : (x : Node) → same_node x x ≡ true
unfolding term_eq
itself GoalNode = refl
itself ImpossibleNode = refl
itself (DoNode i m) = and_from (is_eq (instance_cmp i i)) (m == m) (ap is_eq (tied_itself instance_cmp_total i)) ((Decides-eqb m m).1 refl)
itself (BranchNode c m n) =
    and_from (is_eq (conj_cmp c c)) ((m == m) && (n == n)) (ap is_eq (tied_itself conj_cmp_total c)) (and_from (m == m) (n == n) ((Decides-eqb m m).1 refl) ((Decides-eqb n n).1 refl))
itself (CasesNode t k) =
    and_from (is_eq (term_cmp t t)) (pointwise same_link k k) (ap is_eq (tied_itself term_cmp_total t)) ((pointwise_decides same_link_decides k k).1 refl)

pub same_node_decides : (x y : Node) → Decides (same_node x y) (x ≡ y)
same_node_decides x y = (same_node_is x y, λ e. subst (λ z. same_node x z ≡ true) e (itself x))

pub same_node_equivalence : IsEquivalence same_node
same_node_equivalence = decided same_node same_node_decides
