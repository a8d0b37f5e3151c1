-- How many nodes derived plans have.
use Rattle.std.proofs.Math.Nat.{mul-le-mul_right}
use Rattle.std.proofs.Common.{◌≡◌, ◌≤◌, ◌+◌, ◌*◌, ℕ, suc, true, length, nat_le, arith, sym, ap, subst}
use Rattle.std.proofs.lemmas.Bool.{and_parts, leb-true}
use Rattle.pks_terms.specs.Syntax.{Term}
use Rattle.pks_terms.specs.Problems.{Problem}
use Rattle.pks_terms.specs.Settling.{History, State, At, Stopped, last_moment}
use Rattle.pks_terms.specs.Branching.{left, may_split}
use Rattle.pks_terms.specs.Trees.{Tree, Goal, Impossible, Do, Branch, Cases, Chain, End, More, Derives, DerivesEach, depth, chain_depth, objects_in}
use Rattle.pks_terms.specs.Printed.{nodes_of, nodes_in}

module _ (p : Problem) where
  -- derived trees of this depth have at most so many nodes
  abbrev AreSmall : ℕ → ℕ → Type 0
  AreSmall n b = (x : State) (t : Tree) → Derives p x t → depth t ≤ n → nodes_of t ≤ b

  leaves : AreSmall 0 1
  leaves x Goal d h = omega arith
  leaves x Impossible d h = omega arith
  leaves x (Do i t) d h = absurd (omega (arith, h))
  leaves x (Branch c t u) d h = absurd (omega (arith, h))
  leaves x (Cases e k) d h = absurd (omega (arith, h))

  cases_small : (n b : ℕ) → AreSmall n b → (h : History) (e : Term) (k : Chain) → DerivesEach p h e k → chain_depth k ≤ n → nodes_in k ≤ length (objects_in k) * b
  cases_small n b small h e End d low = omega arith
  cases_small n b small h e (More o u k) d low =
      let first : nodes_of u ≤ b = small d.0.0 u d.0.2 (omega (arith, low)) in
      let others : nodes_in k ≤ length (objects_in k) * b = cases_small n b small h e k d.1 (omega (arith, low)) in
      omega (arith, first, others)

  few_objects : (h : History) (e : Term) (k : Chain) → may_split p.signature (last_moment h) e ≡ true → objects_in k ≡ left p.signature (last_moment h) e → length (objects_in k) ≤ 16
  few_objects h e k may is =
      let n = length (left p.signature (last_moment h) e) in
      let most : n ≤ 16 = leb-true n 16 (and_parts (nat_le 1 n) (nat_le n 16) may).1 in
      subst (λ (m : ℕ). m ≤ 16) (sym (ap length is)) most

  deeper : (n b : ℕ) → 1 ≤ b → AreSmall n b → AreSmall (suc n) (16 * b + 1)
  deeper n b one small x Goal d low = omega (arith, one)
  deeper n b one small x Impossible d low = omega (arith, one)
  deeper n b one small Stopped (Do i t) d low = absurd d
  deeper n b one small (At h) (Do i t) d low = let next : nodes_of t ≤ b = small d.1.0 t d.1.2 (omega (arith, low)) in omega (arith, next, one)
  deeper n b one small Stopped (Branch c t u) d low = absurd d
  deeper n b one small (At h) (Branch c t u) d low =
      let yes : nodes_of t ≤ b = small d.2.0 t d.2.2 (omega (arith, low)) in
      let no : nodes_of u ≤ b = small d.3.0 u d.3.2 (omega (arith, low)) in
      omega (arith, yes, no, one)
  deeper n b one small Stopped (Cases e k) d low = absurd d
  deeper n b one small (At h) (Cases e k) d low =
      let objects : length (objects_in k) ≤ 16 = few_objects h e k d.1 d.2 in
      let nodes : nodes_in k ≤ length (objects_in k) * b = cases_small n b small h e k d.3 (omega (arith, low)) in
      let most : length (objects_in k) * b ≤ 16 * b = mul-le-mul_right b objects in
      omega (arith, nodes, most)

  pub plans_small : (x : State) (t : Tree) → Derives p x t → depth t ≤ 2 → nodes_of t ≤ 273
  plans_small x t d low = deeper 1 17 (omega arith) (deeper 0 1 (omega arith) leaves) x t d low
