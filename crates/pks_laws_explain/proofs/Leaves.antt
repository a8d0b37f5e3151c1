-- Each plan comes to states at its leaves.
use Rattle.std.proofs.Common.{List, [], ◌∷◌, ◌++◌, refl}
use Rattle.pks_terms.specs.Syntax.{Term}
use Rattle.pks_terms.specs.Problems.{Problem}
use Rattle.pks_terms.specs.Settling.{History, State, At, Stopped}
use Rattle.pks_terms.specs.Trees.{Tree, Goal, Impossible, Do, Branch, Cases, Chain, End, More, Derives, DerivesEach, start_state, IsPlan}
use Rattle.pks_terms.specs.Recalled.{AreLeaves, AreLeavesOfEach, IsRecalled}

module _ (p : Problem) where
  mutual
    leaves : (t : Tree) (x : State) → Derives p x t → (xs : List State) × AreLeaves p x t xs
    leaves Goal x d = (x ∷ [], refl)
    leaves Impossible x d = (x ∷ [], refl)
    leaves (Do i t) Stopped d = absurd d
    leaves (Do i t) (At h) d = let l = leaves t d.1.0 d.1.2 in (l.0, (d.1.0, d.1.1, l.1))
    leaves (Branch c t u) Stopped d = absurd d
    leaves (Branch c t u) (At h) d =
        let l = leaves t d.2.0 d.2.2 in
        let r = leaves u d.3.0 d.3.2 in
        (l.0 ++ r.0, (l.0, r.0, (d.2.0, d.2.1, l.1), (d.3.0, d.3.1, r.1), refl))
    leaves (Cases x k) Stopped d = absurd d
    leaves (Cases x k) (At h) d = leaves_of_each k h x d.3

    leaves_of_each : (k : Chain) (h : History) (x : Term) → DerivesEach p h x k → (xs : List State) × AreLeavesOfEach p h x k xs
    leaves_of_each End h x d = ([], refl)
    leaves_of_each (More e t k) h x d =
        let l = leaves t d.0.0 d.0.2 in
        let r = leaves_of_each k h x d.1 in
        (l.0 ++ r.0, (l.0, r.0, (d.0.0, d.0.1, l.1), r.1, refl))

  -- what each end of the plan knows
  pub recalled : (t : Tree) → IsPlan p t → (xs : List State) × IsRecalled p t xs
  recalled t plan = let l = leaves t (start_state plan.outcome) plan.derives in (l.0, record { outcome = plan.outcome; closes = plan.closes; leaves = l.1 })
