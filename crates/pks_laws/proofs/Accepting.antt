-- Of an accepted input all adds are justified, and so each plan's run is good.
use Rattle.std.proofs.Common.{◌≡◌, ◌+◌, ℕ, zero, suc, true, cond, List, [], ◌∷◌, ◌++◌, map, filter, flat_map, Some, None, is_some, is_none, slice_get, unwrap_or, refl, inl}
use Rattle.pks_terms.specs.Sets.{Each}
use Rattle.pks_terms.specs.Worlds.{World}
use Rattle.pks_terms.specs.Actions.{Add, Schema}
use Rattle.pks_terms.specs.Justified.{case_of}
use Rattle.pks_terms.specs.Problems.{Problem, IsCompatible}
use Rattle.pks_terms.specs.Typed.{AreJustified, AllJustified}
use Rattle.pks_terms.specs.Branching.{numbered}
use Rattle.pks_terms.specs.Trees.{Tree, IsBest}
use Rattle.pks_terms.specs.Knowledge.{Good}
use Rattle.pks_terms.specs.Valid.{IsValid}
use Rattle.pks_terms.specs.Printed.{Text}
use Rattle.pks_terms.specs.Jobs.{Job}
use Rattle.pks_terms.specs.Answers.{Reading, File, unjustified_in, unjustified, IsAccepted}
use Rattle.pks_laws.proofs.Validity.{valid_typed}
use Rattle.pks_laws.proofs.GoodPlans.{plan_good}

front_empty : {X : Type 0} (xs ys : List X) → xs ++ ys ≡ [] → xs ≡ []
front_empty [] ys e = refl
front_empty (x ∷ xs) ys e = cc

back_empty : {X : Type 0} (xs ys : List X) → xs ++ ys ≡ [] → ys ≡ []
back_empty [] ys e = e
back_empty (x ∷ xs) ys e = cc

none_missing : (sc : Schema) (number k : ℕ) (adds : List Add) → map (λ (n : ℕ × Add). let q : ℕ × ℕ = (number, n.0) in q) (filter (λ (n : ℕ × Add). is_none (case_of sc n.1)) (numbered k adds)) ≡ [] → Each (λ a. is_some (case_of sc a) ≡ true) adds
none_missing sc number k [] e = tt
none_missing sc number k (a ∷ adds) e =
    elim (case_of sc a) as (λ o. map (λ (n : ℕ × Add). let q : ℕ × ℕ = (number, n.0) in q) (cond (is_none o) ((k, a) ∷ filter (λ (n : ℕ × Add). is_none (case_of sc n.1)) (numbered (k + 1) adds)) (filter (λ (n : ℕ × Add). is_none (case_of sc n.1)) (numbered (k + 1) adds))) ≡ [] → (is_some o ≡ true) × Each (λ a. is_some (case_of sc a) ≡ true) adds) [
      | None ↦ λ q. cc
      | Some c ↦ λ q. (refl, none_missing sc number (k + 1) adds q)
    ] e

-- where no add is without a case, all are justified
pub all_justified : (p : Problem) → unjustified p ≡ [] → AllJustified p
unfolding unjustified
all_justified p e n = at p.schemas 0 n e
  where
    at : (scs : List Schema) (k n : ℕ) → flat_map unjustified_in (numbered k scs) ≡ [] → AreJustified (unwrap_or (slice_get scs n) (record { cost = 1; parameters = []; pre = []; effects = []; senses = []; adds = [] }))
    at [] k n e = tt
    at (sc ∷ scs) k zero e = none_missing sc k 1 sc.adds (front_empty (unjustified_in (k, sc)) (flat_map unjustified_in (numbered (k + 1) scs)) e)
    at (sc ∷ scs) k (suc n) e = at scs (k + 1) n (back_empty (unjustified_in (k, sc)) (flat_map unjustified_in (numbered (k + 1) scs)) e)

-- the best tree of a valid problem has a good run in every compatible world
pub best_good : (p : Problem) (n : ℕ) (t : Tree) (w : World) → unjustified p ≡ [] → IsValid p → IsBest p n (Some t) → IsCompatible p w → Good p t w
best_good p n t w none v b k = plan_good p (all_justified p none) (valid_typed p v) t b.0.0 w k

module _ (Reads : Text → Reading → Type 0) where
  pub accepted_justified : (j : Job) (input : Text) (f : File) → IsAccepted Reads j input f → AllJustified f.problem
  accepted_justified j input f a =
      elim (unjustified f.problem) as (λ u. unjustified f.problem ≡ u → AllJustified f.problem) [
        | [] ↦ λ e. all_justified f.problem e
        | q ∷ rest ↦ λ e. absurd (a.fine _ (inl (q.0, q.1, rest, e, refl)))
      ] refl

  -- the best tree of an accepted input has a good run in every compatible world
  pub accepted_good : (j : Job) (input : Text) (f : File) (n : ℕ) (t : Tree) (w : World) → IsAccepted Reads j input f → IsValid f.problem → IsBest f.problem n (Some t) → IsCompatible f.problem w → Good f.problem t w
  accepted_good j input f n t w a v b k = plan_good f.problem (accepted_justified j input f a) (valid_typed f.problem v) t b.0.0 w k
