-- A good run ends with the goal.
use Rattle.std.proofs.Common.{◌≡◌, ℕ, true, false, cond, List, [], ◌∷◌, ◌++◌, map, ◌==◌, append_assoc, refl, sym, ap, ◌∙◌, subst}
use Rattle.std.proofs.lemmas.Bool.{eqb-true, eq-eqb}
use Rattle.pks_terms.specs.Worlds.{World, value_of, all_true_in}
use Rattle.pks_terms.specs.Actions.{Instance}
use Rattle.pks_terms.specs.Problems.{Problem, IsCompatible}
use Rattle.pks_terms.specs.Trees.{Tree, Goal, Impossible, Do, Branch, Cases, Chain, End, More, IsPlan}
use Rattle.pks_terms.specs.Knowledge.{grounded, after_action, observations, after_actions, Ending, AtGoal, Event, Did, Saw, Tested, Told, Ended, run_of, run_cases, GoodFrom, GoodCase}
use Rattle.pks_terms.specs.Answers.{unjustified}
use Rattle.pks_terms.specs.Valid.{IsValid}
use Rattle.pks_laws.proofs.Accepting.{all_justified}
use Rattle.pks_laws.proofs.GoodPlans.{plan_good}
use Rattle.pks_laws.proofs.Validity.{valid_typed}
use Rattle.pks_exec.specs.Runs.{EndsWith}

-- the world after one more ground action
after_more : (p : Problem) (w : World) (done : List Instance) (g : Instance) → after_actions p w (done ++ g ∷ []) ≡ after_action p (after_actions p w done) g
after_more p w [] g = refl
after_more p w (i ∷ done) g = after_more p (after_action p w i) done g

-- behind other events too
ends_later : (x : Ending) (before after : List Event) → EndsWith x after → EndsWith x (before ++ after)
ends_later x before after e = (before ++ e.0, ap (λ es. before ++ es) e.1 ∙ sym (append_assoc before e.0 (Ended x ∷ [])))

mutual
  good_ends : (p : Problem) (done : List Instance) (w : World) (t : Tree) → GoodFrom p done w t → EndsWith AtGoal (run_of p t (after_actions p w done))
  good_ends p done w Goal good = ([], refl)
  good_ends p done w Impossible good = absurd good
  good_ends p done w (Do i t) good =
      let v = after_actions p w done in
      let g = grounded v i in
      let next = after_action p v g in
      ends_later AtGoal (Did g ∷ map Saw (observations p next g)) (run_of p t next)
      (subst (λ u. EndsWith AtGoal (run_of p t u)) (after_more p w done g) (good_ends p (done ++ g ∷ []) w t good.2))
  good_ends p done w (Branch c t u) good =
      let v = after_actions p w done in
      ends_later AtGoal (Tested c (all_true_in v c) ∷ []) (cond (all_true_in v c) (run_of p t v) (run_of p u v))
      (elim (all_true_in v c) as (λ b. all_true_in v c ≡ b → EndsWith AtGoal (cond b (run_of p t v) (run_of p u v))) [
        | true ↦ λ e. good_ends p done w t (good.1 e)
        | false ↦ λ e. good_ends p done w u (good.2 e)
      ] refl)
  good_ends p done w (Cases x k) good =
      let v = after_actions p w done in
      ends_later AtGoal (Told x (value_of v x) ∷ []) (run_cases p k (value_of v x) v) (good_case_ends p done w (value_of v x) k good.1)

  good_case_ends : (p : Problem) (done : List Instance) (w : World) (e : ℕ) (k : Chain) → GoodCase p done w e k → EndsWith AtGoal (run_cases p k e (after_actions p w done))
  good_case_ends p done w e End good = absurd good
  good_case_ends p done w e (More o t k) good =
      let v = after_actions p w done in
      elim (o == e) as (λ b. (o == e) ≡ b → EndsWith AtGoal (cond b (run_of p t v) (run_cases p k e v))) [
        | true ↦ λ q. good_ends p done w t (good.0 (eqb-true o e q))
        | false ↦ λ q. good_case_ends p done w e k (good.1 (λ same. cc (eq-eqb o e same)))
      ] refl

-- the run of a plan in a compatible world, where no add is without a case
pub plan_ends : (p : Problem) (t : Tree) (w : World) → IsValid p → unjustified p ≡ [] → IsPlan p t → IsCompatible p w → EndsWith AtGoal (run_of p t w)
plan_ends p t w valid none plan compatible =
    good_ends p [] w t (plan_good p (all_justified p none) (valid_typed p valid) t plan w compatible)
