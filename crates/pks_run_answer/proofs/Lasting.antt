-- The best plan of a problem whose adds all have a case is good.
use Rattle.std.proofs.Common.{◌≡◌, ℕ, [], Some, subst}
use Rattle.pks_terms.specs.Closure.{Outcome, Next}
use Rattle.pks_terms.specs.Problems.{Problem, initial}
use Rattle.pks_terms.specs.Trees.{Tree, Derives, start_state, IsBest}
use Rattle.pks_terms.specs.Valid.{IsValid}
use Rattle.pks_terms.specs.Answers.{unjustified}
use Rattle.pks_laws.proofs.Unique.{closes_one}
use Rattle.pks_laws.proofs.Validity.{valid_typed}
use Rattle.pks_laws.proofs.GoodPlans.{plan_remembers}
use Rattle.pks_laws.proofs.Accepting.{all_justified, best_good}
use Rattle.pks_terms.specs.Remembering.{RemembersPast}
use Rattle.pks_run_answer.specs.Goodness.{IsGood}

best_remembers : (p : Problem) (n : ℕ) (t : Tree) → unjustified p ≡ [] → IsValid p → IsBest p n (Some t) → RemembersPast p t
best_remembers p n t none valid best = λ d w closes fits.
    let plan = best.0.0 in
    plan_remembers p (all_justified p none) (valid_typed p valid) t d closes
    (subst (λ (o : Outcome). Derives p (start_state o) t) (closes_one p.signature (initial p) plan.outcome (Next d) plan.closes closes) plan.derives) w fits

pub best_is_good : (p : Problem) (n : ℕ) (t : Tree) → unjustified p ≡ [] → IsValid p → IsBest p n (Some t) → IsGood p t
best_is_good p n t none valid best =
    record { runs = λ w fits. best_good p n t w none valid best fits; past = best_remembers p n t none valid best }
