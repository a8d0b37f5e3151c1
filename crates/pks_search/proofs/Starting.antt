-- The best tree at the start, and what is promised of it.
use Rattle.std.proofs.Common.{◌≡◌, ◌≤◌, ℕ, [], Option, Some, None, option_map, sym, subst, arith}
use Rattle.std.specs.Option.{IfSome}
use Rattle.pks_terms.specs.declared.problem.Problem.{Problem as DProblem}
use Rattle.pks_terms.specs.Databases.{Five}
use Rattle.pks_terms.specs.Closure.{Next, Closes}
use Rattle.pks_terms.specs.Problems.{Problem, initial}
use Rattle.pks_terms.specs.Settling.{History, At}
use Rattle.pks_terms.specs.Trees.{Tree, Derives, start_state, IsPlan, IsBestAt, IsBest}
use Rattle.pks_terms.specs.Valid.{IsValid}
use Rattle.pks_terms.specs.Views.{problem_of}
use Rattle.pks_terms.specs.ValidProblems.{IsValidProblem}
use Rattle.pks_terms.specs.Answers.{unjustified}
use Rattle.pks_laws.proofs.Accepting.{all_justified}
use Rattle.pks_laws.proofs.Choosing.{best_plan}
use Rattle.pks_laws.proofs.GoodPlans.{plan_remembers}
use Rattle.pks_laws.proofs.SearchStates.{start_of}
use Rattle.pks_laws.proofs.Unique.{closes_one}
use Rattle.pks_laws.proofs.Validity.{valid_typed}
use Rattle.pks_terms.specs.Remembering.{RemembersPast}
use Rattle.pks_search.specs.Ready.{IsReady}

abbrev first_history : Five → History
first_history d = record { start = d; steps = [] }

-- the first history is one to search from
pub start_ready : (p : DProblem) (d : Five) (h : History) (n : ℕ) → IsValidProblem p → unjustified (problem_of p) ≡ [] → Closes (problem_of p).signature (initial (problem_of p)) (Next d) → h ≡ first_history d → n ≤ 16 → IsReady p h 0 n
start_ready p d h n v u c e k =
    subst (λ g. IsReady p g 0 n) (sym e) (record { valid = v; justified = all_justified (problem_of p) u; moments = start_of (problem_of p) v.says d c; short = omega arith; few = omega arith; read = tt })

-- the best tree there is the best plan
pub start_best : (p : Problem) (d : Five) (h : History) (n m : ℕ) (o : Option Tree) → Closes p.signature (initial p) (Next d) → h ≡ first_history d → m ≡ n → IsBestAt p (At h) m o → IsBest p n o
start_best p d h n m o c e q b = best_plan p (Next d) n o c (subst (λ k. IsBestAt p (At (first_history d)) k o) q (subst (λ g. IsBestAt p (At g) m o) e b))

-- what its histories know of the past was so
pub best_remembers : (p : Problem) (n : ℕ) (t : Tree) → unjustified p ≡ [] → IsValid p → IsBest p n (Some t) → RemembersPast p t
best_remembers p n t u v b = λ d w c compatible. plan_remembers p (all_justified p u) (valid_typed p v) t d c (derived d c b.0.0) w compatible
  where
    derived : (d : Five) → Closes p.signature (initial p) (Next d) → IsPlan p t → Derives p (At (first_history d)) t
    derived d c plan = subst (λ x. Derives p (start_state x) t) (closes_one p.signature (initial p) plan.outcome (Next d) plan.closes c) plan.derives

-- P of the view of what is there, where it follows for each value that the view may have
pub if_some : {X Y : Type 0} (f : X → Y) (P : Option Y → Type 0) (Q : X → Type 0) → ((x : X) → P (Some (f x)) → Q x) → (o : Option X) → P (option_map f o) → IfSome o Q
if_some f P Q g None k = tt
if_some f P Q g (Some x) k = g x k
