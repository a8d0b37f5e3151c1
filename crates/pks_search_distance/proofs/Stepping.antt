-- What a level allows, the next one allows after one more action.
use Rattle.std.proofs.Common.{◌≡◌, ◌+◌, ◌≤◌, ℕ, zero, suc, true, List, [], ◌∷◌, map, length, refl, subst, arith}
use Rattle.pks_terms.specs.Sets.{IsIn}
use Rattle.pks_terms.specs.Worlds.{World}
use Rattle.pks_terms.specs.Actions.{Effect, Instance, effect_at, fires, written_truth, written_value, applied_to}
use Rattle.pks_terms.specs.Problems.{Problem, schema_of}
use Rattle.pks_terms.specs.Knowledge.{after_action, after_actions}
use Rattle.pks_terms.proofs.ListLaws.{each_in}
use Rattle.pks_laws.proofs.Changing.{last_written_has}
use Rattle.pks_search_distance.specs.Runs.{MayBeDone, IsRun, IsGoal, Reaches}
use Rattle.pks_search_distance.specs.Levels.{Chances, Allows, Grows, Has, HasAll, IsNext}

-- so many ground actions that may be done one after another lead from the world to the other one
abbrev pub Leads : Problem → World → ℕ → World → Type 0
Leads p w zero v = w ≡ v
Leads p w (suc n) v = (u : World) × (i : Instance) × Leads p w n u × MayBeDone p u i × (after_action p u i ≡ v)

pub grows_itself : (m : Chances) → Grows m m
grows_itself m = record { truth = λ b p ds h. h; values = λ f ds d h. h }

pub grows_on : (m n o : Chances) → Grows m n → Grows n o → Grows m o
grows_on m n o g h = record { truth = λ b p ds k. h.truth b p ds (g.truth b p ds k); values = λ f ds d k. h.values f ds d (g.values f ds d k) }

-- after effects
pub effects_allowed : (m n : Chances) (v : World) (es : List Effect) → Grows m n → Allows m v → HasAll n v es → Allows n (applied_to v es)
unfolding applied_to
effects_allowed m n v es g a h = record {
  truth = λ p ds.
      last_written_has (λ b. n.truth b p ds ≡ true) (written_truth v p ds) v es (v.truth p ds)
      (λ e b i f k. (each_in (λ e. fires v e ≡ true → Has n v e.target) es e h i f).truth p ds b k) (g.truth (v.truth p ds) p ds (a.truth p ds));
  values = λ f ds.
      last_written_has (λ d. IsIn d (n.values f ds)) (written_value v f ds) v es (v.value f ds)
      (λ e d i c k. (each_in (λ e. fires v e ≡ true → Has n v e.target) es e h i c).values f ds d k) (g.values f ds (v.value f ds) (a.values f ds));
}

-- after an action
pub next_allows : (p : Problem) (m n : Chances) (v : World) (i : Instance) → IsNext p m n → Allows m v → MayBeDone p v i → Allows n (after_action p v i)
unfolding after_action
next_allows p m n v i x a d = effects_allowed m n v (map (effect_at i.arguments) (schema_of p i.action).effects) x.grows a (x.writes v i a d)

-- a run leads where its actions lead
pub run_leads : (p : Problem) (w u : World) (n : ℕ) (is : List Instance) → Leads p w n u → IsRun p u is → Leads p w (length is + n) (after_actions p u is)
run_leads p w u n [] l r =
    let none : List Instance = [] in
    let same : n ≡ length none + n = omega arith in
    subst (λ k. Leads p w k u) same l
run_leads p w u n (i ∷ is) l r =
    let rest : Leads p w (length is + suc n) (after_actions p (after_action p u i) is) = run_leads p w (after_action p u i) (suc n) is (u, i, l, r.0, refl) r.1 in
    let same : length is + suc n ≡ suc (length is) + n = omega arith in
    subst (λ k. Leads p w k (after_actions p (after_action p u i) is)) same rest

-- a run to the goal leads to a world where it is so
pub reaches_leads : (p : Problem) (w : World) (k : ℕ) → Reaches p w k → (n : ℕ) × (v : World) × (n ≤ k) × Leads p w n v × IsGoal p v
reaches_leads p w k r =
    let whole : length r.actions + 0 ≡ length r.actions = omega arith in
    let led : Leads p w (length r.actions + 0) (after_actions p w r.actions) = run_leads p w w 0 r.actions refl r.run in
    (length r.actions, after_actions p w r.actions, r.short, subst (λ n. Leads p w n (after_actions p w r.actions)) whole led, r.goal)
