-- What a search asks of where it is doesn't depend on the aims over time.
use Rattle.std.proofs.Common.{◌≡◌, ℕ, true, false, cond, not, List, [], ◌∷◌, Option, refl, sym, ap, ◌∙◌, subst, true≢false}
use Rattle.pks_terms.specs.declared.problem.Problem.{Problem as DProblem}
use Rattle.pks_terms.specs.Sets.{Each}
use Rattle.pks_terms.specs.Worlds.{World}
use Rattle.pks_terms.specs.Actions.{Instance}
use Rattle.pks_terms.specs.Databases.{Five}
use Rattle.pks_terms.specs.Knowledge.{grounded, after_action, after_actions, ground_actions}
use Rattle.pks_terms.specs.Handed.{IsStepOf}
use Rattle.pks_terms.specs.Moments.{IsMomentOf, AreMomentsOf}
use Rattle.pks_terms.specs.Problems.{Aim, Now, AtStart, Always, Once, Problem}
use Rattle.pks_terms.specs.Remembering.{TrueAlong, AgreeAlong, deeds_of}
use Rattle.pks_terms.specs.Settling.{History}
use Rattle.pks_terms.specs.Typed.{AllJustified}
use Rattle.pks_terms.specs.ValidProblems.{IsValidProblem}
use Rattle.pks_terms.specs.Views.{problem_of}
use Rattle.pks_terms.proofs.ListLaws.{each_weaker}
use Rattle.pks_laws_forget.specs.Fewer.{is_met_for_good, unmet, with_aims, without_met}
use Rattle.pks_postdict.specs.Read.{AreRead}
use Rattle.pks_search_distance.specs.Levels.{IsBound}
use Rattle.pks_search_distance.specs.Runs.{MayBeDone, IsRun, IsAim, world_after, MayBeAt}
use Rattle.pks_search_witness.specs.declared.witness.Witness.{Witness}
use Rattle.pks_search.specs.Near.{IsNear}
use Rattle.pks_search.specs.Ready.{IsReady}

abbrev Steps : Type 0
Steps = List (Instance × Five)

module _ (p : Problem) (aims : List Aim) where
  abbrev Other : Problem
  Other = with_aims p aims

  -- ---- worlds after actions

  one_same : (w : World) (i : Instance) → after_action Other w i ≡ after_action p w i
  unfolding after_action
  one_same w i = refl

  after_same : (w : World) (is : List Instance) → after_actions Other w is ≡ after_actions p w is
  after_same w [] = refl
  after_same w (i ∷ is) = ap (λ v. after_actions Other v is) (one_same w i) ∙ after_same (after_action p w i) is

  ground_same : (w : World) (is : List Instance) → ground_actions Other w is ≡ ground_actions p w is
  ground_same w [] = refl
  ground_same w (i ∷ is) =
      let g = grounded w i in
      ap (λ gs. g ∷ gs) (ap (λ v. ground_actions Other v is) (one_same w g) ∙ ground_same (after_action p w g) is)

  world_same : (w : World) (h : History) → world_after Other w h ≡ world_after p w h
  world_same w h = after_same w (ground_actions Other w (deeds_of h.steps)) ∙ ap (after_actions p w) (ground_same w (deeds_of h.steps))

  -- ---- where the present world may be

  true_other : (w : World) (d : Five) (xs : Steps) → TrueAlong p w d xs → TrueAlong Other w d xs
  true_other w d [] t = t
  true_other w d (x ∷ xs) t =
      let g = grounded w x.0 in
      (t.0, subst (λ v. TrueAlong Other v x.1 xs) (sym (one_same w g)) (true_other (after_action p w g) x.1 xs t.1))

  agree_other : (w w' : World) (d : Five) (xs : Steps) → AgreeAlong p w w' d xs → AgreeAlong Other w w' d xs
  agree_other w w' d [] a = a
  agree_other w w' d (x ∷ xs) a =
      let g = grounded w x.0 in
      let g' = grounded w' x.0 in
      (a.0, subst (λ v. AgreeAlong Other v (after_action Other w' g') x.1 xs) (sym (one_same w g)) (subst (λ v. AgreeAlong Other (after_action p w g) v x.1 xs) (sym (one_same w' g')) (agree_other (after_action p w g) (after_action p w' g') x.1 xs a.1)))

  here_other : (h : History) (v : World) → MayBeAt p h v → MayBeAt Other h v
  here_other h v k = record {
    first = k.first;
    both = record {
      along = true_other k.first h.start h.steps k.both.along;
      along' = true_other k.first h.start h.steps k.both.along';
      agree = agree_other k.first k.first h.start h.steps k.both.agree;
    };
    leads = world_same k.first h ∙ k.leads;
  }

  -- ---- runs

  done_back : (w : World) (i : Instance) → MayBeDone Other w i → MayBeDone p w i
  done_back w i k = record { objects = k.objects; ground = k.ground; typed = k.typed; pre = k.pre }

  run_back : (w : World) (is : List Instance) → IsRun Other w is → IsRun p w is
  run_back w [] r = r
  run_back w (i ∷ is) r = (done_back w i r.0, subst (λ v. IsRun p v is) (one_same w i) (run_back (after_action Other w i) is r.1))

  -- ---- histories

  moments_other : (h : History) → AreMomentsOf p h → AreMomentsOf Other h
  moments_other h m = record {
    start = m.start;
    steps = each_weaker (λ (x : Instance × Five). IsStepOf p x.0 × IsMomentOf p.signature x.1) (λ (x : Instance × Five). IsStepOf Other x.0 × IsMomentOf p.signature x.1) (λ x k. (record { action = k.0.action; arguments = k.0.arguments }, k.1)) h.steps m.steps;
  }

  read_other : (n : ℕ) (d : Five) (xs : Steps) → AreRead p n d xs → AreRead Other n d xs
  read_other n d [] r = r
  read_other n d (x ∷ xs) r = (r.0, read_other n x.1 xs r.1)

-- the problem of the program is the other one but for its aims
ready_other : (p q : DProblem) (aims : List Aim) (h : History) (unread n : ℕ) → IsValidProblem q → problem_of q ≡ with_aims (problem_of p) aims → IsReady p h unread n → IsReady q h unread n
ready_other p q aims h unread n v e r = record {
  valid = v;
  justified = subst AllJustified (sym e) r.justified;
  moments = subst (λ x. AreMomentsOf x h) (sym e) (moments_other (problem_of p) aims h r.moments);
  short = r.short;
  few = r.few;
  read = subst (λ x. AreRead x unread h.start h.steps) (sym e) (read_other (problem_of p) aims unread h.start h.steps r.read);
}

pub ready_without : (p q : DProblem) (h : History) (unread n : ℕ) → IsValidProblem q → problem_of q ≡ without_met (problem_of p) h → IsReady p h unread n → IsReady q h unread n
ready_without p q h unread n v e r = let s = problem_of p in ready_other p q (unmet s.signature h s.goal) h unread n v e r

module _ (p : Problem) (h : History) where
  -- what the last moment asks for is left
  goal_back : (v : World) (xs : List Aim) → Each (IsAim v) (unmet p.signature h xs) → Each (IsAim v) xs
  goal_back v [] k = tt
  goal_back v (x ∷ xs) k =
      elim (is_met_for_good p.signature h x) as (λ b. is_met_for_good p.signature h x ≡ b → Each (IsAim v) (cond (not b) (x ∷ unmet p.signature h xs) (unmet p.signature h xs)) → Each (IsAim v) (x ∷ xs)) [
        | true ↦ λ e k. (met_of x e, goal_back v xs k)
        | false ↦ λ e k. (k.0, goal_back v xs k.1)
      ] refl k
    where
      met_of : (x : Aim) → is_met_for_good p.signature h x ≡ true → IsAim v x
      met_of (Now q) e = absurd (true≢false (sym e))
      met_of (AtStart q) e = tt
      met_of (Always q) e = tt
      met_of (Once q) e = tt

  counted_other : (w : World) (o : Option ℕ) → IsBound p w o → IsBound (without_met p h) w o
  counted_other w o b k r =
      b k (record {
        actions = r.actions;
        run = run_back p (unmet p.signature h p.goal) w r.actions r.run;
        short = r.short;
        goal = goal_back (after_actions p w r.actions) p.goal (subst (λ v. Each (IsAim v) (unmet p.signature h p.goal)) (after_same p (unmet p.signature h p.goal) w r.actions) r.goal);
      })

  near_other : (x : Witness) → IsNear p h x → IsNear (without_met p h) h x
  near_other x k = record { here = here_other p (unmet p.signature h p.goal) h _ k.here; counted = counted_other _ x.needs k.counted }

  pub each_near_other : (xs : List Witness) → Each (IsNear p h) xs → Each (IsNear (without_met p h) h) xs
  each_near_other xs k = each_weaker (IsNear p h) (IsNear (without_met p h) h) near_other xs k
