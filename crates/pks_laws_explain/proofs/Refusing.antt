-- Whether a file is refused for a job is decided.
use Rattle.std.proofs.Common.{◌≡◌, ◌⊎◌, inl, inr, ⊎_elim, ◌∙◌, ◌++◌, ℕ, List, [], ◌∷◌, refl, sym, subst, codes, decimal}
use Rattle.pks_terms.specs.Syntax.{Atom, Literal}
use Rattle.pks_terms.specs.Worlds.{World}
use Rattle.pks_terms.specs.Databases.{Five}
use Rattle.pks_terms.specs.Closure.{Outcome, Next, Clash, Closes}
use Rattle.pks_terms.specs.Problems.{initial}
use Rattle.pks_terms.specs.Printed.{Refusal, name_in}
use Rattle.pks_terms.specs.Jobs.{Job, Check, Plan, Exec, Bench, Recall, Agent, Explain, Derive, Shared}
use Rattle.pks_terms.specs.Answers.{Stated, NoWorld, BadWorld, GivenWorld, File, refusal, unjustified, RefusesAdd, RefusesStart, RefusesWorld, RefusesRun, RefusesFor, NoneApplies, RefusesFile}
use Rattle.pks_laws.proofs.Sorted.{initial_sets}
use Rattle.pks_laws.proofs.Unique.{closes_one}
use Rattle.pks_laws_progress.proofs.ClosingEnds.{closing_ends}
use Rattle.pks_laws_explain.proofs.Broken.{HasAtoms, broken_or_none}

-- some refusal is of the kind, or none is
abbrev pub IsDecided : (Refusal → Type 0) → Type 0
IsDecided P = ((r : Refusal) × P r) ⊎ NoneApplies P

either : (P Q : Refusal → Type 0) → IsDecided P → IsDecided Q → IsDecided (λ r. P r ⊎ Q r)
either P Q first second =
    ⊎_elim
    (λ p. inl (p.0, inl p.1))
    (λ no_p. ⊎_elim (λ q. inl (q.0, inr q.1)) (λ no_q. inr (λ r x. ⊎_elim (no_p r) (no_q r) x)) second)
    first

-- the second kind is asked where the first doesn't apply
then_asked : (P Q : Refusal → Type 0) → IsDecided P → IsDecided Q → IsDecided (λ r. P r ⊎ (NoneApplies P × Q r))
then_asked P Q first second =
    ⊎_elim
    (λ p. inl (p.0, inl p.1))
    (λ no_p. ⊎_elim (λ q. inl (q.0, inr (no_p, q.1))) (λ no_q. inr (λ r x. ⊎_elim (no_p r) (λ q. no_q r q.1) x)) second)
    first

-- ---- of the problem

nil_cons : {X : Type 0} {x : X} {xs : List X} → [] ≡ x ∷ xs → ⊥
nil_cons e = cc

decides_add : (f : File) → IsDecided (RefusesAdd f)
decides_add f = by_adds (unjustified f.problem) refl
  where
    by_adds : (xs : List (ℕ × ℕ)) → unjustified f.problem ≡ xs → IsDecided (RefusesAdd f)
    by_adds [] e = inr (λ r x. nil_cons (sym e ∙ x.3))
    by_adds ((a, n) ∷ rest) e = inl (refusal (f.add_at a n) 260 (codes " action " ++ (name_in f.names.actions a ++ (codes " effect " ++ decimal n))), (a, n, rest, e, refl))

next_clash : (d : Five) (l : Literal) → Next d ≡ Clash l → ⊥
next_clash d l e = cc

decides_start : (f : File) → IsDecided (RefusesStart f)
decides_start f = let c = closing_ends f.problem.signature (initial f.problem) (initial_sets f.problem).known in by_outcome c.0 c.1
  where
    by_outcome : (o : Outcome) → Closes f.problem.signature (initial f.problem) o → IsDecided (RefusesStart f)
    by_outcome (Next d) c = inr (λ r x. next_clash d x.0 (closes_one f.problem.signature (initial f.problem) (Next d) (Clash x.0) c x.1))
    by_outcome (Clash l) c = inl (refusal f.init_at 270 [], (l, c, refl))

-- ---- of its world

decides_world : (f : File) (x : Stated) → IsDecided (RefusesWorld f x)
decides_world f NoWorld = inr (λ r x. x)
decides_world f (BadWorld at code) = inl (refusal at code [], refl)
decides_world f (GivenWorld w) = inr (λ r x. x)

module _ (f : File) (finite : (w : World) → f.world ≡ GivenWorld w → (atoms : List Atom) × HasAtoms w atoms) where
  decides_run : (x : Stated) → f.world ≡ x → IsDecided (RefusesRun f x)
  decides_run NoWorld e = inl (refusal f.problem_at 310 [], refl)
  decides_run (BadWorld at code) e = inr (λ r x. x)
  decides_run (GivenWorld w) e =
      let atoms = finite w e in
      ⊎_elim
      (λ broken. inl (refusal f.world_at 311 (codes " item " ++ decimal broken.0), (broken.0, broken.1, refl)))
      (λ none. inr (λ r x. none x.0 x.1))
      (broken_or_none f.problem w atoms.0 atoms.1 f.problem.init 1)

  decides_for : (j : Job) → IsDecided (RefusesFor j f)
  decides_for (Exec n) = either (RefusesWorld f f.world) (RefusesRun f f.world) (decides_world f f.world) (decides_run f.world refl)
  decides_for (Bench n) = inr (λ r x. x)
  decides_for Check = decides_world f f.world
  decides_for (Plan n) = decides_world f f.world
  decides_for (Recall n) = decides_world f f.world
  decides_for (Agent n) = decides_world f f.world
  decides_for (Explain n) = decides_world f f.world
  decides_for Derive = decides_world f f.world
  decides_for (Shared n) = decides_world f f.world

  -- a refusal of the file for the job, or that there is none
  pub decides_file : (j : Job) → IsDecided (RefusesFile j f)
  decides_file j =
      then_asked (RefusesAdd f) (λ r. RefusesStart f r ⊎ (NoneApplies (RefusesStart f) × RefusesFor j f r)) (decides_add f)
      (then_asked (RefusesStart f) (RefusesFor j f) (decides_start f) (decides_for j))

-- ---- what is so of a file that isn't refused

-- each add has a case
pub none_unjustified : (j : Job) (f : File) → NoneApplies (RefusesFile j f) → unjustified f.problem ≡ []
none_unjustified j f fine = by_adds (unjustified f.problem) refl
  where
    by_adds : (xs : List (ℕ × ℕ)) → unjustified f.problem ≡ xs → unjustified f.problem ≡ []
    by_adds [] e = e
    by_adds ((a, n) ∷ rest) e = absurd (fine (refusal (f.add_at a n) 260 (codes " action " ++ (name_in f.names.actions a ++ (codes " effect " ++ decimal n)))) (inl (a, n, rest, e, refl)))

-- a run has its world
pub run_world : (n : ℕ) (f : File) → NoneApplies (RefusesFile (Exec n) f) → (w : World) × (f.world ≡ GivenWorld w)
run_world n f fine = by_world f.world refl
  where
    none_for : (r : Refusal) → RefusesFor (Exec n) f r → ⊥
    none_for r x = fine r (inr ((λ s y. fine s (inl y)), inr ((λ s y. fine s (inr ((λ t z. fine t (inl z)), inl y))), x)))

    by_world : (x : Stated) → f.world ≡ x → (w : World) × (f.world ≡ GivenWorld w)
    by_world NoWorld e = absurd (none_for (refusal f.problem_at 310 []) (inr (subst (λ x. RefusesRun f x (refusal f.problem_at 310 [])) (sym e) refl)))
    by_world (BadWorld at code) e = absurd (none_for (refusal at code []) (inl (subst (λ x. RefusesWorld f x (refusal at code [])) (sym e) refl)))
    by_world (GivenWorld w) e = (w, e)
