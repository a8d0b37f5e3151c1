-- A history that a search comes to leads on by each choice, and has a best tree to each depth.
use Rattle.std.proofs.Common.{◌≡◌, ◌+◌, ◌++◌, ℕ, zero, suc, Bool, true, false, cond, List, [], ◌∷◌, map, filter, Option, Some, None, option_map, refl, sym, ap, subst, ⊎_elim, add-one, append_assoc}
use Rattle.std.proofs.lemmas.Bool.{cases_Bool}
use Rattle.std.proofs.lemmas.List.{append-nil}
use Rattle.pks_terms.specs.Sets.{Each, IsIn}
use Rattle.pks_terms.specs.Syntax.{Term, Literal}
use Rattle.pks_terms.specs.Signatures.{Signature}
use Rattle.pks_terms.specs.Databases.{Five, AreSets}
use Rattle.pks_terms.specs.Closure.{Outcome, Next, Clash, Closes}
use Rattle.pks_terms.specs.Actions.{Instance}
use Rattle.pks_terms.specs.Progress.{progressed, Progress}
use Rattle.pks_terms.specs.Problems.{Problem, schema_of, initial}
use Rattle.pks_terms.specs.Branching.{instances, is_undecided, left, may_split, Choice, Act, BranchOn, CasesOn, choices, Side, AsTrue, AsFalse, Is, IsMember, assumed, Assumes}
use Rattle.pks_terms.specs.Settling.{History, last_moment, pushed, with_last, settle_round, settle_rounds, State, At, Stopped, clashes, tidied_history, Settles}
use Rattle.pks_terms.specs.Aims.{met}
use Rattle.pks_terms.specs.Trees.{Tree, Goal, Impossible, Do, Cases, Chain, End, Acts, Takes, start_state, IsDerivedWithin, IsBestOf, IsBest}
use Rattle.pks_terms.specs.Searching.{IsDerivedBy, IsDerivedAmong, better_of, both_sides, one_more, AreBestCases}
use Rattle.pks_terms.specs.Moments.{AreMomentsOf}
use Rattle.pks_terms.specs.Valid.{IsValid}
use Rattle.pks_terms.proofs.ListLaws.{each_append, each_of, each_map, each_filter}
use Rattle.pks_laws.specs.OfSignature.{IsSideOf}
use Rattle.pks_laws.proofs.Choosing.{best_stopped, best_goal, best_without, best_shallow, best_act, best_branch, best_cases, best_end, best_more, best_next, best_all, best_plan}
use Rattle.pks_laws.proofs.SearchStates.{last_of_it, start_of, acts_of, with_last_of, side_moment, settled_history_of}
use Rattle.pks_laws.proofs.Sorted.{initial_sets, progressed_sets, assumed_sets, closed_sets}
use Rattle.pks_laws.proofs.TreesOf.{left_is_side}
use Rattle.pks_laws_progress.proofs.ClosingEnds.{closing_ends}
use Rattle.pks_laws_forget.specs.Transparent.{AreSetsAlong}
use Rattle.pks_laws_forget.proofs.Cut.{SetSteps, rounds_sets, tidied_sets_along, last_sets, last_replaced, ordered_of}
use Rattle.pks_laws_forget.proofs.Total.{settling_is_total}

-- the history is of the problem, and its sets are in order
pub record IsSearched (p : Problem) (h : History) : Type 0 where
  pub moments : AreMomentsOf p h
  pub sets : AreSetsAlong h

-- the state is a clash or such a history
abbrev pub IsReached : Problem → State → Type 0
IsReached p (At h) = IsSearched p h
IsReached p Stopped = Unit {0}

-- the search goes on at some state of which this is so
abbrev pub LeadsOn : Problem → (State → Type 0) → Type 0
LeadsOn p Leads = (y : State) × Leads y × IsReached p y

-- some tree is the best of which P holds, or there is none
abbrev pub HasBest : Problem → (Tree → Type 0) → Type 0
HasBest p P = (o : Option Tree) × IsBestOf p P o

module _ (p : Problem) (v : IsValid p) where
  abbrev S : Signature
  S = p.signature

  last_sets_of : (h : History) → IsSearched p h → AreSets (last_moment h)
  last_sets_of h k = last_sets p h.start h.steps k.sets.start k.sets.steps

  -- ---- actions

  pub acts_on : (h : History) (i : Instance) → IsSearched p h → IsIn i (instances p (last_moment h)) → LeadsOn p (Acts p h i)
  acts_on h i k chosen =
      let c = closing_ends S (progressed S (last_moment h) (schema_of p i.action) i.arguments) (before_sets h i k).known in by_outcome h i k chosen c.0 c.1
    where
      before_sets : (h : History) (i : Instance) → IsSearched p h → AreSets (progressed S (last_moment h) (schema_of p i.action) i.arguments)
      before_sets h i k = progressed_sets S (last_moment h) (schema_of p i.action) i.arguments (last_sets_of h k)

      by_outcome : (h : History) (i : Instance) → IsSearched p h → IsIn i (instances p (last_moment h)) → (o : Outcome) → Progress S (last_moment h) (schema_of p i.action) i o → LeadsOn p (Acts p h i)
      by_outcome h i k chosen (Next d) q =
          let acts : Acts p h i (At (pushed h i d)) = record { outcome = Next d; progress = q; gives = refl } in
          let sets : AreSets d = closed_sets S (progressed S (last_moment h) (schema_of p i.action) i.arguments) d (before_sets h i k) q in (
            At (pushed h i d),
            acts,
            record {
              moments = acts_of p v h (pushed h i d) i k.moments chosen acts;
              sets = record { start = k.sets.start; steps = each_append (λ (x : Instance × Five). AreSets x.1) h.steps ((i, d) ∷ []) k.sets.steps (sets, tt) };
            },
          )
      by_outcome h i k chosen (Clash l) q = (Stopped, record { outcome = Clash l; progress = q; gives = refl }, tt)

  -- ---- sides

  replaced_sets : (h : History) (d : Five) → AreSetsAlong h → AreSets d → AreSetsAlong (with_last h d)
  replaced_sets h d a m = by_steps h.start h.steps a.start a.steps
    where
      by_steps : (b : Five) (xs : List (Instance × Five)) → AreSets b → SetSteps p xs → AreSetsAlong (with_last (record { start = b; steps = xs }) d)
      by_steps b [] o s = record { start = m; steps = tt }
      by_steps b (x ∷ xs) o s = record { start = o; steps = last_replaced p (x ∷ xs) d s m }

  pub settles_on : (h : History) → IsSearched p h → LeadsOn p (Settles p h)
  settles_on h k = let t = settling_is_total p v h k.moments (ordered_of p h k.sets) in by_clash t.0 t.1 (clashes S (settle_rounds p t.0 h)) refl
    where
      by_clash : (n : ℕ) → settle_round p (settle_rounds p n h) ≡ settle_rounds p n h → (b : Bool) → clashes S (settle_rounds p n h) ≡ b → LeadsOn p (Settles p h)
      by_clash n last true e = (Stopped, record { count = n; last = last; gives = ap (λ b. cond b Stopped (At (tidied_history (settle_rounds p n h)))) (sym e) }, tt)
      by_clash n last false e =
          let settled : Settles p h (At (tidied_history (settle_rounds p n h))) = record { count = n; last = last; gives = ap (λ b. cond b Stopped (At (tidied_history (settle_rounds p n h)))) (sym e) } in (
            At (tidied_history (settle_rounds p n h)),
            settled,
            record { moments = settled_history_of p v h (tidied_history (settle_rounds p n h)) k.moments settled; sets = tidied_sets_along p (settle_rounds p n h) (rounds_sets p n h k.sets) },
          )

  pub takes_on : (h : History) (c : Choice) (side : Side) → IsSearched p h → IsMember (last_moment h) c → IsSideOf S c side → LeadsOn p (Takes p h c side)
  takes_on h c side k member is = let a = closing_ends S (assumed S (last_moment h) c side) side_sets.known in by_outcome a.0 a.1
    where
      side_sets : AreSets (assumed S (last_moment h) c side)
      side_sets = assumed_sets S (last_moment h) c side (last_sets_of h k)

      by_outcome : (o : Outcome) → Assumes S (last_moment h) c side o → LeadsOn p (Takes p h c side)
      by_outcome (Next d) q =
          let later : IsSearched p (with_last h d) = record {
            moments = with_last_of p v h d k.moments (side_moment S v.signature.values (last_moment h) d c side (last_of_it p v h k.moments) member is q);
            sets = replaced_sets h d k.sets (closed_sets S (assumed S (last_moment h) c side) d side_sets q);
          } in
          let s = settles_on (with_last h d) later in
          (s.0, record { outcome = Next d; assumed = q; settled = s.1 }, s.2)
      by_outcome (Clash l) q = (Stopped, record { outcome = Clash l; assumed = q; settled = refl }, tt)

  -- ---- the best among choices

  among : (h : History) (n : ℕ) (done rest : List Choice) → HasBest p (IsDerivedAmong p h n done) → Each (λ c. HasBest p (IsDerivedBy p h n c)) rest → HasBest p (IsDerivedAmong p h n (done ++ rest))
  among h n done [] b each = subst (λ cs. HasBest p (IsDerivedAmong p h n cs)) (sym (append-nil done)) b
  among h n done (c ∷ rest) b each =
      subst (λ cs. HasBest p (IsDerivedAmong p h n cs)) (append_assoc done (c ∷ []) rest)
      (among h n (done ++ c ∷ []) rest (better_of p b.0 each.0.0, best_next p h n done c b.0 each.0.0 b.1 each.0.1) each.1)

  -- the best cases on the objects of which each has a best tree
  abbrev HasBestCases : History → Term → ℕ → List ℕ → Type 0
  HasBestCases h x n objects = (c : Option Chain) × AreBestCases p h x n objects c

  module _ (n : ℕ) (shallower : (x : State) → IsReached p x → HasBest p (IsDerivedWithin p x n)) (h : History) (k : IsSearched p h) where
    abbrev Has : Choice → Type 0
    Has c = HasBest p (IsDerivedBy p h (n + 1) c)

    by_action : (i : Instance) → IsIn i (instances p (last_moment h)) → Has (Act i)
    by_action i chosen =
        let y = acts_on h i k chosen in
        let b = shallower y.0 y.2 in
        (option_map (Do i) b.0, best_act p h n i y.0 b.0 chosen y.1 b.1)

    by_formula : (c : List Literal) → IsIn c (last_moment h).kw → is_undecided S (last_moment h) c ≡ true → Has (BranchOn c)
    by_formula c member undecided =
        let y = takes_on h (BranchOn c) AsTrue k member tt in
        let z = takes_on h (BranchOn c) AsFalse k member tt in
        let a = shallower y.0 y.2 in
        let b = shallower z.0 z.2 in
        (both_sides c a.0 b.0, best_branch p h n c y.0 z.0 a.0 b.0 member undecided y.1 z.1 a.1 b.1)

    by_objects : (x : Term) → IsIn x (last_moment h).kv → (objects : List ℕ) → Each (λ e. IsSideOf S (CasesOn x) (Is e)) objects → HasBestCases h x n objects
    by_objects x member [] sides = (Some End, best_end p h n x)
    by_objects x member (e ∷ objects) sides =
        let y = takes_on h (CasesOn x) (Is e) k member sides.0 in
        let b = shallower y.0 y.2 in
        let c = by_objects x member objects sides.1 in
        (one_more e b.0 c.0, best_more p h n x e objects y.0 b.0 c.0 y.1 b.1 c.1)

    by_term : (x : Term) → IsIn x (last_moment h).kv → may_split S (last_moment h) x ≡ true → Has (CasesOn x)
    by_term x member split =
        let sides : Each (λ e. IsSideOf S (CasesOn x) (Is e)) (left S (last_moment h) x) = each_of (λ e. IsSideOf S (CasesOn x) (Is e)) (left S (last_moment h) x) (left_is_side S (last_moment h) x) in
        let c = by_objects x member (left S (last_moment h) x) sides in
        (option_map (Cases x) c.0, best_cases p h n x c.0 member split c.1)

    by_choices : Each Has (choices p (last_moment h))
    unfolding choices
    by_choices =
        let d : Five = last_moment h in
        each_append Has (map Act (instances p d)) (map BranchOn (filter (is_undecided S d) d.kw) ++ map CasesOn (filter (may_split S d) d.kv))
        (each_map Has Act (instances p d) (each_of (λ i. Has (Act i)) (instances p d) by_action))
        (each_append Has (map BranchOn (filter (is_undecided S d) d.kw)) (map CasesOn (filter (may_split S d) d.kv))
        (each_map Has BranchOn (filter (is_undecided S d) d.kw) (each_filter (λ c. Has (BranchOn c)) (is_undecided S d) d.kw by_formula))
        (each_map Has CasesOn (filter (may_split S d) d.kv) (each_filter (λ x. Has (CasesOn x)) (may_split S d) d.kv by_term)))

  pub best_at : (n : ℕ) (x : State) → IsReached p x → HasBest p (IsDerivedWithin p x n)
  best_at n Stopped k = (Some Impossible, best_stopped p n)
  best_at zero (At h) k =
      ⊎_elim (λ is. (Some Goal, best_goal p h zero is)) (λ is. (None, best_shallow p h None (best_without p h zero is))) (cases_Bool (met p h))
  best_at (suc n) (At h) k =
      ⊎_elim
      (λ is. (Some Goal, best_goal p h (suc n) is))
      (λ is.
      let each : Each (λ c. HasBest p (IsDerivedBy p h (suc n) c)) (choices p (last_moment h)) =
      subst (λ m. Each (λ c. HasBest p (IsDerivedBy p h m c)) (choices p (last_moment h))) (add-one n) (by_choices n (best_at n) h k) in
      let b = among h (suc n) [] (choices p (last_moment h)) (None, best_without p h (suc n) is) each in
      (b.0, best_all p h (suc n) b.0 b.1))
      (cases_Bool (met p h))

  -- ---- the start

  pub starts : (o : Outcome) × Closes S (initial p) o × IsReached p (start_state o)
  starts = let c = closing_ends S (initial p) (initial_sets p).known in (c.0, c.1, by_outcome c.0 c.1)
    where
      by_outcome : (o : Outcome) → Closes S (initial p) o → IsReached p (start_state o)
      by_outcome (Next d) c = record { moments = start_of p v d c; sets = record { start = closed_sets S (initial p) d (initial_sets p) c; steps = tt } }
      by_outcome (Clash l) c = tt

  pub best : (n : ℕ) → (o : Option Tree) × IsBest p n o
  best n = let s = starts in let b = best_at n (start_state s.0) s.2 in (b.0, best_plan p s.0 n b.0 s.1 b.1)
