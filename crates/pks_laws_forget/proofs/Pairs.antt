-- Histories that are alike, and stay so by actions, by sides and by settling, have the same derived trees.
use Rattle.std.proofs.Common.{◌≡◌, ℕ, false, cond, Option, List, [], ◌∷◌, refl, sym, ap, ◌∙◌, subst, ⊎_elim}
use Rattle.std.proofs.lemmas.Bool.{cases_Bool}
use Rattle.pks_terms.specs.Sets.{IsIn}
use Rattle.pks_terms.specs.Signatures.{Signature}
use Rattle.pks_terms.specs.Databases.{Five, AreSets}
use Rattle.pks_terms.specs.Closure.{Outcome, Next, Clash}
use Rattle.pks_terms.specs.Actions.{Instance}
use Rattle.pks_terms.specs.Aims.{met}
use Rattle.pks_terms.specs.Branching.{instances, Choice, Side, IsMember, assumed, Assumes}
use Rattle.pks_terms.specs.Moments.{AreMomentsOf}
use Rattle.pks_terms.specs.Problems.{Problem, schema_of}
use Rattle.pks_terms.specs.Progress.{Progress, progressed}
use Rattle.pks_terms.specs.Settling.{History, last_moment, pushed, with_last, settle_round, settle_rounds, State, At, Stopped, clashes, tidied_history, Settles}
use Rattle.pks_terms.specs.Trees.{Tree, Acts, Takes, after_step, SettlesAfter, Derives, IsDerivedWithin, IsBestAt}
use Rattle.pks_terms.specs.Valid.{IsValid}
use Rattle.pks_terms.proofs.ListLaws.{each_append}
use Rattle.pks_laws.specs.OfSignature.{IsSideOf}
use Rattle.pks_laws.proofs.Choosing.{best_same}
use Rattle.pks_laws.proofs.SearchStates.{last_of_it, acts_of, settled_history_of, with_last_of, side_moment}
use Rattle.pks_laws.proofs.Sorted.{progressed_sets, assumed_sets, closed_sets}
use Rattle.pks_laws_forget.specs.Transparent.{AreSetsAlong}
use Rattle.pks_laws_forget.proofs.SetsAlong.{SetSteps, rounds_sets, tidied_sets_along, last_sets, ordered_of, last_replaced}
use Rattle.pks_laws_forget.proofs.Total.{settling_is_total}
use Rattle.pks_laws_forget.proofs.Trees.{Likens, like_trees}

-- the history is of the problem, and its sets are in order
pub record IsOf (p : Problem) (h : History) : Type 0 where
  pub moments : AreMomentsOf p h
  pub sets : AreSetsAlong h

-- after so many rounds settling is at its end
abbrev pub IsFixed : Problem → ℕ → History → Type 0
IsFixed p n h = settle_round p (settle_rounds p n h) ≡ settle_rounds p n h

-- actions lead from alike histories to alike ones, and sides to ones that settling makes alike
pub record Keeps (p : Problem) (Like Nearly : History → History → Type 0) : Type 0 where
  pub last : (h g : History) → Like h g → last_moment h ≡ last_moment g
  pub goal : (h g : History) → Like h g → met p h ≡ met p g
  pub acts : (h g : History) (x : Instance) (d : Five) → Like h g → IsIn x (instances p (last_moment h)) → IsIn x (instances p (last_moment g))
      → Progress p.signature (last_moment h) (schema_of p x.action) x (Next d) → Progress p.signature (last_moment g) (schema_of p x.action) x (Next d) → Like (pushed h x d) (pushed g x d)
  pub sides : (h g : History) (c : Choice) (side : Side) (d : Five) → IsOf p h → IsOf p g → Like h g → Assumes p.signature (last_moment h) c side (Next d) → Assumes p.signature (last_moment g) c side (Next d) → Nearly (with_last h d) (with_last g d)
  pub clash : (h g : History) (n m : ℕ) → IsOf p h → IsOf p g → Nearly h g → IsFixed p n h → IsFixed p m g → clashes p.signature (settle_rounds p n h) ≡ clashes p.signature (settle_rounds p m g)
  pub settled : (h g : History) (n m : ℕ) → IsOf p h → IsOf p g → Nearly h g → IsFixed p n h → IsFixed p m g → clashes p.signature (settle_rounds p n h) ≡ false → clashes p.signature (settle_rounds p m g) ≡ false
      → Like (tidied_history (settle_rounds p n h)) (tidied_history (settle_rounds p m g))

-- so it is the other way round
turned : (p : Problem) (Like Nearly : History → History → Type 0) → Keeps p Like Nearly → Keeps p (λ h g. Like g h) (λ h g. Nearly g h)
turned p Like Nearly keeps = record {
  last = λ h g k. sym (keeps.last g h k);
  goal = λ h g k. sym (keeps.goal g h k);
  acts = λ h g x d k chosen chosen' q q'. keeps.acts g h x d k chosen' chosen q' q;
  sides = λ h g c side d o o' k a a'. keeps.sides g h c side d o' o k a' a;
  clash = λ h g n m o o' k e f. sym (keeps.clash g h m n o' o k f e);
  settled = λ h g n m o o' k e f q q'. keeps.settled g h m n o' o k f e q' q;
}

module _ (p : Problem) (v : IsValid p) where
  abbrev S : Signature
  S = p.signature

  -- ---- what comes of a history of the problem is one too

  pushed_of : (h : History) (x : Instance) (d : Five) → IsOf p h → IsIn x (instances p (last_moment h)) → Progress S (last_moment h) (schema_of p x.action) x (Next d) → IsOf p (pushed h x d)
  pushed_of h x d o chosen q = record {
    moments = acts_of p v h (pushed h x d) x o.moments chosen (record { outcome = Next d; progress = q; gives = refl });
    sets = record {
      start = o.sets.start;
      steps = each_append (λ (x : Instance × Five). AreSets x.1) h.steps ((x, d) ∷ []) o.sets.steps (closed_sets S (progressed S (last_moment h) (schema_of p x.action) x.arguments) d (progressed_sets S (last_moment h) (schema_of p x.action) x.arguments (last_sets p h.start h.steps o.sets.start o.sets.steps)) q, tt);
    };
  }

  replaced_of : (h : History) (d : Five) (c : Choice) (side : Side) → IsOf p h → IsMember (last_moment h) c → IsSideOf S c side → Assumes S (last_moment h) c side (Next d) → IsOf p (with_last h d)
  replaced_of h d c side o m is a = record {
    moments = with_last_of p v h d o.moments (side_moment S v.signature.values (last_moment h) d c side (last_of_it p v h o.moments) m is a);
    sets = go h.start h.steps o.sets.start o.sets.steps (closed_sets S (assumed S (last_moment h) c side) d (assumed_sets S (last_moment h) c side (last_sets p h.start h.steps o.sets.start o.sets.steps)) a);
  }
    where
      go : (b : Five) (xs : List (Instance × Five)) → AreSets b → SetSteps p xs → AreSets d → AreSetsAlong (with_last (record { start = b; steps = xs }) d)
      go b [] s ss t = record { start = t; steps = tt }
      go b (x ∷ xs) s ss t = record { start = s; steps = last_replaced p (x ∷ xs) d ss t }

  settled_of : (h : History) (n : ℕ) → IsOf p h → IsFixed p n h → clashes S (settle_rounds p n h) ≡ false → IsOf p (tidied_history (settle_rounds p n h))
  settled_of h n o e q =
      let end : History = settle_rounds p n h in
      record {
        moments = settled_history_of p v h (tidied_history end) o.moments (record { count = n; last = e; gives = sym (ap (λ b. cond b Stopped (At (tidied_history end))) q) });
        sets = tidied_sets_along p end (rounds_sets p n h o.sets);
      }

  module _ (Like Nearly : History → History → Type 0) (keeps : Keeps p Like Nearly) where
    abbrev IsPair : History → History → Type 0
    IsPair h g = Like h g × IsOf p h × IsOf p g

    abbrev Paired : State → State → Type 0
    Paired (At h) (At g) = IsPair h g
    Paired Stopped Stopped = Unit {0}
    Paired (At h) Stopped = ⊥
    Paired Stopped (At g) = ⊥

    -- ---- actions

    pushed_pair : (h g : History) (x : Instance) (o : Outcome) → IsPair h g → IsIn x (instances p (last_moment h)) → IsIn x (instances p (last_moment g)) → Progress S (last_moment h) (schema_of p x.action) x o → Progress S (last_moment g) (schema_of p x.action) x o → Paired (after_step h x o) (after_step g x o)
    pushed_pair h g x (Clash l) k chosen chosen' q q' = tt
    pushed_pair h g x (Next d) k chosen chosen' q q' = (keeps.acts h g x d k.0 chosen chosen' q q', pushed_of h x d k.1 chosen q, pushed_of g x d k.2 chosen' q')

    acts_on : (h g : History) (x : Instance) (y : State) → IsPair h g → IsIn x (instances p (last_moment h)) → Acts p h x y → (z : State) × Acts p g x z × Paired y z
    acts_on h g x y k chosen a =
        let last = keeps.last h g k.0 in
        let q = subst (λ d. Progress S d (schema_of p x.action) x a.outcome) last a.progress in
        let c = subst (λ d. IsIn x (instances p d)) last chosen in (
          after_step g x a.outcome,
          record { outcome = a.outcome; progress = q; gives = refl },
          subst (λ y. Paired y (after_step g x a.outcome)) (sym a.gives) (pushed_pair h g x a.outcome k chosen c a.progress q),
        )

    -- ---- settling

    abbrev state_of : History → State
    state_of end = cond (clashes S end) Stopped (At (tidied_history end))

    settled_pair : (h g : History) → IsOf p h → IsOf p g → Nearly h g → (n m : ℕ) → IsFixed p n h → IsFixed p m g → Paired (state_of (settle_rounds p n h)) (state_of (settle_rounds p m g))
    settled_pair h g o o' k n m e f =
        let end : History = settle_rounds p n h in
        let end' : History = settle_rounds p m g in
        let clash : clashes S end ≡ clashes S end' = keeps.clash h g n m o o' k e f in
        ⊎_elim
        (λ t. subst (λ b. Paired (cond b Stopped (At (tidied_history end))) (state_of end')) (sym t) (subst (λ b. Paired Stopped (cond b Stopped (At (tidied_history end')))) (sym (sym clash ∙ t)) tt))
        (λ q.
        let q' : clashes S end' ≡ false = sym clash ∙ q in
        let pair : IsPair (tidied_history end) (tidied_history end') = (keeps.settled h g n m o o' k e f q q', settled_of h n o e q, settled_of g m o' f q') in
        subst (λ b. Paired (cond b Stopped (At (tidied_history end))) (state_of end')) (sym q) (subst (λ b. Paired (At (tidied_history end)) (cond b Stopped (At (tidied_history end')))) (sym q') pair))
        (cases_Bool (clashes S end))

    settles_on : (h g : History) (y : State) → IsOf p h → IsOf p g → Nearly h g → Settles p h y → (z : State) × Settles p g z × Paired y z
    settles_on h g y o o' k s =
        let t = settling_is_total p v g o'.moments (ordered_of p g o'.sets) in (
          state_of (settle_rounds p t.0 g),
          record { count = t.0; last = t.1; gives = refl },
          subst (λ y. Paired y (state_of (settle_rounds p t.0 g))) (sym s.gives) (settled_pair h g o o' k s.count t.0 s.last t.1),
        )

    -- ---- sides

    takes_on : (h g : History) (c : Choice) (side : Side) (y : State) → IsPair h g → IsMember (last_moment h) c → IsSideOf S c side → Takes p h c side y → (z : State) × Takes p g c side z × Paired y z
    takes_on h g c side y k m is t = go t.outcome t.assumed t.settled
      where
        go : (o : Outcome) → Assumes S (last_moment h) c side o → SettlesAfter p h o y → (z : State) × Takes p g c side z × Paired y z
        go (Next d) a s =
            let last = keeps.last h g k.0 in
            let a' = subst (λ x. Assumes S x c side (Next d)) last a in
            let r = settles_on (with_last h d) (with_last g d) y (replaced_of h d c side k.1 m is a) (replaced_of g d c side k.2 (subst (λ x. IsMember x c) last m) is a') (keeps.sides h g c side d k.1 k.2 k.0 a a') s in
            (r.0, record { outcome = Next d; assumed = a'; settled = r.1 }, r.2)
        go (Clash l) a s = (Stopped, record { outcome = Clash l; assumed = subst (λ x. Assumes S x c side (Clash l)) (keeps.last h g k.0) a; settled = refl }, subst (λ y. Paired y Stopped) (sym s) tt)

    -- ---- trees

    goes_on : (h : History) (y : State) → Paired (At h) y → (g : History) × (y ≡ At g)
    goes_on h (At g) k = (g, refl)
    goes_on h Stopped k = absurd k

    stopped_on : (y : State) → Paired Stopped y → y ≡ Stopped
    stopped_on (At g) k = absurd k
    stopped_on Stopped k = refl

    likens : Likens p Paired
    likens = record { stopped = stopped_on; goes_on = goes_on; last = λ h g k. keeps.last h g k.0; same_goal = λ h g k. keeps.goal h g k.0; acts = acts_on; takes = takes_on }

    trees_on : (h g : History) (t : Tree) → Like h g → IsOf p h → IsOf p g → Derives p (At h) t → Derives p (At g) t
    trees_on h g t k o o' = like_trees p Paired likens t (At h) (At g) (k, o, o')

module _ (p : Problem) (v : IsValid p) (Like Nearly : History → History → Type 0) (keeps : Keeps p Like Nearly) where
  pub same_trees : (h g : History) (t : Tree) → Like h g → IsOf p h → IsOf p g → (Derives p (At h) t → Derives p (At g) t) × (Derives p (At g) t → Derives p (At h) t)
  same_trees h g t k o o' = (trees_on p v Like Nearly keeps h g t k o o', trees_on p v (λ h g. Like g h) (λ h g. Nearly g h) (turned p Like Nearly keeps) g h t k o' o)

-- histories with the same derived trees have the same best one of at most a depth
pub same_best : (p : Problem) (h g : History) → ((t : Tree) → (Derives p (At h) t → Derives p (At g) t) × (Derives p (At g) t → Derives p (At h) t)) → (n : ℕ) (o : Option Tree) → (IsBestAt p (At h) n o → IsBestAt p (At g) n o) × (IsBestAt p (At g) n o → IsBestAt p (At h) n o)
same_best p h g same n o =
    let one : Tree → Type 0 = IsDerivedWithin p (At h) n in
    let other : Tree → Type 0 = IsDerivedWithin p (At g) n in
    let on : (t : Tree) → one t → other t = λ t d. ((same t).0 d.0, d.1) in
    let back : (t : Tree) → other t → one t = λ t d. ((same t).1 d.0, d.1) in
    (best_same p one other o on back, best_same p other one o back on)
