-- A derived tree has a good run in every compatible world.
use Rattle.std.proofs.Common.{◌≡◌, ℕ, true, cond, not, List, [], ◌∷◌, ◌++◌, map, refl, sym, ap, ◌∙◌, subst, inl, inr, ⊎_elim, true≢false}
use Rattle.std.specs.List.{filter}
use Rattle.std.specs.Prelude.{length, nat_le}
use Rattle.std.proofs.lemmas.Bool.{and_parts, or_cases, not_from_false, false_from_ne_true}
use Rattle.pks_terms.specs.Sets.{Each, IsIn, fronts}
use Rattle.pks_terms.specs.Syntax.{Term, term_of, object}
use Rattle.pks_terms.specs.Worlds.{World, inner_value, value_of, all_true_in}
use Rattle.pks_terms.specs.Orders.{literal, inequation}
use Rattle.pks_terms.specs.Signatures.{Signature, range_of}
use Rattle.pks_terms.specs.Databases.{Five, is_plain, differ, holds}
use Rattle.pks_terms.specs.Meaning.{IsWorld, IsTrueIn, IsTrueOf}
use Rattle.pks_terms.specs.Closure.{Outcome, Next, Closes}
use Rattle.pks_terms.specs.Queries.{Plain, Know, KnowWhether, KnowValue, Query, answers_plain, answers}
use Rattle.pks_terms.specs.Actions.{Instance, query_at}
use Rattle.pks_terms.specs.Problems.{Aim, Now, AtStart, Always, Once, Problem, schema_of, initial, IsCompatible}
use Rattle.pks_terms.specs.Typed.{IsTyped, AllJustified}
use Rattle.pks_terms.specs.Branching.{instances, left, may_split, Choice, BranchOn, CasesOn, Side, AsTrue, AsFalse, Is, IsSo, IsMember, assumed}
use Rattle.pks_terms.specs.Settling.{History, last_moment, pushed, with_last, State, At, Stopped, settle_rounds, tidied_history, Settles}
use Rattle.pks_terms.specs.Aims.{moments, is_met, met}
use Rattle.pks_terms.specs.Trees.{Tree, Goal, Impossible, Do, Branch, Cases, Chain, End, More, objects_in, after_step, Acts, SettlesAfter, Takes, Derives, DerivesEach, start_state, IsPlan}
use Rattle.pks_terms.specs.Knowledge.{grounded, after_action, observations, after_actions, ground_actions, SeeAlike, Alike, KnowsThen, Knows, KnowsUnlessDenied, KnowsAim, GoodFrom, GoodCase, Good}
use Rattle.pks_terms.proofs.ListLaws.{each_in, each_of, each_from_all, found_in, in_map, in_mapped, in_filtered, in_filter}
use Rattle.pks_laws.proofs.Holding.{holds_true, differ_true}
use Rattle.pks_laws.proofs.Closing.{value_in_range}
use Rattle.pks_laws.proofs.Answering.{known_value_alike, known_whether_alike}
use Rattle.pks_laws.proofs.Changing.{value_of-term_of}
use Rattle.pks_laws.proofs.Doing.{grounded_alike, present, grounds_pushed}
use Rattle.pks_laws.proofs.Tidying.{closed_true}
use Rattle.pks_laws.proofs.StepLaws.{action_true}
use Rattle.pks_laws.proofs.Assuming.{assumed_true}
use Rattle.pks_laws.proofs.Instances.{allowed_instance, arguments_alike}
use Rattle.pks_laws.proofs.Unique.{acts_one, takes_one}
use Rattle.pks_terms.specs.Remembering.{deeds_of, TrueAlong, AgreeAlong, Both, Remembers, PastFrom, PastEach}
use Rattle.pks_laws.proofs.Histories.{last_both, both_pushed, deeds_pushed, both_replaced, deeds_with_last, settled_both, deeds_settled}

-- ---- the moments of a history by the ground actions so far

abbrev moment_of : List Instance → Five → List (Instance × Five) → Five
moment_of [] d steps = d
moment_of (a ∷ more) d [] = d
moment_of (a ∷ more) d (step ∷ steps) = moment_of more step.1 steps

abbrev fives_of : List (Instance × Five) → List Five
fives_of steps = map (λ (step : Instance × Five). step.1) steps

moment_in : (p : Problem) (w : World) (first : List Instance) (d : Five) (steps : List (Instance × Five)) → IsIn first (fronts (ground_actions p w (deeds_of steps))) → IsIn (moment_of first d steps) (d ∷ fives_of steps)
moment_in p w first d [] (inl e) = inl (ap (λ f. moment_of f d []) e)
moment_in p w first d [] (inr i) = absurd i
moment_in p w first d (step ∷ steps) (inl e) = inl (ap (λ f. moment_of f d (step ∷ steps)) e)
moment_in p w first d (step ∷ steps) (inr i) =
    let g = grounded w step.0 in
    let v = after_action p w g in
    let r = in_mapped (λ (f : List Instance). g ∷ f) (fronts (ground_actions p v (deeds_of steps))) first i in
    inr (subst (λ f. IsIn (moment_of f d (step ∷ steps)) (step.1 ∷ fives_of steps)) r.2 (moment_in p v r.0 step.1 steps r.1))

in_moment : (p : Problem) (w : World) (d : Five) (steps : List (Instance × Five)) (e : Five) → IsIn e (d ∷ fives_of steps) → (first : List Instance) × IsIn first (fronts (ground_actions p w (deeds_of steps))) × (moment_of first d steps ≡ e)
in_moment p w d [] e (inl q) = ([], inl refl, q)
in_moment p w d [] e (inr i) = absurd i
in_moment p w d (step ∷ steps) e (inl q) = ([], inl refl, q)
in_moment p w d (step ∷ steps) e (inr i) =
    let g = grounded w step.0 in
    let r = in_moment p (after_action p w g) step.1 steps e i in
    (g ∷ r.0, inr (in_map (λ (f : List Instance). g ∷ f) (fronts (ground_actions p (after_action p w g) (deeds_of steps))) r.0 r.1), r.2)

-- each moment is true of the worlds after the first of the ground actions, where these are the same in both
moment_true : (p : Problem) (w w' : World) (first : List Instance) (d : Five) (steps : List (Instance × Five)) → ground_actions p w (deeds_of steps) ≡ ground_actions p w' (deeds_of steps) → IsIn first (fronts (ground_actions p w (deeds_of steps)))
    → TrueAlong p w d steps → TrueAlong p w' d steps → AgreeAlong p w w' d steps → IsTrueOf p.signature (after_actions p w first) (after_actions p w' first) (moment_of first d steps)
moment_true p w w' first d [] same (inl e) t t' a =
    subst (λ f. IsTrueOf p.signature (after_actions p w f) (after_actions p w' f) (moment_of f d [])) e (record { first = t; second = t'; whether = a.0; values = a.1 })
moment_true p w w' first d [] same (inr i) t t' a = absurd i
moment_true p w w' first d (step ∷ steps) same (inl e) t t' a =
    subst (λ f. IsTrueOf p.signature (after_actions p w f) (after_actions p w' f) (moment_of f d (step ∷ steps))) e (record { first = t.0; second = t'.0; whether = a.0.0; values = a.0.1 })
moment_true p w w' first d (step ∷ steps) same (inr i) t t' a =
    let g = grounded w step.0 in
    let g' = grounded w' step.0 in
    let v = after_action p w g in
    let v' = after_action p w' g' in
    let head : g ≡ g' = cc same in
    let rest : ground_actions p v (deeds_of steps) ≡ ground_actions p v' (deeds_of steps) = cc same in
    let r = in_mapped (λ (f : List Instance). g ∷ f) (fronts (ground_actions p v (deeds_of steps))) first i in
    subst (λ f. IsTrueOf p.signature (after_actions p w f) (after_actions p w' f) (moment_of f d (step ∷ steps))) r.2
    (subst (λ (h : Instance). IsTrueOf p.signature (after_actions p v r.0) (after_actions p (after_action p w' h) r.0) (moment_of r.0 step.1 steps)) (sym head)
    (moment_true p v v' r.0 step.1 steps rest r.1 t.1 t'.1 a.1))

module _ (p : Problem) (justified : AllJustified p) (typed : IsTyped p) where
  -- what is known of a node: its history is true of all worlds that are alike so far, and its steps are the ground actions that were done
  record Node (h : History) (done : List Instance) (w : World) : Type 0 where
    self : Alike p done w w
    both : (w' : World) → Alike p done w w' → Both p w w' h
    grounds : (w' : World) → Alike p done w w' → ground_actions p w' (deeds_of h.steps) ≡ done

  module _ (h : History) (done : List Instance) (w : World) (n : Node h done w) where
    abbrev now : World
    now = after_actions p w done

    here : (w' : World) → Alike p done w w' → present p w' (deeds_of h.steps) ≡ after_actions p w' done
    here w' a = ap (after_actions p w') (n.grounds w' a)

    -- the last moment is true of the present worlds
    last_here : (w' : World) → Alike p done w w' → IsTrueOf p.signature now (after_actions p w' done) (last_moment h)
    last_here w' a =
        subst (λ (v : World). IsTrueOf p.signature v (after_actions p w' done) (last_moment h)) (here w n.self)
        (subst (λ (v : World). IsTrueOf p.signature (present p w (deeds_of h.steps)) v (last_moment h)) (here w' a) (last_both p w w' h (n.both w' a)))

    -- what is answered at a moment is known of it
    module _ (first : List Instance) (d : Five) (true_then : (w' : World) → Alike p done w w' → IsTrueOf p.signature (after_actions p w first) (after_actions p w' first) d) where
      knows_then : (q : Plain) → answers_plain p.signature d q ≡ true → KnowsThen p done first w q
      knows_then (Know l) k = λ w' a. let m = true_then w' a in holds_true (after_actions p w' first) d m.second l k
      knows_then (KnowWhether c) k = λ w' a. sym (known_whether_alike (after_actions p w first) (after_actions p w' first) d (true_then w' a) c k)
      knows_then (KnowValue t) k = λ w' a. sym (known_value_alike (after_actions p w first) (after_actions p w' first) d (true_then w' a) t k)

      unless_then : (q : Query) → answers p.signature d q ≡ true → KnowsUnlessDenied p done first w q
      unless_then q k = λ plain. knows_then q.asks (sym (ap (λ b. cond b (not (answers_plain p.signature d q.asks)) (answers_plain p.signature d q.asks)) plain) ∙ k)

    knows_unless : (q : Query) → answers p.signature (last_moment h) q ≡ true → KnowsUnlessDenied p done done w q
    knows_unless = unless_then done (last_moment h) last_here

    front_of : (first : List Instance) → IsIn first (fronts done) → IsIn first (fronts (ground_actions p w (deeds_of h.steps)))
    front_of first i = subst (λ (is : List Instance). IsIn first (fronts is)) (sym (n.grounds w n.self)) i

    then_true : (first : List Instance) → IsIn first (fronts done) → (w' : World) → Alike p done w w' → IsTrueOf p.signature (after_actions p w first) (after_actions p w' first) (moment_of first h.start h.steps)
    then_true first i w' a =
        let b = n.both w' a in moment_true p w w' first h.start h.steps (n.grounds w n.self ∙ sym (n.grounds w' a)) (front_of first i) b.along b.along' b.agree

    knows_at : (first : List Instance) → IsIn first (fronts done) → (q : Query) → answers p.signature (moment_of first h.start h.steps) q ≡ true → KnowsUnlessDenied p done first w q
    knows_at first i = unless_then first (moment_of first h.start h.steps) (then_true first i)

    -- what is met is known
    knows_aim : (x : Aim) → is_met p.signature h x ≡ true → KnowsAim p done w x
    knows_aim (Now q) k = knows_unless q k
    knows_aim (AtStart q) k = knows_at [] (nothing_first done) q k
      where
        nothing_first : (xs : List Instance) → IsIn [] (fronts xs)
        nothing_first [] = inl refl
        nothing_first (x ∷ xs) = inl refl
    knows_aim (Always q) k = λ first i.
        knows_at first i q (each_in (λ d. answers p.signature d q ≡ true) (moments h) (moment_of first h.start h.steps) (each_from_all (λ d. answers p.signature d q ≡ true) (λ d. answers p.signature d q) (λ d a. a) (moments h) k) (moment_in p w first h.start h.steps (front_of first i)))
    knows_aim (Once q) k =
        let f = found_in (λ d. answers p.signature d q) (moments h) k in
        let m = in_moment p w h.start h.steps f.0 f.1 in
        let i = subst (λ (is : List Instance). IsIn m.0 (fronts is)) (n.grounds w n.self) m.1 in
        (m.0, i, knows_at m.0 i q (ap (λ d. answers p.signature d q) m.2 ∙ f.2))

    -- ---- an action

    module _ (i : Instance) (chosen : IsIn i (instances p (last_moment h))) where
      abbrev ground : Instance
      ground = grounded now i

      -- it is the same ground action in all worlds that are alike so far
      ground_there : (w' : World) → Alike p done w w' → ground ≡ grounded (after_actions p w' done) i
      ground_there w' a = grounded_alike now (after_actions p w' done) i (arguments_alike now (after_actions p w' done) p (last_moment h) (last_here w' a).values i chosen)

      see_front : (v v' : World) (is : List Instance) (j : Instance) → SeeAlike p v v' (is ++ j ∷ []) → SeeAlike p v v' is × (observations p (after_action p (after_actions p v is) j) j ≡ observations p (after_action p (after_actions p v' is) j) j)
      see_front v v' [] j s = (tt, s.0)
      see_front v v' (x ∷ is) j s = let r = see_front (after_action p v x) (after_action p v' x) is j s.1 in ((s.0, r.0), r.1)

      alike_before : (w' : World) → Alike p (done ++ ground ∷ []) w w' → Alike p done w w'
      alike_before w' a = record { start = a.start; same = (see_front w w' done ground a.same).0 }

      see_self : (v : World) (is : List Instance) → SeeAlike p v v is
      see_self v [] = tt
      see_self v (x ∷ is) = (refl, see_self (after_action p v x) is)

      self_after : Alike p (done ++ ground ∷ []) w w
      self_after = record { start = n.self.start; same = see_self w (done ++ ground ∷ []) }

      -- after it the instances are the ground actions that were done, and this one
      grounds_after : (w' : World) → Alike p done w w' → (e : Five) → ground_actions p w' (deeds_of (pushed h i e).steps) ≡ done ++ ground ∷ []
      grounds_after w' a e =
          let last : grounded (present p w' (deeds_of h.steps)) i ≡ ground = ap (λ (v : World). grounded v i) (here w' a) ∙ sym (ground_there w' a) in
          ap (ground_actions p w') (deeds_pushed p h.steps i e) ∙ grounds_pushed p w' (deeds_of h.steps) i ∙ (λ j. n.grounds w' a j ++ last j ∷ [])

      -- the node after the action
      acted : (x : State) → Acts p h i x → (e : Five) × (x ≡ At (pushed h i e)) × Node (pushed h i e) (done ++ ground ∷ []) w
      acted x c =
          let closed : (w' : World) → Alike p (done ++ ground ∷ []) w w' → (e : Five) × (c.outcome ≡ Next e) × IsTrueOf p.signature (after_action p now ground) (after_action p (after_actions p w' done) (grounded (after_actions p w' done) i)) e = λ w' a.
          let b = alike_before w' a in
          let v' = after_actions p w' done in
          action_true p now v' (last_moment h) i c.outcome typed (last_here w' b) chosen (justified i.action) ((see_front w w' done ground a.same).1 ∙ ap (λ (g : Instance). observations p (after_action p v' g) g) (ground_there w' b)) c.progress in
          let first = closed w self_after in (
            first.0,
            c.gives ∙ ap (after_step h i) first.1,
            record {
              self = self_after;
              both = λ w' a.
                  let b = alike_before w' a in
                  let o = closed w' a in
                  let same : o.0 ≡ first.0 = cc (o.1, first.1) in
                  both_pushed p w w' h i first.0 (n.both w' b)
                  (subst (λ (v : World). IsTrueOf p.signature (after_action p (present p w (deeds_of h.steps)) (grounded (present p w (deeds_of h.steps)) i)) (after_action p v (grounded v i)) first.0) (sym (here w' b))
                  (subst (λ (v : World). IsTrueOf p.signature (after_action p v (grounded v i)) (after_action p (after_actions p w' done) (grounded (after_actions p w' done) i)) first.0) (sym (here w n.self))
                  (subst (λ (e : Five). IsTrueOf p.signature (after_action p now ground) (after_action p (after_actions p w' done) (grounded (after_actions p w' done) i)) e) same o.2)));
              grounds = λ w' a. grounds_after w' (alike_before w' a) first.0;
            },
          )

    -- ---- a side

    taken : (c : Choice) (side : Side) (x : State) → IsMember (last_moment h) c → IsSo now c side → Takes p h c side x → (g : History) × (x ≡ At g) × Node g done w
    taken c side x member so t =
        let closed : (w' : World) → Alike p done w w' → (e : Five) × (t.outcome ≡ Next e) × IsTrueOf p.signature now (after_actions p w' done) e = λ w' a.
        closed_true p.signature now (after_actions p w' done) (assumed p.signature (last_moment h) c side) (assumed_true now (after_actions p w' done) (last_moment h) (last_here w' a) c side member so) t.outcome t.assumed in
        let first = closed w n.self in
        let settles : Settles p (with_last h first.0) x = subst (λ (o : Outcome). SettlesAfter p h o x) first.1 t.settled in
        let replaced : (w' : World) → Alike p done w w' → Both p w w' (with_last h first.0) = λ w' a.
        let o = closed w' a in
        let same : o.0 ≡ first.0 = cc (o.1, first.1) in
        let m = subst (λ (e : Five). IsTrueOf p.signature now (after_actions p w' done) e) same o.2 in
        both_replaced p w w' h first.0 (n.both w' a)
        (subst (λ (v : World). IsTrueOf p.signature (present p w (deeds_of h.steps)) v first.0) (sym (here w' a)) (subst (λ (v : World). IsTrueOf p.signature v (after_actions p w' done) first.0) (sym (here w n.self)) m)) in
        let end : History = tidied_history (settle_rounds p settles.count (with_last h first.0)) in (
          end,
          (settled_both p w w (with_last h first.0) x (replaced w n.self) settles).0,
          record {
            self = n.self;
            both = λ w' a. (settled_both p w w' (with_last h first.0) x (replaced w' a) settles).1;
            grounds = λ w' a. ap (ground_actions p w') (deeds_settled p settles.count (with_last h first.0) ∙ deeds_with_last p h.start h.steps first.0) ∙ n.grounds w' a;
          },
        )

  node_self : (h : History) (done : List Instance) (w : World) → Node h done w → Alike p done w w
  node_self h done w n = n.self

  -- the history was true then
  remembers : (h : History) (done : List Instance) (w : World) → Node h done w → Remembers p h done w
  remembers h done w n = λ w' a. (n.grounds w' a, (n.both w' a).along')

  arguments_known : (h : History) (done : List Instance) (w : World) → Node h done w → (i : Instance) → IsIn i (instances p (last_moment h)) → Each (λ a. Knows p done w (KnowValue (term_of a))) i.arguments
  arguments_known h done w n i chosen =
      each_of (λ a. Knows p done w (KnowValue (term_of a))) i.arguments (λ t j w' a.
      value_of-term_of (after_actions p w' done) t
      ∙ sym (each_in (λ t. inner_value (after_actions p w done) t ≡ inner_value (after_actions p w' done) t) i.arguments t (arguments_alike (after_actions p w done) (after_actions p w' done) p (last_moment h) (last_here h done w n w' a).values i chosen) j)
      ∙ sym (value_of-term_of (after_actions p w done) t))

-- where some object is left, the value is
value_left : (s : Signature) (w : World) (d : Five) (t : Term) → IsWorld s w → IsTrueIn s w d → may_split s d t ≡ true → IsIn (value_of w t) (left s d t)
unfolding left
value_left s w d t i m h =
    let some : (e : ℕ) × IsIn e (filter (λ e. not (holds s d (inequation t (object e)))) (range_of s t)) = some_in (filter (λ e. not (holds s d (inequation t (object e)))) (range_of s t)) (and_parts (nat_le 1 (length (filter (λ e. not (holds s d (inequation t (object e)))) (range_of s t)))) _ h).0 in
    let ranged = in_filtered (λ e. not (holds s d (inequation t (object e)))) (range_of s t) some.0 some.1 in
    in_filter (λ e. not (holds s d (inequation t (object e)))) (range_of s t) (value_of w t) (value_in_range s w i t some.0 ranged.0)
    (not_from_false _ (false_from_ne_true _ (λ k. differ_true w m.world d.kf m.known t (object (value_of w t)) (as_differ k) (object_value (value_of w t)))))
  where
    object_value : (e : ℕ) → e ≡ value_of w (object e)
    object_value e = unfold value_of in refl

    some_in : (es : List ℕ) → nat_le 1 (length es) ≡ true → (e : ℕ) × IsIn e es
    some_in [] k = absurd (true≢false (sym k))
    some_in (e ∷ es) k = (e, inl refl)

    as_differ : holds s d (inequation t (object (value_of w t))) ≡ true → differ s d.kf t (object (value_of w t)) ≡ true
    as_differ k = unfold holds differ literal in ⊎_elim (λ q. q) (λ q. absurd (true≢false (sym q))) (or_cases (is_plain s d.kf (inequation t (object (value_of w t)))) _ k)

not_stopped : (h : History) → At h ≡ Stopped → ⊥
not_stopped h e = cc

knows_goal : (p : Problem) (j : AllJustified p) (s : IsTyped p) (h : History) (done : List Instance) (w : World) → Node p j s h done w → met p h ≡ true → Each (KnowsAim p done w) p.goal
unfolding met
knows_goal p j s h done w n k = each_from_all (KnowsAim p done w) (is_met p.signature h) (knows_aim p j s h done w n) p.goal k

mutual
  good_from : (p : Problem) (j : AllJustified p) (s : IsTyped p) (t : Tree) (h : History) (done : List Instance) (w : World) → Node p j s h done w → Derives p (At h) t → GoodFrom p done w t
  good_from p j s Goal h done w n k = knows_goal p j s h done w n k
  good_from p j s Impossible h done w n k = absurd (not_stopped h k)
  good_from p j s (Do i t) h done w n k =
      let a = acted p j s h done w n i k.0 k.1.0 k.1.1 in (
        each_from_all (λ q. KnowsUnlessDenied p done done w (query_at i.arguments q)) (λ q. answers p.signature (last_moment h) (query_at i.arguments q)) (λ q b. knows_unless p j s h done w n (query_at i.arguments q) b) (schema_of p i.action).pre (allowed_instance p (last_moment h) i k.0).0,
        arguments_known p j s h done w n i k.0,
        good_from p j s t (pushed h i a.0) (done ++ grounded (after_actions p w done) i ∷ []) w a.2 (subst (λ (x : State). Derives p x t) a.1 k.1.2),
      )
  good_from p j s (Branch c t u) h done w n k = (
    λ w' a. sym (each_in (λ c. all_true_in (after_actions p w done) c ≡ all_true_in (after_actions p w' done) c) (last_moment h).kw c (last_here p j s h done w n w' a).whether k.0),
    λ so. let a = taken p j s h done w n (BranchOn c) AsTrue k.2.0 k.0 so k.2.1 in good_from p j s t a.0 done w a.2 (subst (λ (x : State). Derives p x t) a.1 k.2.2),
    λ so. let a = taken p j s h done w n (BranchOn c) AsFalse k.3.0 k.0 so k.3.1 in good_from p j s u a.0 done w a.2 (subst (λ (x : State). Derives p x u) a.1 k.3.2),
  )
  good_from p j s (Cases x m) h done w n k =
      let t = last_here p j s h done w n w (node_self p j s h done w n) in (
        λ w' a. sym (each_in (λ t. value_of (after_actions p w done) t ≡ value_of (after_actions p w' done) t) (last_moment h).kv x (last_here p j s h done w n w' a).values k.0),
        good_case p j s m x h done w n k.0
            (subst (IsIn (value_of (after_actions p w done) x)) (sym k.2) (value_left p.signature (after_actions p w done) (last_moment h) x t.first.world t.first k.1)) k.3,
      )

  good_case : (p : Problem) (j : AllJustified p) (s : IsTyped p) (m : Chain) (x : Term) (h : History) (done : List Instance) (w : World) → Node p j s h done w → IsIn x (last_moment h).kv → IsIn (value_of (after_actions p w done) x) (objects_in m) → DerivesEach p h x m → GoodCase p done w (value_of (after_actions p w done) x) m
  good_case p j s End x h done w n member i k = absurd i
  good_case p j s (More o t m) x h done w n member i k = (
    λ e. let a = taken p j s h done w n (CasesOn x) (Is o) k.0.0 member (sym e) k.0.1 in good_from p j s t a.0 done w a.2 (subst (λ (x : State). Derives p x t) a.1 k.0.2),
    λ other. good_case p j s m x h done w n member (⊎_elim (λ e. absurd (other e)) (λ r. r) i) k.1,
  )

-- ---- the past

at_one : (g k : History) → At g ≡ At k → g ≡ k
at_one g k e = cc

acted_node : (p : Problem) (j : AllJustified p) (s : IsTyped p) (h : History) (done : List Instance) (w : World) (n : Node p j s h done w) (i : Instance) → IsIn i (instances p (last_moment h)) → (g : History) → Acts p h i (At g) → Node p j s g (done ++ grounded (after_actions p w done) i ∷ []) w
acted_node p j s h done w n i chosen g a =
    let r = acted p j s h done w n i chosen (At g) a in
    subst (λ (k : History). Node p j s k (done ++ grounded (after_actions p w done) i ∷ []) w) (sym (at_one g (pushed h i r.0) r.1)) r.2

taken_node : (p : Problem) (j : AllJustified p) (s : IsTyped p) (h : History) (done : List Instance) (w : World) (n : Node p j s h done w) (c : Choice) (side : Side) → IsMember (last_moment h) c → IsSo (after_actions p w done) c side → (g : History) → Takes p h c side (At g) → Node p j s g done w
taken_node p j s h done w n c side member so g t =
    let r = taken p j s h done w n c side (At g) member so t in
    subst (λ (k : History). Node p j s k done w) (sym (at_one g r.0 r.1)) r.2

mutual
  past_from : (p : Problem) (j : AllJustified p) (s : IsTyped p) (t : Tree) (h : History) (done : List Instance) (w : World) → Node p j s h done w → Derives p (At h) t → PastFrom p h done w t
  past_from p j s Goal h done w n k = remembers p j s h done w n
  past_from p j s Impossible h done w n k = remembers p j s h done w n
  past_from p j s (Do i t) h done w n k = (
    remembers p j s h done w n,
    λ g a. past_from p j s t g (done ++ grounded (after_actions p w done) i ∷ []) w (acted_node p j s h done w n i k.0 g a)
        (subst (λ (x : State). Derives p x t) (acts_one p h i k.1.0 (At g) k.1.1 a) k.1.2),
  )
  past_from p j s (Branch c t u) h done w n k = (
    remembers p j s h done w n,
    λ so g a. past_from p j s t g done w (taken_node p j s h done w n (BranchOn c) AsTrue k.0 so g a) (subst (λ (x : State). Derives p x t) (takes_one p h (BranchOn c) AsTrue k.2.0 (At g) k.2.1 a) k.2.2),
    λ so g a. past_from p j s u g done w (taken_node p j s h done w n (BranchOn c) AsFalse k.0 so g a) (subst (λ (x : State). Derives p x u) (takes_one p h (BranchOn c) AsFalse k.3.0 (At g) k.3.1 a) k.3.2),
  )
  past_from p j s (Cases x m) h done w n k = (remembers p j s h done w n, past_each p j s m x h done w n k.0 k.3)

  past_each : (p : Problem) (j : AllJustified p) (s : IsTyped p) (m : Chain) (x : Term) (h : History) (done : List Instance) (w : World) → Node p j s h done w → IsIn x (last_moment h).kv → DerivesEach p h x m → PastEach p h done w x m
  past_each p j s End x h done w n member k = tt
  past_each p j s (More o t m) x h done w n member k = (
    λ e g a. past_from p j s t g done w (taken_node p j s h done w n (CasesOn x) (Is o) member (sym e) g a) (subst (λ (y : State). Derives p y t) (takes_one p h (CasesOn x) (Is o) k.0.0 (At g) k.0.1 a) k.0.2),
    past_each p j s m x h done w n member k.1,
  )

-- the start, in a compatible world
start_node : (p : Problem) (j : AllJustified p) (s : IsTyped p) (o : Outcome) → Closes p.signature (initial p) o → (w : World) → IsCompatible p w → (d : Five) × (o ≡ Next d) × Node p j s (record { start = d; steps = [] }) [] w
start_node p j s o c w k =
    let self : Alike p [] w w = record {
      start = record { first = k; second = k; whether = each_of (λ c. all_true_in w c ≡ all_true_in w c) (initial p).kw (λ c i. refl); values = each_of (λ t. value_of w t ≡ value_of w t) (initial p).kv (λ t i. refl) };
      same = tt;
    } in
    let closed : (w' : World) → Alike p [] w w' → (d : Five) × (o ≡ Next d) × IsTrueOf p.signature w w' d = λ w' a. closed_true p.signature w w' (initial p) a.start o c in
    let first = closed w self in (
      first.0,
      first.1,
      record {
        self = self;
        both = λ w' a.
            let r = closed w' a in
            let same : r.0 ≡ first.0 = cc (r.1, first.1) in
            let t = subst (λ (d : Five). IsTrueOf p.signature w w' d) same r.2 in
            record { along = t.first; along' = t.second; agree = (t.whether, t.values) };
        grounds = λ w' a. refl;
      },
    )

-- the headline's second half: in every compatible world the run of a derived tree is good
pub plan_good : (p : Problem) → AllJustified p → IsTyped p → (t : Tree) → IsPlan p t → (w : World) → IsCompatible p w → Good p t w
plan_good p j s t plan w k =
    let n = start_node p j s plan.outcome plan.closes w k in
    good_from p j s t (record { start = n.0; steps = [] }) [] w n.2 (subst (λ (o : Outcome). Derives p (start_state o) t) n.1 plan.derives)

-- at each node of a run in a compatible world, what the databases of each moment say was true then in all worlds that are alike so far
pub plan_remembers : (p : Problem) → AllJustified p → IsTyped p → (t : Tree) (d : Five) → Closes p.signature (initial p) (Next d) → Derives p (At (record { start = d; steps = [] })) t → (w : World) → IsCompatible p w → PastFrom p (record { start = d; steps = [] }) [] w t
plan_remembers p j s t d c k w compatible =
    let n = start_node p j s (Next d) c w compatible in
    let same : n.0 ≡ d = cc n.1 in
    past_from p j s t (record { start = d; steps = [] }) [] w (subst (λ (e : Five). Node p j s (record { start = e; steps = [] }) [] w) same n.2) k
