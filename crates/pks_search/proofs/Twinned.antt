-- Twins along a search: how they are led on, and that no tree is derived where they are one world.
use Rattle.std.proofs.Common.{◌≡◌, ℕ, true, not, List, [], ◌∷◌, ◌++◌, filter, length, None, refl, sym, ap, ◌∙◌, subst, inl, ⊎_elim, true≢false}
use Rattle.std.specs.Prelude.{nat_le}
use Rattle.std.proofs.lemmas.Bool.{and_parts, or_cases, cases_Bool, not_from_false, false_from_ne_true}
use Rattle.std.proofs.lemmas.Option.{none-some}
use Rattle.pks_terms.specs.Sets.{Each, IsIn}
use Rattle.pks_terms.specs.Syntax.{Term, object}
use Rattle.pks_terms.specs.Orders.{literal, inequation}
use Rattle.pks_terms.specs.Signatures.{Signature, range_of}
use Rattle.pks_terms.specs.Worlds.{World, value_of, all_true_in}
use Rattle.pks_terms.specs.Databases.{Five, is_plain, differ, holds}
use Rattle.pks_terms.specs.Meaning.{IsTrueIn, IsTrueOf}
use Rattle.pks_terms.specs.Closure.{Outcome, Next, Closes}
use Rattle.pks_terms.specs.Actions.{Instance}
use Rattle.pks_terms.specs.Problems.{Problem, initial}
use Rattle.pks_terms.specs.Typed.{IsTyped, AllJustified}
use Rattle.pks_terms.specs.Branching.{instances, left, may_split, Choice, Act, BranchOn, CasesOn, Side, AsTrue, AsFalse, Is, IsSo, IsMember, assumed}
use Rattle.pks_terms.specs.Settling.{History, last_moment, pushed, with_last, State, At, Stopped, settle_rounds, tidied_history, Settles}
use Rattle.pks_terms.specs.Aims.{is_met, met}
use Rattle.pks_terms.specs.Trees.{Tree, Goal, Impossible, Do, Branch, Cases, Chain, End, More, objects_in, after_step, Acts, SettlesAfter, Takes, Derives, DerivesEach, IsBestOf}
use Rattle.pks_terms.specs.Knowledge.{grounded, after_action, observations, after_actions, ground_actions}
use Rattle.pks_terms.specs.Remembering.{deeds_of, Both}
use Rattle.pks_terms.proofs.ListLaws.{each_in, each_from_all, in_filtered, in_filter}
use Rattle.pks_laws.proofs.Choosing.{act_not_branch, act_not_cases}
use Rattle.pks_laws.proofs.Answering.{known_whether_alike}
use Rattle.pks_laws.proofs.Holding.{differ_true}
use Rattle.pks_laws.proofs.Closing.{value_in_range}
use Rattle.pks_laws.proofs.Doing.{present, grounds_pushed, grounded_alike}
use Rattle.pks_laws.proofs.Tidying.{closed_true}
use Rattle.pks_laws.proofs.StepLaws.{action_true}
use Rattle.pks_laws.proofs.Assuming.{assumed_true}
use Rattle.pks_laws.proofs.Instances.{arguments_alike}
use Rattle.pks_laws.proofs.Histories.{last_both, both_pushed, deeds_pushed, both_replaced, deeds_with_last, settled_both, deeds_settled}
use Rattle.pks_search_witness.specs.declared.twins.Twins.{Twins}
use Rattle.pks_search_witness.specs.Apart.{first_in, second_in, AreFirst, AreAfter}
use Rattle.pks_search.specs.Limits.{IsCheapBy}
use Rattle.pks_search.specs.Near.{ComeFrom}
use Rattle.pks_search.specs.Twins.{MayBeTwins, AreTwins, AreTwinsAfter, AreKept, SomeMet}
use Rattle.pks_search.proofs.Witnessed.{come_each, so_there}

abbrev Steps : Type 0
Steps = List (Instance × Five)

-- where some object is left, the value is
value_left : (s : Signature) (w : World) (d : Five) (t : Term) → IsTrueIn s w d → may_split s d t ≡ true → IsIn (value_of w t) (left s d t)
unfolding left
value_left s w d t m h =
    let some : (e : ℕ) × IsIn e (filter (λ e. not (holds s d (inequation t (object e)))) (range_of s t)) = some_in (filter (λ e. not (holds s d (inequation t (object e)))) (range_of s t)) (and_parts (nat_le 1 (length (filter (λ e. not (holds s d (inequation t (object e)))) (range_of s t)))) _ h).0 in
    let ranged = in_filtered (λ e. not (holds s d (inequation t (object e)))) (range_of s t) some.0 some.1 in
    in_filter (λ e. not (holds s d (inequation t (object e)))) (range_of s t) (value_of w t) (value_in_range s w m.world t some.0 ranged.0)
    (not_from_false _ (false_from_ne_true _ (λ k. differ_true w m.world d.kf m.known t (object (value_of w t)) (as_differ k) (object_value (value_of w t)))))
  where
    object_value : (e : ℕ) → e ≡ value_of w (object e)
    object_value e = unfold value_of in refl

    some_in : (es : List ℕ) → nat_le 1 (length es) ≡ true → (e : ℕ) × IsIn e es
    some_in [] k = absurd (true≢false (sym k))
    some_in (e ∷ es) k = (e, inl refl)

    as_differ : holds s d (inequation t (object (value_of w t))) ≡ true → differ s d.kf t (object (value_of w t)) ≡ true
    as_differ k = unfold holds differ literal in ⊎_elim (λ q. q) (λ q. absurd (true≢false (sym q))) (or_cases (is_plain s d.kf (inequation t (object (value_of w t)))) _ k)

module _ (p : Problem) where
  -- ---- what is true of both

  first_true : (w w' : World) (d : Five) (steps : Steps) → Both p w w' (record { start = d; steps = steps }) → IsTrueOf p.signature w w' d
  first_true w w' d [] b = record { first = b.along; second = b.along'; whether = b.agree.0; values = b.agree.1 }
  first_true w w' d (step ∷ steps) b = record { first = b.along.0; second = b.along'.0; whether = b.agree.0.0; values = b.agree.0.1 }

  pub last_twins : (h : History) (v v' : World) → MayBeTwins p h v v' → IsTrueOf p.signature v v' (last_moment h)
  last_twins h v v' m =
      subst (λ (u : World). IsTrueOf p.signature v u (last_moment h)) m.leads'
      (subst (λ (u : World). IsTrueOf p.signature u (present p m.second (deeds_of h.steps)) (last_moment h)) m.leads (last_both p m.first m.second h m.both))

  -- ---- how they are led on

  pub start_twins : (d : Five) (x : Twins) → Closes p.signature (initial p) (Next d) → AreFirst p x → AreTwins p (record { start = d; steps = [] }) x
  start_twins d x c k =
      let r = closed_true p.signature (first_in x) (second_in x) (initial p) k.alike (Next d) c in
      let same : r.0 ≡ d = cc r.1 in
      let t = subst (λ (e : Five). IsTrueOf p.signature (first_in x) (second_in x) e) same r.2 in
      record { first = first_in x; second = second_in x; both = record { along = t.first; along' = t.second; agree = (t.whether, t.values) }; apart = k.apart; leads = refl; leads' = refl }

  after_more : (w : World) (is : List Instance) (j : Instance) → after_actions p w (is ++ j ∷ []) ≡ after_action p (after_actions p w is) j
  after_more w [] j = refl
  after_more w (i ∷ is) j = after_more (after_action p w i) is j

  -- where one more step leads
  leads_on : (w v : World) (h : History) (i : Instance) (e : Five) → present p w (deeds_of h.steps) ≡ v → present p w (deeds_of (h.steps ++ (i, e) ∷ [])) ≡ after_action p v (grounded v i)
  leads_on w v h i e leads =
      ap (λ is. after_actions p w (ground_actions p w is)) (deeds_pushed p h.steps i e)
      ∙ ap (after_actions p w) (grounds_pushed p w (deeds_of h.steps) i)
      ∙ after_more w (ground_actions p w (deeds_of h.steps)) (grounded (present p w (deeds_of h.steps)) i)
      ∙ ap (λ v. after_action p v (grounded v i)) leads

  pub acted_twins : AllJustified p → IsTyped p → (h : History) (v v' : World) (i : Instance) (x : State) → MayBeTwins p h v v' → IsIn i (instances p (last_moment h))
      → observations p (after_action p v (grounded v i)) (grounded v i) ≡ observations p (after_action p v' (grounded v' i)) (grounded v i) → Acts p h i x
      → (g : History) × (x ≡ At g) × MayBeTwins p g (after_action p v (grounded v i)) (after_action p v' (grounded v' i))
  acted_twins justified typed h v v' i x m member seen a =
      let w = m.first in
      let w' = m.second in
      let u = present p w (deeds_of h.steps) in
      let u' = present p w' (deeds_of h.steps) in
      let last = last_both p w w' h m.both in
      let there : observations p (after_action p u (grounded u i)) (grounded u i) ≡ observations p (after_action p u' (grounded u' i)) (grounded u i) =
      subst (λ y. observations p (after_action p y (grounded y i)) (grounded y i) ≡ observations p (after_action p u' (grounded u' i)) (grounded y i)) (sym m.leads)
      (subst (λ y. observations p (after_action p v (grounded v i)) (grounded v i) ≡ observations p (after_action p y (grounded y i)) (grounded v i)) (sym m.leads') seen) in
      let same : grounded u i ≡ grounded u' i = grounded_alike u u' i (arguments_alike u u' p (last_moment h) last.values i member) in
      let r = action_true p u u' (last_moment h) i a.outcome typed last member (justified i.action) (there ∙ ap (observations p (after_action p u' (grounded u' i))) same) a.progress in (
        pushed h i r.0,
        a.gives ∙ ap (after_step h i) r.1,
        record { first = w; second = w'; both = both_pushed p w w' h i r.0 m.both r.2; apart = m.apart; leads = leads_on w v h i r.0 m.leads; leads' = leads_on w' v' h i r.0 m.leads' },
      )

  pub taken_twins : (h : History) (v v' : World) (c : Choice) (side : Side) (x : State) → MayBeTwins p h v v' → IsMember (last_moment h) c → IsSo v c side → Takes p h c side x → (g : History) × (x ≡ At g) × MayBeTwins p g v v'
  taken_twins h v v' c side x m member so t =
      let w = m.first in
      let w' = m.second in
      let last = last_twins h v v' m in
      let r = closed_true p.signature v v' (assumed p.signature (last_moment h) c side) (assumed_true v v' (last_moment h) last c side member so) t.outcome t.assumed in
      let settles : Settles p (with_last h r.0) x = subst (λ (o : Outcome). SettlesAfter p h o x) r.1 t.settled in
      let there : IsTrueOf p.signature (present p w (deeds_of h.steps)) (present p w' (deeds_of h.steps)) r.0 =
      subst (λ (y : World). IsTrueOf p.signature y (present p w' (deeds_of h.steps)) r.0) (sym m.leads) (subst (λ (y : World). IsTrueOf p.signature v y r.0) (sym m.leads') r.2) in
      let s = settled_both p w w' (with_last h r.0) x (both_replaced p w w' h r.0 m.both there) settles in
      let deeds : deeds_of (tidied_history (settle_rounds p settles.count (with_last h r.0))).steps ≡ deeds_of h.steps = deeds_settled p settles.count (with_last h r.0) ∙ deeds_with_last p h.start h.steps r.0 in (
        tidied_history (settle_rounds p settles.count (with_last h r.0)),
        s.0,
        record { first = w; second = w'; both = s.1; apart = m.apart; leads = ap (present p w) deeds ∙ m.leads; leads' = ap (present p w') deeds ∙ m.leads' },
      )

  -- ---- no tree is derived where they are one world

  -- the aim that tells the first worlds apart isn't met
  pub never_met : (h : History) (v v' : World) → MayBeTwins p h v v' → met p h ≡ true → ⊥
  unfolding met
  never_met h v v' m k =
      let aims = each_from_all (λ a. is_met p.signature h a ≡ true) (is_met p.signature h) (λ a b. b) p.goal k in
      let a = m.apart in
      a.2 (known_whether_alike m.first m.second h.start (first_true m.first m.second h.start h.steps m.both) a.0 (each_in (λ a. is_met p.signature h a ≡ true) p.goal _ aims a.1))

not_stopped : (h : History) → At h ≡ Stopped → ⊥
not_stopped h e = cc

at_is : (g h : History) → At g ≡ At h → g ≡ h
at_is g h e = cc

-- the same is seen in both worlds after the action
seen_there : (p : Problem) (i : Instance) (x y : Twins) → AreAfter p i x y
    → observations p (after_action p (first_in x) (grounded (first_in x) i)) (grounded (first_in x) i) ≡ observations p (after_action p (second_in x) (grounded (second_in x) i)) (grounded (first_in x) i)
seen_there p i x y b = let g = grounded (first_in x) i in ap (λ v. observations p v g) (sym b.first) ∙ b.seen ∙ ap (λ v. observations p v g) b.second

module _ (p : Problem) (j : AllJustified p) (s : IsTyped p) where
  mutual
    pub none_of_one : (t : Tree) (h : History) (v : World) → MayBeTwins p h v v → Derives p (At h) t → ⊥
    none_of_one Goal h v m k = never_met p h v v m k
    none_of_one Impossible h v m k = not_stopped h k
    none_of_one (Do i t) h v m k =
        let a = acted_twins p j s h v v i k.1.0 m k.0 refl k.1.1 in
        none_of_one t a.0 (after_action p v (grounded v i)) a.2 (subst (λ (x : State). Derives p x t) a.1 k.1.2)
    none_of_one (Branch c t u) h v m k =
        ⊎_elim
        (λ so. let a = taken_twins p h v v (BranchOn c) AsTrue k.2.0 m k.0 so k.2.1 in none_of_one t a.0 v a.2 (subst (λ (x : State). Derives p x t) a.1 k.2.2))
        (λ so. let a = taken_twins p h v v (BranchOn c) AsFalse k.3.0 m k.0 so k.3.1 in none_of_one u a.0 v a.2 (subst (λ (x : State). Derives p x u) a.1 k.3.2))
        (cases_Bool (all_true_in v c))
    none_of_one (Cases x c) h v m k =
        let last = last_twins p h v v m in
        none_of_cases c x h v m k.0 (subst (IsIn (value_of v x)) (sym k.2) (value_left p.signature v (last_moment h) x last.first k.1)) k.3

    none_of_cases : (c : Chain) (x : Term) (h : History) (v : World) → MayBeTwins p h v v → IsIn x (last_moment h).kv → IsIn (value_of v x) (objects_in c) → DerivesEach p h x c → ⊥
    none_of_cases End x h v m member i k = i
    none_of_cases (More o t c) x h v m member i k =
        ⊎_elim
        (λ e. let a = taken_twins p h v v (CasesOn x) (Is o) k.0.0 m member (sym e) k.0.1 in none_of_one t a.0 v a.2 (subst (λ (x : State). Derives p x t) a.1 k.0.2))
        (λ r. none_of_cases c x h v m member r k.1)
        i

  -- ---- all of them

  module _ (h : History) where
    acted_one : (i : Instance) (x y : Twins) → IsIn i (instances p (last_moment h)) → (g : History) → Acts p h i (At g) → AreAfter p i x y → AreTwins p h x → AreTwins p g y
    acted_one i x y member g acts b m =
        let r = acted_twins p j s h (first_in x) (second_in x) i (At g) m member (seen_there p i x y b) acts in
        subst (λ (f : History). MayBeTwins p f (first_in y) (second_in y)) (sym (at_is g r.0 r.1))
        (subst (λ (v : World). MayBeTwins p r.0 v (second_in y)) (sym b.first) (subst (λ (v : World). MayBeTwins p r.0 (after_action p (first_in x) (grounded (first_in x) i)) v) (sym b.second) r.2))

    pub acted_each : (i : Instance) (xs ys : List Twins) → IsIn i (instances p (last_moment h)) → Each (AreTwins p h) xs → ComeFrom (AreAfter p i) xs ys → AreTwinsAfter p h i ys
    acted_each i xs ys member k from g acts = come_each (AreAfter p i) (AreTwins p h) (AreTwins p g) (λ x y b m. acted_one i x y member g acts b m) xs ys k from

    taken_one : (c : Choice) (side : Side) (g : History) (x y : Twins) → IsMember (last_moment h) c → Takes p h c side (At g) → AreKept c side x y → AreTwins p h x → AreTwins p g y
    taken_one c side g x y member takes same m =
        let r = taken_twins p h (first_in x) (second_in x) c side (At g) m member (so_there (first_in x) c side same.on) takes in
        subst (λ (f : History). MayBeTwins p f (first_in y) (second_in y)) (sym (at_is g r.0 r.1))
        (subst (λ (v : World). MayBeTwins p r.0 v (second_in y)) (sym same.first) (subst (λ (v : World). MayBeTwins p r.0 (first_in x) v) (sym same.second) r.2))

    pub taken_each : (c : Choice) (side : Side) (g : History) (xs ys : List Twins) → IsMember (last_moment h) c → Takes p h c side (At g) → Each (AreTwins p h) xs → ComeFrom (AreKept c side) xs ys → Each (AreTwins p g) ys
    taken_each c side g xs ys member takes = come_each (AreKept c side) (AreTwins p h) (AreTwins p g) (λ x y same m. taken_one c side g x y member takes same m) xs ys

  -- twins that are one world rule out each tree
  none_of_met : (h : History) (xs : List Twins) → Each (AreTwins p h) xs → SomeMet xs → (t : Tree) → Derives p (At h) t → ⊥
  none_of_met h [] k some t d = some
  none_of_met h (x ∷ xs) k some t d =
      ⊎_elim
      (λ same. none_of_one t h (first_in x) (subst (λ (v : World). MayBeTwins p h (first_in x) v) (sym same) k.0) d)
      (λ rest. none_of_met h xs k.1 rest t d)
      some

  -- where some become one world by an action, no tree begins with it
  pub none_meeting : (h : History) (i : Instance) (xs ys : List Twins) (n limit : ℕ) → IsIn i (instances p (last_moment h)) → Each (AreTwins p h) xs → ComeFrom (AreAfter p i) xs ys → SomeMet ys → IsBestOf p (IsCheapBy p h n limit (Act i)) None
  none_meeting h i xs ys n limit member k from some = others
    where
      at_first : (x y : Twins) → AreTwins p h x → AreAfter p i x y → (z : State) → Acts p h i z → (g : History) × (z ≡ At g)
      at_first x y m b z acts = let r = acted_twins p j s h (first_in x) (second_in x) i z m member (seen_there p i x y b) acts in (r.0, r.1)

      moment : (zs : List Twins) → ComeFrom (AreAfter p i) xs zs → SomeMet zs → (z : State) → Acts p h i z → (g : History) × (z ≡ At g)
      moment [] from some z acts = absurd some
      moment (y ∷ zs) from some z acts = at_first from.0.0 y (each_in (AreTwins p h) xs from.0.0 k from.0.1) from.0.2 z acts

      others : (t : Tree) → IsCheapBy p h n limit (Act i) t → ⊥
      others Goal d = none-some (Act i) d.0.1
      others Impossible d = none-some (Act i) d.0.1
      others (Branch c t u) d = act_not_branch c i d.0.1
      others (Cases z c) d = act_not_cases z i d.0.1
      others (Do a u) d =
          let same : a ≡ i = cc d.0.1 in
          let q = d.0.0.0 in
          let acts : Acts p h i q.1.0 = subst (λ z. Acts p h z q.1.0) same q.1.1 in
          let g = moment ys from some q.1.0 acts in
          let there : Acts p h i (At g.0) = subst (λ z. Acts p h i z) g.1 acts in
          none_of_met g.0 ys (acted_each h i xs ys member k from g.0 there) some u (subst (λ z. Derives p z u) g.1 q.1.2)
