-- Without the aims that a history meets for good a problem has the same derived trees.
use Rattle.std.proofs.Common.{◌≡◌, ◌&&◌, ◌⊎◌, ◌++◌, ℕ, true, false, cond, not, List, [], ◌∷◌, map, Option, Some, None, refl, sym, ap, ◌∙◌, subst, inl, inr, ⊎_elim, true≢false}
use Rattle.std.specs.List.{list_all, list_any}
use Rattle.std.specs.declared.cmp.Ordering.TheVariants.{Less}
use Rattle.std.proofs.lemmas.Bool.{or_left, or_right, or_cases, cases_Bool}
use Rattle.pks_terms.specs.Sets.{Each}
use Rattle.pks_terms.specs.Signatures.{Signature, HasValues}
use Rattle.pks_terms.specs.Actions.{Instance}
use Rattle.pks_terms.specs.Aims.{is_met, met, moments}
use Rattle.pks_terms.specs.Branching.{Choice, Side, assumed, Assumes}
use Rattle.pks_terms.specs.Closure.{Outcome, Next, Clash, Closes, first_clash, rounds, tidied}
use Rattle.pks_terms.specs.Databases.{Five}
use Rattle.pks_terms.specs.Problems.{Aim, Now, AtStart, Always, Once, Problem, initial}
use Rattle.pks_terms.specs.Queries.{Query, answers}
use Rattle.pks_terms.specs.Saturated.{Within, WithinAlong, ClosedAlong, IsSaturated}
use Rattle.pks_terms.specs.Settling.{History, last_moment, with_last, settle_rounds, State, At, Stopped, clashes, tidied_history, Settles}
use Rattle.pks_terms.specs.Trees.{Tree, tree_cmp, after_step, Acts, SettlesAfter, Takes, Derives, start_state, IsPlan, IsBefore, IsBest}
use Rattle.pks_laws.proofs.Belonging.{saturated_end, end_of}
use Rattle.pks_laws.proofs.ClosedAgain.{holds-tidied}
use Rattle.pks_laws.proofs.Least.{one_value, holds_grows}
use Rattle.pks_laws.proofs.SettledEnd.{rounds_have_start, end_closed}
use Rattle.pks_laws.proofs.Unique.{closes_one}
use Rattle.pks_laws_forget.proofs.Cut.{assumed_more, rounds_have, rounds_leave}
use Rattle.pks_laws_forget.specs.Fewer.{is_held, is_met_for_good, unmet, without_met}
use Rattle.pks_laws_forget.proofs.Held.{Upholds, held_answers}
use Rattle.pks_laws_forget.proofs.OtherAims.{IfAt, Carries, trees_other, trees_back, costs_same}

module _ (s : Signature) (inhabited : HasValues s) where
  -- the end of rounds, tidied, upholds what began within it
  end_upholds : (a end : Five) → IsSaturated s end → first_clash s end ≡ None → Within a.kf end.kf → a.kx ≡ end.kx → a.lcw ≡ end.lcw → Upholds s a (tidied end)
  end_upholds a end sat fine within groups regions l h =
      holds-tidied s end (one_value s end inhabited sat fine) l ∙ holds_grows s end inhabited sat fine a within groups regions l h

  side_upholds : (a d : Five) (c : Choice) (side : Side) → Assumes s a c side (Next d) → Upholds s a d
  side_upholds a d c side k =
      let e = end_of s (assumed s a c side) d k in
      let more = assumed_more s a c side in
      let keep = rounds_leave s k.count (assumed s a c side) in
      let end : Five = rounds s k.count (assumed s a c side) in
      subst (Upholds s a) (sym e.1)
      (end_upholds a end (saturated_end s end k.last) e.0 (λ l i. rounds_have s k.count (assumed s a c side) l (more.0 l i)) (more.1 ∙ keep.0) (more.2 ∙ keep.1))

-- ---- moments

abbrev Steps : Type 0
Steps = List (Instance × Five)

-- so it is at some moment of the history
abbrev HasMoment : (Five → Type 0) → Five → Steps → Type 0
HasMoment P d [] = P d
HasMoment P d (x ∷ xs) = P d ⊎ HasMoment P x.1 xs

moment_behind : (P : Five → Type 0) (d : Five) (xs : Steps) (y : Instance × Five) → HasMoment P d xs → HasMoment P d (xs ++ y ∷ [])
moment_behind P d [] y k = inl k
moment_behind P d (x ∷ xs) y k = ⊎_elim (λ a. inl a) (λ a. inr (moment_behind P x.1 xs y a)) k

module _ (s : Signature) (inhabited : HasValues s) (m : Five) where
  held_somewhere : (d : Five) (xs : Steps) → HasMoment (Upholds s m) d xs → (q : Query) → is_held s m q ≡ true → list_any (λ e. answers s e q) (d ∷ map (λ (x : Instance × Five). x.1) xs) ≡ true
  held_somewhere d [] up q k = or_left _ _ (held_answers s m d up q k)
  held_somewhere d (x ∷ xs) up q k = ⊎_elim (λ a. or_left _ _ (held_answers s m d a q k)) (λ a. or_right _ _ (held_somewhere x.1 xs a q k)) up

  -- ---- by a side, and by settling

  moment_replaced : (d : Five) (xs : Steps) (e : Five) (c : Choice) (side : Side) → HasMoment (Upholds s m) d xs → Assumes s (last_moment (record { start = d; steps = xs })) c side (Next e) → HasMoment (Upholds s m) (with_last (record { start = d; steps = xs }) e).start (with_last (record { start = d; steps = xs }) e).steps
  moment_replaced d [] e c side up k = λ l i. side_upholds s inhabited d e c side k l (up l i)
  moment_replaced d (x ∷ []) e c side up k = ⊎_elim (λ a. inl a) (λ a. inr (λ l i. side_upholds s inhabited x.1 e c side k l (a l i))) up
  moment_replaced d (x ∷ y ∷ ys) e c side up k = ⊎_elim (λ a. inl a) (λ a. inr (moment_replaced x.1 (y ∷ ys) e c side a k)) up

module _ (p : Problem) (inhabited : HasValues p.signature) (old : History) where
  abbrev S : Signature
  S = p.signature

  -- the first moment upholds what held at the first, and for each moment some one upholds what held there
  record IsUpheld (h : History) : Type 0 where
    pub first : Upholds S old.start h.start
    pub some : Each (λ m. HasMoment (Upholds S m) h.start h.steps) (moments old)

  -- ---- aims that are met for good

  some_answers : (h : History) (q : Query) (ms : List Five) → Each (λ m. HasMoment (Upholds S m) h.start h.steps) ms → list_any (λ m. is_held S m q) ms ≡ true → list_any (λ d. answers S d q) (moments h) ≡ true
  some_answers h q [] up k = absurd (true≢false (sym k))
  some_answers h q (m ∷ ms) up k = ⊎_elim (λ a. held_somewhere S inhabited m h.start h.steps up.0 q a) (λ a. some_answers h q ms up.1 a) (or_cases (is_held S m q) _ k)

  met_for_good : (h : History) → IsUpheld h → (a : Aim) → is_met_for_good S old a ≡ true → is_met S h a ≡ true
  met_for_good h up (Now q) k = absurd (true≢false (sym k))
  met_for_good h up (AtStart q) k = held_answers S old.start h.start up.first q k
  met_for_good h up (Always q) k = absurd (true≢false (sym k))
  met_for_good h up (Once q) k = some_answers h q (moments old) up.some k

  unmet_enough : (h : History) → IsUpheld h → (xs : List Aim) → list_all (is_met S h) xs ≡ list_all (is_met S h) (unmet S old xs)
  unmet_enough h up [] = refl
  unmet_enough h up (x ∷ xs) =
      elim (is_met_for_good S old x) as (λ b. is_met_for_good S old x ≡ b → (is_met S h x && list_all (is_met S h) xs) ≡ list_all (is_met S h) (cond (not b) (x ∷ unmet S old xs) (unmet S old xs))) [
        | true ↦ λ k. ap (λ b. b && list_all (is_met S h) xs) (met_for_good h up x k) ∙ unmet_enough h up xs
        | false ↦ λ k. ap (λ b. is_met S h x && b) (unmet_enough h up xs)
      ] refl

  same_goal : (h : History) → IsUpheld h → met p h ≡ met (without_met p old) h
  unfolding met
  same_goal h up = unmet_enough h up p.goal

  -- ---- what the moments become

  each_somewhere : (P Q : Five → Type 0) → ((m : Five) → P m → Q m) → (ms : List Five) → Each P ms → Each Q ms
  each_somewhere P Q on [] k = tt
  each_somewhere P Q on (m ∷ ms) k = (on m k.0, each_somewhere P Q on ms k.1)

  acts_uphold : (h : History) (i : Instance) (x : State) → IsUpheld h → Acts p h i x → IfAt x IsUpheld
  acts_uphold h i x up a = subst (λ y. IfAt y IsUpheld) (sym a.gives) (go a.outcome)
    where
      go : (o : Outcome) → IfAt (after_step h i o) IsUpheld
      go (Next e) = record {
        first = up.first;
        some = each_somewhere (λ m. HasMoment (Upholds S m) h.start h.steps) _ (λ m k. moment_behind (Upholds S m) h.start h.steps (i, e) k) (moments old) up.some;
      }
      go (Clash l) = tt

  -- by the end of the rounds, tidied
  moment_settled : (m d : Five) (xs : Steps) (e : Five) (ys : Steps) → WithinAlong d xs e ys → ClosedAlong p e ys → HasMoment (Upholds S m) d xs → HasMoment (Upholds S m) (tidied e) (map (λ (y : Instance × Five). (y.0, tidied y.1)) ys)
  moment_settled m d [] e [] w c up = λ l i. end_upholds S inhabited d e c.0 c.1 w.0 w.1 w.2 l (up l i)
  moment_settled m d [] e (y ∷ ys) w c up = absurd w
  moment_settled m d (x ∷ xs) e [] w c up = absurd w
  moment_settled m d (x ∷ xs) e (y ∷ ys) w c up =
      ⊎_elim (λ a. inl (λ l i. end_upholds S inhabited d e c.0.0 c.0.1 w.0.0 w.0.1 w.0.2 l (a l i))) (λ a. inr (moment_settled m x.1 xs y.1 ys w.2 c.3 a)) up

  first_settled : (d : Five) (xs : Steps) (e : Five) (ys : Steps) → WithinAlong d xs e ys → ClosedAlong p e ys → Upholds S d (tidied e)
  first_settled d [] e [] w c = end_upholds S inhabited d e c.0 c.1 w.0 w.1 w.2
  first_settled d [] e (y ∷ ys) w c = absurd w
  first_settled d (x ∷ xs) e [] w c = absurd w
  first_settled d (x ∷ xs) e (y ∷ ys) w c = end_upholds S inhabited d e c.0.0 c.0.1 w.0.0 w.0.1 w.0.2

  end_upheld : (h end : History) → WithinAlong h.start h.steps end.start end.steps → ClosedAlong p end.start end.steps → IsUpheld h → IsUpheld (tidied_history end)
  end_upheld h end w c up = record {
    first = λ l i. first_settled h.start h.steps end.start end.steps w c l (up.first l i);
    some = each_somewhere (λ m. HasMoment (Upholds S m) h.start h.steps) _ (λ m k. moment_settled m h.start h.steps end.start end.steps w c k) (moments old) up.some;
  }

  settles_uphold : (h : History) (x : State) → IsUpheld h → Settles p h x → IfAt x IsUpheld
  settles_uphold h x up k =
      let end : History = settle_rounds p k.count h in
      subst (λ y. IfAt y IsUpheld) (sym k.gives)
      (⊎_elim
      (λ t. subst (λ b. IfAt (cond b Stopped (At (tidied_history end))) IsUpheld) (sym t) tt)
      (λ f. subst (λ b. IfAt (cond b Stopped (At (tidied_history end))) IsUpheld) (sym f) (end_upheld h end (rounds_have_start p h k.count) (end_closed p end k.last f) up))
      (cases_Bool (clashes S end)))

  ended_upholds : (h : History) (e : Five) (c : Choice) (side : Side) → IsUpheld h → Assumes S (last_moment h) c side (Next e) → IsUpheld (with_last h e)
  ended_upholds h e c side up k = record {
    first = go h.start h.steps up.first k;
    some = each_somewhere (λ m. HasMoment (Upholds S m) h.start h.steps) _ (λ m u. moment_replaced S inhabited m h.start h.steps e c side u k) (moments old) up.some;
  }
    where
      go : (b : Five) (xs : Steps) → Upholds S old.start b → Assumes S (last_moment (record { start = b; steps = xs })) c side (Next e) → Upholds S old.start (with_last (record { start = b; steps = xs }) e).start
      go b [] up k = λ l i. side_upholds S inhabited b e c side k l (up l i)
      go b (x ∷ xs) up k = up

  takes_uphold : (h : History) (c : Choice) (side : Side) (x : State) → IsUpheld h → Takes p h c side x → IfAt x IsUpheld
  takes_uphold h c side x up t = go t.outcome t.assumed t.settled
    where
      go : (o : Outcome) → Assumes S (last_moment h) c side o → SettlesAfter p h o x → IfAt x IsUpheld
      go (Next e) a s = settles_uphold (with_last h e) x (ended_upholds h e c side up a) s
      go (Clash l) a s = subst (λ y. IfAt y IsUpheld) (sym s) tt

  carries : Carries p (unmet S old p.goal) IsUpheld
  carries = record { same_goal = same_goal; acts = acts_uphold; takes = takes_uphold }

  -- ---- trees

  own_moments : (d : Five) (xs : Steps) → Each (λ m. HasMoment (Upholds S m) d xs) (d ∷ map (λ (x : Instance × Five). x.1) xs)
  own_moments d [] = ((λ l i. i), tt)
  own_moments d (x ∷ xs) = (inl (λ l i. i), each_somewhere (λ m. HasMoment (Upholds S m) x.1 xs) _ (λ m k. inr k) (x.1 ∷ map (λ (x : Instance × Five). x.1) xs) (own_moments x.1 xs))

  itself : IsUpheld old
  itself = record { first = λ l i. i; some = own_moments old.start old.steps }

  pub trees_without : (t : Tree) → (Derives p (At old) t → Derives (without_met p old) (At old) t) × (Derives (without_met p old) (At old) t → Derives p (At old) t)
  trees_without t = (trees_other p (unmet S old p.goal) IsUpheld carries t (At old) itself, trees_back p (unmet S old p.goal) IsUpheld carries t (At old) itself)

  before_other : (t u : Tree) → IsBefore p t u → IsBefore (without_met p old) t u
  before_other t u (inl e) = inl e
  before_other t u (inr e) = inr (subst (λ f. tree_cmp f t u ≡ Less) (sym (costs_same p (unmet S old p.goal))) e)

  pub before_back : (t u : Tree) → IsBefore (without_met p old) t u → IsBefore p t u
  before_back t u (inl e) = inl e
  before_back t u (inr e) = inr (subst (λ f. tree_cmp f t u ≡ Less) (costs_same p (unmet S old p.goal)) e)

module _ (p : Problem) (inhabited : HasValues p.signature) (d : Five) where
  -- ---- the best plan

  abbrev Start : History
  Start = record { start = d; steps = [] }

  plan_on : Closes p.signature (initial p) (Next d) → (t : Tree) → IsPlan p t → IsPlan (without_met p Start) t
  unfolding initial
  plan_on c t k =
      let one = closes_one p.signature (initial p) k.outcome (Next d) k.closes c in
      record { outcome = Next d; closes = record { count = c.count; last = c.last; gives = c.gives }; derives = (trees_without p inhabited Start t).0 (subst (λ o. Derives p (start_state o) t) one k.derives) }

  plan_back : Closes p.signature (initial p) (Next d) → (t : Tree) → IsPlan (without_met p Start) t → IsPlan p t
  unfolding initial
  plan_back c t k =
      let one = closes_one p.signature (initial p) k.outcome (Next d) (record { count = k.closes.count; last = k.closes.last; gives = k.closes.gives }) c in
      record { outcome = Next d; closes = c; derives = (trees_without p inhabited Start t).1 (subst (λ o. Derives (without_met p Start) (start_state o) t) one k.derives) }

  pub best_without : Closes p.signature (initial p) (Next d) → (n : ℕ) (o : Option Tree) → IsBest p n o → IsBest (without_met p Start) n o
  best_without c n None b = λ t k. b t (plan_back c t k.0, k.1)
  best_without c n (Some t) b = ((plan_on c t b.0.0, b.0.1), λ u k. before_other p inhabited Start t u (b.1 u (plan_back c u k.0, k.1)))

  pub best_back : Closes p.signature (initial p) (Next d) → (n : ℕ) (o : Option Tree) → IsBest (without_met p Start) n o → IsBest p n o
  best_back c n None b = λ t k. b t (plan_on c t k.0, k.1)
  best_back c n (Some t) b = ((plan_back c t b.0.0, b.0.1), λ u k. before_back p inhabited Start t u (b.1 u (plan_on c u k.0, k.1)))
