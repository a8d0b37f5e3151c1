-- Rounds of closing and of settling keep what stands in databases shown.
use Rattle.std.proofs.Common.{◌≡◌, ◌<◌, ◌≤◌, ℕ, zero, suc, List, [], ◌∷◌, ◌++◌, length, slice_get, Some, arith}
use Rattle.std.proofs.lemmas.Option.{none-some}
use Rattle.pks_terms.specs.Sets.{Each, added}
use Rattle.pks_terms.specs.Syntax.{Literal}
use Rattle.pks_terms.specs.Orders.{literal_cmp}
use Rattle.pks_terms.specs.Databases.{Five}
use Rattle.pks_terms.specs.Closure.{additions, round, rounds}
use Rattle.pks_terms.specs.Actions.{Instance}
use Rattle.pks_terms.specs.Problems.{Problem}
use Rattle.pks_terms.specs.Settling.{History, forward, grown, from_next, settled_steps, settle_round, settle_rounds}
use Rattle.pks_terms.proofs.ListLaws.{each_in, each_of, each_append, each_added}
use Rattle.pks_terms.specs.Proofs.{Path, deeds, final_moment}
use Rattle.pks_laws_explain.specs.Shown.{IsShownInOrder, AreShown, AreShownAlong, AreSteps, IsHistoryShown}
use Rattle.pks_laws_explain.proofs.Adding.{additions_shown}
use Rattle.pks_laws_explain.proofs.Stepped.{forward_shown, backward_shown}

pub got_within : {X : Type 0} (xs : List X) (n : ℕ) (x : X) → slice_get xs n ≡ Some x → n < length xs
got_within [] n x h = absurd (none-some x h)
got_within (y ∷ xs) zero x h = omega arith
got_within (y ∷ xs) (suc n) x h = let less = got_within xs n x h in omega (arith, less)

module _ (p : Problem) (path : Path) where
  pub all_good : (m : ℕ) (d : Five) → AreShown p path m d → Each (IsShownInOrder p path m) d.kf
  all_good m d s = each_of (IsShownInOrder p path m) d.kf (λ l i. (s.known l i, s.ordered l i))

  -- with more known literals that are shown
  pub more_known : (m : ℕ) (d : Five) → AreShown p path m d → (news : List Literal) → Each (IsShownInOrder p path m) news → AreShown p path m (record d { kf = added literal_cmp d.kf news })
  more_known m d s news a =
      let all : Each (IsShownInOrder p path m) (added literal_cmp d.kf news) = each_added (IsShownInOrder p path m) literal_cmp d.kf news (all_good m d s) a in
      record {
        known = λ l i. (each_in (IsShownInOrder p path m) (added literal_cmp d.kf news) l all i).0;
        ordered = λ l i. (each_in (IsShownInOrder p path m) (added literal_cmp d.kf news) l all i).1;
        groups = s.groups;
        members = s.members;
        sorted = s.sorted;
        regions = s.regions;
        listed = s.listed;
      }

  pub round_shown : (m : ℕ) → m ≤ final_moment path → (d : Five) → AreShown p path m d → AreShown p path m (round p.signature d)
  unfolding round
  round_shown m within d s = more_known m d s (additions p.signature d) (additions_shown p path m within d s)

  pub rounds_shown : (m : ℕ) → m ≤ final_moment path → (n : ℕ) (d : Five) → AreShown p path m d → AreShown p path m (rounds p.signature n d)
  rounds_shown m within zero d s = s
  rounds_shown m within (suc n) d s = round_shown m within (rounds p.signature n d) (rounds_shown m within n d s)

  first_shown : (m : ℕ) (d : Five) (steps : List (Instance × Five)) → AreShownAlong p path m d steps → AreShown p path m d
  first_shown m d [] s = s
  first_shown m d (step ∷ steps) s = s.0

  from_next_shown : (m : ℕ) → m ≤ final_moment path → (d : Five) (steps : List (Instance × Five)) → AreSteps path m steps → AreShownAlong p path m d steps → Each (IsShownInOrder p path m) (from_next p d steps)
  from_next_shown m within d [] on s = tt
  from_next_shown m within d (step ∷ steps) on s =
      let next : suc m ≤ final_moment path = got_within (deeds path) m step.0 on.0 in
      backward_shown p path m next step.0 on.0 d s.0 step.1 (first_shown (suc m) step.1 steps s.1)

  grown_shown : (m : ℕ) → m ≤ final_moment path → (d : Five) → AreShown p path m d → (news : List Literal) → Each (IsShownInOrder p path m) news → AreShown p path m (grown p.signature d news)
  grown_shown m within d s news a = more_known m d s (additions p.signature d ++ news) (each_append (IsShownInOrder p path m) (additions p.signature d) news (additions_shown p path m within d s) a)

  settled_shown : (m : ℕ) → m ≤ final_moment path → (before d : Five) (steps : List (Instance × Five)) → AreSteps path m steps → AreShown p path m d → AreShownAlong p path m before steps → AreShownAlong p path m d (settled_steps p before steps)
  settled_shown m within before d [] on now s = now
  settled_shown m within before d (step ∷ steps) on now s =
      let next : suc m ≤ final_moment path = got_within (deeds path) m step.0 on.0 in
      let after = first_shown (suc m) step.1 steps s.1 in (
        now,
        settled_shown (suc m) next step.1 (grown p.signature step.1 (forward p step.0 before ++ from_next p step.1 steps)) steps on.1
            (grown_shown (suc m) next step.1 after (forward p step.0 before ++ from_next p step.1 steps)
            (each_append (IsShownInOrder p path (suc m)) (forward p step.0 before) (from_next p step.1 steps) (forward_shown p path m next step.0 on.0 before s.0) (from_next_shown (suc m) next step.1 steps on.1 s.1))) s.1,
      )

  steps_kept : (m : ℕ) (before : Five) (steps : List (Instance × Five)) → AreSteps path m steps → AreSteps path m (settled_steps p before steps)
  steps_kept m before [] on = on
  steps_kept m before (step ∷ steps) on = (on.0, steps_kept (suc m) step.1 steps on.1)

  zero_within : 0 ≤ final_moment path
  zero_within = omega arith

  settle_round_shown : (h : History) → IsHistoryShown p path h → IsHistoryShown p path (settle_round p h)
  unfolding settle_round
  settle_round_shown h s = (
    steps_kept 0 h.start h.steps s.0,
    settled_shown 0 zero_within h.start (grown p.signature h.start (from_next p h.start h.steps)) h.steps s.0
        (grown_shown 0 zero_within h.start (first_shown 0 h.start h.steps s.1) (from_next p h.start h.steps) (from_next_shown 0 zero_within h.start h.steps s.0 s.1)) s.1,
  )

  pub settle_rounds_shown : (n : ℕ) (h : History) → IsHistoryShown p path h → IsHistoryShown p path (settle_rounds p n h)
  settle_rounds_shown zero h s = s
  settle_rounds_shown (suc n) h s = settle_round_shown (settle_rounds p n h) (settle_rounds_shown n h s)
