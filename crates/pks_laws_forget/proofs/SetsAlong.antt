-- Settling, normal forms and other databases at the end leave the sets of a history in order.
use Rattle.std.proofs.Common.{◌++◌, ℕ, zero, suc, List, [], ◌∷◌}
use Rattle.pks_terms.specs.Sets.{Each, IsOrdered}
use Rattle.pks_terms.specs.Syntax.{Literal}
use Rattle.pks_terms.specs.Orders.{literal_cmp}
use Rattle.pks_terms.specs.Totality.{literal_cmp_total}
use Rattle.pks_terms.specs.Databases.{Five, AreSets}
use Rattle.pks_terms.specs.Closure.{additions, tidied}
use Rattle.pks_terms.specs.Actions.{Instance}
use Rattle.pks_terms.specs.Problems.{Problem}
use Rattle.pks_terms.specs.Settling.{History, last_of, steps_with_last, forward, grown, from_next, settled_steps, settle_round, settle_rounds, tidied_history}
use Rattle.pks_terms.proofs.ListLaws.{each_map, each_weaker}
use Rattle.pks_terms.proofs.OrderLaws.{literal_cmp_tells}
use Rattle.pks_terms.proofs.SetLaws.{ordered_added}
use Rattle.pks_laws.proofs.Sorted.{tidied_sets}
use Rattle.pks_laws_forget.specs.Transparent.{AreSetsAlong}
use Rattle.pks_laws_forget.proofs.Ends.{AreOrdered}

module _ (p : Problem) where
  abbrev pub SetSteps : List (Instance × Five) → Type 0
  SetSteps xs = Each (λ (x : Instance × Five). AreSets x.1) xs

  grown_sets : (d : Five) (news : List Literal) → AreSets d → AreSets (grown p.signature d news)
  grown_sets d news m = record { known = ordered_added literal_cmp_total literal_cmp_tells d.kf (additions p.signature d ++ news) m.known; whether = m.whether; values = m.values; groups = m.groups; regions = m.regions }

  steps_sets : (d : Five) (xs : List (Instance × Five)) → SetSteps xs → SetSteps (settled_steps p d xs)
  steps_sets d [] a = tt
  steps_sets d (x ∷ xs) a = (grown_sets x.1 (forward p x.0 d ++ from_next p x.1 xs) a.0, steps_sets x.1 xs a.1)

  round_sets : (h : History) → AreSetsAlong h → AreSetsAlong (settle_round p h)
  unfolding settle_round
  round_sets h a = record { start = grown_sets h.start (from_next p h.start h.steps) a.start; steps = steps_sets h.start h.steps a.steps }

  pub rounds_sets : (n : ℕ) (h : History) → AreSetsAlong h → AreSetsAlong (settle_rounds p n h)
  rounds_sets zero h a = a
  rounds_sets (suc n) h a = round_sets (settle_rounds p n h) (rounds_sets n h a)

  pub tidied_sets_along : (h : History) → AreSetsAlong h → AreSetsAlong (tidied_history h)
  tidied_sets_along h a = record { start = tidied_sets h.start a.start; steps = each_map (λ (x : Instance × Five). AreSets x.1) (λ x. (x.0, tidied x.1)) h.steps (each_weaker (λ (x : Instance × Five). AreSets x.1) (λ (x : Instance × Five). AreSets (tidied x.1)) (λ x m. tidied_sets x.1 m) h.steps a.steps) }

  pub last_sets : (d : Five) (xs : List (Instance × Five)) → AreSets d → SetSteps xs → AreSets (last_of d xs)
  last_sets d [] m a = m
  last_sets d (x ∷ xs) m a = last_sets x.1 xs a.0 a.1

  pub ordered_of : (h : History) → AreSetsAlong h → AreOrdered h.start h.steps
  ordered_of h a = (a.start.known, each_weaker (λ (x : Instance × Five). AreSets x.1) (λ (x : Instance × Five). IsOrdered literal_cmp x.1.kf) (λ x m. m.known) h.steps a.steps)

  pub last_replaced : (xs : List (Instance × Five)) (d : Five) → SetSteps xs → AreSets d → SetSteps (steps_with_last xs d)
  last_replaced [] d a m = tt
  last_replaced (x ∷ []) d a m = (m, tt)
  last_replaced (x ∷ y ∷ xs) d a m = (a.0, last_replaced (y ∷ xs) d a.1 m)
