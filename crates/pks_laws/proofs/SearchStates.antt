-- The histories that a search comes to are of the signature, closed, with equations in order.
use Rattle.std.proofs.Common.{◌≡◌, List, [], ◌∷◌, sym, ap, subst, true≢false}
use Rattle.pks_terms.specs.Sets.{Each, IsIn}
use Rattle.pks_terms.specs.Signatures.{Signature, HasValues}
use Rattle.pks_terms.specs.Databases.{Five}
use Rattle.pks_terms.specs.Closure.{Outcome, Next, Clash, Closes, IsClosed}
use Rattle.pks_terms.specs.Actions.{Instance}
use Rattle.pks_terms.specs.Progress.{progressed, Progress}
use Rattle.pks_terms.specs.Problems.{Problem, schema_of, initial}
use Rattle.pks_terms.specs.Branching.{instances, Choice, Side, IsMember, assumed, Assumes}
use Rattle.pks_terms.specs.Settling.{History, last_moment, last_of, with_last, steps_with_last, At, Settles}
use Rattle.pks_terms.specs.Trees.{after_step, Acts, SettlesAfter, Takes}
use Rattle.pks_terms.specs.Valid.{AreOf, IsValid}
use Rattle.pks_terms.proofs.ListLaws.{each_append, each_in, each_of, each_weaker}
use Rattle.pks_laws.proofs.Belonging.{closed_values, closed_of}
use Rattle.pks_laws.proofs.BelongingSteps.{initial_of, choice_of, assumed_of, action_of}
use Rattle.pks_laws.proofs.BelongingHistories.{is_clash, history_or, settled_closed, settled_of}
use Rattle.pks_laws.proofs.SidesInOrder.{closed_ordered, initial_ordered, assumed_ordered, progressed_ordered, settled_ordered}
use Rattle.pks_terms.specs.Moments.{AreInOrder, IsMomentOf, AreMomentsOf}
use Rattle.pks_laws.specs.OfSignature.{IsSideOf, IsHistoryOf}
use Rattle.pks_terms.specs.Handed.{IsStepOf}

-- what is closed of databases of the signature is a moment
pub closed_moment : (s : Signature) → HasValues s → (d e : Five) → AreOf s d → AreInOrder d → Closes s d (Next e) → IsMomentOf s e
closed_moment s inhabited d e m n c = record { of = closed_of s inhabited d e c m; ordered = closed_ordered s d e n c; closed = record { from = d; closes = c } }

pub action_moment : (p : Problem) → IsValid p → (d e : Five) (i : Instance) → IsMomentOf p.signature d → IsStepOf p i → Progress p.signature d (schema_of p i.action) i (Next e) → IsMomentOf p.signature e
action_moment p v d e i m fit c = record {
  of = action_of p v d e i m.of (closed_values p.signature v.signature.values m.closed.from d m.closed.closes) fit c;
  ordered = closed_ordered p.signature (progressed p.signature d (schema_of p i.action) i.arguments) e (progressed_ordered p.signature (schema_of p i.action) i.arguments d m.ordered) c;
  closed = record { from = progressed p.signature d (schema_of p i.action) i.arguments; closes = c };
}

pub side_moment : (s : Signature) → HasValues s → (d e : Five) (c : Choice) (side : Side) → IsMomentOf s d → IsMember d c → IsSideOf s c side → Assumes s d c side (Next e) → IsMomentOf s e
side_moment s inhabited d e c side m i k a = closed_moment s inhabited (assumed s d c side) e (assumed_of s d m.of c side i k) (assumed_ordered s d m.ordered c side i) a

module _ (p : Problem) (v : IsValid p) where
  abbrev S : Signature
  S = p.signature

  abbrev IsDeed : Instance × Five → Type 0
  IsDeed step = IsStepOf p step.0 × IsMomentOf S step.1

  last_step : (d : Five) (steps : List (Instance × Five)) → IsMomentOf S d → Each IsDeed steps → IsMomentOf S (last_of d steps)
  last_step d [] m a = m
  last_step d (step ∷ steps) m a = last_step step.1 steps a.0.1 a.1

  -- the last moment is closed and of the signature
  pub last_of_it : (h : History) → AreMomentsOf p h → IsMomentOf S (last_moment h)
  last_of_it h m = last_step h.start h.steps m.start m.steps

  pub start_of : (d : Five) → Closes S (initial p) (Next d) → AreMomentsOf p (record { start = d; steps = [] })
  start_of d c = record { start = closed_moment S v.signature.values (initial p) d (initial_of p v) (initial_ordered p v) c; steps = tt }

  pub acts_of : (h g : History) (i : Instance) → AreMomentsOf p h → IsIn i (instances p (last_moment h)) → Acts p h i (At g) → AreMomentsOf p g
  acts_of h g i m chosen a = go a.outcome a.progress a.gives
    where
      go : (o : Outcome) → Progress S (last_moment h) (schema_of p i.action) i o → At g ≡ after_step h i o → AreMomentsOf p g
      go (Next d) c e =
          let last = last_of_it h m in
          let fit = choice_of p (last_moment h) i last.of chosen in
          subst (AreMomentsOf p) (sym (ap (history_or g) e)) (record { start = m.start; steps = each_append IsDeed h.steps ((i, d) ∷ []) m.steps ((fit, action_moment p v (last_moment h) d i last fit c), tt) })
      go (Clash l) c e = absurd (true≢false (sym (ap is_clash e)))

  -- ---- a settled history

  -- each is a history of the problem
  pub moments_of : (h : History) → AreMomentsOf p h → IsHistoryOf p h
  moments_of h m = record { start = m.start.of; steps = each_weaker IsDeed (λ step. IsStepOf p step.0 × AreOf S step.1) (λ step k. (k.0, k.1.of)) h.steps m.steps }

  pub settled_history_of : (h g : History) → AreMomentsOf p h → Settles p h (At g) → AreMomentsOf p g
  settled_history_of h g m s =
      let all = settled_of p v h g s (moments_of h m) in
      let ordered = settled_ordered p h g (record { start = m.start.ordered; steps = each_weaker IsDeed (λ step. AreInOrder step.1) (λ step k. k.1.ordered) h.steps m.steps }) s in
      let closed = settled_closed p h g s in
      record {
        start = record { of = all.start; ordered = ordered.start; closed = closed.0 };
        steps = each_of IsDeed g.steps (λ step i. let k = each_in (λ step. IsStepOf p step.0 × AreOf S step.1) g.steps step all.steps i in
            (k.0, record { of = k.1; ordered = each_in (λ (step : Instance × Five). AreInOrder step.1) g.steps step ordered.steps i; closed = each_in (λ (step : Instance × Five). IsClosed S step.1) g.steps step closed.1 i }));
      }

  steps_with_last_of : (steps : List (Instance × Five)) (d : Five) → Each IsDeed steps → IsMomentOf S d → Each IsDeed (steps_with_last steps d)
  steps_with_last_of [] d a m = tt
  steps_with_last_of (step ∷ []) d a m = ((a.0.0, m), tt)
  steps_with_last_of (step ∷ next ∷ rest) d a m = (a.0, steps_with_last_of (next ∷ rest) d a.1 m)

  pub with_last_of : (h : History) (d : Five) → AreMomentsOf p h → IsMomentOf S d → AreMomentsOf p (with_last h d)
  with_last_of h d m n =
      elim h.steps as (λ steps. Each IsDeed steps → AreMomentsOf p (elim steps [ [] ↦ record { start = d; steps = [] } | step ∷ rest ↦ record h { steps = steps_with_last h.steps d } ])) [
        | [] ↦ λ a. record { start = n; steps = tt }
        | step ∷ rest ↦ λ a. record { start = m.start; steps = steps_with_last_of h.steps d m.steps n }
      ] m.steps

  pub takes_of : (h g : History) (c : Choice) (side : Side) → AreMomentsOf p h → IsMember (last_moment h) c → IsSideOf S c side → Takes p h c side (At g) → AreMomentsOf p g
  takes_of h g c side m i k t = go t.outcome t.assumed t.settled
    where
      go : (o : Outcome) → Assumes S (last_moment h) c side o → SettlesAfter p h o (At g) → AreMomentsOf p g
      go (Next d) a e = settled_history_of (with_last h d) g (with_last_of h d m (side_moment S v.signature.values (last_moment h) d c side (last_of_it h m) i k a)) e
      go (Clash l) a e = absurd (true≢false (sym (ap is_clash e)))
