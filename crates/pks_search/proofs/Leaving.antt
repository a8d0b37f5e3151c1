-- What is left of a history: it is read where that is, and the same worlds may be the present one.
use Rattle.std.proofs.Common.{◌≤◌, ℕ, List, [], ◌∷◌, length, sym, ◌∙◌, subst, inl, inr, arith}
use Rattle.pks_terms.specs.Sets.{Each}
use Rattle.pks_terms.specs.Worlds.{World}
use Rattle.pks_terms.specs.Signatures.{HasValues}
use Rattle.pks_terms.specs.Databases.{Five}
use Rattle.pks_terms.specs.Actions.{Instance}
use Rattle.pks_terms.specs.Problems.{Problem}
use Rattle.pks_terms.specs.Settling.{History}
use Rattle.pks_terms.specs.Moments.{IsMomentOf, AreMomentsOf}
use Rattle.pks_terms.specs.Handed.{IsStepOf}
use Rattle.pks_laws.proofs.ClosedAgain.{closed_fine, closed_saturated}
use Rattle.pks_search_distance.specs.Runs.{MayBeAt}
use Rattle.pks_search_distance.proofs.Running.{later_may}
use Rattle.pks_laws_forget.specs.Looks.{IsLook, AreWithout}
use Rattle.pks_laws_forget.proofs.Still.{AreLike, like_itself, like_through, given_back, back_alike}
use Rattle.pks_laws_forget.proofs.Thinned.{without_short}
use Rattle.pks_laws_forget.proofs.Worlds.{both_without, same_present}
use Rattle.pks_postdict.specs.Read.{IsReadStep, AreRead, IsReadBut}
use Rattle.pks_history_forget.specs.Same.{IsEndOf, IsLeftOf}

abbrev Steps : Type 0
Steps = List (Instance × Five)

-- ---- what is read

-- what begins at one of the moments is read where these are
end_read : (p : Problem) (n : ℕ) (d : Five) (steps : Steps) (rest : History) → IsEndOf d steps rest → AreRead p n d steps → AreRead p n rest.start rest.steps
end_read p n d [] rest e r = subst (IsReadBut p n) (sym e) tt
end_read p n d (step ∷ steps) rest (inl e) r = subst (IsReadBut p n) (sym e) r
end_read p n d (step ∷ steps) rest (inr e) r = end_read p n step.1 steps rest e r.1

module _ (p : Problem) (inhabited : HasValues p.signature) where
  -- over a look that is read the same is known before and after
  look_alike : (d : Five) (x : Instance × Five) → IsLook p d x.0 x.1 → IsReadStep p d x.0 x.1 → AreLike p inhabited d x.1
  look_alike d x k r = record { into = k.known; back = λ l i. r.1 l (given_back p inhabited x.0 k.effects d x.1 l i); groups = k.groups; regions = k.regions }

  module _ (n : ℕ) where
    -- so it is with what stands in the place of a moment
    place_alike : (d : Five) (xs : Steps) (e : Five) (ys : Steps) → AreWithout (IsLook p) d xs e ys → n ≤ length ys → AreRead p n d xs → AreLike p inhabited d e
    place_alike d [] e [] k few r = subst (AreLike p inhabited d) k (like_itself p inhabited d)
    place_alike d [] e (y ∷ ys) k few r = absurd k
    place_alike d (x ∷ xs) e [] k few r = like_through p inhabited d x.1 e (look_alike d x k.0 (r.0 (omega (arith, few)))) (place_alike x.1 xs e [] k.1 few r.1)
    place_alike d (x ∷ xs) e (y ∷ ys) (inl k) few r =
        let short : length (y ∷ ys) ≤ length xs = without_short (IsLook p) x.1 xs e (y ∷ ys) k.1 in
        like_through p inhabited d x.1 e (look_alike d x k.0 (r.0 (omega (arith, few, short)))) (place_alike x.1 xs e (y ∷ ys) k.1 few r.1)
    place_alike d (x ∷ xs) e (y ∷ ys) (inr k) few r = subst (AreLike p inhabited d) k.0 (like_itself p inhabited d)

    -- a step to what stands in the place of its second moment
    step_read : (d : Five) (i : Instance) (z a : Five) → IsMomentOf p.signature d → IsMomentOf p.signature z → AreLike p inhabited z a → IsReadStep p d i z → IsReadStep p d i a
    step_read d i z a m k alike r = (
      λ l j. alike.into l (r.0 l j),
      λ l j. r.1 l (back_alike p inhabited d i z a (closed_saturated p.signature inhabited d m.closed m.ordered.known) (closed_fine p.signature inhabited d m.closed) (closed_saturated p.signature inhabited z k.closed k.ordered.known) (closed_fine p.signature inhabited z k.closed) alike l j),
    )

    without_read : (d : Five) (xs : Steps) (e : Five) (ys : Steps) → IsMomentOf p.signature d → Each (λ (x : Instance × Five). IsStepOf p x.0 × IsMomentOf p.signature x.1) xs → AreWithout (IsLook p) d xs e ys → AreRead p n d xs → AreRead p n e ys
    without_read d [] e [] m ms k r = tt
    without_read d [] e (y ∷ ys) m ms k r = absurd k
    without_read d (x ∷ xs) e [] m ms k r = tt
    without_read d (x ∷ xs) e (y ∷ ys) m ms (inl k) r = without_read x.1 xs e (y ∷ ys) ms.0.1 ms.1 k.1 r.1
    without_read d (x ∷ xs) e (y ∷ ys) m ms (inr k) r =
        let short : length ys ≤ length xs = without_short (IsLook p) x.1 xs y.1 ys k.2 in (
          λ few. subst (λ (f : Five). IsReadStep p f y.0 y.1) k.0 (subst (λ i. IsReadStep p d i y.1) k.1 (step_read d x.0 x.1 y.1 m ms.0.1 (place_alike x.1 xs y.1 ys k.2 few r.1) (r.0 (omega (arith, few, short))))),
          without_read x.1 xs y.1 ys ms.0.1 ms.1 k.2 r.1,
        )

-- what is left of a history is read where the history is
pub left_read : (p : Problem) → HasValues p.signature → (n : ℕ) (h rest : History) → AreMomentsOf p h → IsLeftOf p h rest → IsReadBut p n h → IsReadBut p n rest
left_read p inhabited n h rest m k r =
    let g = k.steps in
    end_read p n g.start g.steps rest k.end (without_read p inhabited n h.start h.steps g.start g.steps m.start m.steps k.without r)

-- ---- the present world

module _ (p : Problem) where
  end_may : (d : Five) (steps : Steps) (rest : History) (v : World) → IsEndOf d steps rest → MayBeAt p (record { start = d; steps = steps }) v → MayBeAt p rest v
  end_may d [] rest v e m = subst (λ g. MayBeAt p g v) (sym e) m
  end_may d (step ∷ steps) rest v (inl e) m = subst (λ g. MayBeAt p g v) (sym e) m
  end_may d (step ∷ steps) rest v (inr e) m = end_may step.1 steps rest v e (later_may p d step.0 (record { start = step.1; steps = steps }) v m)

  without_may : (h g : History) (v : World) → AreWithout (IsLook p) h.start h.steps g.start g.steps → MayBeAt p h v → MayBeAt p g v
  without_may h g v k m = record { first = m.first; both = both_without p m.first m.first h g k m.both; leads = sym (same_present p m.first h.start h.steps g.start g.steps k) ∙ m.leads }

  -- a world that may be the present one may be so at what is left
  pub left_may : (h rest : History) (v : World) → IsLeftOf p h rest → MayBeAt p h v → MayBeAt p rest v
  left_may h rest v k m = let g = k.steps in end_may g.start g.steps rest v k.end (without_may h g v k.without m)
