-- The trees that a history keeps without its first moments, and without its looks.
use Rattle.std.proofs.Common.{suc, ◌≡◌, ◌↔◌, ◌≤◌, true, false, List, [], ◌∷◌, length, arith, refl, sym, ap, ◌∙◌, subst, inl, inr}
use Rattle.std.proofs.lemmas.Bool.{and_parts}
use Rattle.pks_terms.specs.Sets.{Each}
use Rattle.pks_terms.specs.Databases.{Five}
use Rattle.pks_terms.specs.Actions.{Instance}
use Rattle.pks_terms.specs.Problems.{Problem}
use Rattle.pks_terms.specs.Settling.{History, At}
use Rattle.pks_terms.specs.Moments.{IsMomentOf, AreMomentsOf}
use Rattle.pks_terms.specs.Handed.{IsStepOf}
use Rattle.pks_terms.specs.Valid.{IsValid}
use Rattle.pks_terms.specs.Versions.{IsNow}
use Rattle.pks_terms.specs.Trees.{Derives}
use Rattle.pks_history.specs.Moments.{IsWithoutFirst}
use Rattle.pks_laws_forget.specs.Transparent.{AreSetsAlong, with_first}
use Rattle.pks_laws_forget.specs.Testing.{hides_nothing}
use Rattle.pks_laws_forget.proofs.Cut.{cut}
use Rattle.pks_laws_forget.specs.Staying.{aims_stay}
use Rattle.pks_laws_forget.proofs.Told.{cut_told}
use Rattle.pks_laws_forget.proofs.Tested.{tested}
use Rattle.pks_laws_forget.specs.Looks.{IsLook, AreWithout, without_looks}
use Rattle.pks_laws_forget.proofs.Thinned.{without_short}
use Rattle.pks_laws_forget.proofs.TestedLooks.{unlooked_without}
use Rattle.pks_laws_forget.proofs.TreesWithoutLooks.{moments_without}
use Rattle.pks_laws_forget.proofs.TreesWithoutLooks as trees
use Rattle.pks_history_forget.specs.Same.{IsEndOf, EndHasSameTrees, HasSameTrees, first_hides_nothing, unsettled_from, without_settled, may_go, first_may_go, asked_from, without_unasked}

-- all of it is an end
pub whole_end : (d : Five) (steps : List (Instance × Five)) → IsEndOf d steps (record { start = d; steps = steps })
whole_end d [] = refl
whole_end d (step ∷ steps) = inl refl

-- an end of an end
end_through : (d : Five) (steps : List (Instance × Five)) (g k : History) → IsEndOf d steps g → IsEndOf g.start g.steps k → IsEndOf d steps k
end_through d [] g k a b = subst (λ (x : History). IsEndOf x.start x.steps k) a b
end_through d (step ∷ steps) g k (inl e) b = subst (λ (x : History). IsEndOf x.start x.steps k) e b
end_through d (step ∷ steps) g k (inr e) b = inr (end_through step.1 steps g k e b)

-- a history has its own trees
pub end_itself : (p : Problem) (h : History) → AreMomentsOf p h → EndHasSameTrees p h h
end_itself p h m =
    let short : length h.steps ≤ length h.steps = omega arith in
    record { moments = m; short = short; end = whole_end h.start h.steps; trees = λ t. (λ d. d, λ d. d) }

-- what has the same trees as what has the same trees
pub same_through : (p : Problem) (h g k : History) → EndHasSameTrees p h g → EndHasSameTrees p g k → EndHasSameTrees p h k
same_through p h g k a b =
    let one : length g.steps ≤ length h.steps = a.short in
    let two : length k.steps ≤ length g.steps = b.short in
    record {
      moments = b.moments;
      short = omega (arith, one, two);
      end = end_through h.start h.steps g k a.end b.end;
      trees = λ t. (λ d. (b.trees t).0 ((a.trees t).0 d), λ d. (a.trees t).1 ((b.trees t).1 d));
    }

module _ (p : Problem) (h rest : History) (w : IsWithoutFirst h rest) where
  whole : h ≡ with_first h.start w.0 rest
  whole = λ j. record { start = h.start; steps = w.1 j }

  rest_moments : AreMomentsOf p h → AreMomentsOf p rest
  rest_moments m =
      let all = subst (Each (λ step. IsStepOf p step.0 × IsMomentOf p.signature step.1)) w.1 m.steps in
      record { start = all.0.1; steps = all.1 }

  shorter : length rest.steps ≤ length h.steps
  shorter =
      let same : length h.steps ≡ suc (length rest.steps) = ap (λ (xs : List (Instance × Five)). length xs) w.1 in
      omega (arith, same)

  -- where the first step hides nothing
  pub rest_trees : IsValid p → Each IsNow p.goal → AreMomentsOf p h → AreSetsAlong h → first_hides_nothing p h ≡ true → EndHasSameTrees p h rest
  rest_trees v plain m s hides =
      let hidden : hides_nothing p h.start w.0 rest.start ≡ true = subst (λ g. first_hides_nothing p g ≡ true) whole hides in
      record {
        moments = rest_moments m;
        short = shorter;
        end = subst (λ steps. IsEndOf h.start steps rest) (sym w.1) (inr (whole_end rest.start rest.steps));
        trees = λ t. subst (λ g. Derives p (At g) t ↔ Derives p (At rest) t) (sym whole) (cut p h.start w.0 rest t v plain (subst (AreMomentsOf p) whole m) (subst AreSetsAlong whole s) (tested p h.start w.0 rest.start hidden));
      }

  -- then what is left of the history is what is left of the rest
  pub goes_on : first_hides_nothing p h ≡ true → without_settled p h ≡ without_settled p rest
  goes_on hides =
      let hidden : hides_nothing p h.start w.0 rest.start ≡ true = subst (λ g. first_hides_nothing p g ≡ true) whole hides in
      ap (without_settled p) whole ∙ rw hidden refl

  -- where it leaves what the aims over time ask besides
  pub rest_told : IsValid p → AreMomentsOf p h → AreSetsAlong h → first_may_go p h ≡ true → EndHasSameTrees p h rest
  rest_told v m s goes =
      let both : may_go p h.start w.0 rest.start ≡ true = subst (λ g. first_may_go p g ≡ true) whole goes in
      let a = and_parts (aims_stay p h.start w.0 rest.start) _ both in
      record {
        moments = rest_moments m;
        short = shorter;
        end = subst (λ steps. IsEndOf h.start steps rest) (sym w.1) (inr (whole_end rest.start rest.steps));
        trees = λ t. subst (λ g. Derives p (At g) t ↔ Derives p (At rest) t) (sym whole) (cut_told p h.start w.0 rest t v (subst (AreMomentsOf p) whole m) (subst AreSetsAlong whole s) (tested p h.start w.0 rest.start a.1) a.0);
      }

  pub goes_on_asked : first_may_go p h ≡ true → without_unasked p h ≡ without_unasked p rest
  goes_on_asked goes =
      let both : may_go p h.start w.0 rest.start ≡ true = subst (λ g. first_may_go p g ≡ true) whole goes in
      ap (without_unasked p) whole ∙ rw both refl

asked_stays_from : (p : Problem) (d : Five) (steps : List (Instance × Five)) → first_may_go p (record { start = d; steps = steps }) ≡ false → asked_from p d steps ≡ record { start = d; steps = steps }
asked_stays_from p d [] e = refl
asked_stays_from p d (step ∷ steps) e = rw e refl

-- where there is no first step that may go, the history is left as it is
pub asked_stays : (p : Problem) (h : History) → first_may_go p h ≡ false → without_unasked p h ≡ h
asked_stays p h e = asked_stays_from p h.start h.steps e

stays_from : (p : Problem) (d : Five) (steps : List (Instance × Five)) → first_hides_nothing p (record { start = d; steps = steps }) ≡ false → unsettled_from p d steps ≡ record { start = d; steps = steps }
stays_from p d [] e = refl
stays_from p d (step ∷ steps) e = rw e refl

-- where there is no first step that hides nothing, the history is left as it is
pub stays : (p : Problem) (h : History) → first_hides_nothing p h ≡ false → without_settled p h ≡ h
stays p h e = stays_from p h.start h.steps e

module _ (p : Problem) (h : History) (m : AreMomentsOf p h) (s : AreSetsAlong h) where
  some_out : AreWithout (IsLook p) h.start h.steps (without_looks p h).start (without_looks p h).steps
  some_out = unlooked_without p h.start h.steps s.start s.steps

  -- without its looks it is one of the problem, and its sets are in order
  pub kept_moments : AreMomentsOf p (without_looks p h) × AreSetsAlong (without_looks p h)
  kept_moments = moments_without p h (without_looks p h) m s some_out

  -- and has the same trees, so that it has those of what is left of that
  pub same_without : (rest : History) → IsValid p → EndHasSameTrees p (without_looks p h) rest → HasSameTrees p h rest
  same_without rest v e =
      let one : length (without_looks p h).steps ≤ length h.steps = without_short (IsLook p) h.start h.steps (without_looks p h).start (without_looks p h).steps some_out in
      let two : length rest.steps ≤ length (without_looks p h).steps = e.short in
      record {
        moments = e.moments;
        short = omega (arith, one, two);
        left = record { steps = without_looks p h; without = some_out; end = e.end };
        trees = λ t. let k = trees.without_looks p v h (without_looks p h) t m s some_out in (λ d. (e.trees t).0 (k.0 d), λ d. k.1 ((e.trees t).1 d));
      }
