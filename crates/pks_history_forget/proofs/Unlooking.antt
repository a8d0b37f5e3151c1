-- A history without the moments before looks, made moment by moment.
use Rattle.std.proofs.Common.{◌≡◌, ◌+◌, ◌||◌, ℕ, zero, suc, Bool, true, false, List, [], ◌∷◌, length, map, Some, refl, sym, ap, ◌∙◌, subst, arith, true≢false}
use Rattle.std.specs.List.{slice_get}
use Rattle.std.proofs.lemmas.Option.{same_Some, none-some}
use Rattle.pks_terms.specs.Databases.{Five}
use Rattle.pks_terms.specs.Actions.{Instance}
use Rattle.pks_terms.specs.Problems.{Problem}
use Rattle.pks_terms.specs.Settling.{History}
use Rattle.pks_history.specs.Moments.{databases_at, instance_after}
use Rattle.pks_laws_forget.specs.Looks.{is_look, behind, unlooked_from}
use Rattle.pks_history_forget.specs.Looking.{some_look, later_look}

abbrev Steps : Type 0
Steps = List (Instance × Five)

module _ (p : Problem) where
  -- ---- whether there is a look

  -- at a step, and behind it
  next_look : (d : Five) (xs : Steps) (n : ℕ) (b : Five) (i : Instance) (a : Five)
      → slice_get (d ∷ map (λ (x : Instance × Five). x.1) xs) n ≡ Some b
      → slice_get (map (λ (x : Instance × Five). x.0) xs) n ≡ Some i
      → slice_get (map (λ (x : Instance × Five). x.1) xs) n ≡ Some a
      → later_look p d xs n ≡ (is_look p b i a || later_look p d xs (suc n))
  next_look d [] n b i a e f g = absurd (none-some i f)
  next_look d (x ∷ xs) zero b i a e f g =
      let before : d ≡ b = same_Some d b e in
      let step : x.0 ≡ i = same_Some x.0 i f in
      let after : x.1 ≡ a = same_Some x.1 a g in
      λ j. is_look p (before j) (step j) (after j) || some_look p x.1 xs
  next_look d (x ∷ xs) (suc n) b i a e f g = next_look x.1 xs n b i a e f g

  pub no_look_behind : (d : Five) (xs : Steps) → later_look p d xs (length xs) ≡ false
  no_look_behind d [] = refl
  no_look_behind d (x ∷ xs) = no_look_behind x.1 xs

  pub look_there : (h : History) (n : ℕ) (b : Five) (i : Instance) (a : Five) → databases_at h n ≡ Some b → instance_after h n ≡ Some i → databases_at h (n + 1) ≡ Some a
      → later_look p h.start h.steps n ≡ (is_look p b i a || later_look p h.start h.steps (n + 1))
  look_there h n b i a e f g =
      let one : n + 1 ≡ suc n = omega arith in
      let next : slice_get (h.start ∷ map (λ (x : Instance × Five). x.1) h.steps) (suc n) ≡ Some a = subst (λ k. slice_get (h.start ∷ map (λ (x : Instance × Five). x.1) h.steps) k ≡ Some a) one g in
      subst (λ k. later_look p h.start h.steps n ≡ (is_look p b i a || later_look p h.start h.steps k)) (sym one) (next_look h.start h.steps n b i a e f next)

  -- where there is none, the history is left as it is
  pub none_goes : (d : Five) (xs : Steps) → some_look p d xs ≡ false → unlooked_from p d xs ≡ record { start = d; steps = xs }
  none_goes d [] e = refl
  none_goes d (x ∷ xs) e = go (is_look p d x.0 x.1) refl (none_goes x.1 xs)
    where
      go : (b : Bool) → is_look p d x.0 x.1 ≡ b → (some_look p x.1 xs ≡ false → unlooked_from p x.1 xs ≡ record { start = x.1; steps = xs }) → unlooked_from p d (x ∷ xs) ≡ record { start = d; steps = x ∷ xs }
      go true k later = absurd (true≢false (sym (ap (λ b. b || some_look p x.1 xs) k) ∙ e))
      go false k later =
          let rest : some_look p x.1 xs ≡ false = sym (ap (λ b. b || some_look p x.1 xs) k) ∙ e in
          rw k (ap (behind d x.0) (later rest))
