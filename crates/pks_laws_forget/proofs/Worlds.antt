-- What a history is true of, it is true of without some looks, and its steps lead to the same world.
use Rattle.std.proofs.Common.{◌≡◌, [], ◌∷◌, refl, sym, ap, ◌∙◌, subst, inl, inr}
use Rattle.pks_terms.specs.Worlds.{World}
use Rattle.pks_terms.specs.Databases.{Five}
use Rattle.pks_terms.specs.Actions.{Instance, applied_to}
use Rattle.pks_terms.specs.Problems.{Problem}
use Rattle.pks_terms.specs.Settling.{History, effects_of}
use Rattle.pks_terms.specs.Knowledge.{grounded, after_action}
use Rattle.pks_terms.specs.Remembering.{TrueAlong, deeds_of, Agree, AgreeAlong, Both}
use Rattle.pks_terms.specs.Meaning.{IsTrueIn}
use Rattle.pks_laws.proofs.Doing.{effects_do, present}
use Rattle.pks_laws_forget.specs.Looks.{IsLook, AreWithout}
use Rattle.pks_laws_forget.proofs.Thinned.{Steps}

nothing_applied : (w : World) → applied_to w [] ≡ w
unfolding applied_to
nothing_applied w = refl

module _ (p : Problem) where
  abbrev after : World → Instance → World
  after w i = after_action p w (grounded w i)

  -- an action without effects leaves the world as it is
  same_world : (w : World) (i : Instance) → effects_of p i ≡ [] → after w i ≡ w
  same_world w i e = sym (effects_do p w i) ∙ ap (applied_to w) e ∙ nothing_applied w

  pub true_without : (w : World) (d : Five) (xs : Steps) (e : Five) (ys : Steps) → AreWithout (IsLook p) d xs e ys → TrueAlong p w d xs → TrueAlong p w e ys
  true_without w d [] e [] k t = subst (IsTrueIn p.signature w) k t
  true_without w d [] e (y ∷ ys) k t = absurd k
  true_without w d (x ∷ xs) e [] k t = true_without w x.1 xs e [] k.1 (subst (λ v. TrueAlong p v x.1 xs) (same_world w x.0 k.0.effects) t.1)
  true_without w d (x ∷ xs) e (y ∷ ys) (inl k) t = true_without w x.1 xs e (y ∷ ys) k.1 (subst (λ v. TrueAlong p v x.1 xs) (same_world w x.0 k.0.effects) t.1)
  true_without w d (x ∷ xs) e (y ∷ ys) (inr k) t = (subst (IsTrueIn p.signature w) k.0 t.0, subst (λ i. TrueAlong p (after w i) y.1 ys) k.1 (true_without (after w x.0) x.1 xs y.1 ys k.2 t.1))

  pub agree_without : (w w' : World) (d : Five) (xs : Steps) (e : Five) (ys : Steps) → AreWithout (IsLook p) d xs e ys → AgreeAlong p w w' d xs → AgreeAlong p w w' e ys
  agree_without w w' d [] e [] k t = subst (Agree w w') k t
  agree_without w w' d [] e (y ∷ ys) k t = absurd k
  agree_without w w' d (x ∷ xs) e [] k t =
      agree_without w w' x.1 xs e [] k.1 (subst (λ v. AgreeAlong p v w' x.1 xs) (same_world w x.0 k.0.effects) (subst (λ v. AgreeAlong p (after w x.0) v x.1 xs) (same_world w' x.0 k.0.effects) t.1))
  agree_without w w' d (x ∷ xs) e (y ∷ ys) (inl k) t =
      agree_without w w' x.1 xs e (y ∷ ys) k.1 (subst (λ v. AgreeAlong p v w' x.1 xs) (same_world w x.0 k.0.effects) (subst (λ v. AgreeAlong p (after w x.0) v x.1 xs) (same_world w' x.0 k.0.effects) t.1))
  agree_without w w' d (x ∷ xs) e (y ∷ ys) (inr k) t = (subst (Agree w w') k.0 t.0, subst (λ i. AgreeAlong p (after w i) (after w' i) y.1 ys) k.1 (agree_without (after w x.0) (after w' x.0) x.1 xs y.1 ys k.2 t.1))

  pub same_present : (w : World) (d : Five) (xs : Steps) (e : Five) (ys : Steps) → AreWithout (IsLook p) d xs e ys → present p w (deeds_of xs) ≡ present p w (deeds_of ys)
  same_present w d [] e [] k = refl
  same_present w d [] e (y ∷ ys) k = absurd k
  same_present w d (x ∷ xs) e [] k = ap (λ v. present p v (deeds_of xs)) (same_world w x.0 k.0.effects) ∙ same_present w x.1 xs e [] k.1
  same_present w d (x ∷ xs) e (y ∷ ys) (inl k) = ap (λ v. present p v (deeds_of xs)) (same_world w x.0 k.0.effects) ∙ same_present w x.1 xs e (y ∷ ys) k.1
  same_present w d (x ∷ xs) e (y ∷ ys) (inr k) = same_present (after w x.0) x.1 xs y.1 ys k.2 ∙ ap (λ i. present p (after w i) (deeds_of ys)) k.1

  pub both_without : (w w' : World) (h g : History) → AreWithout (IsLook p) h.start h.steps g.start g.steps → Both p w w' h → Both p w w' g
  both_without w w' h g k b = record {
    along = true_without w h.start h.steps g.start g.steps k b.along;
    along' = true_without w' h.start h.steps g.start g.steps k b.along';
    agree = agree_without w w' h.start h.steps g.start g.steps k b.agree;
  }
