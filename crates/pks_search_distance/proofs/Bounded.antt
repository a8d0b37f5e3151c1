-- From the program's levels to the bound.
use Rattle.std.proofs.Common.{◌≡◌, ◌≤◌, ◌+◌, ◌⊎◌, ℕ, zero, suc, false, List, [], map, flat_map, Some, None, sym, ◌∙◌, subst, inl, inr, ⊎_elim, true≢false, arith}
use Rattle.std.specs.List.{list_all}
use Rattle.pks_terms.specs.Sets.{Each, IsIn}
use Rattle.pks_terms.specs.Worlds.{World}
use Rattle.pks_terms.specs.Actions.{Effect, Instance, effect_at}
use Rattle.pks_terms.specs.Problems.{Problem, schema_of}
use Rattle.pks_terms.specs.Knowledge.{after_action}
use Rattle.pks_search_distance.specs.Runs.{MayBeDone, IsGoal}
use Rattle.pks_search_distance.specs.Levels.{Chances, Allows, Grows, HasAll, IsBound}
use Rattle.pks_search_distance.proofs.Stepping.{effects_allowed, grows_itself, reaches_leads}
use Rattle.pks_search_distance.proofs.Stepping as stepping
use Rattle.pks_search_distance.specs.declared.ground_actions.GroundActions.{GroundActions}
use Rattle.pks_search_distance.specs.Relaxed.{aim_may, ground_action_news, IsNewIn, ground_action_of_instance, Leads}
use Rattle.pks_search_distance.specs.Gained.{ground_action_of, AreGroundActions}
use Rattle.pks_search_distance.proofs.Lists.{each_flat_part}
use Rattle.pks_search_distance.proofs.Sound.{asked_may, goal_may, ground_action_has}

leads_alike : (p : Problem) (w : World) (n : ℕ) (v : World) → stepping.Leads p w n v → Leads p w n v
leads_alike p w zero v l = l
leads_alike p w (suc n) v l = (l.0, l.1, leads_alike p w n l.0 l.2, l.3, l.4)

split : (a b : ℕ) → (a ≤ b) ⊎ (b + 1 ≤ a)
split zero b = inl (omega arith)
split (suc a) zero = inr (omega arith)
split (suc a) (suc b) = ⊎_elim (λ h. inl (omega (arith, h))) (λ h. inr (omega (arith, h))) (split a b)

module _ (p : Problem) (x : GroundActions) (w : World) where
  -- all that the ground actions may make so at a level may be so
  abbrev pub HasNews : Chances → Chances → Type 0
  HasNews m n = Each (IsNewIn n) (flat_map (ground_action_news m) (map ground_action_of x.ground_actions.items))

  -- all worlds that so many actions lead to are allowed
  abbrev pub Covers : Chances → ℕ → Type 0
  Covers m k = (n : ℕ) (v : World) → n ≤ k → Leads p w n v → Allows m v

  -- fewer don't lead to the goal
  abbrev pub AtLeast : ℕ → Type 0
  AtLeast k = (n : ℕ) (v : World) → Leads p w n v → IsGoal p v → k ≤ n

  pub covers_none : (m : Chances) → Allows m w → Covers m 0
  covers_none m a zero v h l = subst (Allows m) l a
  covers_none m a (suc n) v h l = absurd (omega (arith, h))

  pub least_none : AtLeast 0
  least_none n v l g = omega arith

  grows_allows : (m n : Chances) (v : World) → Grows m n → Allows m v → Allows n v
  grows_allows m n v g a = record { truth = λ q ds. g.truth (v.truth q ds) q ds (a.truth q ds); values = λ f ds. g.values f ds (v.value f ds) (a.values f ds) }

  -- one more action
  step_allows : (m n : Chances) (j : ℕ) (u : World) (i : Instance) → AreGroundActions p x w → Grows m n → HasNews m n → Leads p w j u → Allows m u → MayBeDone p u i → Allows n (after_action p u i)
  unfolding after_action
  step_allows m n j u i d g h l a b = effects_allowed m n u (map (effect_at i.arguments) (schema_of p i.action).effects) g a (⊎_elim none some (d.listed j u i l b))
    where
      none : (schema_of p i.action).effects ≡ [] → HasAll n u (map (effect_at i.arguments) (schema_of p i.action).effects)
      none e = subst (λ (es : List Effect). HasAll n u (map (effect_at i.arguments) es)) (sym e) tt

      some : IsIn (ground_action_of_instance p i) (map ground_action_of x.ground_actions.items) → HasAll n u (map (effect_at i.arguments) (schema_of p i.action).effects)
      some k = ground_action_has m u a n (ground_action_of_instance p i) (asked_may m u a i.arguments (schema_of p i.action).pre b.pre) (each_flat_part (IsNewIn n) (ground_action_news m) (map ground_action_of x.ground_actions.items) (ground_action_of_instance p i) k h)

  pub covers_more : (m n : Chances) (k : ℕ) → AreGroundActions p x w → Grows m n → HasNews m n → Covers m k → Covers n (k + 1)
  covers_more m n k d g h c zero v e l = grows_allows m n v g (c 0 v (omega arith) l)
  covers_more m n k d g h c (suc j) v e l = subst (Allows n) l.4 (step_allows m n j l.0 l.1 d g h l.2 (c j l.0 (omega (arith, e)) l.2) l.3)

  pub least_more : (m : Chances) (k : ℕ) → Covers m k → list_all (aim_may m) p.goal ≡ false → AtLeast k → AtLeast (k + 1)
  least_more m k c far least n v l g =
      ⊎_elim (λ h. absurd (true≢false (sym (goal_may m v (c n v h l) p.goal g) ∙ far))) (λ h. h) (split n k)

  pub bound_some : (k : ℕ) → AtLeast k → IsBound p w (Some k)
  bound_some k least j r =
      let l = reaches_leads p w j r in
      let short : l.0 ≤ j = l.2 in
      let far : k ≤ l.0 = least l.0 l.1 (leads_alike p w l.0 l.1 l.3) l.4 in
      omega (arith, short, far)

  pub bound_none : (m : Chances) → AreGroundActions p x w → HasNews m m → Allows m w → list_all (aim_may m) p.goal ≡ false → IsBound p w None
  bound_none m d h a far j r =
      let l = reaches_leads p w j r in
      true≢false (sym (goal_may m l.1 (all l.0 l.1 (leads_alike p w l.0 l.1 l.3)) p.goal l.4) ∙ far)
    where
      all : (n : ℕ) (v : World) → Leads p w n v → Allows m v
      all zero v l = subst (Allows m) l a
      all (suc n) v l = subst (Allows m) l.4 (step_allows m m n l.0 l.1 d (grows_itself m) h l.2 (all n l.0 l.2) l.3)
