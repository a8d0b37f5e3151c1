-- Settling gives no more than any family without a clash that has the start and is closed under the rules.
use Rattle.std.proofs.Common.{◌≡◌, ◌&&◌, ◌==◌, ℕ, zero, suc, Bool, true, false, cond, not, List, [], ◌∷◌, ◌++◌, map, filter, Option, Some, None, refl, sym, ◌∙◌, subst, ⊎_elim, true≢false}
use Rattle.std.specs.List.{list_any, list_all}
use Rattle.std.specs.Option.{option_map_or}
use Rattle.std.proofs.lemmas.Bool.{or_cases, or_left, or_right, and_parts, and_from, not-true}
use Rattle.pks_terms.specs.Sets.{IsIn, all_some, with_others, with_later, choices_from}
use Rattle.pks_terms.specs.Syntax.{Object, Parameter, Apply, Inner, Term, term_of, as_object, Relation, Named, Equality, Literal, negated}
use Rattle.pks_terms.specs.Orders.{equation, number_of, arguments_of}
use Rattle.pks_terms.specs.Signatures.{HasValues}
use Rattle.pks_terms.specs.Databases.{Five, values_at, differ, some_differ, holds}
use Rattle.pks_terms.specs.Closure.{applications_in, additions, first_clash}
use Rattle.pks_terms.specs.Actions.{Target, Set, Unset, Clear, Assign, Effect, Instance}
use Rattle.pks_terms.specs.Spoiling.{some_fixed_differ, may_fire, may_make_true, may_make_false, may_change, some_may, may_be_changed, is_stable, are_stable, may_be_denied, spoils}
use Rattle.pks_terms.specs.Problems.{Problem}
use Rattle.pks_terms.specs.Settling.{History, settle_round, settle_rounds, inner_forms, argument_forms, term_forms, stable_forms, target_forms, undoes, assigns_alike, makes_same, lasting, fired, must_have_fired, cannot_have_fired, effects_of, forward, backward, grown, from_next, settled_steps}
use Rattle.pks_terms.specs.Saturated.{Within, IsSaturated, WithinAlong, ClosedAlong}
use Rattle.pks_terms.proofs.ListLaws.{any_in, found_in, in_appended, in_flat_mapped, in_filtered, in_filter}
use Rattle.pks_terms.proofs.OrderLaws.{literal_cmp_tells}
use Rattle.pks_terms.specs.Totality.{literal_cmp_total}
use Rattle.pks_terms.proofs.SetLaws.{in_added}
use Rattle.pks_laws.proofs.Least.{in_flat, within_append, within_map, values_within, plain_grows, some_differ_grows, one_value, ranged, holds_grows, additions_within}

within_choices : {X : Type 0} (f g : X → List X) → ((x : X) → Within (f x) (g x)) → (xs : List X) → Within (choices_from (map f xs)) (choices_from (map g xs))
within_choices f g w [] = λ x i. i
within_choices f g w (x ∷ xs) = λ ys i.
    let r = in_flat_mapped (λ y. map (λ zs. y ∷ zs) (choices_from (map f xs))) (f x) ys i in
    in_flat (λ y. map (λ zs. y ∷ zs) (choices_from (map g xs))) (g x) r.0 ys (w x r.0 r.1) (within_map (λ zs. r.0 ∷ zs) _ _ (within_choices f g w xs) ys r.2)

module _ (world : Problem) (big : Five) (inhabited : HasValues world.signature) (saturated : IsSaturated world.signature big) (fine : first_clash world.signature big ≡ None) (d : Five) (within : Within d.kf big.kf) (groups : d.kx ≡ big.kx) (regions : d.lcw ≡ big.lcw) where
  held : (l : Literal) → holds world.signature d l ≡ true → holds world.signature big l ≡ true
  held = holds_grows world.signature big inhabited saturated fine d within groups regions

  all_held : (c : List Literal) → list_all (holds world.signature d) c ≡ true → list_all (holds world.signature big) c ≡ true
  all_held [] h = refl
  all_held (l ∷ ls) h = let p = and_parts (holds world.signature d l) _ h in and_from _ _ (held l p.0) (all_held ls p.1)

  differ_grows : (t u : Term) → differ world.signature d.kf t u ≡ true → differ world.signature big.kf t u ≡ true
  unfolding differ
  differ_grows t u = plain_grows world.signature d.kf big.kf within (one_value world.signature big inhabited saturated fine) (ranged world.signature big inhabited saturated fine) _

  apart_grows : (ts us : List Term) → some_differ world.signature d.kf ts us ≡ true → some_differ world.signature big.kf ts us ≡ true
  apart_grows = some_differ_grows world.signature d.kf big.kf within (one_value world.signature big inhabited saturated fine) (ranged world.signature big inhabited saturated fine)

  fixed_apart_grows : (ss : List (Option Term)) (ts : List Term) → some_fixed_differ world.signature d.kf ss ts ≡ true → some_fixed_differ world.signature big.kf ss ts ≡ true
  fixed_apart_grows (Some t ∷ ss) (u ∷ us) h = ⊎_elim (λ k. or_left _ _ (differ_grows t u k)) (λ k. or_right _ _ (fixed_apart_grows ss us k)) (or_cases (differ world.signature d.kf t u) _ h)
  fixed_apart_grows (None ∷ ss) (u ∷ us) h = fixed_apart_grows ss us h
  fixed_apart_grows [] ts h = absurd (true≢false (sym h))
  fixed_apart_grows (Some t ∷ ss) [] h = absurd (true≢false (sym h))
  fixed_apart_grows (None ∷ ss) [] h = absurd (true≢false (sym h))

  -- what isn't so of the larger isn't of the smaller
  back : (a b : Bool) → (a ≡ true → b ≡ true) → not b ≡ true → not a ≡ true
  back true b f h = absurd (true≢false (sym (f refl) ∙ not-true b h))
  back false b f h = refl

  fire_back : (e : Effect) → may_fire world.signature big e ≡ true → may_fire world.signature d e ≡ true
  unfolding may_fire
  fire_back e h = back _ _ (denied_grows e.condition) h
    where
      denied_grows : (c : List Literal) → list_any (λ l. holds world.signature d (negated l)) c ≡ true → list_any (λ l. holds world.signature big (negated l)) c ≡ true
      denied_grows [] k = k
      denied_grows (l ∷ ls) k = ⊎_elim (λ q. or_left _ _ (held (negated l) q)) (λ q. or_right _ _ (denied_grows ls q)) (or_cases (holds world.signature d (negated l)) _ k)

  true_back : (p : ℕ) (ts : List Term) (x : Target) → may_make_true world.signature big.kf p ts x ≡ true → may_make_true world.signature d.kf p ts x ≡ true
  true_back p ts (Set a) h = let q = and_parts (a.predicate == p) _ h in and_from _ _ q.0 (back _ _ (apart_grows a.arguments ts) q.1)
  true_back p ts (Unset a) h = h
  true_back p ts (Clear x) h = h
  true_back p ts (Assign f us v) h = h

  false_back : (p : ℕ) (ts : List Term) (x : Target) → may_make_false world.signature big.kf p ts x ≡ true → may_make_false world.signature d.kf p ts x ≡ true
  false_back p ts (Unset a) h = let q = and_parts (a.predicate == p) _ h in and_from _ _ q.0 (back _ _ (apart_grows a.arguments ts) q.1)
  false_back p ts (Clear x) h = let q = and_parts (x.predicate == p) _ h in and_from _ _ q.0 (back _ _ (fixed_apart_grows x.slots ts) q.1)
  false_back p ts (Set a) h = h
  false_back p ts (Assign f us v) h = h

  change_back : (f : ℕ) (ts : List Inner) (x : Target) → may_change world.signature big.kf f ts x ≡ true → may_change world.signature d.kf f ts x ≡ true
  change_back f ts (Assign g us v) h = let q = and_parts (g == f) _ h in and_from _ _ q.0 (back _ _ (apart_grows (map term_of us) (map term_of ts)) q.1)
  change_back f ts (Set a) h = h
  change_back f ts (Unset a) h = h
  change_back f ts (Clear x) h = h

  some_back : (f g : Target → Bool) → ((x : Target) → f x ≡ true → g x ≡ true) → (es : List Effect) → some_may world.signature big f es ≡ true → some_may world.signature d g es ≡ true
  some_back f g w [] h = h
  some_back f g w (e ∷ es) h =
      ⊎_elim (λ k. let p = and_parts (may_fire world.signature big e) _ k in or_left _ _ (and_from _ _ (fire_back e p.0) (w e.target p.1))) (λ k. or_right _ _ (some_back f g w es k)) (or_cases (may_fire world.signature big e && f e.target) _ h)

  changed_back : (es : List Effect) (u : Term) → may_be_changed world.signature big es u ≡ true → may_be_changed world.signature d es u ≡ true
  unfolding may_be_changed
  changed_back es u h = some_back _ _ (change_back (number_of u) (arguments_of u)) es h

  stable_grows : (es : List Effect) (t : Term) → is_stable world.signature d es t ≡ true → is_stable world.signature big es t ≡ true
  unfolding is_stable
  stable_grows es t h = go (applications_in t) h
    where
      go : (us : List Term) → list_all (λ u. not (may_be_changed world.signature d es u)) us ≡ true → list_all (λ u. not (may_be_changed world.signature big es u)) us ≡ true
      go [] k = refl
      go (u ∷ us) k = let p = and_parts (not (may_be_changed world.signature d es u)) _ k in and_from _ _ (back _ _ (changed_back es u) p.0) (go us p.1)

  all_stable_grow : (es : List Effect) (ts : List Term) → are_stable world.signature d es ts ≡ true → are_stable world.signature big es ts ≡ true
  all_stable_grow es [] h = refl
  all_stable_grow es (t ∷ ts) h = let p = and_parts (is_stable world.signature d es t) _ h in and_from _ _ (stable_grows es t p.0) (all_stable_grow es ts p.1)

  spoils_back : (es : List Effect) (l : Literal) → spoils world.signature big es l ≡ true → spoils world.signature d es l ≡ true
  unfolding spoils
  spoils_back es l h = ⊎_elim (λ k. or_left _ _ (back _ _ (all_stable_grow es l.arguments) k)) (λ k. or_right _ _ (denied_back l.relation l.arguments l.positive k)) (or_cases (not (are_stable world.signature big es l.arguments)) _ h)
    where
      denied_back : (r : Relation) (ts : List Term) (b : Bool) → may_be_denied world.signature big es r ts b ≡ true → may_be_denied world.signature d es r ts b ≡ true
      denied_back (Named p) ts true k = some_back _ _ (false_back p ts) es k
      denied_back (Named p) ts false k = some_back _ _ (true_back p ts) es k
      denied_back Equality ts b k = k

  -- ---- forms

  inner_forms_within : (t : Inner) → Within (inner_forms d.kf t) (inner_forms big.kf t)
  inner_forms_within (Object e) = λ x i. i
  inner_forms_within (Parameter e) = λ x i. i
  inner_forms_within (Apply f ds) = within_append (Apply f ds ∷ []) _ (Apply f ds ∷ []) _ (λ x i. i) (within_map Object _ _ (values_within world.signature d.kf big.kf within (one_value world.signature big inhabited saturated fine) f ds))

  argument_forms_within : (ts : List Inner) → Within (argument_forms d.kf ts) (argument_forms big.kf ts)
  argument_forms_within = within_choices (inner_forms d.kf) (inner_forms big.kf) inner_forms_within

  term_forms_within : (t : Term) → Within (term_forms d.kf t) (term_forms big.kf t)
  term_forms_within (Object e) = λ x i. i
  term_forms_within (Parameter e) = λ x i. i
  term_forms_within (Apply f ts) = λ x i.
      let r = in_flat_mapped (λ us. Apply f us ∷ map Object (option_map_or (values_at d.kf f) (all_some (map as_object us)) [])) (argument_forms d.kf ts) x i in
      in_flat (λ us. Apply f us ∷ map Object (option_map_or (values_at big.kf f) (all_some (map as_object us)) [])) (argument_forms big.kf ts) r.0 x (argument_forms_within ts r.0 r.1)
      (within_append (Apply f r.0 ∷ []) _ (Apply f r.0 ∷ []) _ (λ x i. i)
      (within_map Object (option_map_or (values_at d.kf f) (all_some (map as_object r.0)) []) (option_map_or (values_at big.kf f) (all_some (map as_object r.0)) [])
      (elim (all_some (map as_object r.0)) as (λ o. Within (option_map_or (values_at d.kf f) o []) (option_map_or (values_at big.kf f) o [])) [ None ↦ λ x i. i | Some ds ↦ values_within world.signature d.kf big.kf within (one_value world.signature big inhabited saturated fine) f ds ])) x r.2)

  within_filtered : {X : Type 0} (p q : X → Bool) → ((x : X) → p x ≡ true → q x ≡ true) → (xs ys : List X) → Within xs ys → Within (filter p xs) (filter q ys)
  within_filtered p q f xs ys w x i = let r = in_filtered p xs x i in in_filter q ys x (w x r.0) (f x r.1)

  stable_forms_within : (es : List Effect) (ts : List Term) → Within (stable_forms world.signature d es ts) (stable_forms world.signature big es ts)
  stable_forms_within es ts = within_filtered _ _ (all_stable_grow es) _ _ (within_choices (term_forms d.kf) (term_forms big.kf) term_forms_within ts)

  target_forms_within : (es : List Effect) (t : Target) → Within (target_forms world.signature d es t) (target_forms world.signature big es t)
  target_forms_within es (Set a) = within_map _ _ _ (stable_forms_within es a.arguments)
  target_forms_within es (Unset a) = within_map _ _ _ (stable_forms_within es a.arguments)
  target_forms_within es (Clear x) = λ l i. i
  target_forms_within es (Assign f ts value) = λ l i.
      let places = filter (λ us. are_stable world.signature d es (map term_of us)) (argument_forms d.kf ts) in
      let r = in_flat_mapped (λ us. map (equation (Apply f us)) (filter (is_stable world.signature d es) (term_forms d.kf value))) places l i in
      in_flat (λ us. map (equation (Apply f us)) (filter (is_stable world.signature big es) (term_forms big.kf value))) (filter (λ us. are_stable world.signature big es (map term_of us)) (argument_forms big.kf ts)) r.0 l
      (within_filtered (λ us. are_stable world.signature d es (map term_of us)) (λ us. are_stable world.signature big es (map term_of us)) (λ us. all_stable_grow es (map term_of us)) (argument_forms d.kf ts) (argument_forms big.kf ts) (argument_forms_within ts) r.0 r.1)
      (within_map (equation (Apply f r.0)) _ _ (within_filtered (is_stable world.signature d es) (is_stable world.signature big es) (stable_grows es) (term_forms d.kf value) (term_forms big.kf value) (term_forms_within value)) l r.2)

  undoes_back : (t x : Target) → undoes world.signature big t x ≡ true → undoes world.signature d t x ≡ true
  undoes_back (Set a) x h = false_back a.predicate a.arguments x h
  undoes_back (Unset a) x h = true_back a.predicate a.arguments x h
  undoes_back (Assign f ts v) x h = change_back f ts x h
  undoes_back (Clear y) x h = h

  makes_back : (t x : Target) → makes_same world.signature big t x ≡ true → makes_same world.signature d t x ≡ true
  makes_back (Set a) x h = true_back a.predicate a.arguments x h
  makes_back (Unset a) x h = false_back a.predicate a.arguments x h
  makes_back (Assign f ts v) x h = let p = and_parts (may_change world.signature big.kf f ts x) _ h in and_from _ _ (change_back f ts x p.0) (alike_back x p.1)
    where
      alike_back : (x : Target) → assigns_alike world.signature big v x ≡ true → assigns_alike world.signature d v x ≡ true
      alike_back (Assign g us new) k = back _ _ (differ_grows new v) k
      alike_back (Set a) k = k
      alike_back (Unset a) k = k
      alike_back (Clear y) k = k
  makes_back (Clear y) x h = h

  within_cond : {X : Type 0} (a b : Bool) (xs ys : List X) → (a ≡ true → b ≡ true) → Within xs ys → Within (cond a xs []) (cond b ys [])
  within_cond true b xs ys f w x i = subst (λ c. IsIn x (cond c ys [])) (sym (f refl)) (w x i)
  within_cond false b xs ys f w x i = absurd i

  -- ---- the five rules

  lasting_within : (es : List Effect) → Within (lasting world.signature es d) (lasting world.signature es big)
  lasting_within es = within_filtered _ _ (λ l h. back _ _ (spoils_back es l) h) d.kf big.kf within

  fired_within : (es : List Effect) (q : Effect × List Effect) → Within (fired world.signature es d q) (fired world.signature es big q)
  fired_within es q =
      within_cond _ _ _ _ (λ h. let p = and_parts (list_all (holds world.signature d) q.0.condition) _ h in and_from _ _ (all_held q.0.condition p.0) (back _ _ (some_back _ _ (undoes_back q.0.target) q.1) p.1))
      (target_forms_within es q.0.target)

  pub forward_within : (i : Instance) → Within (forward world i d) (forward world i big)
  forward_within i =
      let es = effects_of world i in
      within_append _ _ _ _ (lasting_within es) (λ l j. let r = in_flat_mapped (fired world.signature es d) (with_later es) l j in in_flat (fired world.signature es big) (with_later es) r.0 l r.1 (fired_within es r.0 l r.2))

  module _ (after after' : Five) (later : (l : Literal) → holds world.signature after l ≡ true → holds world.signature after' l ≡ true) (more : Within after.kf after'.kf) where
    any_grows : {X : Type 0} (p q : X → Bool) (xs ys : List X) → ((x : X) → p x ≡ true → q x ≡ true) → Within xs ys → list_any p xs ≡ true → list_any q ys ≡ true
    any_grows p q xs ys f w h = let r = found_in p xs h in any_in q ys r.0 (w r.0 r.1) (f r.0 r.2)

    pub backward_within : (i : Instance) → Within (backward world i d after) (backward world i big after')
    backward_within i =
        let es = effects_of world i in
        within_append _ _ _ _ (within_filtered _ _ (λ l h. back _ _ (spoils_back es (negated l)) h) after.kf after'.kf more)
        (within_append _ _ _ _
        (λ l j. let r = in_flat_mapped (must_have_fired world.signature es d after) (with_others es) l j in in_flat (must_have_fired world.signature es big after') (with_others es) r.0 l r.1
        (within_cond _ _ r.0.0.condition r.0.0.condition
        (λ h. let b = and_parts (list_any (λ l. holds world.signature d (negated l) && holds world.signature after l) (target_forms world.signature d es r.0.0.target)) _ h in
        and_from _ _ (any_grows (λ l. holds world.signature d (negated l) && holds world.signature after l) (λ l. holds world.signature big (negated l) && holds world.signature after' l) _ _ (λ l k. let c = and_parts (holds world.signature d (negated l)) _ k in and_from _ _ (held (negated l) c.0) (later l c.1)) (target_forms_within es r.0.0.target) b.0)
        (back _ _ (some_back _ _ (makes_back r.0.0.target) r.0.1) b.1))
        (λ x k. k) l r.2))
        (λ l j. let r = in_flat_mapped (cannot_have_fired world.signature es d after) (with_later es) l j in in_flat (cannot_have_fired world.signature es big after') (with_later es) r.0 l r.1
        (within_cond _ _ _ _
        (λ h. let b = and_parts (list_any (λ l. holds world.signature after (negated l)) (target_forms world.signature d es r.0.0.target)) _ h in
        and_from _ _ (any_grows (λ l. holds world.signature after (negated l)) (λ l. holds world.signature after' (negated l)) _ _ (λ l k. later (negated l) k) (target_forms_within es r.0.0.target) b.0)
        (back _ _ (some_back _ _ (undoes_back r.0.0.target) r.0.1) b.1))
        (λ x k. let c = in_flat_mapped (λ (c : Literal × List Literal). cond (list_all (holds world.signature d) c.1) (negated c.0 ∷ []) []) (with_others r.0.0.condition) x k in
        in_flat (λ (c : Literal × List Literal). cond (list_all (holds world.signature big) c.1) (negated c.0 ∷ []) []) (with_others r.0.0.condition) c.0 x c.1 (within_cond _ _ _ _ (all_held c.0.1) (λ y m. m) x c.2)) l r.2)))

-- ---- whole families

module _ (p : Problem) (inhabited : HasValues p.signature) where
  grown_within : (d e : Five) (news : List Literal) → Within d.kf e.kf → d.kx ≡ e.kx → d.lcw ≡ e.lcw → IsSaturated p.signature e → first_clash p.signature e ≡ None → Within news e.kf → Within (grown p.signature d news).kf e.kf
  grown_within d e news w g r s f n l i =
      ⊎_elim (w l)
      (λ j. ⊎_elim (additions_within p.signature e inhabited s f d w g r l) (n l) (in_appended (additions p.signature d) news l j))
      (in_added literal_cmp_total literal_cmp_tells d.kf (additions p.signature d ++ news) l i)

  head_within : (d : Five) (xs : List (Instance × Five)) (e : Five) (ys : List (Instance × Five)) → WithinAlong d xs e ys → Within d.kf e.kf × (d.kx ≡ e.kx) × (d.lcw ≡ e.lcw)
  head_within d [] e [] w = w
  head_within d (x ∷ xs) e (y ∷ ys) w = w.0
  head_within d [] e (y ∷ ys) w = absurd w
  head_within d (x ∷ xs) e [] w = absurd w

  head_closed : (e : Five) (ys : List (Instance × Five)) → ClosedAlong p e ys → IsSaturated p.signature e × (first_clash p.signature e ≡ None)
  head_closed e [] c = c
  head_closed e (y ∷ ys) c = c.0

  from_next_within : (d : Five) (xs : List (Instance × Five)) (e : Five) (ys : List (Instance × Five)) → WithinAlong d xs e ys → ClosedAlong p e ys → Within (from_next p d xs) e.kf
  from_next_within d [] e ys w c = λ l i. absurd i
  from_next_within d (x ∷ xs) e (y ∷ ys) w c = λ l i.
      let a = head_within x.1 xs y.1 ys w.2 in
      let b = head_closed y.1 ys c.3 in
      c.2 l (backward_within p e inhabited c.0.0 c.0.1 d w.0.0 w.0.1 w.0.2 x.1 y.1 (held p y.1 inhabited b.0 b.1 x.1 a.0 a.1 a.2) a.0 y.0 l (subst (λ i. IsIn l (backward p i d x.1)) w.1 i))
  from_next_within d (x ∷ xs) e [] w c = absurd w

  -- a round stays within
  steps_within : (before d : Five) (xs : List (Instance × Five)) (e : Five) (ys : List (Instance × Five)) → WithinAlong before xs e ys → Within d.kf e.kf → d.kx ≡ e.kx → d.lcw ≡ e.lcw → ClosedAlong p e ys → WithinAlong d (settled_steps p before xs) e ys
  steps_within before d [] e [] w k g r c = (k, g, r)
  steps_within before d (x ∷ xs) e (y ∷ ys) w k g r c =
      let a = head_within x.1 xs y.1 ys w.2 in
      let b = head_closed y.1 ys c.3 in
      let news : Within (forward p x.0 before ++ from_next p x.1 xs) y.1.kf = λ l i.
      ⊎_elim (λ j. c.1 l (forward_within p e inhabited c.0.0 c.0.1 before w.0.0 w.0.1 w.0.2 y.0 l (subst (λ i. IsIn l (forward p i before)) w.1 j))) (from_next_within x.1 xs y.1 ys w.2 c.3 l) (in_appended (forward p x.0 before) (from_next p x.1 xs) l i) in
      ((k, g, r), w.1, steps_within x.1 (grown p.signature x.1 (forward p x.0 before ++ from_next p x.1 xs)) xs y.1 ys w.2 (grown_within x.1 y.1 (forward p x.0 before ++ from_next p x.1 xs) a.0 a.1 a.2 b.0 b.1 news) a.1 a.2 c.3)
  steps_within before d [] e (y ∷ ys) w k g r c = absurd w
  steps_within before d (x ∷ xs) e [] w k g r c = absurd w

  round_stays : (h big : History) → WithinAlong h.start h.steps big.start big.steps → ClosedAlong p big.start big.steps → WithinAlong (settle_round p h).start (settle_round p h).steps big.start big.steps
  unfolding settle_round
  round_stays h big w c =
      let a = head_within h.start h.steps big.start big.steps w in
      let b = head_closed big.start big.steps c in
      steps_within h.start (grown p.signature h.start (from_next p h.start h.steps)) h.steps big.start big.steps w
      (grown_within h.start big.start (from_next p h.start h.steps) a.0 a.1 a.2 b.0 b.1 (from_next_within h.start h.steps big.start big.steps w c)) a.1 a.2 c

  -- the end of settling is within every such family: it is the least
  pub settled_least : (n : ℕ) (h big : History) → WithinAlong h.start h.steps big.start big.steps → ClosedAlong p big.start big.steps → WithinAlong (settle_rounds p n h).start (settle_rounds p n h).steps big.start big.steps
  settled_least zero h big w c = w
  settled_least (suc n) h big w c = round_stays (settle_rounds p n h) big (settled_least n h big w c) c
