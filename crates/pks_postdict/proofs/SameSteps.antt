-- Between moments that are put in normal form the rules give what they gave before.
use Rattle.std.proofs.Common.{◌≡◌, ◌&&◌, ◌||◌, ◌≤◌, ◌++◌, ℕ, Bool, true, false, not, cond, List, [], ◌∷◌, map, filter, flat_map, length, None, refl, sym, ap, subst}
use Rattle.std.specs.List.{list_any, list_all}
use Rattle.pks_terms.specs.Sets.{IsIn, with_others, with_later, choices_from}
use Rattle.pks_terms.specs.Syntax.{Apply, Term, term_of, Relation, Named, Equality, Literal, negated}
use Rattle.pks_terms.specs.Orders.{literal, equation, number_of, arguments_of}
use Rattle.pks_terms.specs.Signatures.{Signature, HasValues}
use Rattle.pks_terms.specs.Databases.{Five, values_at, holds}
use Rattle.pks_terms.specs.Closure.{applications_in, tidied, first_clash}
use Rattle.pks_terms.specs.Actions.{Target, Set, Unset, Clear, Assign, Effect, Instance}
use Rattle.pks_terms.specs.Spoiling.{may_fire, may_make_true, may_make_false, may_change, some_may, may_be_changed, is_stable, are_stable, may_be_denied, spoils}
use Rattle.pks_terms.specs.Problems.{Problem}
use Rattle.pks_terms.specs.Settling.{argument_forms, term_forms, stable_forms, target_forms, undoes, makes_same, lasting, lasted, can_be_undone, is_made_otherwise, fired, must_have_fired, cannot_have_fired, effects_of, forward, backward}
use Rattle.pks_terms.specs.Saturated.{Within, IsSaturated, ClosedAlong}
use Rattle.pks_laws.proofs.ClosedAgain.{holds-tidied}
use Rattle.pks_laws.proofs.Least.{one_value}
use Rattle.pks_postdict.specs.Read.{IsReadStep, AreRead}

module _ (s : Signature) (d : Five) (one : (f : ℕ) (ds : List ℕ) (e e' : ℕ) → IsIn e (values_at d.kf f ds) → IsIn e' (values_at d.kf f ds) → e ≡ e') (es : List Effect) where
  tidy : Five
  tidy = tidied d

  fire_same : (e : Effect) → may_fire s (tidied d) e ≡ may_fire s d e
  unfolding may_fire
  fire_same e = λ i. not (list_any (λ l. holds-tidied s d one (negated l) i) e.condition)

  some_same : (f : Target → Bool) (xs : List Effect) → some_may s (tidied d) f xs ≡ some_may s d f xs
  some_same f xs = λ i. list_any (λ e. fire_same e i && f e.target) xs

  stable_same : (t : Term) → is_stable s (tidied d) es t ≡ is_stable s d es t
  unfolding is_stable may_be_changed tidied
  stable_same t = λ i. list_all (λ u. not (some_same (may_change s d.kf (number_of u) (arguments_of u)) es i)) (applications_in t)

  denied_same : (r : Relation) (ts : List Term) (b : Bool) → may_be_denied s (tidied d) es r ts b ≡ may_be_denied s d es r ts b
  unfolding tidied
  denied_same (Named p) ts true = some_same (may_make_false s d.kf p ts) es
  denied_same (Named p) ts false = some_same (may_make_true s d.kf p ts) es
  denied_same Equality ts b = refl

  spoils_same : (l : Literal) → spoils s (tidied d) es l ≡ spoils s d es l
  unfolding spoils
  spoils_same l = λ i. not (list_all (λ t. stable_same t i) l.arguments) || denied_same l.relation l.arguments l.positive i

  lasting_same : lasting s es (tidied d) ≡ lasting s es d
  unfolding tidied
  lasting_same = λ i. filter (λ l. not (spoils_same l i)) d.kf

  lasted_same : (e : Five) → lasted s es (tidied d) (tidied e) ≡ lasted s es d e
  unfolding tidied
  lasted_same e = λ i. filter (λ l. not (spoils_same (negated l) i)) e.kf

  forms_same : (x : Target) → target_forms s (tidied d) es x ≡ target_forms s d es x
  unfolding tidied
  forms_same (Set a) = λ i. map (λ ts. literal (Named a.predicate) ts true) (filter (λ ts. list_all (λ t. stable_same t i) ts) (choices_from (map (term_forms d.kf) a.arguments)))
  forms_same (Unset a) = λ i. map (λ ts. literal (Named a.predicate) ts false) (filter (λ ts. list_all (λ t. stable_same t i) ts) (choices_from (map (term_forms d.kf) a.arguments)))
  forms_same (Clear x) = refl
  forms_same (Assign f ts value) = λ i. flat_map (λ us. map (equation (Apply f us)) (filter (λ t. stable_same t i) (term_forms d.kf value))) (filter (λ us. list_all (λ t. stable_same t i) (map term_of us)) (argument_forms d.kf ts))

  undoes_same : (x : Target) → undoes s (tidied d) x ≡ undoes s d x
  unfolding tidied
  undoes_same (Set a) = refl
  undoes_same (Unset a) = refl
  undoes_same (Clear x) = refl
  undoes_same (Assign f ts value) = refl

  makes_one : (x y : Target) → makes_same s (tidied d) x y ≡ makes_same s d x y
  unfolding tidied
  makes_one (Set a) y = refl
  makes_one (Unset a) y = refl
  makes_one (Clear x) y = refl
  makes_one (Assign f ts value) (Set a) = refl
  makes_one (Assign f ts value) (Unset a) = refl
  makes_one (Assign f ts value) (Clear x) = refl
  makes_one (Assign f ts value) (Assign g us new) = refl

  undone_same : (q : Effect × List Effect) → can_be_undone s (tidied d) q ≡ can_be_undone s d q
  undone_same q = λ i. list_any (λ e. fire_same e i && undoes_same q.0.target i e.target) q.1

  otherwise_same : (q : Effect × List Effect) → is_made_otherwise s (tidied d) q ≡ is_made_otherwise s d q
  otherwise_same q = λ i. list_any (λ e. fire_same e i && makes_one q.0.target e.target i) q.1

  fired_same : (q : Effect × List Effect) → fired s es (tidied d) q ≡ fired s es d q
  fired_same q = λ i. cond (list_all (λ l. holds-tidied s d one l i) q.0.condition && not (undone_same q i)) (forms_same q.0.target i) []

  module _ (e : Five) (one_after : (f : ℕ) (ds : List ℕ) (a b : ℕ) → IsIn a (values_at e.kf f ds) → IsIn b (values_at e.kf f ds) → a ≡ b) where
    must_same : (q : Effect × List Effect) → must_have_fired s es (tidied d) (tidied e) q ≡ must_have_fired s es d e q
    must_same q = λ i. cond (list_any (λ l. holds-tidied s d one (negated l) i && holds-tidied s e one_after l i) (forms_same q.0.target i) && not (otherwise_same q i)) q.0.condition []

    cannot_same : (q : Effect × List Effect) → cannot_have_fired s es (tidied d) (tidied e) q ≡ cannot_have_fired s es d e q
    cannot_same q = λ i.
        cond (list_any (λ l. holds-tidied s e one_after (negated l) i) (forms_same q.0.target i) && not (undone_same q i))
        (flat_map (λ c. cond (list_all (λ l. holds-tidied s d one l i) c.1) (negated c.0 ∷ []) []) (with_others q.0.condition)) []

module _ (p : Problem) (inhabited : HasValues p.signature) where
  -- the databases are saturated and don't clash
  abbrev IsFine : Five → Type 0
  IsFine d = IsSaturated p.signature d × (first_clash p.signature d ≡ None)

  one_in : (d : Five) → IsFine d → (f : ℕ) (ds : List ℕ) (e e' : ℕ) → IsIn e (values_at d.kf f ds) → IsIn e' (values_at d.kf f ds) → e ≡ e'
  one_in d k = one_value p.signature d inhabited k.0 k.1

  forward_same : (i : Instance) (d : Five) → IsFine d → forward p i (tidied d) ≡ forward p i d
  forward_same i d k =
      let es = effects_of p i in
      λ j. lasting_same p.signature d (one_in d k) es j ++ flat_map (λ q. fired_same p.signature d (one_in d k) es q j) (with_later es)

  backward_same : (i : Instance) (d e : Five) → IsFine d → IsFine e → backward p i (tidied d) (tidied e) ≡ backward p i d e
  backward_same i d e k m =
      let es = effects_of p i in
      λ j.
      lasted_same p.signature d (one_in d k) es e j
      ++ (flat_map (λ q. must_same p.signature d (one_in d k) es e (one_in e m) q j) (with_others es) ++ flat_map (λ q. cannot_same p.signature d (one_in d k) es e (one_in e m) q j) (with_later es))

  first_fine : (d : Five) (xs : List (Instance × Five)) → ClosedAlong p d xs → IsFine d
  first_fine d [] c = c
  first_fine d (x ∷ xs) c = c.0

  step_read : (d : Five) (i : Instance) (e : Five) → IsFine d → IsFine e → IsReadStep p d i e → IsReadStep p (tidied d) i (tidied e)
  unfolding tidied
  step_read d i e k m r = (
    subst (λ ls. Within ls e.kf) (sym (forward_same i d k)) r.0,
    subst (λ ls. Within ls d.kf) (sym (backward_same i d e k m)) r.1,
  )

  -- a family that is closed is read at each step, also in normal form
  pub closed_read : (d : Five) (xs : List (Instance × Five)) → ClosedAlong p d xs → AreRead p 0 (tidied d) (map (λ step. (step.0, tidied step.1)) xs)
  closed_read d [] c = tt
  closed_read d (x ∷ xs) c = (λ h. step_read d x.0 x.1 c.0 (first_fine x.1 xs c.3) (c.1, c.2), closed_read x.1 xs c.3)
