-- A step that passes the test hides nothing.
use Rattle.std.proofs.Common.{◌≡◌, ◌⊎◌, ◌&&◌, ◌||◌, Bool, true, false, not, is_some, List, Option, Some, None, Ordering, Less, Equal, Greater, is_eq, refl, sym, ap, ◌∙◌, subst, inl, inr, ⊎_elim, true≢false}
use Rattle.std.specs.List.{list_any, list_all, flat_map}
use Rattle.std.specs.Option.{option_map_or}
use Rattle.std.proofs.lemmas.Bool.{or_cases, and_parts, not-true}
use Rattle.std.proofs.lemmas.Option.{none-some, same_Some}
use Rattle.pks_terms.specs.Sets.{Each, IsIn}
use Rattle.pks_terms.specs.Syntax.{Apply, Term, as_object, Literal, negated, affirmed, denied}
use Rattle.pks_terms.specs.Orders.{literal_eq, conj_cmp, equation}
use Rattle.pks_terms.specs.Databases.{Entry, entry_cmp, Five, normal_literal}
use Rattle.pks_terms.specs.Closure.{applications_in}
use Rattle.pks_terms.specs.Actions.{Target, Set, Unset, Clear, Assign, Effect, Instance}
use Rattle.pks_terms.specs.Progress.{entry_terms}
use Rattle.pks_terms.specs.Problems.{Problem}
use Rattle.pks_terms.specs.Settling.{effects_of}
use Rattle.pks_terms.proofs.ListLaws.{each_from_all, found_in}
use Rattle.pks_terms.proofs.OrderLaws.{same_literal, same_term, conj_cmp_tells, entry_cmp_tells}
use Rattle.pks_terms.specs.Objects.{are_objects, is_named, is_of_objects}
use Rattle.pks_laws_forget.specs.Transparent.{AreObjects, IsOfObjects, gives_value, IsOfPlace, left_of, Makes, is_about, assigns_in, is_elsewhere, leaves, Assigns, SurelyFires, NeverFires, effects_by, IsDecided, AreUnassigned, IsReadAlike, IsWritten, IsAssigned, IsUntouched, IsMoved, IsLeft, IsKept, LastsAsGroup, IsTransparent}
use Rattle.pks_laws_forget.specs.Testing.{has, made_by, fires_surely, fires_never, is_decided_to, is_decided, are_unassigned, stands_written, is_read_alike, is_written, assigns, is_assigned, is_untouched, is_moved, is_left, is_kept, lasts_as_group, lasts_as_region, hides_nothing}
use Rattle.pks_laws_forget.proofs.Objects.{of_objects}

-- each element that passes has P
each_passes : {X : Type 0} (P : X → Type 0) (q : X → Bool) → ((x : X) → q x ≡ true → P x) → (xs : List X) → list_all q xs ≡ true → Each P xs
each_passes P q f xs h = each_from_all P q f xs h

pub equal_of : (o : Ordering) → is_eq o ≡ true → o ≡ Equal
equal_of Less h = absurd (true≢false (sym h))
equal_of Equal h = refl
equal_of Greater h = absurd (true≢false (sym h))

pub has_in : (d : Five) (l : Literal) → has d l ≡ true → IsIn l d.kf
has_in d l h = let f = found_in (literal_eq l) d.kf h in subst (λ x. IsIn x d.kf) (sym (same_literal l f.0 f.2)) f.1

surely : (d : Five) (e : Effect) → fires_surely d e ≡ true → SurelyFires d e
surely d e h = each_passes (λ c. IsIn c d.kf) (has d) (has_in d) e.condition h

never : (d : Five) (e : Effect) → fires_never d e ≡ true → NeverFires d e
never d e h = let f = found_in (λ c. has d (negated c)) e.condition h in (f.0, f.1, has_in d (negated f.0) f.2)

makes : (x : Target) (l : Literal) → made_by x ≡ Some l → Makes x l
makes (Set a) l h = same_Some (affirmed a) l h
makes (Unset a) l h = same_Some (denied a) l h
makes (Assign f ts v) l h = same_Some (equation (Apply f ts) v) l h
makes (Clear y) l h = absurd (none-some l h)

fires_known : (before after : Five) (e : Effect) (l : Literal) → (fires_surely before e && has after l) ≡ true → SurelyFires before e × IsIn l after.kf
fires_known before after e l h = let p = and_parts (fires_surely before e) _ h in (surely before e p.0, has_in after l p.1)

decided_to : (before after : Five) (e : Effect) (l : Literal) → Makes e.target l → is_decided_to before after e l ≡ true → IsDecided before after e
decided_to before after e l m h =
    ⊎_elim
    (λ k.
    let p = and_parts (is_of_objects l) _ k in
    let o = of_objects l p.0 in
    record {
      made = l;
      makes = m;
      objects = inl o;
      known = ⊎_elim (λ f. inl (fires_known before after e l f)) (λ n. inr (never before e n, o)) (or_cases (fires_surely before e && has after l) _ p.1);
    })
    (λ k. let p = and_parts (gives_value l.relation l.arguments) _ k in record { made = l; makes = m; objects = inr p.0; known = inl (fires_known before after e l p.1) })
    (or_cases (is_of_objects l && ((fires_surely before e && has after l) || fires_never before e)) _ h)

decided : (before after : Five) (e : Effect) → is_decided before after e ≡ true → IsDecided before after e
decided before after e h = go (made_by e.target) refl h
  where
    go : (o : Option Literal) → made_by e.target ≡ o → option_map_or (is_decided_to before after e) o false ≡ true → IsDecided before after e
    go None q k = absurd (true≢false (sym k))
    go (Some l) q k = decided_to before after e l (makes e.target l q) k

unassigned : (es : List Effect) (ts : List Term) → are_unassigned es ts ≡ true → AreUnassigned es ts
unassigned es ts h = each_passes (λ e. list_any (λ t. assigns_in t e.target) ts ≡ false) (λ e. not (list_any (λ t. assigns_in t e.target) ts)) (λ e k. not-true _ k) es h

read_alike : (before after : Five) (es : List Effect) (e : Effect) → is_read_alike before after es e ≡ true → IsReadAlike before after es e
read_alike before after es e h = ⊎_elim (λ n. inl (never before e n)) (λ k. inr (go (made_by e.target) refl k)) (or_cases (fires_never before e) _ h)
  where
    go : (o : Option Literal) → made_by e.target ≡ o → option_map_or (stands_written after es) o false ≡ true → (l : Literal) × Makes e.target l × IsIn l after.kf × (IsOfPlace l ⊎ ((is_named l.relation ≡ true) × AreUnassigned es l.arguments))
    go None q k = absurd (true≢false (sym k))
    go (Some l) q k =
        let p = and_parts (has after l) _ k in
        (l, makes e.target l q, has_in after l p.0, ⊎_elim (λ g. inl g) (λ n. let r = and_parts (is_named l.relation) _ n in inr (r.0, unassigned es l.arguments r.1)) (or_cases (gives_value l.relation l.arguments) _ p.1))

written : (before : Five) (es : List Effect) (l : Literal) → is_written before es l ≡ true → IsWritten before es l
written before es l h =
    let f = found_in (λ e. fires_surely before e && option_map_or (λ m. literal_eq m l || literal_eq m (negated l)) (made_by e.target) false) es h in
    let p = and_parts (fires_surely before f.0) _ f.2 in
    record { effect = f.0; among = f.1; fires = surely before f.0 p.0; makes = go f.0.target (made_by f.0.target) refl p.1 }
  where
    go : (x : Target) (o : Option Literal) → made_by x ≡ o → option_map_or (λ m. literal_eq m l || literal_eq m (negated l)) o false ≡ true → Makes x l ⊎ Makes x (negated l)
    go x None q k = absurd (true≢false (sym k))
    go x (Some m) q k = ⊎_elim (λ e. inl (makes x l (q ∙ ap Some (same_literal m l e)))) (λ e. inr (makes x (negated l) (q ∙ ap Some (same_literal m (negated l) e)))) (or_cases (literal_eq m l) _ k)

assigned : (before : Five) (es : List Effect) (t : Term) → is_assigned before es t ≡ true → IsAssigned before es t
assigned before es t h =
    let f = found_in (λ e. fires_surely before e && assigns e.target t) es h in
    let p = and_parts (fires_surely before f.0) _ f.2 in
    record { effect = f.0; among = f.1; fires = surely before f.0 p.0; assigns = place f.0.target p.1 }
  where
    place : (x : Target) → assigns x t ≡ true → Assigns x t
    place (Assign f ts v) k = same_term (Apply f ts) t k
    place (Set a) k = absurd (true≢false (sym k))
    place (Unset a) k = absurd (true≢false (sym k))
    place (Clear y) k = absurd (true≢false (sym k))

untouched : (es : List Effect) (l : Literal) → is_untouched es l ≡ true → IsUntouched es l
untouched es l h =
    each_passes (λ e. (is_about l.relation e.target ≡ false) × (list_any (λ t. assigns_in t e.target) l.arguments ≡ false)) (λ e. not (is_about l.relation e.target) && not (list_any (λ t. assigns_in t e.target) l.arguments))
    (λ e k. let p = and_parts (not (is_about l.relation e.target)) _ k in (not-true _ p.0, not-true _ p.1)) es h

left : (es : List Effect) (l : Literal) → is_left es l ≡ true → IsLeft es l
left es l h = each_passes (λ e. leaves l.relation l.arguments e.target ≡ true) (λ e. leaves l.relation l.arguments e.target) (λ e k. k) es h

moved : (before : Five) (es : List Effect) (l : Literal) → is_moved before es l ≡ true → IsMoved before es l
moved before es l h = let f = found_in (is_assigned before es) (flat_map applications_in l.arguments) h in (f.0, f.1, assigned before es f.0 f.2)

kept : (before after : Five) (es : List Effect) (l : Literal) → is_kept before after es l ≡ true → IsKept before after es l
kept before after es l h =
    ⊎_elim
    (λ k. let p = and_parts (is_of_objects l) _ k in inl (of_objects l p.0, ⊎_elim (λ i. inl (has_in after l i)) (λ w. inr (written before es l w)) (or_cases (has after l) _ p.1)))
    (λ r. ⊎_elim
    (λ k.
    let p = and_parts (gives_value l.relation l.arguments) _ k in
    inr (inl (
      p.0,
      ⊎_elim (λ a. inl (assigned before es (left_of l) a))
          (λ j. let q = and_parts (has after l) _ j in inr (has_in after l q.0, each_passes (λ e. is_elsewhere (left_of l) e.target ≡ true) (λ e. is_elsewhere (left_of l) e.target) (λ e z. z) es q.1))
          (or_cases (is_assigned before es (left_of l)) _ p.1),
    )))
    (λ k. ⊎_elim
    (λ u. let p = and_parts (is_untouched es l) _ u in inr (inr (inl (untouched es l p.0, has_in after l p.1))))
    (λ c. let p = and_parts (is_of_objects (normal_literal before.kf l)) _ c in inr (inr (inr (of_objects (normal_literal before.kf l) p.0, ⊎_elim (λ i. inl (has_in after l i)) (λ m. inr (moved before es l m)) (or_cases (has after l) _ p.1)))))
    (or_cases (is_untouched es l && has after l) _ k))
    (or_cases (gives_value l.relation l.arguments && (is_assigned before es (left_of l) || (has after l && list_all (λ e. is_elsewhere (left_of l) e.target) es))) _ r))
    (or_cases (is_of_objects l && (has after l || is_written before es l)) _ h)

group_lasts : (before after : Five) (es : List Effect) (g : List Literal) → lasts_as_group before after es g ≡ true → LastsAsGroup before after es g
group_lasts before after es g h =
    let p = and_parts (list_all is_of_objects g) _ h in (
      each_passes IsOfObjects is_of_objects of_objects g p.0,
      ⊎_elim
          (λ k.
          let q = and_parts (list_any (λ h. is_eq (conj_cmp g h)) after.kx) _ k in
          let f = found_in (λ h. is_eq (conj_cmp g h)) after.kx q.0 in
          inl (subst (λ x. IsIn x after.kx) (sym (conj_cmp_tells g f.0 (equal_of (conj_cmp g f.0) f.2))) f.1, each_passes (IsLeft es) (is_left es) (left es) g q.1))
          (λ k. inr (each_passes (λ m. IsIn m before.kf ⊎ IsIn (negated m) before.kf) (λ m. has before m || has before (negated m)) (λ m z. ⊎_elim (λ i. inl (has_in before m i)) (λ i. inr (has_in before (negated m) i)) (or_cases (has before m) _ z)) g k))
          (or_cases (list_any (λ h. is_eq (conj_cmp g h)) after.kx && list_all (is_left es) g) _ p.1),
    )

pub region_lasts : (after : Five) (r : Entry) → lasts_as_region after r ≡ true → AreObjects (entry_terms r) × IsIn r after.lcw
region_lasts after r h =
    let p = and_parts (are_objects (entry_terms r)) _ h in
    let f = found_in (λ q. is_eq (entry_cmp r q)) after.lcw p.1 in
    (each_passes (λ t. is_some (as_object t) ≡ true) (λ t. is_some (as_object t)) (λ t k. k) (entry_terms r) p.0, subst (λ x. IsIn x after.lcw) (sym (entry_cmp_tells r f.0 (equal_of (entry_cmp r f.0) f.2))) f.1)

pub tested : (p : Problem) (before : Five) (i : Instance) (after : Five) → hides_nothing p before i after ≡ true → IsTransparent p before i after
tested p before i after h =
    let es = effects_by p before i in
    let a = and_parts (list_all (is_decided before after) es) _ h in
    let w = and_parts (list_all (is_read_alike before after es) (effects_of p i)) _ a.1 in
    let b = and_parts (list_all (is_kept before after es) before.kf) _ w.1 in
    let c = and_parts (list_all (lasts_as_group before after es) before.kx) _ b.1 in
    record {
      effects = each_passes (IsDecided before after) (is_decided before after) (decided before after) es a.0;
      written = each_passes (IsReadAlike before after es) (is_read_alike before after es) (read_alike before after es) (effects_of p i) w.0;
      literals = each_passes (IsKept before after es) (is_kept before after es) (kept before after es) before.kf b.0;
      groups = each_passes (LastsAsGroup before after es) (lasts_as_group before after es) (group_lasts before after es) before.kx c.0;
      regions = each_passes (λ r. AreObjects (entry_terms r) × IsIn r after.lcw) (lasts_as_region after) (region_lasts after) before.lcw c.1;
    }
