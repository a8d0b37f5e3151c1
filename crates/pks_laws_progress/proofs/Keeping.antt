-- What an action keeps of closed databases is closed.
use Rattle.std.proofs.Common.{◌≡◌, ◌&&◌, ◌||◌, ◌==◌, ℕ, Bool, true, false, not, cond, find, List, [], ◌∷◌, map, filter, filter_map, flat_map, Option, Some, None, option_map, refl, sym, ap, ◌∙◌, subst, inl, inr, ⊎_elim, true≢false}
use Rattle.std.specs.List.{list_any, list_all}
use Rattle.std.proofs.lemmas.Bool.{or_cases, or_left, or_right, or_parts, and_parts, and_from, not-true, not_from_false, not-false}
use Rattle.std.proofs.lemmas.Option.{none-some, same_Some, option_and_then_some, cond_some}
use Rattle.pks_terms.specs.Sets.{Each, IsIn, insert_in, set_of, with_others}
use Rattle.pks_terms.specs.Syntax.{Term, object, Relation, Named, Equality, Literal, Atom, Pattern, negated}
use Rattle.pks_terms.specs.Orders.{atom_cmp, equation, inequation, literal, in_order}
use Rattle.pks_terms.specs.Totality.{atom_cmp_total}
use Rattle.pks_terms.specs.Signatures.{Signature, HasValues, range_of}
use Rattle.pks_terms.specs.Databases.{Entry, entry_cmp, Five, normal, some_differ, fits, is_shut_out, is_plain, is_closed_off, holds}
use Rattle.pks_terms.specs.Closure.{by_value, by_member, by_group, applications_in, is_last_left, by_range, additions, normal_atom, first_clash, IsClosed}
use Rattle.pks_terms.specs.Saturated.{Within, IsSaturated}
use Rattle.pks_terms.specs.Moments.{IsInOrder}
use Rattle.pks_terms.specs.Actions.{Target, Set, Unset, Clear, Assign, Effect}
use Rattle.pks_terms.specs.Spoiling.{may_fire, some_fixed_differ, is_stable, are_stable, spoils}
use Rattle.pks_terms.specs.Progress.{is_untouched, entry_terms, widened_by, widened, kept_entry}
use Rattle.pks_terms.proofs.ListLaws.{found_in, any_in, in_mapped, in_appended, in_flat_mapped, in_filtered, in_filter}
use Rattle.pks_terms.proofs.OrderLaws.{atom_cmp_tells, entry_cmp_tells}
use Rattle.pks_terms.proofs.SetLaws.{inserted_in, in_set_of}
use Rattle.pks_laws.proofs.Least.{in_left, in_right, in_flat, within_append, within_map, in_filter_mapped, holds_grows, additions_within}
use Rattle.pks_laws.proofs.ClosedAgain.{closed_saturated, closed_fine}
use Rattle.pks_laws_progress.proofs.Steps.{all_each, all_of, all_in_order, part_stable, step_unspoiled}

-- ---- more holds where more regions shut out more

module _ (s : Signature) (a b : Five) (grows : (l : Literal) → holds s a l ≡ true → holds s b l ≡ true) where
  all_grow : (ms : List Literal) → list_all (λ m. holds s a (negated m)) ms ≡ true → list_all (λ m. holds s b (negated m)) ms ≡ true
  all_grow [] h = refl
  all_grow (m ∷ ms) h = let p = and_parts (holds s a (negated m)) _ h in and_from _ _ (grows (negated m) p.0) (all_grow ms p.1)

  within_cond : {X : Type 0} (c e : Bool) (xs : List X) → (c ≡ true → e ≡ true) → Within (cond c xs []) (cond e xs [])
  within_cond true e xs f x i = subst (λ u. IsIn x (cond u xs [])) (sym (f refl)) i
  within_cond false e xs f x i = absurd i

  by_member_within : (q : Literal × List Literal) → Within (by_member s a q) (by_member s b q)
  by_member_within q = within_append _ _ _ _ (within_cond _ _ (q.0 ∷ []) (all_grow q.1)) (within_cond _ _ (map negated q.1) (grows q.0))

  left_grows : (t : Term) (os : List ℕ) (e : ℕ) → is_last_left s a t os e ≡ true → is_last_left s b t os e ≡ true
  left_grows t [] e h = refl
  left_grows t (o ∷ os) e h =
      let p = and_parts ((o == e) || holds s a (inequation t (object o))) _ h in
      and_from _ _ (⊎_elim (λ q. or_left _ _ q) (λ q. or_right _ _ (grows (inequation t (object o)) q)) (or_cases (o == e) _ p.0)) (left_grows t os e p.1)

  by_range_within : (t : Term) → Within (by_range s a t) (by_range s b t)
  unfolding by_range
  by_range_within t =
      within_map (λ e. equation t (object e)) (filter (is_last_left s a t (range_of s t)) (range_of s t)) (filter (is_last_left s b t (range_of s t)) (range_of s t))
      (λ e i. let r = in_filtered (is_last_left s a t (range_of s t)) (range_of s t) e i in in_filter (is_last_left s b t (range_of s t)) (range_of s t) e r.0 (left_grows t (range_of s t) e r.1))

-- ---- regions that last

module _ (s : Signature) (d : Five) (es : List Effect) where
  abbrev one_wider : Pattern → Effect → List Atom → Option (List Atom)
  one_wider x e listed = cond (may_fire s d e) (widened_by s d es x e.target listed) (Some listed)

  target_keeps : (x : Pattern) (t : Target) (listed more : List Atom) → widened_by s d es x t listed ≡ Some more → Within listed more
  target_keeps x (Set a) listed more h b i =
      elim ((a.predicate == x.predicate) && not (some_fixed_differ s d.kf x.slots a.arguments)) as (λ c. cond c (cond (are_stable s d es (map (normal d.kf) a.arguments)) (Some (insert_in atom_cmp (normal_atom d.kf a) listed)) None) (Some listed) ≡ Some more → IsIn b more) [
        | true ↦ λ r. subst (IsIn b) (cond_some (are_stable s d es (map (normal d.kf) a.arguments)) (insert_in atom_cmp (normal_atom d.kf a) listed) more r).1 (inserted_in atom_cmp_total atom_cmp_tells (normal_atom d.kf a) listed b (inr i))
        | false ↦ λ r. subst (IsIn b) (same_Some listed more r) i
      ] h
  target_keeps x (Unset a) listed more h b i = subst (IsIn b) (same_Some listed more h) i
  target_keeps x (Clear y) listed more h b i = subst (IsIn b) (same_Some listed more h) i
  target_keeps x (Assign f ts v) listed more h b i = subst (IsIn b) (same_Some listed more h) i

  one_keeps : (x : Pattern) (e : Effect) (listed more : List Atom) → one_wider x e listed ≡ Some more → Within listed more
  one_keeps x e listed more h b i =
      elim (may_fire s d e) as (λ c. cond c (widened_by s d es x e.target listed) (Some listed) ≡ Some more → IsIn b more) [
        | true ↦ λ r. target_keeps x e.target listed more r b i
        | false ↦ λ r. subst (IsIn b) (same_Some listed more r) i
      ] h

  widened_keeps : (x : Pattern) (rest : List Effect) (listed all : List Atom) → widened s d es x rest listed ≡ Some all → Within listed all
  widened_keeps x [] listed all h b i = subst (IsIn b) (same_Some listed all h) i
  widened_keeps x (e ∷ rest) listed all h b i =
      option_and_then_some (widened s d es x rest) (one_wider x e listed) all h (λ more k r. widened_keeps x rest more all r b (one_keeps x e listed more k b i))

  abbrev with_list : Pattern → List Atom → Entry
  with_list x listed = record { pattern = x; listed = listed }

  -- a region that lasts has its pattern and at least its list
  lasts : (r k : Entry) → kept_entry s d es r ≡ Some k → (r.pattern ≡ k.pattern) × Within r.listed k.listed
  lasts r k h =
      let c = cond_of (are_stable s d es (entry_terms r)) (option_map (with_list r.pattern) (widened s d es r.pattern es r.listed)) h in
      elim (widened s d es r.pattern es r.listed) as (λ o. widened s d es r.pattern es r.listed ≡ o → option_map (with_list r.pattern) o ≡ Some k → (r.pattern ≡ k.pattern) × Within r.listed k.listed) [
        | None ↦ λ q e. absurd (none-some k e)
        | Some all ↦ λ q e. subst (λ (x : Entry). (r.pattern ≡ x.pattern) × Within r.listed x.listed) (same_Some (with_list r.pattern all) k e) (refl, widened_keeps r.pattern es r.listed all q)
      ] refl c
    where
      cond_of : (b : Bool) (o : Option Entry) → cond b o None ≡ Some k → o ≡ Some k
      cond_of true o e = e
      cond_of false o e = absurd (none-some k e)

  shut_out_before : (kf : List Literal) (p : ℕ) (ts : List Term) (es' : List Entry) → Within es' (set_of entry_cmp (filter_map (kept_entry s d es) d.lcw)) → list_any (is_shut_out s kf p ts) es' ≡ true → list_any (is_shut_out s kf p ts) d.lcw ≡ true
  shut_out_before kf p ts es' w h =
      let f = found_in (is_shut_out s kf p ts) es' h in
      let r = in_filter_mapped (kept_entry s d es) d.lcw f.0 (in_set_of Rattle.pks_terms.specs.Totality.entry_cmp_total entry_cmp_tells (filter_map (kept_entry s d es) d.lcw) f.0 (w f.0 f.1)) in
      let l = lasts r.0 f.0 r.2 in
      let a = and_parts (f.0.pattern.predicate == p) _ f.2 in
      let b = and_parts (fits kf f.0.pattern.slots ts) _ a.1 in
      any_in (is_shut_out s kf p ts) d.lcw r.0 r.1
      (and_from _ _ (ap (λ (x : Pattern). x.predicate == p) l.0 ∙ a.0)
      (and_from _ _ (ap (λ (x : Pattern). fits kf x.slots ts) l.0 ∙ b.0)
      (all_of (λ (x : Atom). some_differ s kf x.arguments ts) r.0.listed (λ x i. all_each (λ (x : Atom). some_differ s kf x.arguments ts) f.0.listed b.1 x (l.1 x i)))))

-- ---- what lasts

pub in_with_others : (xs : List Literal) (q : Literal × List Literal) → IsIn q (with_others xs) → IsIn q.0 xs × Within q.1 xs
in_with_others [] q i = absurd i
in_with_others (x ∷ xs) q (inl e) = (inl (ap (λ (p : Literal × List Literal). p.0) e), subst (λ (p : Literal × List Literal). Within p.1 (x ∷ xs)) e (λ y i. inr i))
in_with_others (x ∷ xs) q (inr i) =
    let r = in_mapped (λ (p : Literal × List Literal). let z : Literal × List Literal = (p.0, x ∷ p.1) in z) (with_others xs) q i in
    let o = in_with_others xs r.0 r.1 in (
      inr (subst (λ (p : Literal × List Literal). IsIn p.0 xs) r.2 o.0),
      subst (λ (p : Literal × List Literal). Within p.1 (x ∷ xs)) r.2 (λ y j. ⊎_elim (λ e. inl e) (λ k. inr (o.1 y k)) j),
    )

pub in_cond : {X : Type 0} (b : Bool) (xs : List X) (x : X) → IsIn x (cond b xs []) → IsIn x xs
in_cond true xs x i = i
in_cond false xs x i = absurd i

pub none_from : {X : Type 0} (p : X → Bool) (xs : List X) → ((x : X) → IsIn x xs → p x ≡ true → ⊥) → find p xs ≡ None
none_from p [] h = refl
none_from {X} p (x ∷ xs) h =
    elim (p x) as (λ b. p x ≡ b → cond b (Some x) (find p xs) ≡ None) [
      | true ↦ λ q. absurd (h x (inl refl) q)
      | false ↦ λ q. none_from p xs (λ y i. h y (inr i))
    ] refl

pub none_found : {X : Type 0} (p : X → Bool) (xs : List X) → find p xs ≡ None → (x : X) → IsIn x xs → p x ≡ true → ⊥
none_found p [] h x i t = i
none_found {X} p (y ∷ ys) h x i t =
    elim (p y) as (λ b. p y ≡ b → cond b (Some y) (find p ys) ≡ None → ⊥) [
      | true ↦ λ q k. none-some y (sym k)
      | false ↦ λ q k. ⊎_elim (λ e. true≢false (sym t ∙ ap p (sym e) ∙ q)) (λ j. none_found p ys k x j t) i
    ] refl h

module _ (s : Signature) (d k : Five) (es : List Effect) (inhabited : HasValues s) (saturated : IsSaturated s d) (fine : first_clash s d ≡ None)
    (known : k.kf ≡ filter (λ l. not (spoils s d es l)) d.kf) (groups : k.kx ≡ filter (is_untouched s d es) d.kx) (regions : k.lcw ≡ set_of entry_cmp (filter_map (kept_entry s d es) d.lcw)) where
  kept : (l : Literal) → IsIn l k.kf → IsIn l d.kf × (spoils s d es l ≡ false)
  kept l i = let r = in_filtered (λ l. not (spoils s d es l)) d.kf l (subst (IsIn l) known i) in (r.0, not-true _ r.1)

  stays : (l : Literal) → IsIn l d.kf → spoils s d es l ≡ false → IsIn l k.kf
  stays l i h = subst (IsIn l) (sym known) (in_filter (λ l. not (spoils s d es l)) d.kf l i (not_from_false _ h))

  within : Within k.kf d.kf
  within l i = (kept l i).0

  -- the known literals that last, with all groups and regions
  abbrev middle : Five
  middle = record d { kf = k.kf }

  holds_middle : (l : Literal) → holds s k l ≡ true → holds s middle l ≡ true
  unfolding holds
  holds_middle l h = ⊎_elim (λ q. or_left _ _ q) (λ q. or_right _ _ (off l.relation l.arguments l.positive q)) (or_cases (is_plain s k.kf l) _ h)
    where
      off : (r : Relation) (ts : List Term) (b : Bool) → is_closed_off s k r ts b ≡ true → is_closed_off s middle r ts b ≡ true
      off (Named p) ts false q = shut_out_before s d es k.kf p ts k.lcw (λ e i. subst (IsIn e) regions i) q
      off (Named p) ts true q = absurd (true≢false (sym q))
      off Equality ts b q = absurd (true≢false (sym q))

  grows : (l : Literal) → holds s k l ≡ true → holds s d l ≡ true
  grows l h = holds_grows s d inhabited saturated fine middle within refl refl l (holds_middle l h)

  -- ---- none of what the rules add is spoiled

  value_lasts : (l : Literal) → IsIn l (flat_map (by_value k.kf) k.kf) → IsIn l k.kf
  unfolding additions
  value_lasts l i =
      let r = in_flat_mapped (by_value k.kf) k.kf l i in
      stays l (additions_within s d inhabited saturated fine middle within refl refl l (in_left (flat_map (by_value k.kf) k.kf) _ l i))
      (step_unspoiled s d inhabited saturated fine es k.kf within r.0 l r.2 (kept r.0 r.1).1)

  untouched : (g : List Literal) → is_untouched s d es g ≡ true → (m : Literal) → IsIn m g → (spoils s d es m ≡ false) × (spoils s d es (negated m) ≡ false)
  untouched g h m i =
      let p = and_parts (not (spoils s d es m)) (not (spoils s d es (negated m))) (all_each (λ l. not (spoils s d es l) && not (spoils s d es (negated l))) g h m i) in
      (not-true _ p.0, not-true _ p.1)

  member_lasts : (g : List Literal) → IsIn g k.kx → (l : Literal) → IsIn l (by_group s k g) → IsIn l k.kf
  unfolding by_group additions
  member_lasts g i l j =
      let r = in_filtered (is_untouched s d es) d.kx g (subst (IsIn g) groups i) in
      let q = in_flat_mapped (by_member s k) (with_others g) l j in
      let o = in_with_others g q.0 q.1 in
      stays l
      (saturated l (in_right (flat_map (by_value d.kf) d.kf) _ l (in_left (flat_map (λ g. flat_map (by_member s d) (with_others g)) d.kx) _ l
      (in_flat (λ g. flat_map (by_member s d) (with_others g)) d.kx g l r.0 (in_flat (by_member s d) (with_others g) q.0 l q.1 (by_member_within s k d grows q.0 l q.2))))))
      (⊎_elim
      (λ u. subst (λ m. spoils s d es m ≡ false) (only q.0.0 (in_cond (list_all (λ m. holds s k (negated m)) q.0.1) (q.0.0 ∷ []) l u)) (untouched g r.1 q.0.0 o.0).0)
      (λ u. let m = in_mapped negated q.0.1 l (in_cond (holds s k q.0.0) (map negated q.0.1) l u) in subst (λ n. spoils s d es n ≡ false) m.2 (untouched g r.1 m.0 (o.1 m.0 m.1)).1)
      (in_appended (cond (list_all (λ m. holds s k (negated m)) q.0.1) (q.0.0 ∷ []) []) (cond (holds s k q.0.0) (map negated q.0.1) []) l q.2))
    where
      only : (x : Literal) → IsIn l (x ∷ []) → x ≡ l
      only x (inl e) = e
      only x (inr i) = absurd i

  object_stable : (e : ℕ) → is_stable s d es (object e) ≡ true
  unfolding is_stable
  object_stable e = refl

  stable_equation : (t : Term) (e : ℕ) → is_stable s d es t ≡ true → spoils s d es (equation t (object e)) ≡ false
  unfolding spoils literal
  stable_equation t e h =
      let all : are_stable s d es (in_order Equality (t ∷ object e ∷ [])) ≡ true = all_in_order (is_stable s d es) Equality (t ∷ object e ∷ []) (and_from _ _ h (and_from _ _ (object_stable e) refl)) in
      λ i. not (all i) || false

  range_unspoiled : (t : Term) → is_stable s d es t ≡ true → (l : Literal) → IsIn l (by_range s k t) → spoils s d es l ≡ false
  unfolding by_range
  range_unspoiled t h l j =
      let r = in_mapped (λ e. equation t (object e)) (filter (is_last_left s k t (range_of s t)) (range_of s t)) l j in
      subst (λ m. spoils s d es m ≡ false) r.2 (stable_equation t r.0 h)

  stable_arguments : (l : Literal) → spoils s d es l ≡ false → are_stable s d es l.arguments ≡ true
  unfolding spoils
  stable_arguments l h = not-false _ (or_parts (not (are_stable s d es l.arguments)) _ h).0

  range_lasts : (l : Literal) → IsIn l (flat_map (λ l. flat_map (by_range s k) (flat_map applications_in l.arguments)) k.kf) → IsIn l k.kf
  unfolding additions
  range_lasts l i =
      let a = in_flat_mapped (λ l. flat_map (by_range s k) (flat_map applications_in l.arguments)) k.kf l i in
      let b = in_flat_mapped (by_range s k) (flat_map applications_in a.0.arguments) l a.2 in
      let c = in_flat_mapped applications_in a.0.arguments b.0 b.1 in
      let stable : is_stable s d es b.0 ≡ true = part_stable s d inhabited saturated fine es c.0 b.0 (all_each (is_stable s d es) a.0.arguments (stable_arguments a.0 (kept a.0 a.1).1) c.0 c.1) c.2 in
      stays l
      (saturated l (in_right (flat_map (by_value d.kf) d.kf) _ l (in_right (flat_map (by_group s d) d.kx) _ l
      (in_flat (λ l. flat_map (by_range s d) (flat_map applications_in l.arguments)) d.kf a.0 l (within a.0 a.1)
      (in_flat (by_range s d) (flat_map applications_in a.0.arguments) b.0 l b.1 (by_range_within s k d grows b.0 l b.2))))))
      (range_unspoiled b.0 stable l b.2)

  pub lasting_saturated : IsSaturated s k
  unfolding additions
  lasting_saturated l i =
      ⊎_elim (value_lasts l)
      (λ j. ⊎_elim
      (λ u. let r = in_flat_mapped (by_group s k) k.kx l u in member_lasts r.0 r.1 l r.2)
      (range_lasts l)
      (in_appended (flat_map (by_group s k) k.kx) _ l j))
      (in_appended (flat_map (by_value k.kf) k.kf) _ l i)

  pub lasting_fine : first_clash s k ≡ None
  unfolding first_clash
  lasting_fine = none_from (λ l. holds s k (negated l)) k.kf (λ l i h. none_found (λ l. holds s d (negated l)) d.kf fine l (within l i) (grows (negated l) h))

pub lasting_closed : (s : Signature) (d k : Five) (es : List Effect) → HasValues s → IsClosed s d → Each IsInOrder d.kf
    → k.kf ≡ filter (λ l. not (spoils s d es l)) d.kf → k.kx ≡ filter (is_untouched s d es) d.kx → k.lcw ≡ set_of entry_cmp (filter_map (kept_entry s d es) d.lcw)
    → IsSaturated s k × (first_clash s k ≡ None)
lasting_closed s d k es inhabited closed ordered known groups regions =
    let saturated = closed_saturated s inhabited d closed ordered in
    let fine = closed_fine s inhabited d closed in
    (lasting_saturated s d k es inhabited saturated fine known groups regions, lasting_fine s d k es inhabited saturated fine known groups regions)
