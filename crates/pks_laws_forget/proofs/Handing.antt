-- What the step's effects, as they are written, hand on and back: what comes to the moment before and to the moment after is there.
use Rattle.std.proofs.Common.{◌≡◌, ◌⊎◌, ◌&&◌, ◌||◌, ◌==◌, ◌++◌, ℕ, Bool, true, false, not, cond, is_some, List, [], ◌∷◌, map, filter, flat_map, None, refl, sym, ap, ◌∙◌, subst, inl, inr, ⊎_elim, true≢false}
use Rattle.std.specs.List.{list_any, list_all}
use Rattle.std.proofs.lemmas.Bool.{and_parts, and_from, not_from_false, not-true, eq-eqb}
use Rattle.pks_terms.specs.Sets.{Each, IsIn, one_replaced, with_others, with_later, choices_from}
use Rattle.pks_terms.specs.Syntax.{Object, Parameter, Apply, Inner, Term, object, term_of, as_object, Relation, Named, Equality, Literal, negated}
use Rattle.pks_terms.specs.Orders.{literal, equation, number_of, arguments_of}
use Rattle.pks_terms.specs.Signatures.{Signature}
use Rattle.pks_terms.specs.Databases.{Five, inner_normal, normal, normal_literal, some_differ, holds}
use Rattle.pks_terms.specs.Closure.{term_steps, by_value, applications_in, first_clash}
use Rattle.pks_terms.specs.Actions.{Target, Set, Unset, Clear, Assign, Effect}
use Rattle.pks_terms.specs.Spoiling.{may_fire, may_make_true, may_make_false, may_change, some_may, may_be_changed, is_stable, are_stable, may_be_denied, spoils}
use Rattle.pks_terms.specs.Settling.{argument_forms, term_forms, stable_forms, target_forms, makes_same, is_made_otherwise, lasting, lasted, fired, must_have_fired, cannot_have_fired}
use Rattle.pks_terms.specs.Saturated.{Within, IsSaturated}
use Rattle.pks_terms.proofs.ListLaws.{each_in, each_of, each_from_all, found_in, any_in, in_filter, in_filtered, in_appended, in_mapped, in_map, in_flat_mapped}
use Rattle.pks_terms.specs.Objects.{is_named}
use Rattle.pks_laws.proofs.Least.{addition_in, normal_again}
use Rattle.pks_laws.proofs.BelongingHistories.{later_each, other_each}
use Rattle.pks_laws.proofs.ClosedAgain.{holds-normal}
use Rattle.pks_laws_forget.specs.Transparent.{AreObjects, IsOfObjects, IsOfPlace, normal_target, with_normal, Makes, SurelyFires, NeverFires, AreUnassigned, IsReadAlike}
use Rattle.pks_laws_forget.proofs.Lists.{negated_twice, in_cond, self_or_other, replaced_alike, replaced_too}
use Rattle.pks_laws_forget.proofs.Alike.{negated_normal, known_holds, no_both, differ_alike, not_apart, step_normal}
use Rattle.pks_laws_forget.proofs.Agreeing.{normal-term_of}
use Rattle.pks_laws_forget.proofs.Objects.{objects_normal, literal_normal, none_apart, named_gives_none}
use Rattle.pks_laws_forget.proofs.Given.{IsGiven, stays_in, known_then, literal_arguments, literal_kind, same_predicate, unassigned_stay}
use Rattle.pks_laws_forget.proofs.Returning.{back_holds, clash_free, each_stays, fires_or_never, first_in, holds_normal, later_denied, made_of, no_clash, normal_same, objects_do, one_all, one_later, region_holds, stays_each, stays_or_opposed, surely_may, why}
use Rattle.pks_laws_forget.proofs.Rules.{all_stable_stay, lasted_in, lasting_in, made_place, same_fire, saturated_before, steps_later}
use Rattle.pks_laws_forget.proofs.Forms.{terms_reached}

module _ (s : Signature) (before after later moment : Five) (ws : List Effect) (given : IsGiven s before after later moment (map (with_normal before.kf) ws)) (written : Each (IsReadAlike before after (map (with_normal before.kf) ws)) ws) where
  abbrev es : List Effect
  es = map (with_normal before.kf) ws

  abbrev stays : Term → Bool
  stays = stays_in s before later es

  abbrev all_stay : List Term → Bool
  all_stay ts = list_all stays ts

  abbrev all : List Literal
  all = known_then s before later es

  abbrev G : Five
  G = record moment { kf = all }

  saturated : IsSaturated s G
  saturated = saturated_before s before after later moment es given

  fine : first_clash s G ≡ None
  fine = no_clash s before after later moment es given

  first : Within before.kf all
  first = first_in s before after later moment es given

  among : (e : Effect) → IsIn e ws → IsIn (with_normal before.kf e) es
  among e i = in_map (with_normal before.kf) ws e i

  -- ---- targets and the same in normal form do alike

  again : (t : Term) → normal all (normal before.kf t) ≡ normal all t
  again = normal_again s before.kf all first (one_all s before after later moment es given)

  all_again : (ts : List Term) → map (normal all) (map (normal before.kf) ts) ≡ map (normal all) ts
  all_again [] = refl
  all_again (t ∷ ts) = λ i. again t i ∷ all_again ts i

  apart_alike : (vs us : List Term) → some_differ s all (map (normal before.kf) vs) us ≡ some_differ s all vs us
  apart_alike [] us = refl
  apart_alike (v ∷ vs) [] = refl
  apart_alike (v ∷ vs) (u ∷ us) = λ i. differ_alike s G given.inhabited saturated fine (normal before.kf v) u v u (again v) refl i || apart_alike vs us i

  lifted_normal : (us : List Inner) → map term_of (map (inner_normal before.kf) us) ≡ map (normal before.kf) (map term_of us)
  lifted_normal [] = refl
  lifted_normal (u ∷ us) = λ i. sym (normal-term_of before.kf u) i ∷ lifted_normal us i

  change_alike : (f : ℕ) (us : List Inner) (x : Target) → may_change s all f us (normal_target before.kf x) ≡ may_change s all f us x
  change_alike f us (Assign g vs v) = λ i. (g == f) && not ((ap (λ zs. some_differ s all zs (map term_of us)) (lifted_normal vs) ∙ apart_alike (map term_of vs) (map term_of us)) i)
  change_alike f us (Set a) = refl
  change_alike f us (Unset a) = refl
  change_alike f us (Clear y) = refl

  true_alike : (p : ℕ) (ts : List Term) (x : Target) → may_make_true s all p ts (normal_target before.kf x) ≡ may_make_true s all p ts x
  true_alike p ts (Set a) = λ i. (a.predicate == p) && not (apart_alike a.arguments ts i)
  true_alike p ts (Unset a) = refl
  true_alike p ts (Clear y) = refl
  true_alike p ts (Assign g us v) = refl

  false_alike : (p : ℕ) (ts : List Term) (x : Target) → may_make_false s all p ts (normal_target before.kf x) ≡ may_make_false s all p ts x
  false_alike p ts (Unset a) = λ i. (a.predicate == p) && not (apart_alike a.arguments ts i)
  false_alike p ts (Set a) = refl
  false_alike p ts (Clear y) = refl
  false_alike p ts (Assign g us v) = refl

  fire_alike : (d : Five) (e : Effect) → may_fire s d (with_normal before.kf e) ≡ may_fire s d e
  unfolding may_fire
  fire_alike d e = refl

  some_alike : (does : Target → Bool) → ((x : Target) → does (normal_target before.kf x) ≡ does x) → (fs : List Effect) → some_may s G does (map (with_normal before.kf) fs) ≡ some_may s G does fs
  some_alike does f [] = refl
  some_alike does f (e ∷ fs) = λ i. (fire_alike G e i && f e.target i) || some_alike does f fs i

  changed_alike : (t : Term) → may_be_changed s G es t ≡ may_be_changed s G ws t
  unfolding may_be_changed
  changed_alike t = some_alike (may_change s all (number_of t) (arguments_of t)) (change_alike (number_of t) (arguments_of t)) ws

  none_alike : (ts : List Term) → list_all (λ u. not (may_be_changed s G es u)) ts ≡ list_all (λ u. not (may_be_changed s G ws u)) ts
  none_alike [] = refl
  none_alike (t ∷ ts) = λ i. not (changed_alike t i) && none_alike ts i

  stable_alike : (ts : List Term) → are_stable s G es ts ≡ are_stable s G ws ts
  unfolding is_stable
  stable_alike [] = refl
  stable_alike (t ∷ ts) = λ i. none_alike (applications_in t) i && stable_alike ts i

  denied_alike : (r : Relation) (ts : List Term) (b : Bool) → may_be_denied s G es r ts b ≡ may_be_denied s G ws r ts b
  denied_alike (Named p) ts true = some_alike (may_make_false s all p ts) (false_alike p ts) ws
  denied_alike (Named p) ts false = some_alike (may_make_true s all p ts) (true_alike p ts) ws
  denied_alike Equality ts b = refl

  spoils_alike : (l : Literal) → spoils s G es l ≡ spoils s G ws l
  unfolding spoils
  spoils_alike l = λ i. not (stable_alike l.arguments i) || denied_alike l.relation l.arguments l.positive i

  -- ---- what lasts

  lasting_on : Within (lasting s ws G) later.kf
  lasting_on l i =
      let r = in_filtered (λ l. not (spoils s G ws l)) all l i in
      lasting_in s before after later moment es given l (in_filter (λ l. not (spoils s G es l)) all l r.0 (ap not (spoils_alike l) ∙ r.1))

  lasted_on : Within (lasted s ws G later) all
  lasted_on l i =
      let r = in_filtered (λ l. not (spoils s G ws (negated l))) later.kf l i in
      lasted_in s before after later moment es given l (in_filter (λ l. not (spoils s G es (negated l))) later.kf l r.0 (ap not (spoils_alike (negated l)) ∙ r.1))

  -- ---- the forms of targets

  stable_stay : (us : List Term) → are_stable s G ws us ≡ true → all_stay us ≡ true
  stable_stay us h = all_stable_stay s before after later moment es given us (stable_alike us ∙ h)

  -- forms keep the normal form
  forms_normal : (ts us : List Term) → IsIn us (choices_from (map (term_forms all) ts)) → map (normal all) us ≡ map (normal all) ts
  forms_normal ts us i =
      terms_reached all (λ ys. map (normal all) ys ≡ map (normal all) ts) (λ xs ys h j. replaced_alike (term_steps all) (normal all) (step_normal s G given.inhabited saturated fine) xs ys j ∙ h) ts refl us i

  atom_forms : (p : ℕ) (ts : List Term) (b : Bool) (l : Literal) → ◌≡◌ {A = Literal} (record { relation = Named p; arguments = map (normal before.kf) ts; positive = b }) l → IsOfObjects l → (us : List Term) → IsIn us (stable_forms s G ws ts)
      → (normal_literal all (literal (Named p) us b) ≡ l) × (all_stay us ≡ true)
  unfolding normal_literal literal
  atom_forms p ts b l e o us i =
      let q = in_filtered (are_stable s G ws) (choices_from (map (term_forms all) ts)) us i in
      let objects : AreObjects (map (normal before.kf) ts) = subst (λ (k : Literal). AreObjects k.arguments) (sym e) o.1 in
      let path : map (normal all) us ≡ map (normal before.kf) ts = forms_normal ts us q.0 ∙ sym (all_again ts) ∙ objects_normal all (map (normal before.kf) ts) objects in
      ((λ i. record { relation = Named p; arguments = path i; positive = b }) ∙ e, stable_stay us q.1)

  -- where a target in normal form makes a predicate at objects so, each stable form of it has this normal form, and stays
  forms_alike : (x : Target) (l : Literal) → Makes (normal_target before.kf x) l → IsOfObjects l → (m : Literal) → IsIn m (target_forms s G ws x) → (normal_literal all m ≡ l) × (all_stay m.arguments ≡ true)
  forms_alike (Set a) l h o m i =
      let r = in_mapped (λ ts. literal (Named a.predicate) ts true) (stable_forms s G ws a.arguments) m i in
      let q = atom_forms a.predicate a.arguments true l h o r.0 r.1 in
      (ap (normal_literal all) (sym r.2) ∙ q.0, ap (λ (k : Literal). all_stay k.arguments) (sym r.2) ∙ ap all_stay (literal_arguments (Named a.predicate) r.0 true) ∙ q.1)
  forms_alike (Unset a) l h o m i =
      let r = in_mapped (λ ts. literal (Named a.predicate) ts false) (stable_forms s G ws a.arguments) m i in
      let q = atom_forms a.predicate a.arguments false l h o r.0 r.1 in
      (ap (normal_literal all) (sym r.2) ∙ q.0, ap (λ (k : Literal). all_stay k.arguments) (sym r.2) ∙ ap all_stay (literal_arguments (Named a.predicate) r.0 false) ∙ q.1)
  forms_alike (Clear y) l h o m i = absurd h
  forms_alike (Assign f us v) l h o m i = absurd (true≢false (sym o.0 ∙ ap (λ (k : Literal). is_named k.relation) (sym h) ∙ literal_kind Equality (Apply f (map (inner_normal before.kf) us) ∷ normal before.kf v ∷ []) true))

  form_then : (m l : Literal) → normal_literal all m ≡ l → IsOfObjects l → holds s G (negated m) ≡ true → holds s G (negated l) ≡ true
  form_then m l e o h = holds_normal s before after later moment es given (negated m) (negated l) (sym (negated_normal all m) ∙ ap negated (e ∙ sym (literal_normal all l o)) ∙ negated_normal all l) h

  form_later : (m l : Literal) → normal_literal all m ≡ l → all_stay m.arguments ≡ true → holds s later m ≡ true → holds s later l ≡ true
  form_later m l e a h = ap (holds s later) (sym e ∙ normal_same s before after later moment es given m a) ∙ holds-normal s later (one_later s before after later moment es given) m ∙ h

  -- ---- what a target makes so as it is written, each of its forms is known later

  choices_alone : (us : List Inner) → list_all (λ t. is_some (as_object t)) us ≡ true → argument_forms all us ≡ us ∷ []
  choices_alone [] a = refl
  choices_alone (Object d ∷ us) a = ap (λ (xs : List (List Inner)). flat_map (λ x. map (λ ys. x ∷ ys) xs) (Object d ∷ [])) (choices_alone us a)
  choices_alone (Parameter d ∷ us) a = absurd (true≢false (sym a))
  choices_alone (Apply f ds ∷ us) a = absurd (true≢false (sym a))

  only : {X : Type 0} (x y : X) → IsIn y (x ∷ []) → y ≡ x
  only x y (inl e) = sym e
  only x y (inr i) = absurd i

  -- an assignment of an object to a place has no other form
  place_forms : (x : Target) (l : Literal) → Makes x l → IsOfPlace l → (m : Literal) → IsIn m (target_forms s G ws x) → m ≡ l
  place_forms (Set a) l h o m i = absurd (named_gives_none l.relation l.arguments (ap (λ (k : Literal). is_named k.relation) (sym h)) o)
  place_forms (Unset a) l h o m i = absurd (named_gives_none l.relation l.arguments (ap (λ (k : Literal). is_named k.relation) (sym h)) o)
  place_forms (Clear y) l h o m i = absurd h
  place_forms (Assign f us v) l h o m i =
      let place = made_place s before after later moment es given f us v l h (inr o) in
      let r = in_flat_mapped (λ ws'. map (equation (Apply f ws')) (filter (is_stable s G ws) (term_forms all v))) (filter (λ ws'. are_stable s G ws (map term_of ws')) (argument_forms all us)) m i in
      let q = in_filtered (λ ws'. are_stable s G ws (map term_of ws')) (argument_forms all us) r.0 r.1 in
      let w = in_mapped (equation (Apply f r.0)) (filter (is_stable s G ws) (term_forms all v)) m r.2 in
      let value : IsIn w.0 (term_forms all v) = (in_filtered (is_stable s G ws) (term_forms all v) w.0 w.1).0 in
      let same : w.0 ≡ v = subst (λ x. IsIn w.0 (term_forms all x) → w.0 ≡ x) (sym place.2) (only (object place.1) w.0) value in
      sym w.2 ∙ (λ j. equation (Apply f (only us r.0 (subst (IsIn r.0) (choices_alone us place.0) q.0) j)) (same j)) ∙ h

  abbrev IsThere : ℕ → Bool → List Term → Type 0
  IsThere p b ts = (all_stay ts ≡ true) × IsIn (literal (Named p) ts b) later.kf

  atom_step : (p : ℕ) (b : Bool) (xs ys : List Term) → IsThere p b xs → IsIn ys (one_replaced (term_steps all) xs) → IsThere p b ys
  unfolding by_value literal
  atom_step p b xs ys h i =
      let z = replaced_too (λ t. stays t ≡ true) (term_steps all) (term_steps later.kf) (steps_later s before after later moment es given) xs ys (stays_each s before after later moment es given xs h.0) i in (
        each_stays s before after later moment es given ys z.1,
        addition_in s later given.inhabited given.saturated given.fine (record { relation = Named p; arguments = xs; positive = b }) (record { relation = Named p; arguments = ys; positive = b }) h.1
            (in_map (λ vs. literal (Named p) vs b) (one_replaced (term_steps later.kf) xs) ys z.0),
      )

  atoms_later : (p : ℕ) (b : Bool) (ts us : List Term) → IsThere p b ts → IsIn us (stable_forms s G ws ts) → IsIn (literal (Named p) us b) later.kf
  atoms_later p b ts us h i = (terms_reached all (IsThere p b) (atom_step p b) ts h us (in_filtered (are_stable s G ws) (choices_from (map (term_forms all) ts)) us i).0).1

  there_of : (p : ℕ) (b : Bool) (ts : List Term) → AreUnassigned es ts → IsIn (record { relation = Named p; arguments = ts; positive = b }) later.kf → IsThere p b ts
  unfolding literal
  there_of p b ts u i = (unassigned_stay s before later es ts u, i)

  stands_later : (x : Target) (m : Literal) → Makes x m → IsIn m later.kf → IsOfPlace m ⊎ ((is_named m.relation ≡ true) × AreUnassigned es m.arguments) → (l : Literal) → IsIn l (target_forms s G ws x) → IsIn l later.kf
  stands_later x m h k (inl o) l j = subst (λ y. IsIn y later.kf) (sym (place_forms x m h o l j)) k
  stands_later (Set a) m h k (inr u) l j =
      let r = in_mapped (λ ts. literal (Named a.predicate) ts true) (stable_forms s G ws a.arguments) l j in
      let t = there_of a.predicate true a.arguments (subst (λ (y : Literal). AreUnassigned es y.arguments) (sym h) u.1) (subst (λ y. IsIn y later.kf) (sym h) k) in
      subst (λ y. IsIn y later.kf) r.2 (atoms_later a.predicate true a.arguments r.0 t r.1)
  stands_later (Unset a) m h k (inr u) l j =
      let r = in_mapped (λ ts. literal (Named a.predicate) ts false) (stable_forms s G ws a.arguments) l j in
      let t = there_of a.predicate false a.arguments (subst (λ (y : Literal). AreUnassigned es y.arguments) (sym h) u.1) (subst (λ y. IsIn y later.kf) (sym h) k) in
      subst (λ y. IsIn y later.kf) r.2 (atoms_later a.predicate false a.arguments r.0 t r.1)
  stands_later (Clear y) m h k (inr u) l j = absurd h
  stands_later (Assign f us v) m h k (inr u) l j = absurd (true≢false (sym u.0 ∙ ap (λ (y : Literal). is_named y.relation) (sym h) ∙ literal_kind Equality (Apply f us ∷ v ∷ []) true))

  form_known : (e : Effect) → IsIn e ws → SurelyFires before e → (l : Literal) → IsIn l (target_forms s G ws e.target) → IsIn l later.kf
  form_known e i f l j =
      ⊎_elim (λ n. absurd (fires_or_never s before after later moment es given (with_normal before.kf e) (among e i) f n))
      (λ m. stands_later e.target m.0 m.1 (given.grown m.0 m.2) m.3 l j)
      (each_in (IsReadAlike before after es) ws e written i)

  -- ---- the other three rules

  -- an effect with conditions that hold surely fires
  held_fires : (e : Effect) → IsIn e ws → list_all (holds s G) e.condition ≡ true → SurelyFires before e
  held_fires e i h =
      ⊎_elim (λ f. f.0)
      (λ n. let c = n.0 in
      absurd (clash_free s before after later moment es given (negated c.0) (first (negated c.0) c.2) (ap (holds s G) (negated_twice c.0) ∙ each_in (λ c. holds s G c ≡ true) e.condition c.0 (each_from_all (λ c. holds s G c ≡ true) (holds s G) (λ c k. k) e.condition h) c.1)))
      (made_of s before after later moment es given (with_normal before.kf e) (among e i)).known

  later_effect : (q : Effect × List Effect) → IsIn q (with_later ws) → IsIn q.0 ws
  later_effect q i = (each_in (λ (q : Effect × List Effect). IsIn q.0 ws × Each (λ e. IsIn e ws) q.1) (with_later ws) q (later_each (λ e. IsIn e ws) ws (each_of (λ e. IsIn e ws) ws (λ e j. j))) i).0

  other_effect : (q : Effect × List Effect) → IsIn q (with_others ws) → IsIn q.0 ws
  other_effect q i = (each_in (λ (q : Effect × List Effect). IsIn q.0 ws × Each (λ e. IsIn e ws) q.1) (with_others ws) q (other_each (λ e. IsIn e ws) ws (each_of (λ e. IsIn e ws) ws (λ e j. j))) i).0

  fired_on : (q : Effect × List Effect) → IsIn q (with_later ws) → Within (fired s ws G q) later.kf
  fired_on q i l j =
      let c = in_cond _ (target_forms s G ws q.0.target) l j in
      let e = later_effect q i in
      form_known q.0 e (held_fires q.0 e (and_parts (list_all (holds s G) q.0.condition) _ c.0).0) l c.1

  same_arguments : (us vs : List Term) → map (normal before.kf) us ≡ map (normal before.kf) vs → some_differ s all us vs ≡ false
  same_arguments us vs e = none_apart s all (not_apart s G given.inhabited saturated fine) us vs (sym (all_again us) ∙ ap (map (normal all)) e ∙ all_again vs)

  same_target : (x y : Target) (l : Literal) → IsOfObjects l → Makes (normal_target before.kf x) l → Makes (normal_target before.kf y) l → makes_same s G x y ≡ true
  same_target (Set a) (Set b) l o m n =
      let p : b.predicate ≡ a.predicate = same_predicate b.predicate a.predicate (ap (λ (k : Literal). k.relation) (n ∙ sym m)) in
      and_from _ _ (eq-eqb b.predicate a.predicate p) (not_from_false _ (same_arguments b.arguments a.arguments (ap (λ (k : Literal). k.arguments) (n ∙ sym m))))
  same_target (Unset a) (Unset b) l o m n =
      let p : b.predicate ≡ a.predicate = same_predicate b.predicate a.predicate (ap (λ (k : Literal). k.relation) (n ∙ sym m)) in
      and_from _ _ (eq-eqb b.predicate a.predicate p) (not_from_false _ (same_arguments b.arguments a.arguments (ap (λ (k : Literal). k.arguments) (n ∙ sym m))))
  same_target (Set a) (Unset b) l o m n = absurd (true≢false (ap (λ (k : Literal). k.positive) (m ∙ sym n)))
  same_target (Unset a) (Set b) l o m n = absurd (true≢false (ap (λ (k : Literal). k.positive) (n ∙ sym m)))
  same_target (Set a) (Clear y) l o m n = absurd n
  same_target (Unset a) (Clear y) l o m n = absurd n
  same_target (Set a) (Assign g vs v) l o m n = absurd (true≢false (sym o.0 ∙ ap (λ (k : Literal). is_named k.relation) (sym n) ∙ literal_kind Equality (Apply g (map (inner_normal before.kf) vs) ∷ normal before.kf v ∷ []) true))
  same_target (Unset a) (Assign g vs v) l o m n = absurd (true≢false (sym o.0 ∙ ap (λ (k : Literal). is_named k.relation) (sym n) ∙ literal_kind Equality (Apply g (map (inner_normal before.kf) vs) ∷ normal before.kf v ∷ []) true))
  same_target (Clear y) x l o m n = absurd m
  same_target (Assign g vs v) x l o m n = absurd (true≢false (sym o.0 ∙ ap (λ (k : Literal). is_named k.relation) (sym m) ∙ literal_kind Equality (Apply g (map (inner_normal before.kf) vs) ∷ normal before.kf v ∷ []) true))

  fires_then : (e : Effect) → IsIn e ws → SurelyFires before e → may_fire s G e ≡ true
  fires_then e i f = sym (fire_alike G e) ∙ same_fire s before after later moment es given (with_normal before.kf e) (among e i) ∙ surely_may s before after later moment es given (with_normal before.kf e) f

  -- where the target is so after and not before, an effect that never fires isn't the only one that can have made it so
  made_otherwise : (q : Effect × List Effect) → IsIn q (with_others ws) → NeverFires before q.0 → (l : Literal) → Makes (normal_target before.kf q.0.target) l → IsOfObjects l → holds s G (negated l) ≡ true → holds s later l ≡ true → is_made_otherwise s G q ≡ true
  made_otherwise q i never l m o h k =
      let both = no_both s later given.inhabited given.saturated given.fine l o.0 k in
      ⊎_elim
      (λ b. absurd (both (back_holds s before after later moment es given (negated l) b)))
      (λ r. ⊎_elim
      (λ b.
      let same : b.0 ≡ negated l = b.3 ∙ literal_normal later.kf (negated l) o in
      ⊎_elim
      (λ j. absurd (both (known_holds s later b.0 (negated l) j (ap (normal_literal later.kf) same))))
      (λ w.
      let r = in_mapped (with_normal before.kf) ws w.0 w.1 in
      let fires : SurelyFires before r.0 = subst (SurelyFires before) (sym r.2) w.2 in
      let makes : Makes (normal_target before.kf r.0.target) l = subst (λ (x : Effect). Makes x.target l) (sym r.2) (subst (Makes w.0.target) (ap negated same ∙ negated_twice l) w.3) in
      ⊎_elim
      (λ e. absurd (fires_or_never s before after later moment es given (with_normal before.kf r.0) (among r.0 r.1) fires (subst (NeverFires before) e never)))
      (λ j. any_in (λ e. may_fire s G e && makes_same s G q.0.target e.target) q.1 r.0 j (and_from _ _ (fires_then r.0 r.1 fires) (same_target q.0.target r.0.target l o m makes)))
      (self_or_other ws q i r.0 r.1))
      (stays_or_opposed s before after later moment es given b.0 b.1 b.2))
      (λ b. absurd (both (region_holds s before after later moment es given (negated l) b)))
      r)
      (why s before after later moment es given (negated l) o.0 (objects_do s before after later moment es given l.arguments o.1) h)

  must_on : (q : Effect × List Effect) → IsIn q (with_others ws) → Within (must_have_fired s ws G later q) all
  must_on q i l j =
      let c = in_cond _ q.0.condition l j in
      let e = other_effect q i in
      let d = made_of s before after later moment es given (with_normal before.kf q.0) (among q.0 e) in
      let b = and_parts (list_any (λ l. holds s G (negated l) && holds s later l) (target_forms s G ws q.0.target)) _ c.0 in
      ⊎_elim
      (λ f. first l (each_in (λ c. IsIn c before.kf) q.0.condition l f.0 c.1))
      (λ n.
      let f = found_in (λ l. holds s G (negated l) && holds s later l) (target_forms s G ws q.0.target) b.0 in
      let a = forms_alike q.0.target d.made d.makes n.1 f.0 f.1 in
      let h = and_parts (holds s G (negated f.0)) _ f.2 in
      absurd (true≢false (sym (made_otherwise q i n.0 d.made d.makes n.1 (form_then f.0 d.made a.0 n.1 h.0) (form_later f.0 d.made a.0 a.1 h.1)) ∙ not-true _ b.1)))
      d.known

  cannot_on : (q : Effect × List Effect) → IsIn q (with_later ws) → Within (cannot_have_fired s ws G later q) all
  cannot_on q i l j =
      let c = in_cond _ (flat_map (λ c. cond (list_all (holds s G) c.1) (negated c.0 ∷ []) []) (with_others q.0.condition)) l j in
      let e = later_effect q i in
      let b = and_parts (list_any (λ l. holds s later (negated l)) (target_forms s G ws q.0.target)) _ c.0 in
      ⊎_elim
      (λ f.
      let k = found_in (λ l. holds s later (negated l)) (target_forms s G ws q.0.target) b.0 in
      absurd (later_denied s before after later moment es given k.0 (form_known q.0 e f.0 k.0 k.1) k.2))
      (λ never.
      let n = never.0 in
      let k = in_flat_mapped (λ (c : Literal × List Literal). cond (list_all (holds s G) c.1) (negated c.0 ∷ []) []) (with_others q.0.condition) l c.1 in
      let a = in_cond (list_all (holds s G) k.0.1) (negated k.0.0 ∷ []) l k.2 in
      ⊎_elim
      (λ t. first l (subst (λ x. IsIn x before.kf) (ap negated (sym t) ∙ sym (only (negated k.0.0) l a.1)) n.2))
      (λ t. absurd (clash_free s before after later moment es given (negated n.0) (first (negated n.0) n.2) (ap (holds s G) (negated_twice n.0) ∙ each_in (λ c. holds s G c ≡ true) k.0.1 n.0 (each_from_all (λ c. holds s G c ≡ true) (holds s G) (λ c h. h) k.0.1 a.0) t)))
      (self_or_other q.0.condition k.0 k.1 n.0 n.1))
      (made_of s before after later moment es given (with_normal before.kf q.0) (among q.0 e)).known

  -- what the moment gives the next one is there
  pub onward_in : Within (lasting s ws G ++ flat_map (fired s ws G) (with_later ws)) later.kf
  onward_in l i =
      ⊎_elim (lasting_on l) (λ j. let r = in_flat_mapped (fired s ws G) (with_later ws) l j in fired_on r.0 r.1 l r.2) (in_appended (lasting s ws G) (flat_map (fired s ws G) (with_later ws)) l i)

  -- and what it gets from it
  pub backward_in : Within (lasted s ws G later ++ (flat_map (must_have_fired s ws G later) (with_others ws) ++ flat_map (cannot_have_fired s ws G later) (with_later ws))) all
  backward_in l i =
      ⊎_elim (lasted_on l)
      (λ j. ⊎_elim
      (λ k. let r = in_flat_mapped (must_have_fired s ws G later) (with_others ws) l k in must_on r.0 r.1 l r.2)
      (λ k. let r = in_flat_mapped (cannot_have_fired s ws G later) (with_later ws) l k in cannot_on r.0 r.1 l r.2)
      (in_appended (flat_map (must_have_fired s ws G later) (with_others ws)) _ l j))
      (in_appended (lasted s ws G later) _ l i)
