-- The reasons of one step: where what is cited before and after is so in the worlds of these moments, so is the fact.
use Rattle.std.proofs.Common.{◌≡◌, ◌⊎◌, ◌&&◌, ◌==◌, ℕ, suc, Bool, true, false, not, List, [], ◌∷◌, ◌++◌, map, filter, flat_map, Option, Some, None, refl, sym, ap, ◌∙◌, inl, inr, ⊎_elim, true≢false}
use Rattle.std.specs.List.{list_any, list_all}
use Rattle.std.specs.Cmp.{Equal-is}
use Rattle.std.proofs.lemmas.Bool.{or_cases, and_parts, and_from, cases_Bool, eqb-true, eq-eqb, not-true, not_from_false, false_from_ne_true, cond-true}
use Rattle.std.proofs.lemmas.Option.{none-some, cond_some}
use Rattle.pks_terms.specs.Sets.{Each, IsIn, with_others, with_later}
use Rattle.pks_terms.specs.Syntax.{Object, Parameter, Apply, Inner, Term, term_of, place, Relation, Named, Equality, Literal, Atom, Pattern, negated}
use Rattle.pks_terms.specs.Orders.{literal_eq, pattern_cmp, atom_cmp}
use Rattle.pks_terms.specs.Worlds.{World, inner_value, value_of, relates, signed, true_in, all_true_in}
use Rattle.pks_terms.specs.Databases.{Entry, same_objects}
use Rattle.pks_terms.specs.Meaning.{is_instance, is_value_of, Meets}
use Rattle.pks_terms.specs.Closure.{is_application, applications_in}
use Rattle.pks_terms.specs.Actions.{Target, Set, Unset, Clear, Assign, Effect, fires, written_truth, written_value, applied_to}
use Rattle.pks_terms.specs.Progress.{fixed_terms, entry_terms}
use Rattle.pks_terms.proofs.ListLaws.{each_in, each_of, each_from_all, found, found_in, any_in, one_same, map-map}
use Rattle.pks_terms.proofs.OrderLaws.{same_literal, pattern_cmp_tells, atom_cmp_tells}
use Rattle.pks_laws.proofs.Values.{same_objects_same}
use Rattle.pks_laws.proofs.Holding.{eqb_comm, true_in-negated, same_objects_itself}
use Rattle.pks_laws.proofs.Changing.{last_written_has, last_written_after, values-term_of}
use Rattle.pks_terms.specs.Proofs.{Fact, FactLit, FactKx, FactLcw, IsFactOf}
use Rattle.pks_terms.specs.Judging.{Judge, relies, is_cited, are_cited, some_literal}
use Rattle.pks_terms.specs.Rewriting.{are_forms}
use Rattle.pks_terms.specs.Reasons.{are_cited_apart, some_cited_apart, fixed_cited_apart, would_make_true, would_make_false, would_change, would_widen, cannot_fire, is_barred, are_barred, is_steady, are_steady, would_deny, keeps_literal, keeps_group, keeps_region, keeps_fact, is_kept, is_from_later, assignment, targets_as, targets_of, is_target_form, is_steady_target, is_steady_form, would_undo, assigns_other, would_make_same, is_effect, is_only_made_by, is_needed, is_missed_by, is_failed, is_set_form, is_listed, is_taken_in, grows_to, is_grown, is_empty, is_clear_form, is_cleared}
use Rattle.pks_proof_lines.proofs.Judged.{relied, cited_true, cited_false, all_cited, all_cited_true, literal_found, region_found, inequation_true, apart_true, some_apart_true}
use Rattle.pks_proof_lines.proofs.Groups.{this_or_other}
use Rattle.pks_proof_lines.proofs.Rewritten.{form_value, form_values, slot_forms}
use Rattle.pks_proof_lines.proofs.Within.{all_true_each}

all_parts : {X : Type 0} (p : X → Bool) (xs : List X) → list_all p xs ≡ true → (x : X) → IsIn x xs → p x ≡ true
all_parts p xs h x i = each_in (λ x. p x ≡ true) xs x (each_from_all (λ x. p x ≡ true) p (λ x k. k) xs h) i

all_apart : {X : Type 0} (p : X → Bool) (xs ys : List X) → list_all p (xs ++ ys) ≡ true → (list_all p xs ≡ true) × (list_all p ys ≡ true)
all_apart p [] ys h = (refl, h)
all_apart p (x ∷ xs) ys h = let q = and_parts (p x) _ h in let r = all_apart p xs ys q.1 in (and_from _ _ q.0 r.0, r.1)

module _ (j : Judge) (m : ℕ) (w : World) (right : Each (IsFactOf w) (j m)) where
  -- ---- what an effect writes it would write, as far as is cited

  not_apart : (ts us : List Term) → map (value_of w) ts ≡ map (value_of w) us → not (some_cited_apart j m ts us) ≡ true
  not_apart ts us e = not_from_false _ (false_from_ne_true _ (λ k. some_apart_true j m w right ts us k e))

  makes_true : (p : ℕ) (ts : List Term) (x : Target) → written_truth w p (map (value_of w) ts) x ≡ Some true → would_make_true j m p ts x ≡ true
  makes_true p ts (Set a) h =
      let q = and_parts (a.predicate == p) _ (cond_some (is_value_of w p (map (value_of w) ts) a) true true h).0 in
      and_from _ _ q.0 (not_apart a.arguments ts (same_objects_same _ _ q.1))
  makes_true p ts (Unset a) h = absurd (true≢false (sym (cond_some (is_value_of w p (map (value_of w) ts) a) false true h).1))
  makes_true p ts (Clear x) h = absurd (true≢false (sym (cond_some _ false true h).1))
  makes_true p ts (Assign f us value) h = absurd (none-some true h)

  instance_not_apart : (ss : List (Option Term)) (ts : List Term) → is_instance w ss (map (value_of w) ts) ≡ true → not (fixed_cited_apart j m ss ts) ≡ true
  instance_not_apart (None ∷ ss) (t ∷ ts) h = instance_not_apart ss ts h
  instance_not_apart (Some u ∷ ss) (t ∷ ts) h =
      let q = and_parts (value_of w u == value_of w t) _ h in
      not_from_false _ (false_from_ne_true _ (λ k. ⊎_elim
      (λ e. apart_true j m w right u t e (eqb-true _ _ q.0))
      (λ e. true≢false (sym e ∙ not-true _ (instance_not_apart ss ts q.1)))
      (or_cases (are_cited_apart j m u t) _ k)))
  instance_not_apart [] [] h = refl
  instance_not_apart [] (t ∷ ts) h = refl
  instance_not_apart (None ∷ ss) [] h = refl
  instance_not_apart (Some u ∷ ss) [] h = refl

  makes_false : (p : ℕ) (ts : List Term) (x : Target) → written_truth w p (map (value_of w) ts) x ≡ Some false → would_make_false j m p ts x ≡ true
  makes_false p ts (Set a) h = absurd (true≢false (cond_some (is_value_of w p (map (value_of w) ts) a) true false h).1)
  makes_false p ts (Unset a) h =
      let q = and_parts (a.predicate == p) _ (cond_some (is_value_of w p (map (value_of w) ts) a) false false h).0 in
      and_from _ _ q.0 (not_apart a.arguments ts (same_objects_same _ _ q.1))
  makes_false p ts (Clear x) h =
      let q = and_parts (x.predicate == p) _ (cond_some _ false false h).0 in
      and_from _ _ q.0 (instance_not_apart x.slots ts q.1)
  makes_false p ts (Assign f us value) h = absurd (none-some false h)

  changes : (f : ℕ) (ts : List Inner) (x : Target) (e : ℕ) → written_value w f (map (inner_value w) ts) x ≡ Some e → would_change j m f ts x ≡ true
  changes f ts (Assign g us value) e h =
      let q = and_parts (g == f) _ (cond_some _ (value_of w value) e h).0 in
      and_from _ _ q.0 (not_apart (map term_of us) (map term_of ts) (values-term_of w us ∙ same_objects_same _ _ q.1 ∙ sym (values-term_of w ts)))
  changes f ts (Set a) e h = absurd (none-some e h)
  changes f ts (Unset a) e h = absurd (none-some e h)
  changes f ts (Clear x) e h = absurd (none-some e h)

  widens : (x : Pattern) (ds : List ℕ) (y : Target) → is_instance w x.slots ds ≡ true → written_truth w x.predicate ds y ≡ Some true → would_widen j m x y ≡ true
  widens x ds (Set a) i h =
      let q = and_parts (a.predicate == x.predicate) _ (cond_some (is_value_of w x.predicate ds a) true true h).0 in
      and_from _ _ q.0 (instance_not_apart x.slots a.arguments (ap (is_instance w x.slots) (same_objects_same _ _ q.1) ∙ i))
  widens x ds (Unset a) i h = absurd (true≢false (sym (cond_some (is_value_of w x.predicate ds a) false true h).1))
  widens x ds (Clear y) i h = absurd (true≢false (sym (cond_some _ false true h).1))
  widens x ds (Assign f us value) i h = absurd (none-some true h)

  -- an effect that fires isn't barred from what its target does
  not_barred : (would : Target → Bool) (es : List Effect) → are_barred j m would es ≡ true → (e : Effect) → IsIn e es → fires w e ≡ true → would e.target ≡ true → ⊥
  not_barred would es h e i f t =
      ⊎_elim
      (λ c. let l = found_in (λ l. is_cited j m (negated l)) e.condition c in
      true≢false (sym (each_in (λ l. true_in w l ≡ true) e.condition l.0 (all_true_each j m w right e.condition f) l.1) ∙ cited_false j m w right l.0 l.2))
      (λ n. true≢false (sym t ∙ not-true _ n))
      (or_cases (cannot_fire j m e) _ (all_parts (is_barred j m would) es h e i))

  module _ (es : List Effect) where
    abbrev next : World
    next = applied_to w es

    -- ---- steady terms

    unchanged : (f : ℕ) (ts : List Inner) → are_barred j m (would_change j m f ts) es ≡ true → next.value f (map (inner_value w) ts) ≡ w.value f (map (inner_value w) ts)
    unfolding applied_to
    unchanged f ts h =
        last_written_has (λ y. y ≡ w.value f (map (inner_value w) ts)) (written_value w f (map (inner_value w) ts)) w es _
        (λ e y i k v. absurd (not_barred (would_change j m f ts) es h e i k (changes f ts e.target y v))) refl

    abbrev Unmoved : Term → Type 0
    Unmoved u = are_barred j m (would_change j m (Rattle.pks_terms.specs.Orders.number_of u) (Rattle.pks_terms.specs.Orders.arguments_of u)) es ≡ true

    steady_at : (t : Term) → is_steady j m es t ≡ true → (u : Term) → IsIn u (applications_in t) → Unmoved u
    steady_at t h u i = all_parts (λ u. are_barred j m (would_change j m (Rattle.pks_terms.specs.Orders.number_of u) (Rattle.pks_terms.specs.Orders.arguments_of u)) es) (applications_in t) h u i

    steady_inner : (ts : List Inner) → ((u : Term) → IsIn u (filter is_application (map term_of ts)) → Unmoved u) → map (inner_value next) ts ≡ map (inner_value w) ts
    steady_inner [] f = refl
    steady_inner (Object e ∷ ts) f = ap (λ ds. e ∷ ds) (steady_inner ts f)
    steady_inner (Parameter e ∷ ts) f = ap (λ ds. 0 ∷ ds) (steady_inner ts f)
    steady_inner (Apply g ds ∷ ts) f =
        let same = map-map Object (inner_value w) ds in
        let keeps = unchanged g (map Object ds) (f (place g ds) (inl refl)) in
        λ i. (ap (next.value g) (sym same) ∙ keeps ∙ ap (w.value g) same) i ∷ steady_inner ts (λ u k. f u (inr k)) i

    steady_value : (t : Term) → is_steady j m es t ≡ true → value_of next t ≡ value_of w t
    unfolding value_of
    steady_value (Object e) h = refl
    steady_value (Parameter e) h = refl
    steady_value (Apply f ts) h =
        ap (next.value f) (steady_inner ts (λ u i. steady_at (Apply f ts) h u (inr i))) ∙ unchanged f ts (steady_at (Apply f ts) h (Apply f ts) (inl refl))

    steady_values : (ts : List Term) → are_steady j m es ts ≡ true → map (value_of next) ts ≡ map (value_of w) ts
    steady_values [] h = refl
    steady_values (t ∷ ts) h = let q = and_parts (is_steady j m es t) _ h in λ i. steady_value t q.0 i ∷ steady_values ts q.1 i

    steady_instance : (ss : List (Option Term)) (ds : List ℕ) → are_steady j m es (fixed_terms ss) ≡ true → is_instance next ss ds ≡ is_instance w ss ds
    steady_instance [] [] h = refl
    steady_instance [] (e ∷ ds) h = refl
    steady_instance (None ∷ ss) [] h = refl
    steady_instance (None ∷ ss) (e ∷ ds) h = steady_instance ss ds h
    steady_instance (Some t ∷ ss) [] h = refl
    steady_instance (Some t ∷ ss) (e ∷ ds) h =
        let q = and_parts (is_steady j m es t) _ h in λ i. (steady_value t q.0 i == e) && steady_instance ss ds q.1 i

    steady_value_of : (p : ℕ) (ds : List ℕ) (b : Atom) → are_steady j m es b.arguments ≡ true → is_value_of next p ds b ≡ is_value_of w p ds b
    steady_value_of p ds b h = ap (λ vs. (b.predicate == p) && same_objects vs ds) (steady_values b.arguments h)

    -- ---- keep and back

    stays_true : (p : ℕ) (ts : List Term) → are_barred j m (would_make_false j m p ts) es ≡ true → w.truth p (map (value_of w) ts) ≡ true → next.truth p (map (value_of w) ts) ≡ true
    unfolding applied_to
    stays_true p ts h t =
        last_written_has (λ y. y ≡ true) (written_truth w p (map (value_of w) ts)) w es _
        (λ e y i k v. ⊎_elim (λ q. q) (λ q. absurd (not_barred (would_make_false j m p ts) es h e i k (makes_false p ts e.target (v ∙ ap Some q)))) (cases_Bool y)) t

    stays_false : (p : ℕ) (ts : List Term) → are_barred j m (would_make_true j m p ts) es ≡ true → w.truth p (map (value_of w) ts) ≡ false → next.truth p (map (value_of w) ts) ≡ false
    unfolding applied_to
    stays_false p ts h t =
        last_written_has (λ y. y ≡ false) (written_truth w p (map (value_of w) ts)) w es _
        (λ e y i k v. ⊎_elim (λ q. absurd (not_barred (would_make_true j m p ts) es h e i k (makes_true p ts e.target (v ∙ ap Some q)))) (λ q. q) (cases_Bool y)) t

    stays : (r : Relation) (ts : List Term) (b : Bool) → are_barred j m (would_deny j m r ts b) es ≡ true → signed b (relates w r (map (value_of w) ts)) ≡ true → signed b (relates next r (map (value_of w) ts)) ≡ true
    stays (Named p) ts true k e = stays_true p ts k e
    stays (Named p) ts false k e = ap not (stays_false p ts k (not-true _ e))
    stays Equality (t ∷ u ∷ []) b k e = e
    stays Equality [] b k e = e
    stays Equality (t ∷ []) b k e = e
    stays Equality (t ∷ u ∷ v ∷ ts) b k e = e

    kept_literal : (l : Literal) → keeps_literal j m es l ≡ true → true_in w l ≡ true → true_in next l ≡ true
    unfolding true_in
    kept_literal l h t =
        let q = and_parts (are_steady j m es l.arguments) _ h in
        ap (λ ds. signed l.positive (relates next l.relation ds)) (steady_values l.arguments q.0) ∙ stays l.relation l.arguments l.positive q.1 t

    came_literal : (l : Literal) → keeps_literal j m es (negated l) ≡ true → true_in next l ≡ true → true_in w l ≡ true
    came_literal l h t =
        ⊎_elim (λ k. k)
        (λ f. absurd (true≢false (sym t ∙ not-true _ (sym (true_in-negated next l) ∙ kept_literal (negated l) h (true_in-negated w l ∙ ap not f)))))
        (cases_Bool (true_in w l))

    same_literals : (g : List Literal) → keeps_group j m es g ≡ true → Each (λ l. true_in next l ≡ true_in w l) g
    same_literals [] h = tt
    same_literals (l ∷ ls) h =
        let p = and_parts (keeps_literal j m es l && keeps_literal j m es (negated l)) _ h in
        let q = and_parts (keeps_literal j m es l) _ p.0 in (
          ⊎_elim
              (λ t. kept_literal l q.0 t ∙ sym t)
              (λ f. false_from_ne_true _ (λ t. true≢false (sym (came_literal l q.1 t) ∙ f)) ∙ sym f)
              (cases_Bool (true_in w l)),
          same_literals ls p.1,
        )

    -- an instance that is true after was true before, or an effect that fires sets it
    was_or_set : (p : ℕ) (ds : List ℕ) → next.truth p ds ≡ true → (w.truth p ds ≡ true) ⊎ ((e : Effect) × IsIn e es × (fires w e ≡ true) × (written_truth w p ds e.target ≡ Some true))
    unfolding applied_to
    was_or_set p ds h =
        last_written_has (λ y. y ≡ true → (w.truth p ds ≡ true) ⊎ ((e : Effect) × IsIn e es × (fires w e ≡ true) × (written_truth w p ds e.target ≡ Some true))) (written_truth w p ds) w es (w.truth p ds)
        (λ e y i k r t. inr (e, i, k, r ∙ ap Some t)) (λ t. inl t) h

    listed_steady : (bs : List Atom) (b : Atom) → IsIn b bs → are_steady j m es (flat_map (λ a. a.arguments) bs) ≡ true → are_steady j m es b.arguments ≡ true
    listed_steady [] b i h = absurd i
    listed_steady (c ∷ cs) b (inl e) h = ap (λ (a : Atom). are_steady j m es a.arguments) (sym e) ∙ (all_apart (is_steady j m es) c.arguments _ h).0
    listed_steady (c ∷ cs) b (inr i) h = listed_steady cs b i (all_apart (is_steady j m es) c.arguments _ h).1

    -- a listed atom before, of which an instance true before is the value, has that value after
    still_listed : (e : Entry) → are_steady j m es (entry_terms e) ≡ true → Meets w e → (ds : List ℕ) → is_instance next e.pattern.slots ds ≡ true → w.truth e.pattern.predicate ds ≡ true
        → (a : Atom) × IsIn a e.listed × (is_value_of next e.pattern.predicate ds a ≡ true)
    still_listed e h meets ds i t =
        let q = all_apart (is_steady j m es) (fixed_terms e.pattern.slots) _ h in
        let f = found_in (is_value_of w e.pattern.predicate ds) e.listed (meets.closed ds (sym (steady_instance e.pattern.slots ds q.0) ∙ i) t) in
        (f.0, f.1, steady_value_of e.pattern.predicate ds f.0 (listed_steady e.listed f.0 f.1 q.1) ∙ f.2)

    kept_region : (e : Entry) → keeps_region j m es e ≡ true → Meets w e → Meets next e
    kept_region e h meets =
        let q = and_parts (are_steady j m es (entry_terms e)) _ h in
        record {
          closed = λ ds i t.
              ⊎_elim
              (λ was. let a = still_listed e q.0 meets ds i was in any_in (is_value_of next e.pattern.predicate ds) e.listed a.0 a.1 a.2)
              (λ set. absurd (not_barred (would_widen j m e.pattern) es q.1 set.0 set.1 set.2
              (widens e.pattern ds set.0.target (sym (steady_instance e.pattern.slots ds (all_apart (is_steady j m es) (fixed_terms e.pattern.slots) _ q.0).0) ∙ i) set.3)))
              (was_or_set e.pattern.predicate ds t);
        }

    kept_fact : (f : Fact) → keeps_fact j m es f ≡ true → IsFactOf w f → IsFactOf next f
    kept_fact (FactLit l) h t = kept_literal l h t
    kept_fact (FactKx g) h t = one_same (true_in next) (true_in w) g (same_literals g h) ∙ t
    kept_fact (FactLcw e) h t = kept_region e h t

    -- keep
    pub kept_true : (f : Fact) → is_kept j m es f ≡ true → IsFactOf next f
    kept_true f h = let q = and_parts (relies j m f) _ h in kept_fact f q.1 (relied j m w right f q.0)

    -- ---- targets

    -- whether the target is so in a world u, at the values that its terms have in w
    abbrev so_in : World → Target → Bool
    so_in u (Set a) = u.truth a.predicate (map (value_of w) a.arguments)
    so_in u (Unset a) = not (u.truth a.predicate (map (value_of w) a.arguments))
    so_in u (Assign f ts value) = u.value f (map (inner_value w) ts) == value_of w value
    so_in u (Clear x) = false

    -- a literal that is a steady target is as true, before and after, as the target is so
    abbrev TellsAlike : Literal → Target → Type 0
    TellsAlike l x = is_steady_target j m es x ≡ true → (true_in next l ≡ so_in next x) × (true_in w l ≡ so_in w x)

    equation_tells : (t u : Term) → Each (λ x. is_steady_target j m es x ≡ true → ((value_of next t == value_of next u) ≡ so_in next x) × ((value_of w t == value_of w u) ≡ so_in w x)) (assignment t u)
    unfolding value_of
    equation_tells (Apply f ts) u = (
      λ h. let q = and_parts (are_steady j m es (map term_of ts)) _ h in
          let args : map (inner_value next) ts ≡ map (inner_value w) ts = sym (values-term_of next ts) ∙ steady_values (map term_of ts) q.0 ∙ values-term_of w ts in
          ((λ i. next.value f (args i) == steady_value u q.1 i), refl),
      tt,
    )
    equation_tells (Object d) u = tt
    equation_tells (Parameter d) u = tt

    tells : (r : Relation) (ts : List Term) (b : Bool) → Each (λ x. is_steady_target j m es x ≡ true → (signed b (relates next r (map (value_of next) ts)) ≡ so_in next x) × (signed b (relates w r (map (value_of w) ts)) ≡ so_in w x)) (targets_as r ts b)
    tells (Named p) ts true = (λ h. (ap (next.truth p) (steady_values ts h), refl), tt)
    tells (Named p) ts false = (λ h. (ap (λ ds. not (next.truth p ds)) (steady_values ts h), refl), tt)
    tells Equality (t ∷ u ∷ []) true =
        Rattle.pks_terms.proofs.ListLaws.each_append (λ x. is_steady_target j m es x ≡ true → ((value_of next t == value_of next u) ≡ so_in next x) × ((value_of w t == value_of w u) ≡ so_in w x)) (assignment t u) (assignment u t) (equation_tells t u)
        (Rattle.pks_terms.proofs.ListLaws.each_weaker (λ x. is_steady_target j m es x ≡ true → ((value_of next u == value_of next t) ≡ so_in next x) × ((value_of w u == value_of w t) ≡ so_in w x)) (λ x. is_steady_target j m es x ≡ true → ((value_of next t == value_of next u) ≡ so_in next x) × ((value_of w t == value_of w u) ≡ so_in w x))
        (λ x f h. let q = f h in (eqb_comm (value_of next t) (value_of next u) ∙ q.0, eqb_comm (value_of w t) (value_of w u) ∙ q.1)) (assignment u t) (equation_tells u t))
    tells Equality (t ∷ u ∷ []) false = tt
    tells Equality [] b = tt
    tells Equality (t ∷ []) b = tt
    tells Equality (t ∷ u ∷ v ∷ ts) b = tt

    literal_tells : (l : Literal) (x : Target) → IsIn x (targets_of l) → TellsAlike l x
    unfolding true_in
    literal_tells l x i = each_in (λ x. is_steady_target j m es x ≡ true → (signed l.positive (relates next l.relation (map (value_of next) l.arguments)) ≡ so_in next x) × (signed l.positive (relates w l.relation (map (value_of w) l.arguments)) ≡ so_in w x)) (targets_of l) x (tells l.relation l.arguments l.positive) i

    -- what the target of an effect writes, at the values of a form of it
    written_there : (p q : ℕ) (ts us : List Term) → (p == q) ≡ true → are_forms j m ts us ≡ true → ((p == q) && same_objects (map (value_of w) ts) (map (value_of w) us)) ≡ true
    written_there p q ts us e h = and_from _ _ e (same_objects_itself _ _ (form_values j m w right ts us h))

    -- an effect that fires, and isn't undone later, makes its target so
    fired_makes : (x y : Target) (q : Effect × List Effect) → q.0.target ≡ y → IsIn q (with_later es) → fires w q.0 ≡ true → is_target_form j m y x ≡ true → are_barred j m (would_undo j m x) q.1 ≡ true → so_in next x ≡ true
    unfolding applied_to
    fired_makes (Set b) (Set a) q e i f h u =
        let k = and_parts (a.predicate == b.predicate) _ h in
        last_written_after (λ y. y ≡ true) (written_truth w b.predicate (map (value_of w) b.arguments)) w es _ true q i f
        (ap (written_truth w b.predicate (map (value_of w) b.arguments)) e ∙ cond-true _ (Some true) None (written_there a.predicate b.predicate a.arguments b.arguments k.0 k.1)) refl
        (λ g z n o r. ⊎_elim (λ y. y) (λ y. absurd (not_barred (would_undo j m (Set b)) q.1 u g n o (makes_false b.predicate b.arguments g.target (r ∙ ap Some y)))) (cases_Bool z))
    fired_makes (Unset b) (Unset a) q e i f h u =
        let k = and_parts (a.predicate == b.predicate) _ h in
        ap not (last_written_after (λ y. y ≡ false) (written_truth w b.predicate (map (value_of w) b.arguments)) w es _ false q i f
        (ap (written_truth w b.predicate (map (value_of w) b.arguments)) e ∙ cond-true _ (Some false) None (written_there a.predicate b.predicate a.arguments b.arguments k.0 k.1)) refl
        (λ g z n o r. ⊎_elim (λ y. absurd (not_barred (would_undo j m (Unset b)) q.1 u g n o (makes_true b.predicate b.arguments g.target (r ∙ ap Some y)))) (λ y. y) (cases_Bool z)))
    fired_makes (Assign g us new) (Assign f ts value) q e i h k u =
        let n = and_parts (f == g) _ k in
        let o = and_parts (are_forms j m (map term_of ts) (map term_of us)) _ n.1 in
        let args : map (inner_value w) ts ≡ map (inner_value w) us = sym (values-term_of w ts) ∙ form_values j m w right (map term_of ts) (map term_of us) o.0 ∙ values-term_of w us in
        eq-eqb _ (value_of w new) (
        last_written_after (λ y. y ≡ value_of w new) (written_value w g (map (inner_value w) us)) w es _ (value_of w value) q i h
        (ap (written_value w g (map (inner_value w) us)) e ∙ cond-true _ (Some (value_of w value)) None (and_from _ _ n.0 (same_objects_itself _ _ args))) (form_value j m w right value new o.1)
        (λ c z l v r. absurd (not_barred (would_undo j m (Assign g us new)) q.1 u c l v (changes g us c.target z r))))
    fired_makes (Set b) (Unset a) q e i f h u = absurd (true≢false (sym h))
    fired_makes (Set b) (Clear a) q e i f h u = absurd (true≢false (sym h))
    fired_makes (Set b) (Assign a c d) q e i f h u = absurd (true≢false (sym h))
    fired_makes (Unset b) (Set a) q e i f h u = absurd (true≢false (sym h))
    fired_makes (Unset b) (Clear a) q e i f h u = absurd (true≢false (sym h))
    fired_makes (Unset b) (Assign a c d) q e i f h u = absurd (true≢false (sym h))
    fired_makes (Assign g us new) (Set a) q e i f h u = absurd (true≢false (sym h))
    fired_makes (Assign g us new) (Unset a) q e i f h u = absurd (true≢false (sym h))
    fired_makes (Assign g us new) (Clear a) q e i f h u = absurd (true≢false (sym h))
    fired_makes (Clear b) (Set a) q e i f h u = absurd (true≢false (sym h))
    fired_makes (Clear b) (Unset a) q e i f h u = absurd (true≢false (sym h))
    fired_makes (Clear b) (Clear a) q e i f h u = absurd (true≢false (sym h))
    fired_makes (Clear b) (Assign a c d) q e i f h u = absurd (true≢false (sym h))

    -- effect
    pub effect_true : (l : Literal) → is_effect j m es l ≡ true → true_in next l ≡ true
    effect_true l h =
        let x = found_in (λ x. list_any (λ q. is_steady_form j m es q.0 x && (are_cited j m q.0.condition && are_barred j m (would_undo j m x) q.1)) (with_later es)) (targets_of l) h in
        let q = found_in (λ q. is_steady_form j m es q.0 x.0 && (are_cited j m q.0.condition && are_barred j m (would_undo j m x.0) q.1)) (with_later es) x.2 in
        let b = and_parts (is_steady_form j m es q.0.0 x.0) _ q.2 in
        let c = and_parts (is_target_form j m q.0.0.target x.0) _ b.0 in
        let d = and_parts (are_cited j m q.0.0.condition) _ b.1 in
        (literal_tells l x.0 x.1 c.1).0 ∙ fired_makes x.0 q.0.0.target q.0 refl q.1 (all_cited_true j m w right q.0.0.condition d.0) c.0 d.1

    -- where a target becomes so that wasn't, an effect that fires would make it so
    became : (x : Target) → so_in w x ≡ false → so_in next x ≡ true → (e : Effect) × IsIn e es × (fires w e ≡ true) × (would_make_same j m x e.target ≡ true)
    unfolding applied_to
    became (Set a) f t =
        let Found : Type 0 = (e : Effect) × IsIn e es × (fires w e ≡ true) × (would_make_same j m (Set a) e.target ≡ true) in
        last_written_has (λ y. y ≡ true → Found) (written_truth w a.predicate (map (value_of w) a.arguments)) w es _ (λ e y i k r h. (e, i, k, makes_true a.predicate a.arguments e.target (r ∙ ap Some h))) (λ h. absurd (true≢false (sym h ∙ f))) t
    became (Unset a) f t =
        let Found : Type 0 = (e : Effect) × IsIn e es × (fires w e ≡ true) × (would_make_same j m (Unset a) e.target ≡ true) in
        last_written_has (λ y. y ≡ false → Found) (written_truth w a.predicate (map (value_of w) a.arguments)) w es _ (λ e y i k r h. (e, i, k, makes_false a.predicate a.arguments e.target (r ∙ ap Some h))) (λ h. absurd (true≢false (sym (ap not h) ∙ f))) (not-true _ t)
    became (Assign f ts value) unlike t =
        let Found : Type 0 = (e : Effect) × IsIn e es × (fires w e ≡ true) × (would_make_same j m (Assign f ts value) e.target ≡ true) in
        last_written_has (λ y. (y == value_of w value) ≡ true → Found) (written_value w f (map (inner_value w) ts)) w es _
        (λ e y i k r h. (e, i, k, and_from _ _ (changes f ts e.target y r) (not_from_false _ (false_from_ne_true _ (λ o. other e.target y r (eqb-true y (value_of w value) h) o))))) (λ h. absurd (true≢false (sym h ∙ unlike))) t
      where
        other : (x : Target) (y : ℕ) → written_value w f (map (inner_value w) ts) x ≡ Some y → y ≡ value_of w value → assigns_other j m value x ≡ true → ⊥
        other (Assign g us new) y r h k = inequation_true j m w right new value k ((cond_some _ (value_of w new) y r).1 ∙ h)
        other (Set b) y r h k = true≢false (sym k)
        other (Unset b) y r h k = true≢false (sym k)
        other (Clear b) y r h k = true≢false (sym k)
    became (Clear x) f t = absurd (true≢false (sym t))

    -- ---- regions that grow, and that are cleared

    set_atom_of : (p : ℕ) (ds : List ℕ) (x : Target) → written_truth w p ds x ≡ Some true → (a : Atom) × (x ≡ Set a) × (is_value_of w p ds a ≡ true)
    set_atom_of p ds (Set a) h = (a, refl, (cond_some _ true true h).0)
    set_atom_of p ds (Unset a) h = absurd (true≢false (sym (cond_some _ false true h).1))
    set_atom_of p ds (Clear x) h = absurd (true≢false (sym (cond_some _ false true h).1))
    set_atom_of p ds (Assign f ts v) h = absurd (none-some true h)

    in_listed : (bs : List Atom) (b : Atom) → is_listed bs b ≡ true → IsIn b bs
    in_listed [] b h = absurd (true≢false (sym h))
    in_listed (c ∷ cs) b h = ⊎_elim (λ e. inl (atom_cmp_tells c b ((Equal-is _).0 e))) (λ e. inr (in_listed cs b e)) (or_cases (Rattle.std.specs.Ordering.is_eq (atom_cmp c b)) _ h)

    set_form_value : (p : ℕ) (ds : List ℕ) (a b : Atom) → is_set_form j m es (Set a) b ≡ true → is_value_of w p ds a ≡ true → is_value_of next p ds b ≡ true
    set_form_value p ds a b h v =
        let q = and_parts (a.predicate == b.predicate) _ h in
        let k = and_parts (are_forms j m a.arguments b.arguments) _ q.1 in
        steady_value_of p ds b k.1 ∙ (λ i. (sym (eqb-true a.predicate b.predicate q.0) i == p) && same_objects (sym (form_values j m w right a.arguments b.arguments k.0) i) ds) ∙ v

    grown_region : (r e : Entry) → grows_to j m es r e ≡ true → Meets w e → Meets next r
    grown_region r e h meets =
        let a = and_parts (Rattle.std.specs.Ordering.is_eq (pattern_cmp e.pattern r.pattern)) _ h in
        let b = and_parts (are_steady j m es (entry_terms e)) _ a.1 in
        let c = and_parts (list_all (is_listed r.listed) e.listed) _ b.1 in
        let d = and_parts (list_all (is_taken_in j m es r) es) _ c.1 in
        let same : e.pattern ≡ r.pattern = pattern_cmp_tells e.pattern r.pattern ((Equal-is _).0 a.0) in
        record {
          closed = λ ds i t.
              let before : is_instance next e.pattern.slots ds ≡ true = ap (λ (x : Pattern). is_instance next x.slots ds) same ∙ i in
              ⊎_elim
              (λ was. let f = still_listed e b.0 meets ds before (ap (λ (x : Pattern). w.truth x.predicate ds) same ∙ was) in
              any_in (is_value_of next r.pattern.predicate ds) r.listed f.0 (in_listed r.listed f.0 (all_parts (is_listed r.listed) e.listed c.0 f.0 f.1)) (ap (λ (x : Pattern). is_value_of next x.predicate ds f.0) (sym same) ∙ f.2))
              (λ set.
              let x = set_atom_of r.pattern.predicate ds set.0.target set.3 in
              let steady : is_instance w e.pattern.slots ds ≡ true = sym (steady_instance e.pattern.slots ds (all_apart (is_steady j m es) (fixed_terms e.pattern.slots) _ b.0).0) ∙ before in
              let would = widens r.pattern ds set.0.target (ap (λ (x : Pattern). is_instance w x.slots ds) (sym same) ∙ steady) set.3 in
              ⊎_elim
              (λ bar. absurd (not_barred (would_widen j m r.pattern) (set.0 ∷ []) (and_from _ _ bar refl) set.0 (inl refl) set.2 would))
              (λ some. let g = found_in (is_set_form j m es set.0.target) r.listed some in
              any_in (is_value_of next r.pattern.predicate ds) r.listed g.0 g.1 (set_form_value r.pattern.predicate ds x.0 g.0 (ap (λ y. is_set_form j m es y g.0) (sym x.1) ∙ g.2) x.2))
              (or_cases (is_barred j m (would_widen j m r.pattern) set.0) _ (all_parts (is_taken_in j m es r) es d.0 set.0 set.1)))
              (was_or_set r.pattern.predicate ds t);
        }

    -- grow
    pub grown_true : (r : Entry) → is_grown j m es r ≡ true → Meets next r
    grown_true r h = let e = region_found j m w right (grows_to j m es r) h in grown_region r e.0 e.2 e.1

    no_condition : (c : List Literal) → is_empty c ≡ true → all_true_in w c ≡ true
    unfolding all_true_in
    no_condition [] h = refl
    no_condition (l ∷ c) h = absurd (true≢false (sym h))

    clears : (x : Target) (y : Pattern) (ds : List ℕ) → is_clear_form j m x y ≡ true → is_instance w y.slots ds ≡ true → written_truth w y.predicate ds x ≡ Some false
    clears (Clear x) y ds h i =
        let q = and_parts (x.predicate == y.predicate) _ h in
        cond-true _ (Some false) None (and_from _ _ q.0 (slot_forms j m w right x.slots y.slots q.1 ds ∙ i))
    clears (Set a) y ds h i = absurd (true≢false (sym h))
    clears (Unset a) y ds h i = absurd (true≢false (sym h))
    clears (Assign f ts v) y ds h i = absurd (true≢false (sym h))

    -- clear
    pub cleared_true : (r : Entry) → is_cleared j m es r ≡ true → Meets next r
    unfolding applied_to
    cleared_true r h =
        let a = and_parts (is_empty r.listed) _ h in
        let b = and_parts (are_steady j m es (fixed_terms r.pattern.slots)) _ a.1 in
        let q = found_in (λ q. is_empty q.0.condition && (is_clear_form j m q.0.target r.pattern && are_barred j m (would_widen j m r.pattern) q.1)) (with_later es) b.1 in
        let c = and_parts (is_empty q.0.0.condition) _ q.2 in
        let d = and_parts (is_clear_form j m q.0.0.target r.pattern) _ c.1 in
        record {
          closed = λ ds i t.
              let before : is_instance w r.pattern.slots ds ≡ true = sym (steady_instance r.pattern.slots ds b.0) ∙ i in
              absurd (true≢false (sym t ∙
              last_written_after (λ y. y ≡ false) (written_truth w r.pattern.predicate ds) w es _ false q.0 q.1 (no_condition q.0.0.condition c.0) (clears q.0.0.target r.pattern ds d.0 before) refl
              (λ g z n o v. ⊎_elim (λ y. absurd (not_barred (would_widen j m r.pattern) q.0.1 d.1 g n o (widens r.pattern ds g.target before (v ∙ ap Some y)))) (λ y. y) (cases_Bool z))));
        }

    -- ---- what is cited after

    module _ (after : Each (IsFactOf next) (j (suc m))) where
      -- back
      pub later_true : (l : Literal) → is_from_later j m es l ≡ true → true_in w l ≡ true
      later_true l h = let q = and_parts (is_cited j (suc m) l) _ h in came_literal l q.1 (cited_true j (suc m) next after l q.0)

      -- must
      pub needed_true : (l : Literal) → is_needed j m es l ≡ true → true_in w l ≡ true
      needed_true l h =
          let q = found_in (λ q. list_any (literal_eq l) q.0.condition && some_literal j (suc m) (is_only_made_by j m es q)) (with_others es) h in
          let a = and_parts (list_any (literal_eq l) q.0.0.condition) _ q.2 in
          let c = found_in (literal_eq l) q.0.0.condition a.0 in
          let k = literal_found j (suc m) next after (is_only_made_by j m es q.0) a.1 in
          let b = and_parts (is_cited j m (negated k.0)) _ k.2 in
          let x = found_in (λ x. is_steady_form j m es q.0.0 x && are_barred j m (would_make_same j m x) q.0.1) (targets_of k.0) b.1 in
          let d = and_parts (is_steady_form j m es q.0.0 x.0) _ x.2 in
          let e = and_parts (is_target_form j m q.0.0.target x.0) _ d.0 in
          let told = literal_tells k.0 x.0 x.1 e.1 in
          let change = became x.0 (sym told.1 ∙ cited_false j m w right k.0 b.0) (sym told.0 ∙ k.1) in
          let fire : fires w q.0.0 ≡ true = ⊎_elim (λ s. ap (fires w) s ∙ change.2) (λ o. absurd (not_barred (would_make_same j m x.0) q.0.1 d.1 change.0 o change.2 change.3)) (this_or_other es q.0 q.1 change.0 change.1) in
          ap (true_in w) (same_literal l c.0 c.2) ∙ each_in (λ l. true_in w l ≡ true) q.0.0.condition c.0 (all_true_each j m w right q.0.0.condition fire) c.1

      -- cannot
      pub failed_true : (l : Literal) → is_failed j m es l ≡ true → true_in w l ≡ true
      failed_true l h =
          let q = found_in (λ q. list_any (λ c. literal_eq l (negated c.0) && are_cited j m c.1) (with_others q.0.condition) && some_literal j (suc m) (is_missed_by j m es q)) (with_later es) h in
          let a = and_parts (list_any (λ c. literal_eq l (negated c.0) && are_cited j m c.1) (with_others q.0.0.condition)) _ q.2 in
          let c = found_in (λ c. literal_eq l (negated c.0) && are_cited j m c.1) (with_others q.0.0.condition) a.0 in
          let d = and_parts (literal_eq l (negated c.0.0)) _ c.2 in
          let k = literal_found j (suc m) next after (is_missed_by j m es q.0) a.1 in
          let x = found_in (λ x. is_steady_form j m es q.0.0 x && are_barred j m (would_undo j m x) q.0.1) (targets_of (negated k.0)) k.2 in
          let e = and_parts (is_steady_form j m es q.0.0 x.0) _ x.2 in
          let f = and_parts (is_target_form j m q.0.0.target x.0) _ e.0 in
          let quiet : all_true_in w q.0.0.condition ≡ false = false_from_ne_true _ (λ fire.
          true≢false (sym (fired_makes x.0 q.0.0.target q.0 refl q.1 fire f.0 e.1) ∙ sym (literal_tells (negated k.0) x.0 x.1 f.1).0 ∙ true_in-negated next k.0 ∙ ap not k.1)) in
          ap (true_in w) (same_literal l (negated c.0.0) d.0) ∙ true_in-negated w c.0.0 ∙ ap not (Rattle.pks_proof_lines.proofs.Within.one_false j m w right q.0.0.condition c.0 c.1 (all_cited j m w right c.0.1 d.1) quiet)
