-- The databases after an action, as they are before they are closed, are true of the world after it.
use Rattle.std.proofs.Common.{◌≡◌, ◌⊎◌, ◌&&◌, ◌==◌, ℕ, true, false, cond, not, List, [], ◌∷◌, ◌++◌, map, filter, filter_map, flat_map, Option, Some, None, option_map, refl, sym, ap, ◌∙◌, subst, inl, inr, ⊎_elim, true≢false}
use Rattle.std.proofs.lemmas.Bool.{and_parts, and_from, cases_Bool, not-true, cond-true}
use Rattle.std.proofs.lemmas.Option.{none-some, same_Some, cond_some, option_and_then_some}
use Rattle.pks_terms.specs.Signatures.{Signature}
use Rattle.pks_terms.specs.Sets.{Each, IsIn, insert_in, exactly_one}
use Rattle.pks_terms.specs.Syntax.{Inner, Term, Literal, Atom, Pattern, negated}
use Rattle.pks_terms.specs.Worlds.{World, value_of, true_in}
use Rattle.pks_terms.specs.Databases.{Entry, Five, same_objects, normal}
use Rattle.pks_terms.specs.Meaning.{is_instance, is_value_of, Meets, IsTrueIn}
use Rattle.pks_terms.specs.Closure.{normal_atom}
use Rattle.pks_terms.specs.Queries.{Plain, Query, answers_plain, answers}
use Rattle.pks_terms.specs.Actions.{Target, Set, Unset, Clear, Assign, Effect, Add, Schema, plain_at, query_at, fires, written_truth, applied_to}
use Rattle.pks_terms.specs.Spoiling.{may_fire, some_fixed_differ, is_stable, are_stable, spoils}
use Rattle.pks_terms.specs.Justified.{given_of}
use Rattle.pks_terms.specs.Branching.{is_allowed}
use Rattle.pks_terms.specs.Progress.{is_untouched, fixed_terms, entry_terms, widened_by, widened, kept_entry, is_applied_in}
use Rattle.pks_terms.proofs.ListLaws.{each_append, each_in, each_filter, each_filter_map, each_from_all, found_in, any_in, one_same}
use Rattle.pks_terms.specs.Orders.{atom_cmp}
use Rattle.pks_terms.specs.Totality.{atom_cmp_total}
use Rattle.pks_terms.proofs.OrderLaws.{atom_cmp_tells}
use Rattle.pks_terms.proofs.SetLaws.{inserted_in}
use Rattle.pks_laws.proofs.Values.{same_objects_same, values-normal}
use Rattle.pks_laws.proofs.Holding.{true_in-negated, same_objects_itself}
use Rattle.pks_laws.proofs.Changing.{last_written_has, fires_may, stable_value, stable_values, unspoiled_stays, instance_not_apart}

-- where an add is applied, all that its text gives is answered
pub given_answered : (s : Signature) (d : Five) (sc : Schema) (given : List Inner) (a : Add) → is_allowed s d sc given ≡ true → is_applied_in s d given a ≡ true → Each (λ q. answers_plain s d (plain_at given q) ≡ true) (given_of sc a)
given_answered s d sc given a allowed applied =
    let P : Query → Type 0 = λ q. answers s d (query_at given q) ≡ true in
    let all : Each P (a.given ++ sc.pre) = each_append P a.given sc.pre (each_from_all P (λ q. answers s d (query_at given q)) (λ q h. h) a.given applied) (each_from_all P (λ q. answers s d (query_at given q)) (λ q h. h) sc.pre allowed) in
    each_filter_map (λ q. answers_plain s d (plain_at given q) ≡ true) (λ (q : Query). cond q.denied None (Some q.asks)) (a.given ++ sc.pre) (λ q x i h. plainly q x (each_in P (a.given ++ sc.pre) q all i) h)
  where
    plainly : (q : Query) (x : Plain) → answers s d (query_at given q) ≡ true → cond q.denied None (Some q.asks) ≡ Some x → answers_plain s d (plain_at given x) ≡ true
    plainly q x h e =
        elim q.denied as (λ b. q.denied ≡ b → cond b (not (answers_plain s d (plain_at given q.asks))) (answers_plain s d (plain_at given q.asks)) ≡ true → cond b None (Some q.asks) ≡ Some x → answers_plain s d (plain_at given x) ≡ true) [
          | true ↦ λ k l n. absurd (none-some x n)
          | false ↦ λ k l n. ap (λ y. answers_plain s d (plain_at given y)) (sym (same_Some q.asks x n)) ∙ l
        ] refl h e

module _ {s : Signature} (w : World) (d : Five) (m : IsTrueIn s w d) (es : List Effect) where
  abbrev now : World
  now = applied_to w es

  -- what is untouched is as true as before
  pub untouched_same : (c : List Literal) → is_untouched s d es c ≡ true → Each (λ l. true_in now l ≡ true_in w l) c
  untouched_same [] h = tt
  untouched_same (l ∷ ls) h =
      let p = and_parts _ _ h in
      let q = and_parts (not (spoils s d es l)) (not (spoils s d es (negated l))) p.0 in (
        ⊎_elim
            (λ t. unspoiled_stays w d m es l (not-true _ q.0) t ∙ sym t)
            (λ f. let n = unspoiled_stays w d m es (negated l) (not-true _ q.1) (true_in-negated w l ∙ ap not f) in not-true _ (sym (true_in-negated now l) ∙ n) ∙ sym f)
            (cases_Bool (true_in w l)),
        untouched_same ls p.1,
      )

  pub kept_known : Each (λ l. true_in now l ≡ true) (filter (λ l. not (spoils s d es l)) d.kf)
  kept_known = each_filter (λ l. true_in now l ≡ true) (λ l. not (spoils s d es l)) d.kf (λ l i h. unspoiled_stays w d m es l (not-true _ h) (each_in (λ l. true_in w l ≡ true) d.kf l m.known i))

  pub kept_groups : Each (λ g. exactly_one (true_in now) g ≡ true) (filter (is_untouched s d es) d.kx)
  kept_groups = each_filter (λ g. exactly_one (true_in now) g ≡ true) (is_untouched s d es) d.kx
      (λ g i h. one_same (true_in now) (true_in w) g (untouched_same g h) ∙ each_in (λ g. exactly_one (true_in w) g ≡ true) d.kx g m.groups i)

  -- ---- regions

  pub stable_instance : (ss : List (Option Term)) (ds : List ℕ) → are_stable s d es (fixed_terms ss) ≡ true → is_instance now ss ds ≡ is_instance w ss ds
  stable_instance [] [] h = refl
  stable_instance [] (e ∷ ds) h = refl
  stable_instance (None ∷ ss) [] h = refl
  stable_instance (None ∷ ss) (e ∷ ds) h = stable_instance ss ds h
  stable_instance (Some t ∷ ss) [] h = refl
  stable_instance (Some t ∷ ss) (e ∷ ds) h =
      let p = and_parts (is_stable s d es t) _ h in λ i. (stable_value w d m es t p.0 i == e) && stable_instance ss ds p.1 i

  -- an instance that is true after was true before, or an effect that fires sets it
  was_or_set : (p : ℕ) (ds : List ℕ) → now.truth p ds ≡ true → (w.truth p ds ≡ true) ⊎ ((e : Effect) × IsIn e es × (fires w e ≡ true) × (written_truth w p ds e.target ≡ Some true))
  unfolding applied_to
  was_or_set p ds h =
      last_written_has (λ y. y ≡ true → (w.truth p ds ≡ true) ⊎ ((e : Effect) × IsIn e es × (fires w e ≡ true) × (written_truth w p ds e.target ≡ Some true))) (written_truth w p ds) w es (w.truth p ds)
      (λ e y i k r t. inr (e, i, k, r ∙ ap Some t)) (λ t. inl t) h

  -- ---- how a list is widened

  abbrev one_wider : Pattern → Effect → List Atom → Option (List Atom)
  one_wider x e listed = cond (may_fire s d e) (widened_by s d es x e.target listed) (Some listed)

  target_keeps : (x : Pattern) (t : Target) (listed more : List Atom) → widened_by s d es x t listed ≡ Some more → (b : Atom) → IsIn b listed → IsIn b more
  target_keeps x (Set a) listed more h b i =
      elim ((a.predicate == x.predicate) && not (some_fixed_differ s d.kf x.slots a.arguments)) as (λ c. cond c (cond (are_stable s d es (map (normal d.kf) a.arguments)) (Some (insert_in atom_cmp (normal_atom d.kf a) listed)) None) (Some listed) ≡ Some more → IsIn b more) [
        | true ↦ λ r. subst (IsIn b) (cond_some (are_stable s d es (map (normal d.kf) a.arguments)) (insert_in atom_cmp (normal_atom d.kf a) listed) more r).1 (inserted_in atom_cmp_total atom_cmp_tells (normal_atom d.kf a) listed b (inr i))
        | false ↦ λ r. subst (IsIn b) (same_Some listed more r) i
      ] h
  target_keeps x (Unset a) listed more h b i = subst (IsIn b) (same_Some listed more h) i
  target_keeps x (Clear y) listed more h b i = subst (IsIn b) (same_Some listed more h) i
  target_keeps x (Assign f ts v) listed more h b i = subst (IsIn b) (same_Some listed more h) i

  one_keeps : (x : Pattern) (e : Effect) (listed more : List Atom) → one_wider x e listed ≡ Some more → (b : Atom) → IsIn b listed → IsIn b more
  one_keeps x e listed more h b i =
      elim (may_fire s d e) as (λ c. cond c (widened_by s d es x e.target listed) (Some listed) ≡ Some more → IsIn b more) [
        | true ↦ λ r. target_keeps x e.target listed more r b i
        | false ↦ λ r. subst (IsIn b) (same_Some listed more r) i
      ] h

  widened_keeps : (x : Pattern) (rest : List Effect) (listed all : List Atom) → widened s d es x rest listed ≡ Some all → (b : Atom) → IsIn b listed → IsIn b all
  widened_keeps x [] listed all h b i = subst (IsIn b) (same_Some listed all h) i
  widened_keeps x (e ∷ rest) listed all h b i =
      option_and_then_some (widened s d es x rest) (one_wider x e listed) all h (λ more k r. widened_keeps x rest more all r b (one_keeps x e listed more k b i))

  -- an atom that may be set is listed, and its arguments are stable
  widened_has : (x : Pattern) (rest : List Effect) (listed all : List Atom) → widened s d es x rest listed ≡ Some all → (e : Effect) (a : Atom) → IsIn e rest → may_fire s d e ≡ true → e.target ≡ Set a
      → ((a.predicate == x.predicate) && not (some_fixed_differ s d.kf x.slots a.arguments)) ≡ true → (are_stable s d es (map (normal d.kf) a.arguments) ≡ true) × IsIn (normal_atom d.kf a) all
  widened_has x [] listed all h e a i fire t c = absurd i
  widened_has x (f ∷ rest) listed all h e a (inr i) fire t c = option_and_then_some (widened s d es x rest) (one_wider x f listed) all h (λ more k r. widened_has x rest more all r e a i fire t c)
  widened_has x (f ∷ rest) listed all h e a (inl q) fire t c =
      option_and_then_some (widened s d es x rest) (one_wider x f listed) all h (λ more k r.
      let set : widened_by s d es x (Set a) listed ≡ Some more =
      sym (ap (λ u. widened_by s d es x u listed) t) ∙ sym (cond-true (may_fire s d e) (widened_by s d es x e.target listed) (Some listed) fire) ∙ ap (λ e. one_wider x e listed) (sym q) ∙ k in
      let parts = cond_some (are_stable s d es (map (normal d.kf) a.arguments)) (insert_in atom_cmp (normal_atom d.kf a) listed) more (sym (cond-true _ (cond (are_stable s d es (map (normal d.kf) a.arguments)) (Some (insert_in atom_cmp (normal_atom d.kf a) listed)) None) (Some listed) c) ∙ set) in
      (parts.0, widened_keeps x rest more all r (normal_atom d.kf a) (subst (IsIn (normal_atom d.kf a)) parts.1 (inserted_in atom_cmp_total atom_cmp_tells (normal_atom d.kf a) listed (normal_atom d.kf a) (inl refl)))))

  set_atom_of : (p : ℕ) (ds : List ℕ) (x : Target) → written_truth w p ds x ≡ Some true → (a : Atom) × (x ≡ Set a) × (is_value_of w p ds a ≡ true)
  set_atom_of p ds (Set a) h = (a, refl, (cond_some _ true true h).0)
  set_atom_of p ds (Unset a) h = absurd (true≢false (sym (cond_some _ false true h).1))
  set_atom_of p ds (Clear x) h = absurd (true≢false (sym (cond_some _ false true h).1))
  set_atom_of p ds (Assign f ts v) h = absurd (none-some true h)

  stable_value_of : (p : ℕ) (ds : List ℕ) (b : Atom) → are_stable s d es b.arguments ≡ true → is_value_of w p ds b ≡ true → is_value_of now p ds b ≡ true
  stable_value_of p ds b h k = ap (λ vs. (b.predicate == p) && same_objects vs ds) (stable_values w d m es b.arguments h) ∙ k

  all_front : (ts us : List Term) → are_stable s d es (ts ++ us) ≡ true → (are_stable s d es ts ≡ true) × (are_stable s d es us ≡ true)
  all_front [] us h = (refl, h)
  all_front (t ∷ ts) us h = let p = and_parts (is_stable s d es t) _ h in let q = all_front ts us p.1 in (and_from _ _ p.0 q.0, q.1)

  listed_stable : (bs : List Atom) (b : Atom) → IsIn b bs → are_stable s d es (flat_map (λ a. a.arguments) bs) ≡ true → are_stable s d es b.arguments ≡ true
  listed_stable [] b i h = absurd i
  listed_stable (c ∷ cs) b (inl e) h = ap (λ (a : Atom). are_stable s d es a.arguments) (sym e) ∙ (all_front c.arguments _ h).0
  listed_stable (c ∷ cs) b (inr i) h = listed_stable cs b i (all_front c.arguments _ h).1

  kept_region : (r k : Entry) → Meets w r → kept_entry s d es r ≡ Some k → Meets now k
  kept_region r k meets h =
      elim (are_stable s d es (entry_terms r)) as (λ b. are_stable s d es (entry_terms r) ≡ b → cond b (option_map (λ (listed : List Atom). let e : Entry = record { pattern = r.pattern; listed = listed } in e) (widened s d es r.pattern es r.listed)) None ≡ Some k → Meets now k) [
        | false ↦ λ q e. absurd (none-some k e)
        | true ↦ λ q. elim (widened s d es r.pattern es r.listed) as (λ o. widened s d es r.pattern es r.listed ≡ o → option_map (λ (listed : List Atom). let e : Entry = record { pattern = r.pattern; listed = listed } in e) o ≡ Some k → Meets now k) [
          | None ↦ λ wide e. absurd (none-some k e)
          | Some all ↦ λ wide e. subst (Meets now) (same_Some _ k e) (met all q wide)
        ] refl
      ] refl h
    where
      met : (all : List Atom) → are_stable s d es (entry_terms r) ≡ true → widened s d es r.pattern es r.listed ≡ Some all → Meets now (record { pattern = r.pattern; listed = all })
      met all q wide =
          let parts = all_front (fixed_terms r.pattern.slots) _ q in
          record {
            closed = λ ds i t.
                let before : is_instance w r.pattern.slots ds ≡ true = sym (stable_instance r.pattern.slots ds parts.0) ∙ i in
                ⊎_elim
                (λ was. let f = found_in (is_value_of w r.pattern.predicate ds) r.listed (meets.closed ds before was) in
                any_in (is_value_of now r.pattern.predicate ds) all f.0 (widened_keeps r.pattern es r.listed all wide f.0 f.1) (stable_value_of r.pattern.predicate ds f.0 (listed_stable r.listed f.0 f.1 parts.1) f.2))
                (λ set.
                let a = set_atom_of r.pattern.predicate ds set.0.target set.3 in
                let same = and_parts (a.0.predicate == r.pattern.predicate) _ a.2 in
                let values : map (value_of w) a.0.arguments ≡ ds = same_objects_same _ _ same.1 in
                let fits = instance_not_apart w d m r.pattern.slots a.0.arguments (ap (is_instance w r.pattern.slots) values ∙ before) in
                let has = widened_has r.pattern es r.listed all wide set.0 a.0 set.1 (fires_may w d m set.0 set.2) a.1 (and_from _ _ same.0 fits) in
                any_in (is_value_of now r.pattern.predicate ds) all (normal_atom d.kf a.0) has.1
                (stable_value_of r.pattern.predicate ds (normal_atom d.kf a.0) has.0 (and_from _ _ same.0 (same_objects_itself _ _ (values-normal w d.kf m.known a.0.arguments ∙ values)))))
                (was_or_set r.pattern.predicate ds t);
          }

  pub kept_regions : Each (Meets now) (filter_map (kept_entry s d es) d.lcw)
  kept_regions = each_filter_map (Meets now) (kept_entry s d es) d.lcw (λ r k i h. kept_region r k (each_in (Meets w) d.lcw r m.regions i) h)
