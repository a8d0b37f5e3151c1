-- An action whose effects are idle leaves the world as it is.
use Rattle.std.proofs.Common.{◌≡◌, ◌==◌, ◌||◌, ◌&&◌, ℕ, Bool, true, false, not, List, map, Option, Some, None, refl, sym, ap, ◌∙◌, subst, ⊎_elim, true≢false}
use Rattle.std.specs.Prelude.{IsTrue}
use Rattle.std.specs.List.{list_all}
use Rattle.std.proofs.lemmas.Bool.{or_cases, and_parts, eqb-true, not-true, not-false}
use Rattle.std.proofs.lemmas.Option.{none-some, same_Some, cond_some}
use Rattle.pks_terms.specs.Sets.{IsIn}
use Rattle.pks_terms.specs.Syntax.{Term, Atom, affirmed}
use Rattle.pks_terms.specs.Worlds.{World, value_of, true_in, all_true_in}
use Rattle.pks_terms.specs.Meaning.{is_value_of}
use Rattle.pks_terms.specs.Actions.{Target, Set, Unset, Clear, Assign, Effect, Instance, effect_at, fires, written_truth, written_value, applied_to}
use Rattle.pks_terms.specs.Problems.{Problem, schema_of}
use Rattle.pks_terms.specs.Knowledge.{after_action}
use Rattle.pks_terms.proofs.ListLaws.{each_in, each_from_all}
use Rattle.pks_laws.proofs.Values.{same_objects_same}
use Rattle.pks_laws.proofs.Changing.{last_written_has}
use Rattle.pks_search_witness.specs.Idle.{is_written, is_idle, are_idle}

module _ (w : World) where
  -- the atom has the truth of its value
  truth_there : (p : ℕ) (ds : List ℕ) (a : Atom) → is_value_of w p ds a ≡ true → true_in w (affirmed a) ≡ w.truth p ds
  truth_there p ds a h =
      unfold true_in in
      let q = and_parts (a.predicate == p) _ h in
      ap (λ n. w.truth n (map (value_of w) a.arguments)) (eqb-true a.predicate p q.0) ∙ ap (w.truth p) (same_objects_same _ _ q.1)

  -- what it makes true or false is so
  written_so : (p : ℕ) (ds : List ℕ) (x : Target) (b : Bool) → is_written w x ≡ true → written_truth w p ds x ≡ Some b → b ≡ w.truth p ds
  written_so p ds (Set a) b k h = let c = cond_some (is_value_of w p ds a) true b h in sym c.1 ∙ (sym k ∙ truth_there p ds a c.0)
  written_so p ds (Unset a) b k h = let c = cond_some (is_value_of w p ds a) false b h in sym c.1 ∙ (sym (not-true (true_in w (affirmed a)) k) ∙ truth_there p ds a c.0)
  written_so p ds (Clear x) b k h = absurd (true≢false (sym k))
  written_so p ds (Assign f ts value) b k h = absurd (true≢false (sym k))

  -- and it gives no value
  no_value : (f : ℕ) (ds : List ℕ) (x : Target) (d : ℕ) → is_written w x ≡ true → written_value w f ds x ≡ Some d → d ≡ w.value f ds
  no_value f ds (Set a) d k h = absurd (none-some d h)
  no_value f ds (Unset a) d k h = absurd (none-some d h)
  no_value f ds (Clear x) d k h = absurd (none-some d h)
  no_value f ds (Assign g ts value) d k h = absurd (true≢false (sym k))

  -- an idle effect that fires finds what it makes so
  written_where : (e : Effect) → is_idle w e ≡ true → fires w e ≡ true → is_written w e.target ≡ true
  written_where e k fire = ⊎_elim (λ n. absurd (true≢false (sym fire ∙ not-true (fires w e) n))) (λ so. so) (or_cases (not (fires w e)) (is_written w e.target) k)

  all_stays : (es : List Effect) → list_all (is_idle w) es ≡ true → applied_to w es ≡ w
  unfolding applied_to
  all_stays es k = λ i. record {
    truth = λ p ds. last_written_has (λ b. b ≡ w.truth p ds) (written_truth w p ds) w es (w.truth p ds) (λ e b j fire h. written_so p ds e.target b (written_where e (idle e j) fire) h) refl i;
    value = λ f ds. last_written_has (λ d. d ≡ w.value f ds) (written_value w f ds) w es (w.value f ds) (λ e d j fire h. no_value f ds e.target d (written_where e (idle e j) fire) h) refl i;
  }
    where
      idle : (e : Effect) → IsIn e es → is_idle w e ≡ true
      idle e j = each_in (λ e. is_idle w e ≡ true) es e (each_from_all (λ e. is_idle w e ≡ true) (is_idle w) (λ e b. b) es k) j

-- so the world is left as it is, where the test says so
pub idle_stays : (p : Problem) (w : World) (i : Instance) (b : Bool) → b ≡ are_idle p w i → IsTrue b → after_action p w i ≡ w
unfolding after_action
idle_stays p w i b e k = all_stays w (map (effect_at i.arguments) (schema_of p i.action).effects) (sym e ∙ k)
