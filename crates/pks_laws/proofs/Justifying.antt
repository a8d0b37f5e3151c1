-- What the text of an action justifies is so after the action.
use Rattle.std.proofs.Common.{◌≡◌, ◌&&◌, ◌==◌, ℕ, Bool, true, false, cond, not, List, [], ◌∷◌, map, Option, Some, None, option_map, refl, sym, ap, ◌∙◌, ⊎_elim, true≢false}
use Rattle.std.specs.List.{list_any}
use Rattle.std.proofs.lemmas.Bool.{or_cases, and_parts, and_from, cases_Bool, eqb-true, eq-eqb, eqb-false, not-true, not-false, cond-true}
use Rattle.std.proofs.lemmas.Option.{none-some, cond_some}
use Rattle.pks_terms.specs.Signatures.{Signature}
use Rattle.pks_terms.specs.Sets.{Each, IsIn, with_later}
use Rattle.pks_terms.specs.Syntax.{Object, Parameter, Apply, Inner, Term, term_of, are_two_objects, Equality, Literal, Atom}
use Rattle.pks_terms.specs.Orders.{inequation}
use Rattle.pks_terms.specs.Worlds.{World, inner_value, value_of, true_in}
use Rattle.pks_terms.specs.Databases.{Five, holds}
use Rattle.pks_terms.specs.Meaning.{is_instance, is_value_of, IsTrueIn}
use Rattle.pks_terms.specs.Queries.{Plain, Know, KnowWhether, KnowValue, answers_plain}
use Rattle.pks_terms.specs.Actions.{Target, Set, Unset, Clear, Assign, Effect, argument, inner_at, term_at, literal_at, atom_at, target_at, effect_at, plain_at, fires, written_truth, written_value, applied_to}
use Rattle.pks_terms.specs.Justified.{asks_known, is_given, are_given, apart, some_apart, some_fixed_apart, may_undo}
use Rattle.pks_terms.proofs.ListLaws.{found, map-map, map_alike, in_with_later_map, in_mapped, none_in, all_from_each, each_from_all}
use Rattle.pks_terms.proofs.OrderLaws.{same_literal}
use Rattle.pks_laws.proofs.Values.{same_objects_same}
use Rattle.pks_laws.proofs.Holding.{holds_true, same_objects_itself}
use Rattle.pks_laws.proofs.Changing.{last_written_after, value_of-term_of}
use Rattle.pks_laws.proofs.PuttingIn.{true_in-ordered_at, all_true_in-conj_at}

inner_at-term : (w : World) (given : List Inner) (t : Inner) → value_of w (term_at given (term_of t)) ≡ inner_value w (inner_at given t)
unfolding value_of
inner_at-term w given (Object d) = refl
inner_at-term w given (Parameter i) = value_of-term_of w (argument given i)
inner_at-term w given (Apply f ds) = ap (w.value f) (ap (map (inner_value w)) (map-map Object (inner_at given) ds) ∙ map-map Object (inner_value w) ds)

module _ {s : Signature} (w : World) (d : Five) (m : IsTrueIn s w d) (given : List Inner) (g : List Plain) (answered : Each (λ q. answers_plain s d (plain_at given q) ≡ true) g) where
  -- the value of a term of the text
  abbrev value_at : Term → ℕ
  value_at t = value_of w (term_at given t)

  asked : (l : Literal) (q : Plain) → answers_plain s d (plain_at given q) ≡ true → asks_known l q ≡ true → holds s d (literal_at given l) ≡ true
  asked l (Know k) a h = ap (λ n. holds s d (literal_at given n)) (sym (same_literal k l h)) ∙ a
  asked l (KnowWhether c) a h = absurd (true≢false (sym h))
  asked l (KnowValue t) a h = absurd (true≢false (sym h))

  pub given_holds : (l : Literal) → is_given g l ≡ true → holds s d (literal_at given l) ≡ true
  unfolding is_given
  given_holds l h = let f = found (λ q. answers_plain s d (plain_at given q) ≡ true) (asks_known l) g answered h in asked l f.0 f.1 f.2

  given_true : (l : Literal) → is_given g l ≡ true → true_in w (literal_at given l) ≡ true
  given_true l h = holds_true w d m (literal_at given l) (given_holds l h)

  -- an effect whose conditions are given fires
  pub given_fires : (e : Effect) → are_given g e.condition ≡ true → fires w (effect_at given e) ≡ true
  given_fires e h =
      all_true_in-conj_at w given e.condition
      ∙ all_from_each (λ l. true_in w (literal_at given l)) e.condition (each_from_all (λ l. true_in w (literal_at given l) ≡ true) (is_given g) given_true e.condition h)

  apart_objects : (t u : Term) → are_two_objects t u ≡ true → value_at t ≡ value_at u → ⊥
  unfolding value_of
  apart_objects (Object a) (Object b) h e = eqb-false a b (not-true _ h) e
  apart_objects (Object a) (Parameter b) h e = true≢false (sym h)
  apart_objects (Object a) (Apply b us) h e = true≢false (sym h)
  apart_objects (Parameter a) u h e = true≢false (sym h)
  apart_objects (Apply a ts) u h e = true≢false (sym h)

  apart_true : (t u : Term) → apart g t u ≡ true → value_at t ≡ value_at u → ⊥
  unfolding apart
  apart_true t u h e =
      ⊎_elim (λ k. apart_objects t u k e)
      (λ k. let n : not (value_at t == value_at u) ≡ true = sym (true_in-ordered_at w given Equality (t ∷ u ∷ []) false) ∙ given_true (inequation t u) k in
      eqb-false (value_at t) (value_at u) (not-true _ n) e)
      (or_cases (are_two_objects t u) _ h)

  some_apart_true : (ts us : List Term) → some_apart g ts us ≡ true → map value_at ts ≡ map value_at us → ⊥
  some_apart_true (t ∷ ts) (u ∷ us) h e = ⊎_elim (λ k. apart_true t u k cc) (λ k. some_apart_true ts us k cc) (or_cases (apart g t u) _ h)
  some_apart_true [] us h e = true≢false (sym h)
  some_apart_true (t ∷ ts) [] h e = true≢false (sym h)

  some_fixed_apart_true : (ts : List Term) (ss : List (Option Term)) → some_fixed_apart g ts ss ≡ true → is_instance w (map (option_map (term_at given)) ss) (map value_at ts) ≡ true → ⊥
  some_fixed_apart_true (t ∷ ts) (Some u ∷ ss) h e =
      let p = and_parts (value_at u == value_at t) _ e in
      ⊎_elim (λ k. apart_true t u k (sym (eqb-true (value_at u) (value_at t) p.0))) (λ k. some_fixed_apart_true ts ss k p.1) (or_cases (apart g t u) _ h)
  some_fixed_apart_true (t ∷ ts) (None ∷ ss) h e = some_fixed_apart_true ts ss h e
  some_fixed_apart_true [] ss h e = true≢false (sym h)
  some_fixed_apart_true (t ∷ ts) [] h e = true≢false (sym h)

  not_apart : (a b : Bool) → (a && not b) ≡ false → a ≡ true → b ≡ true
  not_apart true b h e = not-false b h
  not_apart false b h e = absurd (true≢false (sym e))

  abbrev inners_at : List Inner → List ℕ
  inners_at ts = map (inner_value w) (map (inner_at given) ts)

  terms_of_inners : (ts : List Inner) → map value_at (map term_of ts) ≡ inners_at ts
  terms_of_inners ts = map-map term_of value_at ts ∙ map_alike (λ t. value_at (term_of t)) (λ t. inner_value w (inner_at given t)) (inner_at-term w given) ts ∙ sym (map-map (inner_at given) (inner_value w) ts)

  values_at_atom : (a : Atom) → map (value_of w) (atom_at given a).arguments ≡ map value_at a.arguments
  values_at_atom a = map-map (term_at given) (value_of w) a.arguments

  -- what is so after an effect that isn't undone
  abbrev pub MadeSo : World → Target → Type 0
  MadeSo v (Set a) = v.truth a.predicate (map value_at a.arguments) ≡ true
  MadeSo v (Unset a) = v.truth a.predicate (map value_at a.arguments) ≡ false
  MadeSo v (Assign f ts value) = v.value f (inners_at ts) ≡ value_at value
  MadeSo v (Clear x) = Unit {0}

  -- no later effect writes something else
  undo_set : (a : Atom) (x : Target) → may_undo g (Set a) x ≡ false → written_truth w a.predicate (map value_at a.arguments) (target_at given x) ≡ Some false → ⊥
  undo_set a (Set b) h k = true≢false (cond_some _ true false k).1
  undo_set a (Unset b) h k =
      let q = and_parts (b.predicate == a.predicate) _ (cond_some _ false false k).0 in
      some_apart_true a.arguments b.arguments (not_apart (a.predicate == b.predicate) _ h (eq-eqb _ _ (sym (eqb-true b.predicate a.predicate q.0)))) (sym (sym (values_at_atom b) ∙ same_objects_same _ _ q.1))
  undo_set a (Clear x) h k =
      let q = and_parts (x.predicate == a.predicate) _ (cond_some _ false false k).0 in
      some_fixed_apart_true a.arguments x.slots (not_apart (a.predicate == x.predicate) _ h (eq-eqb _ _ (sym (eqb-true x.predicate a.predicate q.0)))) q.1
  undo_set a (Assign f ts value) h k = none-some false k

  undo_unset : (a : Atom) (x : Target) → may_undo g (Unset a) x ≡ false → written_truth w a.predicate (map value_at a.arguments) (target_at given x) ≡ Some true → ⊥
  undo_unset a (Set b) h k =
      let q = and_parts (b.predicate == a.predicate) _ (cond_some _ true true k).0 in
      some_apart_true a.arguments b.arguments (not_apart (a.predicate == b.predicate) _ h (eq-eqb _ _ (sym (eqb-true b.predicate a.predicate q.0)))) (sym (sym (values_at_atom b) ∙ same_objects_same _ _ q.1))
  undo_unset a (Unset b) h k = true≢false (sym (cond_some _ false true k).1)
  undo_unset a (Clear x) h k = true≢false (sym (cond_some _ false true k).1)
  undo_unset a (Assign f ts value) h k = none-some true k

  undo_assign : (f : ℕ) (ts : List Inner) (value : Term) (x : Target) (e : ℕ) → may_undo g (Assign f ts value) x ≡ false → written_value w f (inners_at ts) (target_at given x) ≡ Some e → ⊥
  undo_assign f ts value (Assign h us new) e u k =
      let q = and_parts (h == f) _ (cond_some _ (value_at new) e k).0 in
      some_apart_true (map term_of ts) (map term_of us) (not_apart (f == h) _ u (eq-eqb _ _ (sym (eqb-true h f q.0)))) (terms_of_inners ts ∙ sym (same_objects_same _ _ q.1) ∙ sym (terms_of_inners us))
  undo_assign f ts value (Set b) e u k = none-some e k
  undo_assign f ts value (Unset b) e u k = none-some e k
  undo_assign f ts value (Clear x) e u k = none-some e k

  same_atom : (p : ℕ) (a : Atom) (b : Bool) → p ≡ a.predicate → cond (is_value_of w p (map value_at a.arguments) (atom_at given a)) (Some b) None ≡ Some b
  same_atom p a b e = cond-true _ (Some b) None (and_from _ _ (eq-eqb a.predicate p (sym e)) (same_objects_itself _ _ (values_at_atom a)))

  module _ (effects : List Effect) where
    abbrev after : World
    after = applied_to w (map (effect_at given) effects)

    -- later effects at the instance come from later effects of the text
    later_of : (q : Effect × List Effect) (e : Effect) → IsIn e (map (effect_at given) q.1) → list_any (λ f. may_undo g q.0.target f.target) q.1 ≡ false → (x : Target) × (e.target ≡ target_at given x) × (may_undo g q.0.target x ≡ false)
    later_of q e i h =
        let f = in_mapped (effect_at given) q.1 e i in
        (f.0.target, ap (λ (e : Effect). e.target) (sym f.2), none_in (λ f. may_undo g q.0.target f.target) q.1 f.0 h f.1)

    pub made : (q : Effect × List Effect) → IsIn q (with_later effects) → are_given g q.0.condition ≡ true → list_any (λ f. may_undo g q.0.target f.target) q.1 ≡ false → MadeSo after q.0.target
    unfolding applied_to
    made q i c h =
        elim q.0.target as (λ x. q.0.target ≡ x → MadeSo after x) [
          | Set a ↦ λ t.
              last_written_after (λ y. y ≡ true) (written_truth w a.predicate (map value_at a.arguments)) w (map (effect_at given) effects) _ true (effect_at given q.0, map (effect_at given) q.1)
              (in_with_later_map (effect_at given) effects q i) (given_fires q.0 c)
              (ap (λ x. written_truth w a.predicate (map value_at a.arguments) (target_at given x)) t ∙ same_atom a.predicate a true refl) refl
              (λ e z j k r. let x = later_of q e j h in
              ⊎_elim (λ y. y) (λ y. absurd (undo_set a x.0 (ap (λ u. may_undo g u x.0) (sym t) ∙ x.2) (ap (written_truth w a.predicate (map value_at a.arguments)) (sym x.1) ∙ r ∙ ap Some y))) (cases_Bool z))
          | Unset a ↦ λ t.
              last_written_after (λ y. y ≡ false) (written_truth w a.predicate (map value_at a.arguments)) w (map (effect_at given) effects) _ false (effect_at given q.0, map (effect_at given) q.1)
              (in_with_later_map (effect_at given) effects q i) (given_fires q.0 c)
              (ap (λ x. written_truth w a.predicate (map value_at a.arguments) (target_at given x)) t ∙ same_atom a.predicate a false refl) refl
              (λ e z j k r. let x = later_of q e j h in
              ⊎_elim (λ y. absurd (undo_unset a x.0 (ap (λ u. may_undo g u x.0) (sym t) ∙ x.2) (ap (written_truth w a.predicate (map value_at a.arguments)) (sym x.1) ∙ r ∙ ap Some y))) (λ y. y) (cases_Bool z))
          | Clear y ↦ λ t. tt
          | Assign f ts value ↦ λ t.
              last_written_after (λ y. y ≡ value_at value) (written_value w f (inners_at ts)) w (map (effect_at given) effects) _ (value_at value) (effect_at given q.0, map (effect_at given) q.1)
              (in_with_later_map (effect_at given) effects q i) (given_fires q.0 c)
              (ap (λ x. written_value w f (inners_at ts) (target_at given x)) t ∙ cond-true _ (Some (value_at value)) None (and_from _ _ (eq-eqb f f refl) (same_objects_itself (inners_at ts) (inners_at ts) refl))) refl
              (λ e z j k r. let x = later_of q e j h in
              absurd (undo_assign f ts value x.0 z (ap (λ u. may_undo g u x.0) (sym t) ∙ x.2) (ap (written_value w f (inners_at ts)) (sym x.1) ∙ r)))
        ] refl
