-- What the rules of a step add to the moments before and after it is shown.
use Rattle.std.proofs.Common.{◌≡◌, ◌&&◌, ◌≤◌, ℕ, suc, Bool, true, false, cond, not, List, [], ◌∷◌, ◌++◌, map, flat_map, slice_get, Some, refl, sym, ap, ◌∙◌, subst, inl, inr, ⊎_elim, true≢false, arith}
use Rattle.std.specs.List.{list_any, list_all}
use Rattle.std.specs.Option.{option_map_or}
use Rattle.std.proofs.lemmas.Bool.{or_left, and_cases, and_parts, and_from, not-true}
use Rattle.pks_terms.specs.Sets.{Each, IsIn, with_others, with_later}
use Rattle.pks_terms.specs.Syntax.{Equality, Literal, negated}
use Rattle.pks_terms.specs.Orders.{literal_cmp, literal_eq, inequation}
use Rattle.pks_terms.specs.Databases.{Five, differ, holds}
use Rattle.pks_terms.specs.Actions.{Target, Set, Unset, Clear, Assign, Effect, Instance, literal_at, conj_at, effect_at}
use Rattle.pks_terms.specs.Spoiling.{may_change, spoils}
use Rattle.pks_terms.specs.Problems.{Problem, schema_of}
use Rattle.pks_terms.specs.Settling.{target_forms, undoes, assigns_alike, makes_same, can_be_undone, is_made_otherwise, lasting, lasted, fired, must_have_fired, cannot_have_fired, effects_of, forward, backward}
use Rattle.pks_terms.proofs.ListLaws.{each_in, each_of, each_append, each_filter, each_flat_map, each_map, each_set_of, each_weaker, found_in, any_in, in_mapped}
use Rattle.pks_terms.specs.Moments.{IsInOrder}
use Rattle.pks_laws.proofs.Least.{literal_eq_itself}
use Rattle.pks_terms.specs.Proofs.{Fact, FactLit, Path, deeds, final_moment, ByKeep, ByBack, ByEffect, ByMust, ByCannot}
use Rattle.pks_terms.specs.Judging.{Judge, is_cited, are_cited, is_literal_that, some_literal}
use Rattle.pks_terms.specs.Reasons.{is_barred, are_barred, keeps_literal, is_kept, is_from_later, targets_of, is_target_form, is_steady_target, is_steady_form, would_undo, would_change, assigns_other, would_make_same, is_effect, is_only_made_by, is_needed, is_missed_by, is_failed}
use Rattle.pks_terms.specs.Accepting.{is_allowed_by}
use Rattle.pks_proof_lines.proofs.Groups.{this_in, other_in}
use Rattle.pks_laws_explain.specs.Shown.{IsShownInOrder, IsShown, AreShown}
use Rattle.pks_laws_explain.proofs.Growing.{shown_step}
use Rattle.pks_laws_explain.proofs.Equal.{cited_in, Lit, same_itself, same_turned, all_replaced}
use Rattle.pks_laws_explain.proofs.Derived.{differ_shown}
use Rattle.pks_laws_explain.proofs.Needed.{Needs, needs_nothing, needs_then, needs_and, needs_all, needs_cited, negated_ordered, all_at, AreOrderly, misses_true, misses_false, misses_change, needs_barred, needs_kept}
use Rattle.pks_laws_explain.proofs.Equal.{literal_ordered}
use Rattle.pks_laws_explain.proofs.Derived.{held}
use Rattle.pks_laws_explain.proofs.Formed.{SameTarget, FormOf, forms_told}

-- conditions with arguments put in have their sides in order
pub effects_orderly : (p : Problem) (i : Instance) → AreOrderly (effects_of p i)
unfolding literal_at
effects_orderly p i e k l n =
    let o = in_mapped (effect_at i.arguments) (schema_of p i.action).effects e k in
    each_in IsInOrder e.condition l (subst (λ (x : Effect). Each IsInOrder x.condition) o.2
    (each_set_of IsInOrder literal_cmp (map (literal_at i.arguments) o.0.condition) (each_map IsInOrder (literal_at i.arguments) o.0.condition (each_of (λ l. IsInOrder (literal_at i.arguments l)) o.0.condition (λ l x. literal_ordered l.relation (map (Rattle.pks_terms.specs.Actions.term_at i.arguments) l.arguments) l.positive))))) n

pub later_in : {X : Type 0} (xs : List X) (q : X × List X) → IsIn q (with_later xs) → (IsIn q.0 xs) × ((x : X) → IsIn x q.1 → IsIn x xs)
later_in [] q i = absurd i
later_in {X} (y ∷ xs) q (inl e) = (inl (ap (λ (r : X × List X). r.0) e), λ x k. inr (subst (IsIn x) (ap (λ (r : X × List X). r.1) (sym e)) k))
later_in {X} (y ∷ xs) q (inr i) = let r = later_in xs q i in (inr r.0, λ x k. inr (r.1 x k))

module _ (p : Problem) (path : Path) (m : ℕ) (next : suc m ≤ final_moment path) (i : Instance) (there : slice_get (deeds path) m ≡ Some i) (d : Five) (shown : AreShown p path m d) where
  pub within : m ≤ final_moment path
  within = omega (arith, next)

  abbrev es : List Effect
  es = effects_of p i

  pub orderly : AreOrderly es
  orderly = effects_orderly p i

  abbrev N : (Judge → Type 0) → Type 0
  N T = Needs p path m T

  -- a fact after the step, by facts before it
  pub after_by : (fs : List Fact) → Each (IsShown p path m) fs → (f : Fact) (r : Rattle.pks_terms.specs.Proofs.Reason) (q : Judge → ℕ → List Effect → Bool) → ((j : Judge) → j m ≡ fs → q j m es ≡ true)
      → ((j : Judge) → is_allowed_by p path j (suc m) f r ≡ option_map_or (λ k. q j m (effects_of p k)) (slice_get (deeds path) m) false) → IsShown p path (suc m) f
  after_by fs a f r q h by =
      shown_step p path fs [] m (suc m) a tt f r next (λ j e g. by j ∙ ap (λ o. option_map_or (λ k. q j m (effects_of p k)) o false) there ∙ h j e)

  -- a fact before the step, by facts before and after it
  before_by : (fs gs : List Fact) → Each (IsShown p path m) fs → Each (IsShown p path (suc m)) gs → (f : Fact) (r : Rattle.pks_terms.specs.Proofs.Reason) (q : Judge → List Effect → Bool) → ((j : Judge) → j m ≡ fs → j (suc m) ≡ gs → q j es ≡ true)
      → ((j : Judge) → is_allowed_by p path j m f r ≡ option_map_or (λ k. q j (effects_of p k)) (slice_get (deeds path) m) false) → IsShown p path m f
  before_by fs gs a b f r q h by =
      shown_step p path fs gs m m a b f r within (λ j e g. by j ∙ ap (λ o. option_map_or (λ k. q j (effects_of p k)) o false) there ∙ h j e g)

  -- ---- lasting forward

  pub lasts : (l : Literal) → IsIn l d.kf → spoils p.signature d es l ≡ false → IsShownInOrder p path (suc m) l
  lasts l k h =
      let n = needs_kept p path m within d shown es orderly l h in
      let fs : List Fact = FactLit l ∷ n.facts in
      (after_by fs (shown.known l k, n.so) (FactLit l) ByKeep (λ j k es. is_kept j k es (FactLit l)) (λ j e. and_from _ _ (cited_in j m fs l e (inl refl)) (n.then j fs e (λ f x. inr x))) (λ j. refl), shown.ordered l k)

  -- ---- effects

  -- the later effects are barred from undoing a form of the target
  undo_misses : (t x : Target) → SameTarget p path m within d shown t x → (y : Target) → undoes p.signature d t y ≡ false → N (λ j. not (would_undo j m x y) ≡ true)
  undo_misses (Set a) (Set b) s y h = subst (λ r. N (λ j. not (Rattle.pks_terms.specs.Reasons.would_make_false j m r b.arguments y) ≡ true)) (sym s.0) (misses_false p path m within d shown a.predicate a.arguments b.arguments s.1 y h)
  undo_misses (Unset a) (Unset b) s y h = subst (λ r. N (λ j. not (Rattle.pks_terms.specs.Reasons.would_make_true j m r b.arguments y) ≡ true)) (sym s.0) (misses_true p path m within d shown a.predicate a.arguments b.arguments s.1 y h)
  undo_misses (Assign f ts v) (Assign g us u) s y h = subst (λ r. N (λ j. not (would_change j m r us y) ≡ true)) (sym s.0) (misses_change p path m within d shown f ts us s.1 y h)
  undo_misses (Set a) (Unset b) s y h = absurd s
  undo_misses (Set a) (Clear b) s y h = absurd s
  undo_misses (Set a) (Assign g us u) s y h = absurd s
  undo_misses (Unset a) (Set b) s y h = absurd s
  undo_misses (Unset a) (Clear b) s y h = absurd s
  undo_misses (Unset a) (Assign g us u) s y h = absurd s
  undo_misses (Assign f ts v) (Set b) s y h = absurd s
  undo_misses (Assign f ts v) (Unset b) s y h = absurd s
  undo_misses (Assign f ts v) (Clear b) s y h = absurd s
  undo_misses (Clear a) x s y h = absurd s

  same_misses : (t x : Target) → SameTarget p path m within d shown t x → (y : Target) → makes_same p.signature d t y ≡ false → N (λ j. not (would_make_same j m x y) ≡ true)
  same_misses (Set a) (Set b) s y h = subst (λ r. N (λ j. not (Rattle.pks_terms.specs.Reasons.would_make_true j m r b.arguments y) ≡ true)) (sym s.0) (misses_true p path m within d shown a.predicate a.arguments b.arguments s.1 y h)
  same_misses (Unset a) (Unset b) s y h = subst (λ r. N (λ j. not (Rattle.pks_terms.specs.Reasons.would_make_false j m r b.arguments y) ≡ true)) (sym s.0) (misses_false p path m within d shown a.predicate a.arguments b.arguments s.1 y h)
  same_misses (Assign f ts v) (Assign g us u) s y h =
      ⊎_elim
      (λ k. needs_then p path m (λ j. not (would_change j m g us y) ≡ true) (λ j. not (would_change j m g us y && not (assigns_other j m u y)) ≡ true) (λ j c. quiet (would_change j m g us y) (not (assigns_other j m u y)) c)
      (subst (λ r. N (λ j. not (would_change j m r us y) ≡ true)) (sym s.0) (misses_change p path m within d shown f ts us s.1 y k)))
      (λ k. other y k)
      (and_cases (may_change p.signature d.kf f ts y) (assigns_alike p.signature d v y) h)
    where
      quiet : (a b : Bool) → not a ≡ true → not (a && b) ≡ true
      quiet true b h = absurd (true≢false (sym h))
      quiet false b h = refl

      loud : (a b : Bool) → b ≡ true → not (a && not b) ≡ true
      loud true b h = ap (λ c. not (not c)) h
      loud false b h = refl

      back : (b : Bool) → not b ≡ false → b ≡ true
      back true h = refl
      back false h = absurd (true≢false h)

      other : (y : Target) → assigns_alike p.signature d v y ≡ false → N (λ j. not (would_change j m g us y && not (assigns_other j m u y)) ≡ true)
      other (Assign c ws new) k =
          let so : Lit p path m within (inequation new u) = all_replaced p path m within Equality false (new ∷ v ∷ []) (new ∷ u ∷ []) (same_itself p path m within new, (same_turned p path m within u v s.2, tt)) (differ_shown p path m within d shown new v (back (differ p.signature d.kf new v) k)) in
          needs_then p path m (λ j. is_cited j m (inequation new u) ≡ true) (λ j. not (would_change j m g us (Assign c ws new) && not (assigns_other j m u (Assign c ws new))) ≡ true)
          (λ j x. loud (would_change j m g us (Assign c ws new)) (is_cited j m (inequation new u)) x) (needs_cited p path m (inequation new u) so)
      other (Set b) k = needs_nothing p path m (λ j. not (would_change j m g us (Set b) && not (assigns_other j m u (Set b))) ≡ true) (λ j. refl)
      other (Unset b) k = needs_nothing p path m (λ j. not (would_change j m g us (Unset b) && not (assigns_other j m u (Unset b))) ≡ true) (λ j. refl)
      other (Clear b) k = needs_nothing p path m (λ j. not (would_change j m g us (Clear b) && not (assigns_other j m u (Clear b))) ≡ true) (λ j. refl)
  same_misses (Set a) (Unset b) s y h = absurd s
  same_misses (Set a) (Clear b) s y h = absurd s
  same_misses (Set a) (Assign g us u) s y h = absurd s
  same_misses (Unset a) (Set b) s y h = absurd s
  same_misses (Unset a) (Clear b) s y h = absurd s
  same_misses (Unset a) (Assign g us u) s y h = absurd s
  same_misses (Assign f ts v) (Set b) s y h = absurd s
  same_misses (Assign f ts v) (Unset b) s y h = absurd s
  same_misses (Assign f ts v) (Clear b) s y h = absurd s
  same_misses (Clear a) x s y h = absurd s

  -- what is needed for a form of the target of an effect, with the other effects barred
  steady_form : (e : Effect) (l : Literal) (f : FormOf p path m within d shown es e.target l) → N (λ j. is_steady_form j m es e f.target ≡ true)
  steady_form e l f = needs_and p path m (λ j. is_target_form j m e.target f.target) (λ j. is_steady_target j m es f.target) f.form f.steady

  needs_conditions : (c : List Literal) → ((l : Literal) → IsIn l c → IsInOrder l) → list_all (holds p.signature d) c ≡ true → N (λ j. are_cited j m c ≡ true)
  needs_conditions c o h = needs_all p path m (λ j l. is_cited j m l) c (λ l x. needs_cited p path m l (held p path m within d shown l (o l x) (all_at (holds p.signature d) c h l x)))

  -- the forms of the target of an effect that fires
  pub fired_shown : (q : Effect × List Effect) → IsIn q (with_later es) → Each (IsShownInOrder p path (suc m)) (fired p.signature es d q)
  fired_shown q k =
      elim (list_all (holds p.signature d) q.0.condition && not (can_be_undone p.signature d q)) as (λ b. (list_all (holds p.signature d) q.0.condition && not (can_be_undone p.signature d q)) ≡ b → Each (IsShownInOrder p path (suc m)) (cond b (target_forms p.signature d es q.0.target) [])) [
        | false ↦ λ h. tt
        | true ↦ λ h.
            let b = and_parts (list_all (holds p.signature d) q.0.condition) _ h in
            let place = later_in es q k in
            each_weaker (FormOf p path m within d shown es q.0.target) (IsShownInOrder p path (suc m)) (λ l f.
            let n = needs_and p path m (λ j. is_steady_form j m es q.0 f.target) (λ j. are_cited j m q.0.condition && are_barred j m (would_undo j m f.target) q.1) (steady_form q.0 l f)
            (needs_and p path m (λ j. are_cited j m q.0.condition) (λ j. are_barred j m (would_undo j m f.target) q.1) (needs_conditions q.0.condition (orderly q.0 place.0) b.0)
            (needs_barred p path m within d shown (undoes p.signature d q.0.target) (λ j. would_undo j m f.target) (undo_misses q.0.target f.target f.same) q.1 (λ e x. orderly e (place.1 e x)) (not-true _ b.1))) in (
              after_by n.facts n.so (FactLit l) ByEffect (λ j k es. is_literal_that (is_effect j k es) (FactLit l)) (λ j e.
                  any_in (λ x. list_any (λ q. is_steady_form j m es q.0 x && (are_cited j m q.0.condition && are_barred j m (would_undo j m x) q.1)) (with_later es)) (targets_of l) f.target f.among
                  (any_in (λ q. is_steady_form j m es q.0 f.target && (are_cited j m q.0.condition && are_barred j m (would_undo j m f.target) q.1)) (with_later es) q k (n.then j n.facts e (λ f x. x)))) (λ j. refl),
              f.ordered,
            )) (target_forms p.signature d es q.0.target) (forms_told p path m within d shown es orderly q.0.target)
      ] refl

  -- all that comes to the next moment
  pub forward_shown : Each (IsShownInOrder p path (suc m)) (forward p i d)
  forward_shown =
      each_append (IsShownInOrder p path (suc m)) (lasting p.signature es d) (flat_map (fired p.signature es d) (with_later es))
      (each_filter (IsShownInOrder p path (suc m)) (λ l. not (spoils p.signature d es l)) d.kf (λ l k h. lasts l k (not-true _ h)))
      (each_flat_map (IsShownInOrder p path (suc m)) (fired p.signature es d) (with_later es) (λ q k. fired_shown q k))

  module _ (after : Five) (shown' : AreShown p path (suc m) after) where
    -- ---- lasting backward

    came : (l : Literal) → IsIn l after.kf → spoils p.signature d es (negated l) ≡ false → IsShownInOrder p path m l
    came l k h =
        let n = needs_kept p path m within d shown es orderly (negated l) h in
        let gs : List Fact = FactLit l ∷ [] in
        (before_by n.facts gs n.so (shown'.known l k, tt) (FactLit l) ByBack (λ j es. is_literal_that (is_from_later j m es) (FactLit l)) (λ j e g. and_from _ _ (cited_in j (suc m) gs l g (inl refl)) (n.then j n.facts e (λ f x. x))) (λ j. refl), shown'.ordered l k)

    -- ---- must have fired, cannot have fired

    some_cited : (j : Judge) (l : Literal) (q : Literal → Bool) → j (suc m) ≡ FactLit l ∷ [] → q l ≡ true → some_literal j (suc m) q ≡ true
    some_cited j l q g h = ap (list_any (is_literal_that q)) g ∙ or_left (q l) _ h

    must_shown : (q : Effect × List Effect) → IsIn q (with_others es) → Each (IsShownInOrder p path m) (must_have_fired p.signature es d after q)
    must_shown q k =
        elim (list_any (λ l. holds p.signature d (negated l) && holds p.signature after l) (target_forms p.signature d es q.0.target) && not (is_made_otherwise p.signature d q)) as (λ b. (list_any (λ l. holds p.signature d (negated l) && holds p.signature after l) (target_forms p.signature d es q.0.target) && not (is_made_otherwise p.signature d q)) ≡ b → Each (IsShownInOrder p path m) (cond b q.0.condition [])) [
          | false ↦ λ h. tt
          | true ↦ λ h.
              let b = and_parts (list_any (λ l. holds p.signature d (negated l) && holds p.signature after l) (target_forms p.signature d es q.0.target)) _ h in
              let l = found_in (λ l. holds p.signature d (negated l) && holds p.signature after l) (target_forms p.signature d es q.0.target) b.0 in
              let c = and_parts (holds p.signature d (negated l.0)) _ l.2 in
              let f = each_in (FormOf p path m within d shown es q.0.target) (target_forms p.signature d es q.0.target) l.0 (forms_told p path m within d shown es orderly q.0.target) l.1 in
              let n = needs_and p path m (λ j. is_cited j m (negated l.0)) (λ j. is_steady_form j m es q.0 f.target && are_barred j m (would_make_same j m f.target) q.1) (needs_cited p path m (negated l.0) (held p path m within d shown (negated l.0) (negated_ordered l.0 f.ordered) c.0))
              (needs_and p path m (λ j. is_steady_form j m es q.0 f.target) (λ j. are_barred j m (would_make_same j m f.target) q.1) (steady_form q.0 l.0 f)
              (needs_barred p path m within d shown (makes_same p.signature d q.0.target) (λ j. would_make_same j m f.target) (same_misses q.0.target f.target f.same) q.1 (λ e x. orderly e (other_in es q k e x)) (not-true _ b.1))) in
              each_of (IsShownInOrder p path m) q.0.condition (λ x i. (
                before_by n.facts (FactLit l.0 ∷ []) n.so (held p path (suc m) next after shown' l.0 f.ordered c.1, tt) (FactLit x) ByMust (λ j es. is_literal_that (is_needed j m es) (FactLit x)) (λ j e g.
                    any_in (λ q. list_any (literal_eq x) q.0.condition && some_literal j (suc m) (is_only_made_by j m es q)) (with_others es) q k
                    (and_from _ _ (any_in (literal_eq x) q.0.condition x i (literal_eq_itself x x refl))
                    (some_cited j l.0 (is_only_made_by j m es q) g
                    (let r = and_parts (is_cited j m (negated l.0)) _ (n.then j n.facts e (λ f x. x)) in
                    and_from _ _ r.0 (any_in (λ x. is_steady_form j m es q.0 x && are_barred j m (would_make_same j m x) q.1) (targets_of l.0) f.target f.among r.1))))) (λ j. refl),
                orderly q.0 (this_in es q k) x i,
              ))
        ] refl

    twice : (l : Literal) → negated (negated l) ≡ l
    twice l = λ i. record { relation = l.relation; arguments = l.arguments; positive = double l.positive i }
      where
        double : (b : Bool) → not (not b) ≡ b
        double true = refl
        double false = refl

    cannot_shown : (q : Effect × List Effect) → IsIn q (with_later es) → Each (IsShownInOrder p path m) (cannot_have_fired p.signature es d after q)
    cannot_shown q k =
        elim (list_any (λ l. holds p.signature after (negated l)) (target_forms p.signature d es q.0.target) && not (can_be_undone p.signature d q)) as (λ b. (list_any (λ l. holds p.signature after (negated l)) (target_forms p.signature d es q.0.target) && not (can_be_undone p.signature d q)) ≡ b
        → Each (IsShownInOrder p path m) (cond b (flat_map (λ c. cond (list_all (holds p.signature d) c.1) (negated c.0 ∷ []) []) (with_others q.0.condition)) [])) [
          | false ↦ λ h. tt
          | true ↦ λ h.
              let b = and_parts (list_any (λ l. holds p.signature after (negated l)) (target_forms p.signature d es q.0.target)) _ h in
              let l = found_in (λ l. holds p.signature after (negated l)) (target_forms p.signature d es q.0.target) b.0 in
              let f = each_in (FormOf p path m within d shown es q.0.target) (target_forms p.signature d es q.0.target) l.0 (forms_told p path m within d shown es orderly q.0.target) l.1 in
              let place = later_in es q k in
              each_flat_map (IsShownInOrder p path m) (λ (c : Literal × List Literal). cond (list_all (holds p.signature d) c.1) (negated c.0 ∷ []) []) (with_others q.0.condition) (λ c i.
              elim (list_all (holds p.signature d) c.1) as (λ b. list_all (holds p.signature d) c.1 ≡ b → Each (IsShownInOrder p path m) (cond b (negated c.0 ∷ []) [])) [
                | false ↦ λ x. tt
                | true ↦ λ x.
                    let n = needs_and p path m (λ j. are_cited j m c.1) (λ j. is_steady_form j m es q.0 f.target && are_barred j m (would_undo j m f.target) q.1) (needs_conditions c.1 (λ l y. orderly q.0 place.0 l (other_in q.0.condition c i l y)) x)
                    (needs_and p path m (λ j. is_steady_form j m es q.0 f.target) (λ j. are_barred j m (would_undo j m f.target) q.1) (steady_form q.0 l.0 f)
                    (needs_barred p path m within d shown (undoes p.signature d q.0.target) (λ j. would_undo j m f.target) (undo_misses q.0.target f.target f.same) q.1 (λ e x. orderly e (place.1 e x)) (not-true _ b.1))) in (
                      (
                        before_by n.facts (FactLit (negated l.0) ∷ []) n.so (held p path (suc m) next after shown' (negated l.0) (negated_ordered l.0 f.ordered) l.2, tt) (FactLit (negated c.0)) ByCannot (λ j es. is_literal_that (is_failed j m es) (FactLit (negated c.0))) (λ j e g.
                            let r = and_parts (are_cited j m c.1) _ (n.then j n.facts e (λ f x. x)) in
                            any_in (λ q. list_any (λ c'. literal_eq (negated c.0) (negated c'.0) && are_cited j m c'.1) (with_others q.0.condition) && some_literal j (suc m) (is_missed_by j m es q)) (with_later es) q k
                            (and_from _ _ (any_in (λ c'. literal_eq (negated c.0) (negated c'.0) && are_cited j m c'.1) (with_others q.0.condition) c i (and_from _ _ (literal_eq_itself (negated c.0) (negated c.0) refl) r.0))
                            (some_cited j (negated l.0) (is_missed_by j m es q) g
                            (any_in (λ x. is_steady_form j m es q.0 x && are_barred j m (would_undo j m x) q.1) (targets_of (negated (negated l.0))) f.target (subst (λ y. IsIn f.target (targets_of y)) (sym (twice l.0)) f.among) r.1)))) (λ j. refl),
                        negated_ordered c.0 (orderly q.0 place.0 c.0 (this_in q.0.condition c i)),
                      ),
                      tt,
                    )
              ] refl)
        ] refl

    -- all that comes to the moment before
    pub backward_shown : Each (IsShownInOrder p path m) (backward p i d after)
    backward_shown =
        each_append (IsShownInOrder p path m) (lasted p.signature es d after) (flat_map (must_have_fired p.signature es d after) (with_others es) ++ flat_map (cannot_have_fired p.signature es d after) (with_later es))
        (each_filter (IsShownInOrder p path m) (λ l. not (spoils p.signature d es (negated l))) after.kf (λ l k h. came l k (not-true _ h)))
        (each_append (IsShownInOrder p path m) (flat_map (must_have_fired p.signature es d after) (with_others es)) (flat_map (cannot_have_fired p.signature es d after) (with_later es))
        (each_flat_map (IsShownInOrder p path m) (must_have_fired p.signature es d after) (with_others es) (λ q k. must_shown q k))
        (each_flat_map (IsShownInOrder p path m) (cannot_have_fired p.signature es d after) (with_later es) (λ q k. cannot_shown q k)))
