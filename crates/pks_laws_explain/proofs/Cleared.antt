-- A region that an add of an action gives is shown after it.
use Rattle.std.proofs.Common.{◌≡◌, ◌&&◌, ◌==◌, ◌≤◌, ℕ, suc, true, false, cond, not, is_some, List, [], ◌∷◌, map, slice_get, Option, Some, None, option_map, refl, sym, ap, ◌∙◌, subst, true≢false}
use Rattle.std.specs.List.{list_any}
use Rattle.std.specs.Cmp.Lexicographic.{pointwise}
use Rattle.std.proofs.lemmas.Bool.{or_right, and_parts, and_from, eq-eqb, not-true}
use Rattle.std.specs.Cmp.{Equal-is}
use Rattle.pks_terms.specs.Sets.{Each, IsIn, with_later, IsOrdered}
use Rattle.pks_terms.specs.Syntax.{Inner, Term, Literal, Pattern}
use Rattle.pks_terms.specs.Orders.{atom_cmp, pattern_cmp}
use Rattle.pks_terms.specs.Databases.{Entry, Five, normal}
use Rattle.pks_terms.specs.Closure.{normal_pattern}
use Rattle.pks_terms.specs.Actions.{Target, Set, Unset, Clear, Assign, Effect, Item, ItemKf, ItemKw, ItemKv, ItemLcw, Add, Schema, Instance, term_at, conj_at, pattern_at, target_at, effect_at}
use Rattle.pks_terms.specs.Spoiling.{are_stable}
use Rattle.pks_terms.specs.Justified.{J8, given_of, is_empty_list, is_unconditional, is_set_on, is_clear_of, clears_all, item_case, case_of}
use Rattle.pks_terms.specs.Problems.{Problem, schema_of}
use Rattle.pks_terms.specs.Progress.{fixed_terms, regions_added}
use Rattle.pks_terms.specs.Settling.{effects_of}
use Rattle.pks_terms.proofs.ListLaws.{found_in, any_in, in_mapped, none_in, in_with_later_map}
use Rattle.pks_terms.proofs.OrderLaws.{pattern_cmp_tells}
use Rattle.pks_terms.specs.Proofs.{FactLcw, Path, deeds, final_moment, ByClear}
use Rattle.pks_terms.specs.Judging.{Judge, is_region_that}
use Rattle.pks_terms.specs.Rewriting.{is_form, is_slot_form}
use Rattle.pks_terms.specs.Reasons.{would_widen, cannot_fire, is_barred, are_barred, are_steady, is_empty, is_clear_form, is_cleared}
use Rattle.pks_laws_explain.specs.Shown.{IsShown, AreShown}
use Rattle.pks_laws_explain.proofs.Needed.{Needs, needs_nothing, needs_then, needs_and, needs_all, needs_all_steady}
use Rattle.pks_laws_explain.proofs.Acted.{normal_formed}
use Rattle.pks_laws_explain.proofs.Stepped.{within, orderly, after_by}

-- the target clears the pattern
clear_is : (x : Pattern) (t : Target) → is_clear_of x t ≡ true → t ≡ Clear x
clear_is x (Clear y) h = ap Clear (pattern_cmp_tells y x ((Equal-is (pattern_cmp y x)).0 h))
clear_is x (Set a) h = absurd (true≢false (sym h))
clear_is x (Unset a) h = absurd (true≢false (sym h))
clear_is x (Assign f ts v) h = absurd (true≢false (sym h))

-- no condition with the arguments put in is no condition
no_condition : (given : List Inner) (c : List Literal) → is_empty_list c ≡ true → is_empty (conj_at given c) ≡ true
no_condition given [] h = refl
no_condition given (l ∷ c) h = absurd (true≢false (sym h))

module _ (p : Problem) (path : Path) (m : ℕ) (next : suc m ≤ final_moment path) (i : Instance) (there : slice_get (deeds path) m ≡ Some i) (d : Five) (shown : AreShown p path m d) where
  abbrev wi : m ≤ final_moment path
  wi = within p path m next i there d shown

  abbrev N : (Judge → Type 0) → Type 0
  N T = Needs p path m T

  abbrev given : List Inner
  given = i.arguments

  abbrev sc : Schema
  sc = schema_of p i.action

  abbrev effs : List Effect
  effs = effects_of p i

  slots_formed : (ss : List (Option Term)) → N (λ j. pointwise (is_slot_form j m) ss (map (option_map (normal d.kf)) ss) ≡ true)
  slots_formed [] = needs_nothing p path m (λ j. pointwise (is_slot_form j m) [] [] ≡ true) (λ j. refl)
  slots_formed (None ∷ ss) = slots_formed ss
  slots_formed (Some t ∷ ss) = needs_and p path m (λ j. is_form j m t (normal d.kf t)) (λ j. pointwise (is_slot_form j m) ss (map (option_map (normal d.kf)) ss)) (normal_formed p path m next i there d shown t) (slots_formed ss)

  -- a target that sets nothing on the predicate doesn't widen the region
  misses_widening : (x y : Pattern) → y.predicate ≡ x.predicate → (t : Target) → is_set_on x.predicate t ≡ false → (j : Judge) → not (would_widen j m y (target_at given t)) ≡ true
  misses_widening x y e (Set a) h j = λ k. not ((ap (λ q. a.predicate == q) e ∙ h) k && not (Rattle.pks_terms.specs.Reasons.fixed_cited_apart j m y.slots (map (term_at given) a.arguments)))
  misses_widening x y e (Unset a) h j = refl
  misses_widening x y e (Clear z) h j = refl
  misses_widening x y e (Assign f ts v) h j = refl

  abbrev pattern : Pattern → Pattern
  pattern x = normal_pattern d.kf (pattern_at given x)

  abbrev region : Pattern → Entry
  region x = record { pattern = pattern x; listed = [] }

  cleared : (x : Pattern) (q : Effect × List Effect) → IsIn q (with_later sc.effects) → clears_all x q ≡ true → are_stable p.signature d effs (fixed_terms (pattern x).slots) ≡ true → IsShown p path (suc m) (FactLcw (region x))
  cleared x q k h stable =
      let a = and_parts (is_clear_of x q.0.target) _ h in
      let b = and_parts (is_unconditional q.0) _ a.1 in
      let y = pattern x in
      let late = map (effect_at given) q.1 in
      let form : N (λ j. is_clear_form j m (target_at given q.0.target) y ≡ true) = subst (λ t. N (λ j. is_clear_form j m (target_at given t) y ≡ true)) (sym (clear_is x q.0.target a.0))
      (needs_then p path m (λ j. pointwise (is_slot_form j m) (pattern_at given x).slots y.slots ≡ true) (λ j. is_clear_form j m (target_at given (Clear x)) y ≡ true) (λ j c. and_from _ _ (eq-eqb x.predicate x.predicate refl) c) (slots_formed (pattern_at given x).slots)) in
      let barred : N (λ j. are_barred j m (would_widen j m y) late ≡ true) = needs_all p path m (λ j e. is_barred j m (would_widen j m y) e) late (λ e n.
      let o = in_mapped (effect_at given) q.1 e n in
      subst (λ (e : Effect). N (λ j. is_barred j m (would_widen j m y) e ≡ true)) o.2
      (needs_nothing p path m (λ j. is_barred j m (would_widen j m y) (effect_at given o.0) ≡ true) (λ j.
      or_right (cannot_fire j m (effect_at given o.0)) _ (misses_widening x y refl o.0.target (none_in (λ (f : Effect). is_set_on x.predicate f.target) q.1 o.0 (not-true _ b.1) o.1) j)))) in
      let n = needs_and p path m (λ j. are_steady j m effs (fixed_terms y.slots)) (λ j. is_clear_form j m (target_at given q.0.target) y && are_barred j m (would_widen j m y) late)
      (needs_all_steady p path m wi d shown effs (orderly p path m next i there d shown) (fixed_terms y.slots) stable)
      (needs_and p path m (λ j. is_clear_form j m (target_at given q.0.target) y) (λ j. are_barred j m (would_widen j m y) late) form barred) in
      after_by p path m next i there d shown n.facts n.so (FactLcw (region x)) ByClear (λ j k es. is_region_that (is_cleared j k es) (FactLcw (region x))) (λ j e.
      let r = and_parts (are_steady j m effs (fixed_terms y.slots)) _ (n.then j n.facts e (λ f z. z)) in
      and_from _ _ r.0
      (any_in (λ q. is_empty q.0.condition && (is_clear_form j m q.0.target y && are_barred j m (would_widen j m y) q.1)) (with_later effs) (effect_at given q.0, late) (in_with_later_map (effect_at given) sc.effects q k)
      (and_from _ _ (no_condition given q.0.condition b.0) r.1))) (λ j. refl)

  made : (a : Add) → is_some (case_of sc a) ≡ true → (x : Pattern) → a.item ≡ ItemLcw x → list_any (clears_all x) (with_later sc.effects) ≡ true
  unfolding case_of
  made a justified x item =
      elim (list_any (clears_all x) (with_later sc.effects)) as (λ b. list_any (clears_all x) (with_later sc.effects) ≡ b → is_some (cond b (Some J8) None) ≡ true → list_any (clears_all x) (with_later sc.effects) ≡ true) [
        | true ↦ λ q h. q
        | false ↦ λ q h. absurd (true≢false (sym h))
      ] refl (ap (λ y. is_some (item_case (given_of sc a) sc y)) (sym item) ∙ justified)

  abbrev pub Fine : Entry → Type 0
  Fine e = IsShown p path (suc m) (FactLcw e) × IsOrdered atom_cmp e.listed

  -- the regions that a justified add gives
  pub regions_added_shown : (a : Add) → is_some (case_of sc a) ≡ true → (x : Item) → a.item ≡ x → Each Fine (regions_added p.signature d effs given x)
  regions_added_shown a justified (ItemLcw x) item =
      elim (are_stable p.signature d effs (fixed_terms (pattern x).slots)) as (λ b. are_stable p.signature d effs (fixed_terms (pattern x).slots) ≡ b → Each Fine (cond b (region x ∷ []) [])) [
        | false ↦ λ q. tt
        | true ↦ λ q. let f = found_in (clears_all x) (with_later sc.effects) (made a justified x item) in ((cleared x f.0 f.1 f.2 q, tt), tt)
      ] refl
  regions_added_shown a justified (ItemKf l) item = tt
  regions_added_shown a justified (ItemKw c) item = tt
  regions_added_shown a justified (ItemKv t) item = tt
