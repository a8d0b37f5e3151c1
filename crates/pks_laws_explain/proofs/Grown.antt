-- A region that an action leaves is shown after it, grown by what the action may set.
use Rattle.std.proofs.Common.{◌≡◌, ◌&&◌, ◌||◌, ◌==◌, ◌≤◌, ℕ, suc, Bool, true, false, cond, not, List, [], ◌∷◌, map, slice_get, Option, Some, None, option_map, is_eq, is_lt, refl, sym, ap, ◌∙◌, subst, inl, inr, ⊎_elim, true≢false}
use Rattle.std.specs.List.{list_any, list_all}
use Rattle.std.proofs.lemmas.Cmp.{tied_itself}
use Rattle.std.proofs.lemmas.Bool.{or_cases, or_left, or_right, and_parts, and_from, eq-eqb, not-true}
use Rattle.std.proofs.lemmas.Option.{none-some, same_Some}
use Rattle.pks_terms.specs.Sets.{Each, IsIn, IsOrdered}
use Rattle.pks_terms.specs.Syntax.{Object, Parameter, Apply, Term, are_two_objects, Equality, Literal, Atom, Pattern, negated}
use Rattle.pks_terms.specs.Orders.{term_cmp, atom_cmp, literal, inequation}
use Rattle.pks_terms.specs.Totality.{atom_cmp_total, pattern_cmp_total}
use Rattle.pks_terms.specs.Signatures.{Signature}
use Rattle.pks_terms.specs.Databases.{Entry, Five, normal, is_evident, is_plain, differ, holds}
use Rattle.pks_terms.specs.Closure.{normal_atom}
use Rattle.pks_terms.specs.Actions.{Target, Set, Unset, Clear, Assign, Effect, Instance}
use Rattle.pks_terms.specs.Spoiling.{may_fire, some_fixed_differ, are_stable}
use Rattle.pks_terms.specs.Problems.{Problem}
use Rattle.pks_terms.specs.Progress.{entry_terms, widened, kept_entry}
use Rattle.pks_terms.specs.Settling.{effects_of}
use Rattle.pks_terms.specs.Moments.{IsInOrder}
use Rattle.pks_terms.proofs.ListLaws.{each_weaker, found, found_in, any_in}
use Rattle.pks_laws.proofs.Holding.{eqb_comm}
use Rattle.pks_terms.specs.Proofs.{Fact, FactLit, FactKx, FactLcw, Path, deeds, final_moment, ByGrow}
use Rattle.pks_terms.specs.Judging.{Judge, fact_eq, is_cited, is_region_that}
use Rattle.pks_terms.specs.Rewriting.{are_forms}
use Rattle.pks_terms.specs.Reasons.{are_cited_apart, fixed_cited_apart, would_widen, cannot_fire, is_barred, are_steady, is_set_form, is_listed, is_taken_in, is_new_atom, grows_to, is_grown}
use Rattle.pks_proof_lines.proofs.Judged.{fact_eq_same}
use Rattle.pks_laws_explain.specs.Shown.{IsShown, AreShown}
use Rattle.pks_laws_explain.proofs.Derived.{held}
use Rattle.pks_laws_explain.proofs.Needed.{NeedsOf, of_nothing, of_then, of_and, of_all, quiet_of, widen_of, all_steady_of}
use Rattle.pks_laws_explain.proofs.NormalForms.{normals_of}
use Rattle.pks_laws_explain.proofs.Stepped.{within, orderly, after_by}
use Rattle.pks_laws_explain.proofs.Widened.{meets, joins, Joined, Widens, wide}

-- a literal of the facts holds
abbrev HoldsIn : Signature → Five → Fact → Type 0
HoldsIn s d (FactLit l) = holds s d l ≡ true
HoldsIn s d (FactKx g) = Unit {0}
HoldsIn s d (FactLcw e) = Unit {0}

-- ---- where all that is cited holds, an effect that may set an instance isn't barred from it

module _ (s : Signature) (d : Five) where
  differ_objects : (t u : Term) → are_two_objects t u ≡ true → differ s d.kf t u ≡ true
  unfolding differ is_plain normal
  differ_objects (Object a) (Object b) h = or_right _ _ (evident a b h)
    where
      evident : (a b : ℕ) → not (a == b) ≡ true → is_evident s (inequation (Object a) (Object b)).relation (map (normal d.kf) (inequation (Object a) (Object b)).arguments) (inequation (Object a) (Object b)).positive ≡ true
      evident a b k = unfold literal normal in elim (is_lt (term_cmp (Object a) (Object b))) as (λ c. is_evident s Equality (map (normal d.kf) (cond c (Object b ∷ Object a ∷ []) (Object a ∷ Object b ∷ []))) false ≡ true) [ true ↦ ap not (eqb_comm b a) ∙ k | false ↦ k ]
  differ_objects (Object a) (Parameter b) h = absurd (true≢false (sym h))
  differ_objects (Object a) (Apply b us) h = absurd (true≢false (sym h))
  differ_objects (Parameter a) u h = absurd (true≢false (sym h))
  differ_objects (Apply a ts) u h = absurd (true≢false (sym h))

  differ_holding : (t u : Term) → holds s d (inequation t u) ≡ true → differ s d.kf t u ≡ true
  unfolding differ holds literal
  differ_holding t u h = ⊎_elim (λ k. k) (λ k. absurd (true≢false (sym k))) (or_cases (is_plain s d.kf (inequation t u)) false h)

  module _ (j : Judge) (m : ℕ) (sound : Each (HoldsIn s d) (j m)) where
    cited_holds : (l : Literal) → is_cited j m l ≡ true → holds s d l ≡ true
    cited_holds l h =
        let f = found (HoldsIn s d) (fact_eq (FactLit l)) (j m) sound h in
        subst (HoldsIn s d) (sym (fact_eq_same (FactLit l) f.0 f.2)) f.1

    apart_differ : (t u : Term) → are_cited_apart j m t u ≡ true → differ s d.kf t u ≡ true
    apart_differ t u h = ⊎_elim (λ c. differ_holding t u (cited_holds (inequation t u) c)) (λ o. differ_objects t u o) (or_cases (is_cited j m (inequation t u)) _ h)

    fixed_differ : (ss : List (Option Term)) (us : List Term) → fixed_cited_apart j m ss us ≡ true → some_fixed_differ s d.kf ss us ≡ true
    fixed_differ (Some t ∷ ss) (u ∷ us) h = ⊎_elim (λ k. or_left _ _ (apart_differ t u k)) (λ k. or_right (differ s d.kf t u) _ (fixed_differ ss us k)) (or_cases (are_cited_apart j m t u) _ h)
    fixed_differ (None ∷ ss) (u ∷ us) h = fixed_differ ss us h
    fixed_differ [] us h = absurd (true≢false (sym h))
    fixed_differ (Some t ∷ ss) [] h = absurd (true≢false (sym h))
    fixed_differ (None ∷ ss) [] h = absurd (true≢false (sym h))

    not_quiet : (e : Effect) → may_fire s d e ≡ true → cannot_fire j m e ≡ false
    unfolding may_fire
    not_quiet e fire =
        elim (cannot_fire j m e) as (λ b. cannot_fire j m e ≡ b → b ≡ false) [
          | false ↦ λ q. refl
          | true ↦ λ q.
              let l = found_in (λ l. is_cited j m (negated l)) e.condition q in
              absurd (true≢false (sym (any_in (λ l. holds s d (negated l)) e.condition l.0 l.1 (cited_holds (negated l.0) l.2)) ∙ not-true _ fire))
        ] refl

    widens : (x : Pattern) (t : Target) → meets s d x t ≡ true → would_widen j m x t ≡ true
    widens x (Set a) h =
        let q = and_parts (a.predicate == x.predicate) _ h in
        and_from _ _ q.0
        (elim (fixed_cited_apart j m x.slots a.arguments) as (λ b. fixed_cited_apart j m x.slots a.arguments ≡ b → not b ≡ true) [
          | false ↦ λ k. refl
          | true ↦ λ k. absurd (true≢false (sym (fixed_differ x.slots a.arguments k) ∙ not-true _ q.1))
        ] refl)
    widens x (Unset a) h = absurd (true≢false (sym h))
    widens x (Clear y) h = absurd (true≢false (sym h))
    widens x (Assign f ts v) h = absurd (true≢false (sym h))

    not_barred : (x : Pattern) (e : Effect) → joins s d x e ≡ true → not (is_barred j m (would_widen j m x) e) ≡ true
    not_barred x e h =
        let q = and_parts (may_fire s d e) _ h in
        λ i. not (not_quiet e q.0 i || not (widens x e.target q.1 i))

-- a test of the elements that are there, by one of more of them
all_by : {X : Type 0} (p q : X → Bool) → ((x : X) → p x ≡ true → q x ≡ true) → (xs : List X) → list_all p xs ≡ true → list_all q xs ≡ true
all_by p q f [] h = refl
all_by p q f (x ∷ xs) h = let k = and_parts (p x) _ h in and_from _ _ (f x k.0) (all_by p q f xs k.1)

any_by : {X : Type 0} (p q : X → Bool) → ((x : X) → p x ≡ true → q x ≡ true) → (xs : List X) → list_any p xs ≡ true → list_any q xs ≡ true
any_by p q f xs h = let k = found_in p xs h in any_in q xs k.0 k.1 (f k.0 k.2)

module _ (p : Problem) (path : Path) (m : ℕ) (next : suc m ≤ final_moment path) (i : Instance) (there : slice_get (deeds path) m ≡ Some i) (d : Five) (shown : AreShown p path m d) where
  abbrev wi : m ≤ final_moment path
  wi = within p path m next i there d shown

  abbrev es : List Effect
  es = effects_of p i

  -- a fact that is shown, and holds if it is a literal
  abbrev Sure : Fact → Type 0
  Sure f = IsShown p path m f × HoldsIn p.signature d f

  sure : (l : Literal) → IsInOrder l → holds p.signature d l ≡ true → Sure (FactLit l)
  sure l o h = (held p path m wi d shown l o h, h)

  abbrev O : (Judge → Type 0) → Type 0
  O T = NeedsOf Sure m T

  all_shown : (fs : List Fact) → Each Sure fs → Each (IsShown p path m) fs
  all_shown fs a = each_weaker Sure (IsShown p path m) (λ f q. q.0) fs a

  all_hold : (fs : List Fact) → Each Sure fs → Each (HoldsIn p.signature d) fs
  all_hold fs a = each_weaker Sure (HoldsIn p.signature d) (λ f q. q.1) fs a

  listed_in : (bs : List Atom) (b : Atom) → IsIn b bs → is_listed bs b ≡ true
  listed_in bs b k = any_in (λ a. is_eq (atom_cmp a b)) bs b k (ap is_eq (tied_itself atom_cmp_total b))

  all_listed : (bs cs : List Atom) → ((b : Atom) → IsIn b cs → IsIn b bs) → list_all (is_listed bs) cs ≡ true
  all_listed bs [] f = refl
  all_listed bs (c ∷ cs) f = and_from _ _ (listed_in bs c (f c (inl refl))) (all_listed bs cs (λ b k. f b (inr k)))

  abbrev joining : Pattern → Effect → Bool
  joining x e = joins p.signature d x e

  -- an atom that may be set, in normal form, is a form of it, and steady
  set_formed : (x : Pattern) (e : Effect) (b : Atom) → Joined p.signature d es x e b → O (λ j. is_set_form j m es e.target b ≡ true)
  set_formed x e b k =
      let a = k.atom in
      let normals = map (normal d.kf) a.arguments in
      let so : O (λ j. is_set_form j m es (Set a) (normal_atom d.kf a) ≡ true) =
      of_and Sure m (λ j. a.predicate == a.predicate) (λ j. are_forms j m a.arguments normals && are_steady j m es normals) (of_nothing Sure m (λ j. (a.predicate == a.predicate) ≡ true) (λ j. eq-eqb a.predicate a.predicate refl))
      (of_and Sure m (λ j. are_forms j m a.arguments normals) (λ j. are_steady j m es normals) (normals_of p.signature d Sure m sure a.arguments) (all_steady_of p.signature d Sure m sure es (orderly p path m next i there d shown) normals k.stable)) in
      subst (λ t. O (λ j. is_set_form j m es t b ≡ true)) (sym k.is_set) (subst (λ c. O (λ j. is_set_form j m es (Set a) c ≡ true)) k.normal_is so)

  module _ (r : Entry) (all : List Atom) (w : Widens p.signature d es r.pattern es r.listed all) where
    abbrev after : Entry
    after = record { pattern = r.pattern; listed = all }

    -- an effect that may not set an instance is barred from it
    misses_pattern : (t : Target) → meets p.signature d r.pattern t ≡ false → O (λ j. not (would_widen j m r.pattern t) ≡ true)
    misses_pattern (Set a) h = widen_of p.signature d Sure m sure r.pattern a h
    misses_pattern (Unset a) h = of_nothing Sure m (λ j. not (would_widen j m r.pattern (Unset a)) ≡ true) (λ j. refl)
    misses_pattern (Clear y) h = of_nothing Sure m (λ j. not (would_widen j m r.pattern (Clear y)) ≡ true) (λ j. refl)
    misses_pattern (Assign f ts v) h = of_nothing Sure m (λ j. not (would_widen j m r.pattern (Assign f ts v)) ≡ true) (λ j. refl)

    taken_in : (e : Effect) → IsIn e es → O (λ j. is_taken_in j m es after e ≡ true)
    taken_in e k =
        elim (may_fire p.signature d e) as (λ b. may_fire p.signature d e ≡ b → O (λ j. is_taken_in j m es after e ≡ true)) [
          | false ↦ λ q. of_then Sure m (λ j. cannot_fire j m e ≡ true) (λ j. is_taken_in j m es after e ≡ true) (λ j c. or_left _ _ (or_left _ _ c)) (quiet_of p.signature d Sure m sure e (orderly p path m next i there d shown e k) q)
          | true ↦ λ q. elim (meets p.signature d r.pattern e.target) as (λ b. meets p.signature d r.pattern e.target ≡ b → O (λ j. is_taken_in j m es after e ≡ true)) [
            | false ↦ λ n. of_then Sure m (λ j. not (would_widen j m r.pattern e.target) ≡ true) (λ j. is_taken_in j m es after e ≡ true) (λ j c. or_left _ _ (or_right (cannot_fire j m e) _ c)) (misses_pattern e.target n)
            | true ↦ λ n.
                let b = w.has e k (and_from _ _ q n) in
                of_then Sure m (λ j. is_set_form j m es e.target b.0 ≡ true) (λ j. is_taken_in j m es after e ≡ true) (λ j c. or_right (is_barred j m (would_widen j m r.pattern) e) _ (any_in (is_set_form j m es e.target) all b.0 b.1 c)) (set_formed r.pattern e b.0 b.2)
          ] refl
        ] refl

    -- a listed atom was listed before, or is of an effect that may set an instance
    came_in : (b : Atom) → IsIn b all → O (λ j. (is_listed r.listed b || list_any (λ e. joining r.pattern e && is_set_form j m es e.target b) es) ≡ true)
    came_in b k =
        ⊎_elim
        (λ l. of_nothing Sure m (λ j. (is_listed r.listed b || list_any (λ e. joining r.pattern e && is_set_form j m es e.target b) es) ≡ true) (λ j. or_left _ _ (listed_in r.listed b l)))
        (λ n. of_then Sure m (λ j. is_set_form j m es n.0.target b ≡ true) (λ j. (is_listed r.listed b || list_any (λ e. joining r.pattern e && is_set_form j m es e.target b) es) ≡ true)
        (λ j c. or_right (is_listed r.listed b) _ (any_in (λ e. joining r.pattern e && is_set_form j m es e.target b) es n.0 n.1 (and_from _ _ n.2.joined c))) (set_formed r.pattern n.0 b n.2))
        (w.from b k)

    grow : IsIn r d.lcw → are_stable p.signature d es (entry_terms r) ≡ true → IsShown p path (suc m) (FactLcw after)
    grow k stable =
        let n = of_and Sure m (λ j. are_steady j m es (entry_terms r)) (λ j. list_all (is_taken_in j m es after) es && list_all (λ b. is_listed r.listed b || list_any (λ e. joining r.pattern e && is_set_form j m es e.target b) es) all)
        (all_steady_of p.signature d Sure m sure es (orderly p path m next i there d shown) (entry_terms r) stable)
        (of_and Sure m (λ j. list_all (is_taken_in j m es after) es) (λ j. list_all (λ b. is_listed r.listed b || list_any (λ e. joining r.pattern e && is_set_form j m es e.target b) es) all)
        (of_all Sure m (λ j e. is_taken_in j m es after e) es taken_in)
        (of_all Sure m (λ j b. is_listed r.listed b || list_any (λ e. joining r.pattern e && is_set_form j m es e.target b) es) all came_in)) in
        let fs : List Fact = FactLcw r ∷ n.facts in
        after_by p path m next i there d shown fs (shown.regions r k, all_shown n.facts n.so) (FactLcw after) ByGrow (λ j k es. is_region_that (is_grown j k es) (FactLcw after)) (λ j e.
        let sound : Each (HoldsIn p.signature d) (j m) = subst (Each (HoldsIn p.signature d)) (sym e) (tt, all_hold n.facts n.so) in
        let a = and_parts (are_steady j m es (entry_terms r)) _ (n.then j fs e (λ f x. inr x)) in
        let b = and_parts (list_all (is_taken_in j m es after) es) _ a.1 in
        ap (list_any (is_region_that (grows_to j m es after))) e
        ∙ or_left (grows_to j m es after r) _
        (and_from _ _ (ap is_eq (tied_itself pattern_cmp_total r.pattern))
        (and_from _ _ a.0
        (and_from _ _ (all_listed all r.listed w.keeps)
        (and_from _ _ b.0
        (all_by (λ b. is_listed r.listed b || list_any (λ e. joining r.pattern e && is_set_form j m es e.target b) es) (λ b. is_listed r.listed b || is_new_atom j m es r.pattern b)
        (λ b h. ⊎_elim (λ l. or_left _ _ l)
        (λ l. or_right (is_listed r.listed b) _ (any_by (λ e. joining r.pattern e && is_set_form j m es e.target b) (λ e. not (is_barred j m (would_widen j m r.pattern) e) && is_set_form j m es e.target b)
        (λ e h. let q = and_parts (joining r.pattern e) _ h in and_from _ _ (not_barred p.signature d j m sound r.pattern e q.0) q.1) es l))
        (or_cases (is_listed r.listed b) _ h)) all b.1)))))) (λ j. refl)

  -- a region that the action leaves is shown, its atoms still a set
  pub region_left : (r k : Entry) → IsIn r d.lcw → IsOrdered atom_cmp r.listed → kept_entry p.signature d es r ≡ Some k → IsShown p path (suc m) (FactLcw k) × IsOrdered atom_cmp k.listed
  region_left r k n o h =
      elim (are_stable p.signature d es (entry_terms r)) as (λ b. are_stable p.signature d es (entry_terms r) ≡ b → cond b (option_map (λ (listed : List Atom). let e : Entry = record { pattern = r.pattern; listed = listed } in e) (widened p.signature d es r.pattern es r.listed)) None ≡ Some k → IsShown p path (suc m) (FactLcw k) × IsOrdered atom_cmp k.listed) [
        | false ↦ λ q e. absurd (none-some k e)
        | true ↦ λ q. elim (widened p.signature d es r.pattern es r.listed) as (λ l. widened p.signature d es r.pattern es r.listed ≡ l → option_map (λ (listed : List Atom). let e : Entry = record { pattern = r.pattern; listed = listed } in e) l ≡ Some k → IsShown p path (suc m) (FactLcw k) × IsOrdered atom_cmp k.listed) [
          | None ↦ λ g e. absurd (none-some k e)
          | Some all ↦ λ g e.
              let w = wide p.signature d es r.pattern es r.listed all g in
              subst (λ (y : Entry). IsShown p path (suc m) (FactLcw y) × IsOrdered atom_cmp y.listed) (same_Some _ k e) (grow r all w n q, w.ordered o)
        ] refl
      ] refl h
