-- What the justified adds of an action put into Kf and LCW is true after it.
use Rattle.std.proofs.Common.{◌≡◌, ◌&&◌, ◌==◌, ℕ, Bool, true, false, cond, not, is_some, List, [], ◌∷◌, map, Some, None, refl, sym, ap, ◌∙◌, subst, ⊎_elim, true≢false}
use Rattle.std.specs.List.{list_any, list_all}
use Rattle.std.specs.Option.{option_map_or}
use Rattle.std.specs.Cmp.{Equal-is}
use Rattle.std.specs.Ordering.{is_lt}
use Rattle.std.proofs.lemmas.Bool.{and_parts, and_from, cases_Bool, eq-eqb, not-true, cond-true}
use Rattle.std.proofs.lemmas.Option.{none-some, cond_some}
use Rattle.pks_terms.specs.Signatures.{Signature}
use Rattle.pks_terms.specs.Sets.{Each, IsIn, with_later}
use Rattle.pks_terms.specs.Syntax.{Apply, Inner, Term, term_of, Relation, Named, Equality, Literal, Atom, Pattern, affirmed, denied}
use Rattle.pks_terms.specs.Orders.{term_cmp, term_eq, literal_eq, pattern_cmp, in_order, literal, equation, number_of, arguments_of}
use Rattle.pks_terms.specs.Worlds.{World, inner_value, value_of, relates, signed, true_in, all_true_in}
use Rattle.pks_terms.specs.Databases.{Entry, Five, normal, inner_normal, normal_literal}
use Rattle.pks_terms.specs.Meaning.{is_instance, Meets, IsTrueIn}
use Rattle.pks_terms.specs.Closure.{normal_pattern}
use Rattle.pks_terms.specs.Queries.{Plain, answers_plain}
use Rattle.pks_terms.specs.Actions.{Target, Set, Unset, Clear, Assign, Effect, Item, ItemKf, ItemKw, ItemKv, ItemLcw, Add, Schema, inner_at, term_at, literal_at, pattern_at, target_at, effect_at, plain_at, fires, written_truth, last_written, applied_to}
use Rattle.pks_terms.specs.Spoiling.{is_stable, are_stable}
use Rattle.pks_terms.specs.Justified.{J8, given_of, target_literal, are_given, makes_so, is_made_so, known_case, item_case, case_of, is_place, is_empty_list, is_unconditional, is_set_on, is_clear_of, clears_all}
use Rattle.pks_terms.specs.Progress.{fixed_terms, place_at, has_stable_arguments, has_place, added_literal, added_equation, literals_added, regions_added}
use Rattle.pks_terms.proofs.ListLaws.{found_in, map-map, map_alike, in_with_later_map, in_mapped, none_in}
use Rattle.pks_terms.proofs.OrderLaws.{same_term, same_literal, pattern_cmp_tells}
use Rattle.pks_laws.proofs.Values.{value_of-normal, inner_value-normal, values-normal}
use Rattle.pks_laws.proofs.Holding.{true_in-literal}
use Rattle.pks_laws.proofs.Changing.{last_written_after, values-term_of, stable_value, stable_values}
use Rattle.pks_laws.proofs.Justifying.{MadeSo, made}
use Rattle.pks_laws.proofs.Tidying.{is_instance-normal}
use Rattle.pks_laws.proofs.Progressing.{stable_instance}

module _ {s : Signature} (w : World) (d : Five) (m : IsTrueIn s w d) (given : List Inner) (effects : List Effect) where
  abbrev es_at : List Effect
  es_at = map (effect_at given) effects

  abbrev now_at : World
  now_at = applied_to w es_at

  abbrev old_value : Term → ℕ
  old_value t = value_of w (term_at given t)

  -- the values of the assigned application's arguments, with the arguments put in and normal
  pub place_values : (ts : List Inner) → are_stable s d es_at (map term_of (map (λ t. inner_normal d.kf (inner_at given t)) ts)) ≡ true
      → map (inner_value now_at) (map (λ t. inner_normal d.kf (inner_at given t)) ts) ≡ map (inner_value w) (map (inner_at given) ts)
  place_values ts h =
      let args : List Inner = map (λ t. inner_normal d.kf (inner_at given t)) ts in
      sym (values-term_of now_at args) ∙ stable_values w d m es_at (map term_of args) h ∙ values-term_of w args
      ∙ map-map (λ t. inner_normal d.kf (inner_at given t)) (inner_value w) ts
      ∙ map_alike (λ t. inner_value w (inner_normal d.kf (inner_at given t))) (λ t. inner_value w (inner_at given t)) (λ t. inner_value-normal w d.kf m.known (inner_at given t)) ts
      ∙ sym (map-map (inner_at given) (inner_value w) ts)

  module _ (g : List Plain) (answered : Each (λ q. answers_plain s d (plain_at given q) ≡ true) g) where
    -- a literal on a predicate that is made so
    predicate_made : (l : Literal) (p : ℕ) → l.relation ≡ Named p → (q : Effect × List Effect) → IsIn q (with_later effects) → makes_so g l q ≡ true → signed l.positive (now_at.truth p (map old_value l.arguments)) ≡ true
    unfolding literal
    predicate_made l p named q i h =
        let a = and_parts (option_map_or (λ k. literal_eq k l) (target_literal q.0.target) false) _ h in
        let b = and_parts (are_given g q.0.condition) _ a.1 in
        by_target q.0.target a.0 (made w d m given g answered effects q i b.0 (not-true _ b.1))
      where
        same_predicate : (a' : Atom) (b' : Bool) → ◌≡◌ {A = Literal} (record { relation = Named a'.predicate; arguments = a'.arguments; positive = b' }) l → (a'.predicate ≡ p)
        same_predicate a' b' e = let r : Named a'.predicate ≡ Named p = ap (λ (k : Literal). k.relation) e ∙ named in cc

        by_target : (x : Target) → option_map_or (λ k. literal_eq k l) (target_literal x) false ≡ true → MadeSo w d m given g answered now_at x → signed l.positive (now_at.truth p (map old_value l.arguments)) ≡ true
        by_target (Set a) e made_so =
            let same = same_literal (affirmed a) l e in
            (λ i. signed (ap (λ (k : Literal). k.positive) (sym same) i) (now_at.truth (sym (same_predicate a true same) i) (map old_value (ap (λ (k : Literal). k.arguments) (sym same) i)))) ∙ made_so
        by_target (Unset a) e made_so =
            let same = same_literal (denied a) l e in
            (λ i. signed (ap (λ (k : Literal). k.positive) (sym same) i) (now_at.truth (sym (same_predicate a false same) i) (map old_value (ap (λ (k : Literal). k.arguments) (sym same) i)))) ∙ ap not made_so
        by_target (Clear x) e made_so = absurd (true≢false (sym e))
        by_target (Assign f ts value) e made_so =
            let same = same_literal (equation (Apply f ts) value) l e in
            absurd (not_named (ap (λ (k : Literal). k.relation) same ∙ named))
          where
            not_named : Equality ≡ Named p → ⊥
            not_named r = cc

    -- the normal form of such a literal, where its terms are stable
    predicate_add_true : (l : Literal) (p : ℕ) → l.relation ≡ Named p → are_stable s d es_at (normal_literal d.kf (literal_at given l)).arguments ≡ true → is_made_so g l effects ≡ true → true_in now_at (normal_literal d.kf (literal_at given l)) ≡ true
    unfolding normal_literal literal_at literal true_in is_made_so
    predicate_add_true l p named stable h =
        let f = found_in (makes_so g l) (with_later effects) h in
        let values : map (value_of now_at) (normal_literal d.kf (literal_at given l)).arguments ≡ map old_value l.arguments =
        stable_values w d m es_at (normal_literal d.kf (literal_at given l)).arguments stable
        ∙ ap (λ ts. map (value_of w) ts) (ap (λ r. in_order r (map (normal d.kf) (in_order r (map (term_at given) l.arguments)))) named)
        ∙ values-normal w d.kf m.known (map (term_at given) l.arguments) ∙ map-map (term_at given) (value_of w) l.arguments in
        (λ i. signed l.positive (relates now_at (named i) (values i))) ∙ predicate_made l p named f.0 f.1 f.2

    -- the other side of an ordered equation of which one side is t
    other_side : (a b t u : Term) → in_order Equality (a ∷ b ∷ []) ≡ t ∷ u ∷ [] → a ≡ t → b ≡ u
    other_side a b t u e q =
        elim (is_lt (term_cmp a b)) as (λ c. cond c (b ∷ a ∷ []) (a ∷ b ∷ []) ≡ t ∷ u ∷ [] → b ≡ u) [ true ↦ λ h. cc | false ↦ λ h. cc ] e

    -- the equation of an assigned application and its value
    equation_add_true : (l : Literal) (t u : Term) → l.relation ≡ Equality → l.arguments ≡ t ∷ u ∷ [] → (q : Effect × List Effect) → IsIn q (with_later effects) → is_place t q.0.target ≡ true → makes_so g l q ≡ true
        → has_stable_arguments s d es_at (place_at d.kf given t) ≡ true → is_stable s d es_at (normal d.kf (term_at given u)) ≡ true → true_in now_at (equation (place_at d.kf given t) (normal d.kf (term_at given u))) ≡ true
    unfolding value_of
    equation_add_true l t u equal arguments q i place h stable stable_value' =
        let a = and_parts (option_map_or (λ k. literal_eq k l) (target_literal q.0.target) false) _ h in
        let b = and_parts (are_given g q.0.condition) _ a.1 in
        true_in-literal now_at Equality (place_at d.kf given t ∷ normal d.kf (term_at given u) ∷ []) true
        ∙ eq-eqb (value_of now_at (place_at d.kf given t)) (value_of now_at (normal d.kf (term_at given u)))
        (by_target q.0.target a.0 place (made w d m given g answered effects q i b.0 (not-true _ b.1)) ∙ sym (stable_value w d m es_at (normal d.kf (term_at given u)) stable_value' ∙ value_of-normal w d.kf m.known (term_at given u)))
      where
        by_target : (x : Target) → option_map_or (λ k. literal_eq k l) (target_literal x) false ≡ true → is_place t x ≡ true
            → MadeSo w d m given g answered now_at x → now_at.value (number_of t) (map (inner_value now_at) (map (λ x. inner_normal d.kf (inner_at given x)) (arguments_of t))) ≡ old_value u
        by_target (Assign f ts value) e p made_so =
            let same = same_literal (equation (Apply f ts) value) l e in
            let to : Apply f ts ≡ t = same_term (Apply f ts) t p in
            let other : value ≡ u = other_side (Apply f ts) value t u (in_list f ts value same) to in
            ap (now_at.value (number_of t)) (place_values (arguments_of t) stable)
            ∙ ap (λ x. now_at.value (number_of x) (map (inner_value w) (map (inner_at given) (arguments_of x)))) (sym to)
            ∙ made_so ∙ ap old_value other
          where
            in_list : (f : ℕ) (ts : List Inner) (value : Term) → equation (Apply f ts) value ≡ l → in_order Equality (Apply f ts ∷ value ∷ []) ≡ t ∷ u ∷ []
            in_list f ts value same = sym (arguments_are f ts value) ∙ ap (λ (k : Literal). k.arguments) same ∙ arguments
              where
                arguments_are : (f : ℕ) (ts : List Inner) (value : Term) → (equation (Apply f ts) value).arguments ≡ in_order Equality (Apply f ts ∷ value ∷ [])
                arguments_are f ts value = unfold Rattle.pks_terms.specs.Orders.literal in refl
        by_target (Set a) e p made_so = absurd (true≢false (sym p))
        by_target (Unset a) e p made_so = absurd (true≢false (sym p))
        by_target (Clear y) e p made_so = absurd (true≢false (sym p))

  -- ---- what the adds give

  module _ (sc : Schema) (same : sc.effects ≡ effects) (a : Add) (answered : Each (λ q. answers_plain s d (plain_at given q) ≡ true) (given_of sc a)) (justified : is_some (case_of sc a) ≡ true) where
    known_made : (l : Literal) → a.item ≡ ItemKf l → is_made_so (given_of sc a) l effects ≡ true
    unfolding case_of
    known_made l item =
        elim (is_made_so (given_of sc a) l sc.effects) as (λ b. is_made_so (given_of sc a) l sc.effects ≡ b → is_some (cond b (Some (known_case l.relation)) None) ≡ true → is_made_so (given_of sc a) l effects ≡ true) [
          | true ↦ λ q h. ap (is_made_so (given_of sc a) l) (sym same) ∙ q
          | false ↦ λ q h. absurd (true≢false (sym h))
        ] refl (ap (λ i. is_some (item_case (given_of sc a) sc i)) (sym item) ∙ justified)

    place_in : (l : Literal) (t : Term) → has_place sc a l t ≡ true → (q : Effect × List Effect) × IsIn q (with_later effects) × (is_place t q.0.target ≡ true) × (makes_so (given_of sc a) l q ≡ true)
    place_in l t h =
        let f = found_in (λ p. is_place t p.0.target && makes_so (given_of sc a) l p) (with_later sc.effects) h in
        let b = and_parts (is_place t f.0.0.target) _ f.2 in
        (f.0, subst (λ fs. IsIn f.0 (with_later fs)) same f.1, b.0, b.1)

    added_equation_true : (l : Literal) → l.relation ≡ Equality → (ts : List Term) → l.arguments ≡ ts → Each (λ k. true_in now_at k ≡ true) (added_equation s d es_at given sc a l ts)
    added_equation_true l e (t ∷ u ∷ []) q =
        elim (has_place sc a l t && (has_stable_arguments s d es_at (place_at d.kf given t) && is_stable s d es_at (normal d.kf (term_at given u)))) as (λ b. (has_place sc a l t && (has_stable_arguments s d es_at (place_at d.kf given t) && is_stable s d es_at (normal d.kf (term_at given u)))) ≡ b
        → Each (λ k. true_in now_at k ≡ true) (cond b (equation (place_at d.kf given t) (normal d.kf (term_at given u)) ∷ []) [])) [
          | false ↦ λ h. tt
          | true ↦ λ h.
              let b = and_parts (has_place sc a l t) _ h in
              let c = and_parts (has_stable_arguments s d es_at (place_at d.kf given t)) _ b.1 in
              let f = place_in l t b.0 in
              (equation_add_true (given_of sc a) answered l t u e q f.0 f.1 f.2 f.3 c.0 c.1, tt)
        ] refl
    added_equation_true l e [] q = tt
    added_equation_true l e (t ∷ []) q = tt
    added_equation_true l e (t ∷ u ∷ x ∷ ts) q = tt

    pub added_literal_true : (l : Literal) → a.item ≡ ItemKf l → (r : Relation) → l.relation ≡ r → Each (λ k. true_in now_at k ≡ true) (added_literal s d es_at given sc a l r)
    added_literal_true l item (Named p) e =
        elim (are_stable s d es_at (normal_literal d.kf (literal_at given l)).arguments) as (λ b. are_stable s d es_at (normal_literal d.kf (literal_at given l)).arguments ≡ b → Each (λ k. true_in now_at k ≡ true) (cond b (normal_literal d.kf (literal_at given l) ∷ []) [])) [
          | true ↦ λ q. (predicate_add_true (given_of sc a) answered l p e q (known_made l item), tt)
          | false ↦ λ q. tt
        ] refl
    added_literal_true l item Equality e = added_equation_true l e l.arguments refl

    pub literals_added_true : (x : Item) → a.item ≡ x → Each (λ k. true_in now_at k ≡ true) (literals_added s d es_at given sc a x)
    literals_added_true (ItemKf l) e = added_literal_true l e l.relation refl
    literals_added_true (ItemKw c) e = tt
    literals_added_true (ItemKv t) e = tt
    literals_added_true (ItemLcw x) e = tt

    -- ---- a region that was cleared

    cleared : (x : Pattern) (q : Effect × List Effect) → IsIn q (with_later effects) → clears_all x q ≡ true → (ds : List ℕ) → is_instance w (pattern_at given x).slots ds ≡ true → now_at.truth x.predicate ds ≡ false
    unfolding applied_to all_true_in
    cleared x q i h ds inst =
        let b = and_parts (is_clear_of x q.0.target) _ h in
        let c = and_parts (is_unconditional q.0) _ b.1 in
        last_written_after (λ z. z ≡ false) (written_truth w x.predicate ds) w es_at _ false (effect_at given q.0, map (effect_at given) q.1) (in_with_later_map (effect_at given) effects q i)
        (unconditional_fires q.0.condition c.0) (clears q.0.target b.0) refl
        (λ f z j fire write.
        let o = in_mapped (effect_at given) q.1 f j in
        ⊎_elim (λ t. absurd (no_set o.0.target z (none_in (λ f. is_set_on x.predicate f.target) q.1 o.0 (not-true _ c.1) o.1) (ap (λ (e : Effect). written_truth w x.predicate ds e.target) o.2 ∙ write) t)) (λ t. t) (cases_Bool z))
      where
        unconditional_fires : (c : List Literal) → is_empty_list c ≡ true → list_all (true_in w) (Rattle.pks_terms.specs.Actions.conj_at given c) ≡ true
        unconditional_fires [] h = refl
        unconditional_fires (l ∷ ls) h = absurd (true≢false (sym h))

        clears : (t : Target) → is_clear_of x t ≡ true → written_truth w x.predicate ds (target_at given t) ≡ Some false
        clears (Clear y) k =
            ap (λ z. written_truth w x.predicate ds (target_at given (Clear z))) (pattern_cmp_tells y x ((Equal-is (pattern_cmp y x)).0 k))
            ∙ cond-true _ (Some false) None (and_from _ _ (eq-eqb x.predicate x.predicate refl) inst)
        clears (Set b) k = absurd (true≢false (sym k))
        clears (Unset b) k = absurd (true≢false (sym k))
        clears (Assign f ts v) k = absurd (true≢false (sym k))

        no_set : (t : Target) (z : Bool) → is_set_on x.predicate t ≡ false → written_truth w x.predicate ds (target_at given t) ≡ Some z → z ≡ true → ⊥
        no_set (Set b) z n write t = true≢false (sym (and_parts (b.predicate == x.predicate) _ (cond_some _ true z write).0).0 ∙ n)
        no_set (Unset b) z n write t = true≢false (sym t ∙ sym (cond_some _ false z write).1)
        no_set (Clear y) z n write t = true≢false (sym t ∙ sym (cond_some _ false z write).1)
        no_set (Assign f ts value) z n write t = none-some z write

    -- the region of a pattern that was cleared, with nothing listed
    region_true : (x : Pattern) → a.item ≡ ItemLcw x → are_stable s d es_at (fixed_terms (normal_pattern d.kf (pattern_at given x)).slots) ≡ true → Meets now_at (record { pattern = normal_pattern d.kf (pattern_at given x); listed = [] })
    unfolding case_of
    region_true x item stable =
        let found_clear : list_any (clears_all x) (with_later sc.effects) ≡ true =
        elim (list_any (clears_all x) (with_later sc.effects)) as (λ b. list_any (clears_all x) (with_later sc.effects) ≡ b → is_some (cond b (Some J8) None) ≡ true → list_any (clears_all x) (with_later sc.effects) ≡ true) [
          | true ↦ λ q h. q
          | false ↦ λ q h. absurd (true≢false (sym h))
        ] refl (ap (λ i. is_some (item_case (given_of sc a) sc i)) (sym item) ∙ justified) in
        let f = found_in (clears_all x) (with_later sc.effects) found_clear in
        record {
          closed = λ ds i t.
              let before : is_instance w (pattern_at given x).slots ds ≡ true =
              sym (is_instance-normal w d.kf m.known (pattern_at given x).slots ds) ∙ sym (stable_instance w d m es_at (normal_pattern d.kf (pattern_at given x)).slots ds stable) ∙ i in
              absurd (true≢false (sym t ∙ cleared x f.0 (subst (λ fs. IsIn f.0 (with_later fs)) same f.1) f.2 ds before));
        }

    pub regions_added_true : (x : Item) → a.item ≡ x → Each (Meets now_at) (regions_added s d es_at given x)
    regions_added_true (ItemLcw x) e =
        elim (are_stable s d es_at (fixed_terms (normal_pattern d.kf (pattern_at given x)).slots)) as (λ b. are_stable s d es_at (fixed_terms (normal_pattern d.kf (pattern_at given x)).slots) ≡ b
        → Each (Meets now_at) (cond b (let r : Entry = record { pattern = normal_pattern d.kf (pattern_at given x); listed = [] } in r ∷ []) [])) [
          | true ↦ λ q. (region_true x e q, tt)
          | false ↦ λ q. tt
        ] refl
    regions_added_true (ItemKf l) e = tt
    regions_added_true (ItemKw c) e = tt
    regions_added_true (ItemKv t) e = tt
