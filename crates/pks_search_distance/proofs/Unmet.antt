-- Literals that are counted, and what ground actions make of them.
use Rattle.std.proofs.Common.{◌≡◌, ◌+◌, ◌≤◌, ◌⊎◌, ◌&&◌, ◌==◌, ℕ, Bool, true, false, cond, not, List, [], ◌∷◌, map, max, Some, refl, sym, ap, ◌∙◌, subst, inl, inr, ⊎_elim, true≢false, arith}
use Rattle.std.specs.Prelude.{count_by}
use Rattle.std.specs.List.{list_any}
use Rattle.std.proofs.lemmas.List.Recursion.{is_count_by}
use Rattle.std.proofs.lemmas.Bool.{and_parts, and_from, or_parts, or_from, eq-eqb, not-false, not-true}
use Rattle.std.proofs.lemmas.Option.{none-some, cond_some}
use Rattle.pks_terms.specs.Sets.{IsIn}
use Rattle.pks_terms.specs.Syntax.{Form, Object, Parameter, Apply, Inner, Term, Relation, Named, Equality, Literal, Atom}
use Rattle.pks_terms.specs.Worlds.{World, form_value, inner_value, value_of, relates, signed, true_in}
use Rattle.pks_terms.specs.Databases.{same_objects}
use Rattle.pks_terms.specs.Meaning.{is_instance, is_value_of}
use Rattle.pks_terms.specs.Actions.{Target, Set, Unset, Clear, Assign, Effect, Instance, effect_at, written_truth, written_value, applied_to}
use Rattle.pks_terms.specs.Problems.{Problem, schema_of}
use Rattle.pks_terms.specs.Knowledge.{after_action}
use Rattle.pks_terms.specs.Views.{literal_of}
use Rattle.pks_terms.specs.declared.literal.Literal as literal
use Rattle.pks_laws.proofs.Changing.{last_written_has}
use Rattle.pks_laws.proofs.Values.{same_objects_same}
use Rattle.pks_search_distance.specs.Runs.{MayBeDone}
use Rattle.pks_search_distance.specs.Unmet.{unmet, MeetsAtMost}
use Rattle.pks_search_distance.specs.Relaxed.{GroundAction, ground_action_of_instance}
use Rattle.pks_terms.specs.Objects.{is_object, are_objects, is_place}
use Rattle.pks_search_distance.specs.Counted.{are_different, are_apart, is_plain, may_be, may_hit, may_make, may_meet, meets, most_met}

-- ---- counts as the program has them

pub less_if : (b : Bool) (n : ℕ) → cond b 0 1 + n ≡ cond (not b) (1 + n) n
less_if true n = omega arith
less_if false n = refl

pub more_if : (b : Bool) (n : ℕ) → cond b 1 0 + n ≡ cond b (1 + n) n
more_if true n = refl
more_if false n = omega arith

pub counted_unmet : (w : World) (ls : List literal.Literal) → unmet w (map literal_of ls) ≡ count_by (λ l. not (true_in w (literal_of l))) ls
counted_unmet w = is_count_by (λ ls. unmet w (map literal_of ls)) (λ l. not (true_in w (literal_of l))) refl (λ l ls. less_if (true_in w (literal_of l)) (unmet w (map literal_of ls)))

pub counted_meets : (es : List Effect) (ls : List literal.Literal) → meets es (map literal_of ls) ≡ count_by (λ l. may_meet es (literal_of l)) ls
counted_meets es = is_count_by (λ ls. meets es (map literal_of ls)) (λ l. may_meet es (literal_of l)) refl (λ l ls. more_if (may_meet es (literal_of l)) (meets es (map literal_of ls)))

-- ---- terms with the same values

abbrev head_of : List ℕ → ℕ
head_of [] = 0
head_of (d ∷ ds) = d

abbrev tail_of : List ℕ → List ℕ
tail_of [] = []
tail_of (d ∷ ds) = ds

module _ {A : Type 0} (f : A → ℕ) (v : World) where
  not_different : (t u : Form A) → form_value f v t ≡ form_value f v u → are_different t u ≡ false
  not_different (Object d) (Object e) h = ap not (eq-eqb d e h)
  not_different (Object d) (Parameter j) h = refl
  not_different (Object d) (Apply g us) h = refl
  not_different (Parameter i) u h = refl
  not_different (Apply g ts) u h = refl

  not_apart : (ts us : List (Form A)) → map (form_value f v) ts ≡ map (form_value f v) us → are_apart ts us ≡ false
  not_apart [] us h = refl
  not_apart (t ∷ ts) [] h = refl
  not_apart (t ∷ ts) (u ∷ us) h = or_from (are_different t u) (are_apart ts us) (not_different t u (ap head_of h)) (not_apart ts us (ap tail_of h))

-- objects have the same values in all worlds
module _ {A : Type 0} (f g : A → ℕ) (v u : World) where
  object_same : (t : Form A) → is_object t ≡ true → form_value f v t ≡ form_value g u t
  object_same (Object d) h = refl
  object_same (Parameter i) h = absurd (true≢false (sym h))
  object_same (Apply h ts) k = absurd (true≢false (sym k))

  objects_same : (ts : List (Form A)) → are_objects ts ≡ true → map (form_value f v) ts ≡ map (form_value g u) ts
  objects_same [] h = refl
  objects_same (t ∷ ts) h = let q = and_parts (is_object t) (are_objects ts) h in λ i. object_same t q.0 i ∷ objects_same ts q.1 i

none_at : {X : Type 0} (p : X → Bool) (xs : List X) (x : X) → list_any p xs ≡ false → IsIn x xs → p x ≡ false
none_at p [] x h i = absurd i
none_at p (y ∷ xs) x h i =
    let q = or_parts (p y) (list_any p xs) h in
    ⊎_elim (λ e. subst (λ z. p z ≡ false) e q.0) (λ j. none_at p xs x q.1 j) i

-- ---- literals that stay false

abbrev literal_with : Relation → List Term → Bool → Literal
literal_with r ts b = record { relation = r; arguments = ts; positive = b }

module _ (v : World) where
  hit : (a : Atom) (p : ℕ) (ts : List Term) → is_value_of v p (map (value_of v) ts) a ≡ true → may_be a (Named p) ts ≡ true
  unfolding value_of
  hit a p ts h =
      let q = and_parts (a.predicate == p) (same_objects (map (value_of v) a.arguments) (map (value_of v) ts)) h in
      and_from (a.predicate == p) (not (are_apart a.arguments ts)) q.0 (ap not (not_apart (inner_value v) v a.arguments ts (same_objects_same _ _ q.1)))

  truth_kept : (p : ℕ) (ts : List Term) (x : Target) (b c : Bool) → may_make x (literal_with (Named p) ts b) ≡ false → written_truth v p (map (value_of v) ts) x ≡ Some c → signed b c ≡ false
  truth_kept p ts (Set a) true c n h = absurd (true≢false (sym (hit a p ts (cond_some (is_value_of v p (map (value_of v) ts) a) true c h).0) ∙ n))
  truth_kept p ts (Set a) false c n h = ap not (sym (cond_some (is_value_of v p (map (value_of v) ts) a) true c h).1)
  truth_kept p ts (Unset a) true c n h = sym (cond_some (is_value_of v p (map (value_of v) ts) a) false c h).1
  truth_kept p ts (Unset a) false c n h = absurd (true≢false (sym (hit a p ts (cond_some (is_value_of v p (map (value_of v) ts) a) false c h).0) ∙ n))
  truth_kept p ts (Clear x) true c n h = sym (cond_some ((x.predicate == p) && is_instance v x.slots (map (value_of v) ts)) false c h).1
  truth_kept p ts (Clear x) false c n h = absurd (true≢false (sym (and_parts (x.predicate == p) (is_instance v x.slots (map (value_of v) ts)) (cond_some ((x.predicate == p) && is_instance v x.slots (map (value_of v) ts)) false c h).0).0 ∙ n))
  truth_kept p ts (Assign f us value) b c n h = absurd (none-some c h)

  given : (value : Term) (d : ℕ) (b : Bool) → not (b && are_different value (Object d)) ≡ false → signed b (value_of v value == d) ≡ false
  unfolding value_of
  given (Object e) d true n = not-true (e == d) (not-false (not (e == d)) n)
  given (Parameter i) d true n = absurd (true≢false n)
  given (Apply f ts) d true n = absurd (true≢false n)
  given t d false n = absurd (true≢false n)

  value_kept : (f : ℕ) (us : List Inner) (d : ℕ) (x : Target) (b : Bool) (y : ℕ) → may_make x (literal_with Equality (Apply f us ∷ Object d ∷ []) b) ≡ false → written_value v f (map (inner_value v) us) x ≡ Some y → signed b (y == d) ≡ false
  value_kept f us d (Assign g ts value) b y n h =
      let c = cond_some ((g == f) && same_objects (map (inner_value v) ts) (map (inner_value v) us)) (value_of v value) y h in
      let q = and_parts (g == f) (same_objects (map (inner_value v) ts) (map (inner_value v) us)) c.0 in
      let hits : may_hit g ts (Apply f us) ≡ true = and_from (g == f) (not (are_apart ts us)) q.0 (ap not (not_apart (λ d. d) v ts us (same_objects_same _ _ q.1))) in
      let left : not (b && are_different value (Object d)) ≡ false = ap (λ k. k && not (b && are_different value (Object d))) (sym hits) ∙ n in
      subst (λ e. signed b (e == d) ≡ false) c.1 (given value d b left)
  value_kept f us d (Set a) b y n h = absurd (none-some y h)
  value_kept f us d (Unset a) b y n h = absurd (none-some y h)
  value_kept f us d (Clear x) b y n h = absurd (none-some y h)

  module _ (es : List Effect) where
    abbrev NoneMakes : Literal → Type 0
    NoneMakes l = list_any (λ e. may_make e.target l) es ≡ false

    truth_stays : (p : ℕ) (ts : List Term) (b : Bool) → NoneMakes (literal_with (Named p) ts b) → signed b (v.truth p (map (value_of v) ts)) ≡ false → signed b ((applied_to v es).truth p (map (value_of v) ts)) ≡ false
    unfolding applied_to
    truth_stays p ts b n h =
        last_written_has (λ c. signed b c ≡ false) (written_truth v p (map (value_of v) ts)) v es (v.truth p (map (value_of v) ts))
        (λ e c i f k. truth_kept p ts e.target b c (none_at (λ e. may_make e.target (literal_with (Named p) ts b)) es e n i) k) h

    value_stays : (f : ℕ) (us : List Inner) (d : ℕ) (b : Bool) → NoneMakes (literal_with Equality (Apply f us ∷ Object d ∷ []) b) → signed b (v.value f (map (inner_value v) us) == d) ≡ false → signed b ((applied_to v es).value f (map (inner_value v) us) == d) ≡ false
    unfolding applied_to
    value_stays f us d b n h =
        last_written_has (λ y. signed b (y == d) ≡ false) (written_value v f (map (inner_value v) us)) v es (v.value f (map (inner_value v) us))
        (λ e y i g k. value_kept f us d e.target b y (none_at (λ e. may_make e.target (literal_with Equality (Apply f us ∷ Object d ∷ []) b)) es e n i) k) h

    equation_stays : (t u : Term) (b : Bool) → is_place t ≡ true → is_object u ≡ true → NoneMakes (literal_with Equality (t ∷ u ∷ []) b) → signed b (value_of v t == value_of v u) ≡ false → signed b (value_of (applied_to v es) t == value_of (applied_to v es) u) ≡ false
    unfolding value_of
    equation_stays (Apply f us) (Object d) b p o n h =
        subst (λ ds. signed b ((applied_to v es).value f ds == d) ≡ false) (objects_same (λ d. d) (λ d. d) v (applied_to v es) us p) (value_stays f us d b n h)
    equation_stays (Apply f us) (Parameter i) b p o n h = absurd (true≢false (sym o))
    equation_stays (Apply f us) (Apply g ts) b p o n h = absurd (true≢false (sym o))
    equation_stays (Object d) u b p o n h = absurd (true≢false (sym p))
    equation_stays (Parameter i) u b p o n h = absurd (true≢false (sym p))

    relation_stays : (r : Relation) (ts : List Term) (b : Bool) → is_plain r ts ≡ true → NoneMakes (literal_with r ts b) → signed b (relates v r (map (value_of v) ts)) ≡ false → signed b (relates (applied_to v es) r (map (value_of (applied_to v es)) ts)) ≡ false
    unfolding value_of
    relation_stays (Named p) ts b k n h =
        subst (λ ds. signed b ((applied_to v es).truth p ds) ≡ false) (objects_same (inner_value v) (inner_value (applied_to v es)) v (applied_to v es) ts k) (truth_stays p ts b n h)
    relation_stays Equality (t ∷ u ∷ []) b k n h = let q = and_parts (is_place t) (is_object u) k in equation_stays t u b q.0 q.1 n h
    relation_stays Equality [] b k n h = absurd (true≢false (sym k))
    relation_stays Equality (t ∷ []) b k n h = absurd (true≢false (sym k))
    relation_stays Equality (t ∷ u ∷ x ∷ ts) b k n h = absurd (true≢false (sym k))

    -- a literal that is false and that the effects can't make true stays false
    pub stays_unmet : (l : Literal) → may_meet es l ≡ false → true_in v l ≡ false → true_in (applied_to v es) l ≡ false
    unfolding true_in
    stays_unmet l m h =
        let q = or_parts (not (is_plain l.relation l.arguments)) (list_any (λ e. may_make e.target l) es) m in
        relation_stays l.relation l.arguments l.positive (not-false (is_plain l.relation l.arguments) q.0) q.1 h

    pub count : (a b m : Bool) (x y z : ℕ) → (m ≡ false → a ≡ false → b ≡ false) → x ≤ y + z → cond a 0 1 + x ≤ (cond m 1 0 + y) + (cond b 0 1 + z)
    count true b m x y z f h = omega (arith, h)
    count false b true x y z f h = omega (arith, h)
    count false true false x y z f h = absurd (true≢false (f refl refl))
    count false false false x y z f h = omega (arith, h)

    -- no more are met than the effects may make true
    pub meets_enough : (ls : List Literal) → unmet v ls ≤ meets es ls + unmet (applied_to v es) ls
    meets_enough [] = omega arith
    meets_enough (l ∷ ls) = count (true_in v l) (true_in (applied_to v es) l) (may_meet es l) (unmet v ls) (meets es ls) (unmet (applied_to v es) ls) (stays_unmet l) (meets_enough ls)

-- ---- ground actions

meets_below : (x : GroundAction) (xs : List GroundAction) (ls : List Literal) → IsIn x xs → meets x.effects ls ≤ most_met xs ls
meets_below x [] ls i = absurd i
meets_below x (y ∷ xs) ls (inl e) = subst (λ (z : GroundAction). meets z.effects ls ≤ max (meets y.effects ls) (most_met xs ls)) e (omega arith)
meets_below x (y ∷ xs) ls (inr i) = let rest : meets x.effects ls ≤ most_met xs ls = meets_below x xs ls i in omega (arith, rest)

pub ground_actions_meet : (p : Problem) (xs : List GroundAction) (ls : List Literal) → ((v : World) (i : Instance) → MayBeDone p v i → ((schema_of p i.action).effects ≡ []) ⊎ IsIn (ground_action_of_instance p i) xs) → MeetsAtMost p ls (most_met xs ls)
unfolding after_action applied_to
ground_actions_meet p xs ls listed v i b = ⊎_elim none some (listed v i b)
  where
    none : (schema_of p i.action).effects ≡ [] → unmet v ls ≤ most_met xs ls + unmet (after_action p v i) ls
    none e = subst (λ (es : List Effect). unmet v ls ≤ most_met xs ls + unmet (applied_to v (map (effect_at i.arguments) es)) ls) (sym e) (omega arith)

    some : IsIn (ground_action_of_instance p i) xs → unmet v ls ≤ most_met xs ls + unmet (after_action p v i) ls
    some k =
        let below : meets (ground_action_of_instance p i).effects ls ≤ most_met xs ls = meets_below (ground_action_of_instance p i) xs ls k in
        let enough : unmet v ls ≤ meets (ground_action_of_instance p i).effects ls + unmet (after_action p v i) ls = meets_enough v (map (effect_at i.arguments) (schema_of p i.action).effects) ls in
        omega (arith, below, enough)
