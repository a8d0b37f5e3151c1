-- In databases that the rules add nothing to and that don't clash, terms and literals of one normal form are alike.
use Rattle.std.proofs.Common.{◌≡◌, ◌⊎◌, ◌||◌, ℕ, Bool, true, false, not, cond, find, List, [], ◌∷◌, map, flat_map, Option, Some, None, option_and_then, is_lt, refl, sym, ap, ◌∙◌, subst, inl, inr, ⊎_elim, true≢false}
use Rattle.std.specs.List.{list_all}
use Rattle.std.specs.Option.{option_map_or}
use Rattle.std.proofs.lemmas.Bool.{or_cases, or_left, or_right, and_parts, and_from, eq-eqb}
use Rattle.std.proofs.lemmas.Option.{none-some}
use Rattle.pks_terms.specs.Sets.{Each, IsIn, all_some, one_replaced, with_others}
use Rattle.pks_terms.specs.Syntax.{Object, Parameter, Apply, Inner, Term, as_object, Relation, Named, Equality, Literal, negated}
use Rattle.pks_terms.specs.Orders.{term_cmp, literal_eq, in_order, literal, inequation}
use Rattle.pks_terms.specs.Signatures.{Signature, HasValues}
use Rattle.pks_terms.specs.Databases.{Five, values_at, least, applied, inner_normal, normal, normal_literal, is_known, is_evident, is_plain, differ, some_differ, is_closed_off, holds}
use Rattle.pks_terms.specs.Closure.{first_clash, inner_steps, term_steps, by_value, by_member, by_group, additions}
use Rattle.pks_terms.specs.Saturated.{Within, IsSaturated}
use Rattle.pks_terms.proofs.ListLaws.{each_in, found_in, any_in, or_false, in_appended, in_mapped}
use Rattle.pks_terms.proofs.OrderLaws.{same_literal}
use Rattle.pks_terms.specs.Objects.{is_named}
use Rattle.pks_laws.proofs.Least.{in_left, in_right, in_flat, in_order-map, literal_eq_itself, term_eq_itself, one_value, least_one}
use Rattle.pks_laws.proofs.ClosedAgain.{holds-normal}
use Rattle.pks_laws_forget.proofs.Lists.{negated_twice, in_cond, into_cond, replaced_alike}

abbrev is_empty : {X : Type 0} → List X → Bool
is_empty [] = true
is_empty (x ∷ xs) = false

pub all_themselves : (ds : List ℕ) → all_some (map (λ (d : ℕ). let o : Option ℕ = Some d in o) (map (λ d. d) ds)) ≡ Some ds
all_themselves [] = refl
all_themselves (d ∷ ds) = ap (λ o. elim o [ None ↦ None | Some ys ↦ Some (d ∷ ys) ]) (all_themselves ds)

-- objects are in normal form, and the values of objects are these
pub objects_stay : (kf : List Literal) (ts : List Inner) (ds : List ℕ) → all_some (map as_object ts) ≡ Some ds → map (inner_normal kf) ts ≡ ts
objects_stay kf [] ds e = refl
objects_stay kf (Object d ∷ ts) ds e =
    elim (all_some (map as_object ts)) as (λ o. all_some (map as_object ts) ≡ o → ◌≡◌ {A = Option (List ℕ)} (elim o [ None ↦ None | Some ys ↦ Some (d ∷ ys) ]) (Some ds) → map (inner_normal kf) (Object d ∷ ts) ≡ Object d ∷ ts) [
      | None ↦ λ q k. absurd (none-some ds k)
      | Some ys ↦ λ q k. ap (λ us. Object d ∷ us) (objects_stay kf ts ys q)
    ] refl e
objects_stay kf (Parameter d ∷ ts) ds e = absurd (none-some ds e)
objects_stay kf (Apply g us ∷ ts) ds e = absurd (none-some ds e)

-- the relation, the sign and the arguments of a normal form
module _ (kf : List Literal) where
  pub normal_relation : (l : Literal) → (normal_literal kf l).relation ≡ l.relation
  unfolding normal_literal literal
  normal_relation l = refl

  pub normal_sign : (l : Literal) → (normal_literal kf l).positive ≡ l.positive
  unfolding normal_literal literal
  normal_sign l = refl

  pub normal_arguments : (l : Literal) → is_named l.relation ≡ true → (normal_literal kf l).arguments ≡ map (normal kf) l.arguments
  unfolding normal_literal literal
  normal_arguments l h = go l.relation h
    where
      go : (r : Relation) → is_named r ≡ true → in_order r (map (normal kf) l.arguments) ≡ map (normal kf) l.arguments
      go (Named p) k = refl
      go Equality k = absurd (true≢false (sym k))

  pub negated_normal : (l : Literal) → negated (normal_literal kf l) ≡ normal_literal kf (negated l)
  unfolding normal_literal literal
  negated_normal l = refl

  pub normal_of : (r : Relation) (ts : List Term) (b : Bool) → normal_literal kf (literal r ts b) ≡ literal r (map (normal kf) ts) b
  unfolding normal_literal literal
  normal_of r ts b = λ i. record { relation = r; arguments = in_order-map (normal kf) r ts i; positive = b }

pub evident_equation : (s : Signature) (r : Relation) (ts : List Term) (b : Bool) → is_evident s r ts b ≡ true → is_named r ≡ false
evident_equation s (Named p) ts b h = absurd (true≢false (sym h))
evident_equation s Equality ts b h = refl

pub found_known : (kf : List Literal) (l : Literal) → is_known kf l ≡ true → (k : Literal) × IsIn k kf × (normal_literal kf k ≡ normal_literal kf l)
unfolding is_known
found_known kf l h = let f = found_in (λ k. literal_eq (normal_literal kf k) (normal_literal kf l)) kf h in (f.0, f.1, same_literal (normal_literal kf f.0) (normal_literal kf l) f.2)

module _ (s : Signature) (d : Five) where
  -- why a literal holds
  pub holds_cases : (l : Literal) → holds s d l ≡ true → (is_known d.kf l ≡ true) ⊎ ((is_evident s l.relation (map (normal d.kf) l.arguments) l.positive ≡ true) ⊎ (is_closed_off s d l.relation l.arguments l.positive ≡ true))
  unfolding holds is_plain
  holds_cases l h = ⊎_elim (λ k. ⊎_elim (λ q. inl q) (λ q. inr (inl q)) (or_cases (is_known d.kf l) _ k)) (λ k. inr (inr k)) (or_cases (is_plain s d.kf l) _ h)

  pub evident_holds : (l : Literal) → is_evident s l.relation (map (normal d.kf) l.arguments) l.positive ≡ true → holds s d l ≡ true
  unfolding holds is_plain
  evident_holds l h = or_left _ _ (or_right _ _ h)

  pub off_holds : (l : Literal) → is_closed_off s d l.relation l.arguments l.positive ≡ true → holds s d l ≡ true
  unfolding holds
  off_holds l h = or_right _ _ h

  -- what has the normal form of a known literal holds
  pub known_holds : (k m : Literal) → IsIn k d.kf → normal_literal d.kf k ≡ normal_literal d.kf m → holds s d m ≡ true
  unfolding holds is_plain is_known
  known_holds k m i e = or_left _ _ (or_left _ _ (any_in (λ k. literal_eq (normal_literal d.kf k) (normal_literal d.kf m)) d.kf k i (literal_eq_itself _ _ e)))

  pub differ_holds : (t u : Term) → differ s d.kf t u ≡ holds s d (inequation t u)
  unfolding differ holds literal
  differ_holds t u = sym (or_false (is_plain s d.kf (inequation t u)))

  -- what the rules of a group add is known
  pub group_closed : IsSaturated s d → (g : List Literal) → IsIn g d.kx → (q : Literal × List Literal) → IsIn q (with_others g) → Within (by_member s d q) d.kf
  unfolding additions by_group
  group_closed sat g i q j k h =
      sat k (in_right (flat_map (by_value d.kf) d.kf) _ k (in_left (flat_map (λ g. flat_map (by_member s d) (with_others g)) d.kx) _ k (in_flat (λ g. flat_map (by_member s d) (with_others g)) d.kx g k i (in_flat (by_member s d) (with_others g) q k j h))))

module _ (s : Signature) (d : Five) (inhabited : HasValues s) (saturated : IsSaturated s d) (fine : first_clash s d ≡ None) where
  one : (f : ℕ) (ds : List ℕ) (e e' : ℕ) → IsIn e (values_at d.kf f ds) → IsIn e' (values_at d.kf f ds) → e ≡ e'
  one = one_value s d inhabited saturated fine

  none_denied : {X : Type 0} (p : X → Bool) (xs : List X) → find p xs ≡ None → (x : X) → IsIn x xs → p x ≡ true → ⊥
  none_denied p [] h x i t = i
  none_denied {X} p (y ∷ ys) h x i t =
      elim (p y) as (λ b. p y ≡ b → cond b (Some y) (find p ys) ≡ None → ⊥) [
        | true ↦ λ q k. none-some y (sym k)
        | false ↦ λ q k. ⊎_elim (λ e. true≢false (sym t ∙ ap p (sym e) ∙ q)) (λ j. none_denied p ys k x j t) i
      ] refl h

  pub not_denied : (l : Literal) → IsIn l d.kf → holds s d (negated l) ≡ true → ⊥
  unfolding first_clash
  not_denied l i h = none_denied (λ l. holds s d (negated l)) d.kf fine l i h

  -- where a literal is known, its negation doesn't hold
  pub known_not_denied : (l : Literal) → is_known d.kf l ≡ true → holds s d (negated l) ≡ true → ⊥
  unfolding is_known
  known_not_denied l k h =
      let f = found_in (λ k. literal_eq (normal_literal d.kf k) (normal_literal d.kf l)) d.kf k in
      let e = same_literal (normal_literal d.kf f.0) (normal_literal d.kf l) f.2 in
      not_denied f.0 f.1
      (sym (holds-normal s d one (negated f.0)) ∙ ap (holds s d) (sym (negated_normal d.kf f.0) ∙ ap negated e ∙ negated_normal d.kf l) ∙ holds-normal s d one (negated l) ∙ h)

  -- a literal on a predicate and its negation don't both hold
  pub no_both : (l : Literal) → is_named l.relation ≡ true → holds s d l ≡ true → holds s d (negated l) ≡ true → ⊥
  unfolding holds is_plain
  no_both l n h k =
      ⊎_elim
      (λ a. ⊎_elim (λ b. unfold holds is_plain in known_not_denied l b k) (λ b. true≢false (sym n ∙ evident_equation s l.relation _ l.positive b)) (or_cases (is_known d.kf l) _ a))
      (λ a. ⊎_elim
      (λ b. ⊎_elim (λ c. unfold holds is_plain in known_not_denied (negated l) c (ap (λ (x : Literal). holds s d x) (negated_twice l) ∙ h)) (λ c. true≢false (sym n ∙ evident_equation s l.relation _ (not l.positive) c)) (or_cases (is_known d.kf (negated l)) _ b))
      (λ b. true≢false (sym (ap not (off_negative l.relation l.arguments l.positive a)) ∙ off_negative l.relation l.arguments (not l.positive) b))
      (or_cases (is_plain s d.kf (negated l)) _ k))
      (or_cases (is_plain s d.kf l) _ h)
    where
      off_negative : (r : Relation) (ts : List Term) (b : Bool) → is_closed_off s d r ts b ≡ true → b ≡ false
      off_negative (Named p) ts false c = refl
      off_negative (Named p) ts true c = absurd (true≢false (sym c))
      off_negative Equality ts b c = absurd (true≢false (sym c))

  -- terms of one normal form are as different
  pub differ_alike : (t u t' u' : Term) → normal d.kf t ≡ normal d.kf t' → normal d.kf u ≡ normal d.kf u' → differ s d.kf t u ≡ differ s d.kf t' u'
  differ_alike t u t' u' e f =
      differ_holds s d t u ∙ sym (holds-normal s d one (inequation t u))
      ∙ ap (holds s d) (normal_of d.kf Equality (t ∷ u ∷ []) false ∙ (λ i. literal Equality (e i ∷ f i ∷ []) false) ∙ sym (normal_of d.kf Equality (t' ∷ u' ∷ []) false))
      ∙ holds-normal s d one (inequation t' u') ∙ sym (differ_holds s d t' u')

  pub some_differ_alike : (vs us ts : List Term) → map (normal d.kf) us ≡ map (normal d.kf) ts → some_differ s d.kf vs us ≡ some_differ s d.kf vs ts
  some_differ_alike [] us ts e = refl
  some_differ_alike (v ∷ vs) [] [] e = refl
  some_differ_alike (v ∷ vs) [] (t ∷ ts) e = absurd (true≢false (ap is_empty e))
  some_differ_alike (v ∷ vs) (u ∷ us) [] e = absurd (true≢false (ap is_empty (sym e)))
  some_differ_alike (v ∷ vs) (u ∷ us) (t ∷ ts) e =
      let head : normal d.kf u ≡ normal d.kf t = cc in
      let tail : map (normal d.kf) us ≡ map (normal d.kf) ts = cc in
      λ i. differ_alike v u v t refl head i || some_differ_alike vs us ts tail i

  -- equal ones don't differ
  pub not_apart : (t u : Term) → normal d.kf t ≡ normal d.kf u → differ s d.kf t u ≡ true → ⊥
  unfolding differ is_plain holds literal
  not_apart t u e h =
      ⊎_elim (λ k. unfold holds is_plain literal in known_not_denied (inequation t u) k (evident_same t u e)) (λ k. unlike t u e k) (or_cases (is_known d.kf (inequation t u)) _ h)
    where
      never : (a : Term) → is_evident s Equality (a ∷ a ∷ []) false ≡ true → ⊥
      never (Object x) k = true≢false (sym k ∙ ap not (eq-eqb x x refl))
      never (Parameter x) k = true≢false (sym k)
      never (Apply f us) k = true≢false (sym k)

      either : (c : Bool) (t u : Term) → normal d.kf t ≡ normal d.kf u → is_evident s Equality (map (normal d.kf) (cond c (u ∷ t ∷ []) (t ∷ u ∷ []))) false ≡ true → ⊥
      either true t u e k = never (normal d.kf u) (ap (λ a. is_evident s Equality (normal d.kf u ∷ a ∷ []) false) (sym e) ∙ k)
      either false t u e k = never (normal d.kf u) (ap (λ a. is_evident s Equality (a ∷ normal d.kf u ∷ []) false) (sym e) ∙ k)

      unlike : (t u : Term) → normal d.kf t ≡ normal d.kf u → is_evident s Equality (map (normal d.kf) (inequation t u).arguments) false ≡ true → ⊥
      unlike t u e k = either (is_lt (term_cmp t u)) t u e k

      same_sides : (c : Bool) (t u : Term) → normal d.kf t ≡ normal d.kf u → is_evident s Equality (map (normal d.kf) (cond c (u ∷ t ∷ []) (t ∷ u ∷ []))) true ≡ true
      same_sides true t u e = term_eq_itself (normal d.kf u) (normal d.kf t) (sym e)
      same_sides false t u e = term_eq_itself (normal d.kf t) (normal d.kf u) e

      evident_same : (t u : Term) → normal d.kf t ≡ normal d.kf u → holds s d (negated (inequation t u)) ≡ true
      evident_same t u e = or_left _ _ (or_right _ _ (same_sides (is_lt (term_cmp t u)) t u e))

  -- ---- a step by a known value keeps the normal form

  least_value : (f : ℕ) (ds : List ℕ) (e : ℕ) → IsIn e (values_at d.kf f ds) → least (values_at d.kf f ds) ≡ Some e
  least_value = least_one s d.kf d.kf (λ x i. i) one

  pub inner_step_normal : (x y : Inner) → IsIn y (inner_steps d.kf x) → inner_normal d.kf y ≡ inner_normal d.kf x
  inner_step_normal (Object e) y i = absurd i
  inner_step_normal (Parameter e) y i = absurd i
  inner_step_normal (Apply g ds) y i =
      let r = in_mapped Object (values_at d.kf g ds) y i in
      ap (inner_normal d.kf) (sym r.2)
      ∙ sym (ap (λ o. option_map_or Object (option_and_then (λ ds. least (values_at d.kf g ds)) o) (Apply g (map (λ d. d) ds))) (all_themselves ds) ∙ ap (λ o. option_map_or Object o (Apply g (map (λ d. d) ds))) (least_value g ds r.0 r.1))

  pub step_normal : (t u : Term) → IsIn u (term_steps d.kf t) → normal d.kf u ≡ normal d.kf t
  unfolding term_steps normal
  step_normal (Object e) u i = absurd i
  step_normal (Parameter e) u i = absurd i
  step_normal (Apply f ts) u i =
      ⊎_elim
      (λ j. let r = in_mapped Object (option_map_or (values_at d.kf f) (all_some (map as_object ts)) []) u j in
      ap (normal d.kf) (sym r.2) ∙ sym (value r.0 (all_some (map as_object ts)) refl r.1))
      (λ j. let r = in_mapped (Apply f) (one_replaced (inner_steps d.kf) ts) u j in
      ap (normal d.kf) (sym r.2) ∙ ap (applied as_object d.kf f) (replaced_alike (inner_steps d.kf) (inner_normal d.kf) inner_step_normal ts r.0 r.1))
      (in_appended (map Object (option_map_or (values_at d.kf f) (all_some (map as_object ts)) [])) _ u i)
    where
      value : (e : ℕ) (o : Option (List ℕ)) → all_some (map as_object ts) ≡ o → IsIn e (option_map_or (values_at d.kf f) o []) → applied as_object d.kf f (map (inner_normal d.kf) ts) ≡ Object e
      value e None q k = absurd k
      value e (Some ds) q k =
          ap (applied as_object d.kf f) (objects_stay d.kf ts ds q) ∙ ap (λ o. option_map_or Object (option_and_then (λ ds. least (values_at d.kf f ds)) o) (Apply f ts)) q
          ∙ ap (λ o. option_map_or Object o (Apply f ts)) (least_value f ds e k)

-- ---- what the rules of a group add, by two databases

module _ (s : Signature) (d e : Five) (P : Literal → Type 0) (grows : (m : Literal) → P m → holds s d m ≡ true → holds s e m ≡ true) (turns : (m : Literal) → P m → P (negated m)) where
  all_grow : (ms : List Literal) → Each P ms → list_all (λ m. holds s d (negated m)) ms ≡ true → list_all (λ m. holds s e (negated m)) ms ≡ true
  all_grow [] a h = refl
  all_grow (m ∷ ms) a h = let p = and_parts (holds s d (negated m)) _ h in and_from _ _ (grows (negated m) (turns m a.0) p.0) (all_grow ms a.1 p.1)

  pub member_grows : (q : Literal × List Literal) → P q.0 → Each P q.1 → Within (by_member s d q) (by_member s e q)
  member_grows q a b k i =
      ⊎_elim
      (λ j. let c = in_cond (list_all (λ m. holds s d (negated m)) q.1) (q.0 ∷ []) k j in in_left (cond (list_all (λ m. holds s e (negated m)) q.1) (q.0 ∷ []) []) (cond (holds s e q.0) (map negated q.1) []) k (into_cond _ (q.0 ∷ []) k (all_grow q.1 b c.0) c.1))
      (λ j. let c = in_cond (holds s d q.0) (map negated q.1) k j in in_right (cond (list_all (λ m. holds s e (negated m)) q.1) (q.0 ∷ []) []) (cond (holds s e q.0) (map negated q.1) []) k (into_cond _ (map negated q.1) k (grows q.0 a c.0) c.1))
      (in_appended (cond (list_all (λ m. holds s d (negated m)) q.1) (q.0 ∷ []) []) (cond (holds s d q.0) (map negated q.1) []) k i)

  -- it is of members
  pub member_is : (q : Literal × List Literal) → P q.0 → Each P q.1 → (k : Literal) → IsIn k (by_member s d q) → P k
  member_is q a b k i =
      ⊎_elim
      (λ j. let c = in_cond (list_all (λ m. holds s d (negated m)) q.1) (q.0 ∷ []) k j in each_in P (q.0 ∷ []) k (a, tt) c.1)
      (λ j. let c = in_cond (holds s d q.0) (map negated q.1) k j in let r = in_mapped negated q.1 k c.1 in subst P r.2 (turns r.0 (each_in P q.1 r.0 b r.1)))
      (in_appended (cond (list_all (λ m. holds s d (negated m)) q.1) (q.0 ∷ []) []) (cond (holds s d q.0) (map negated q.1) []) k i)
