-- Closed databases stay closed when literals are put in from which nothing follows.
use Rattle.std.proofs.Common.{◌≡◌, ◌⊎◌, ◌&&◌, ◌||◌, ◌==◌, ◌++◌, ℕ, Bool, true, false, not, cond, List, [], ◌∷◌, map, filter, flat_map, Option, Some, None, option_and_then, is_some, Less, Equal, Greater, refl, sym, ap, ◌∙◌, subst, inl, inr, ⊎_elim, true≢false}
use Rattle.std.specs.List.{list_any, list_all, cons_option}
use Rattle.std.specs.Option.{option_map_or}
use Rattle.std.proofs.lemmas.Bool.{or_cases, or_left, or_right, and_parts, and_from, not-true, eq-eqb}
use Rattle.pks_terms.specs.Sets.{Each, IsIn, IsOrdered, all_some, one_replaced, with_others, insert_in, added}
use Rattle.pks_terms.specs.Syntax.{Object, Parameter, Apply, Inner, Term, object, as_object, Relation, Named, Equality, Literal, negated}
use Rattle.pks_terms.specs.Orders.{term_eq, literal_cmp, literal_eq, in_order, equation, inequation, literal}
use Rattle.pks_terms.specs.Totality.{literal_cmp_total}
use Rattle.pks_terms.specs.Signatures.{Signature, HasValues, range_of}
use Rattle.pks_terms.specs.Databases.{Entry, Five, told, value_if_at, values_at, least, applied, inner_normal, normal, normal_literal, is_known, is_evident, is_plain, differ, some_differ, fits, is_shut_out, is_closed_off, holds}
use Rattle.pks_terms.specs.Closure.{inner_steps, term_steps, by_value, by_member, by_group, applications_in, is_last_left, by_range, additions, first_clash}
use Rattle.pks_terms.specs.Saturated.{Within, IsSaturated}
use Rattle.pks_terms.specs.Moments.{IsInOrder}
use Rattle.pks_terms.proofs.Types.{both_ways}
use Rattle.pks_terms.proofs.ListLaws.{each_in, found_in, any_in, none_in, map_alike, in_mapped, in_appended, in_flat_mapped, in_filtered, in_filter}
use Rattle.pks_terms.proofs.OrderLaws.{literal_cmp_tells, same_literal}
use Rattle.pks_terms.proofs.SetLaws.{ordered_insert, in_added, added_in, inserted_in, added-nothing_new}
use Rattle.pks_laws.specs.Lookup.{is_among}
use Rattle.pks_laws.proofs.Least.{in_left, in_right, in_flat, within_append, within_map, literal_eq_itself, one_value, addition_in}
use Rattle.pks_laws.proofs.NormalMembers.{literal_again, normal_in}
use Rattle.pks_laws_progress.specs.Loose.{is_predicate, is_ungrouped, is_loose, bring_nothing}
use Rattle.pks_laws_progress.proofs.Steps.{all_each, all_of}
use Rattle.pks_laws_progress.proofs.Keeping.{in_with_others, none_from, none_found}

-- ---- what gives nothing changes nothing, wherever it is put in

given_at : ℕ → List ℕ → Literal → Option ℕ
unfolding told
given_at f ds l = option_and_then (value_if_at f ds) (told l.relation l.arguments l.positive)

put_nothing : (f : ℕ) (ds : List ℕ) (l : Literal) (ls : List Literal) → given_at f ds l ≡ None → values_at (insert_in literal_cmp l ls) f ds ≡ values_at ls f ds
unfolding values_at given_at
put_nothing f ds l [] h = ap (λ o. cons_option o []) h
put_nothing f ds l (m ∷ ms) h =
    elim (literal_cmp l m) as (λ c. values_at (elim c [ Less ↦ l ∷ m ∷ ms | Equal ↦ m ∷ ms | Greater ↦ m ∷ insert_in literal_cmp l ms ]) f ds ≡ values_at (m ∷ ms) f ds) [
      | Less ↦ ap (λ o. cons_option o (values_at (m ∷ ms) f ds)) h
      | Equal ↦ refl
      | Greater ↦ λ i. cons_option (given_at f ds m) (put_nothing f ds l ms h i)
    ]

module _ (kx : List (List Literal)) where
  loose_gives_nothing : (l : Literal) → is_loose kx l ≡ true → (f : ℕ) (ds : List ℕ) → given_at f ds l ≡ None
  unfolding given_at told
  loose_gives_nothing l h f ds = of_relation l.relation l.arguments l.positive (and_parts (is_ungrouped kx l.relation) _ h).0
    where
      of_relation : (r : Relation) (ts : List Term) (b : Bool) → is_ungrouped kx r ≡ true → option_and_then (value_if_at f ds) (told r ts b) ≡ None
      of_relation (Named p) ts b q = refl
      of_relation Equality ts b q = absurd (true≢false (sym q))

  loose_objects : (l : Literal) → is_loose kx l ≡ true → list_all (λ t. is_some (as_object t)) l.arguments ≡ true
  loose_objects l h = (and_parts (is_ungrouped kx l.relation) _ h).1

  loose_in_order : (l : Literal) → is_loose kx l ≡ true → IsInOrder l
  loose_in_order l h = of_relation l.relation (and_parts (is_ungrouped kx l.relation) _ h).0
    where
      of_relation : (r : Relation) → is_ungrouped kx r ≡ true → in_order r l.arguments ≡ l.arguments
      of_relation (Named p) q = refl
      of_relation Equality q = absurd (true≢false (sym q))

no_steps : (kf : List Literal) (ts us : List Term) → list_all (λ t. is_some (as_object t)) ts ≡ true → IsIn us (one_replaced (term_steps kf) ts) → ⊥
unfolding term_steps
no_steps kf [] us h i = i
no_steps kf (Object d ∷ ts) us h i = let r = in_mapped (λ ys. Object d ∷ ys) (one_replaced (term_steps kf) ts) us i in no_steps kf ts r.0 h r.1
no_steps kf (Parameter d ∷ ts) us h i = true≢false (sym h)
no_steps kf (Apply f xs ∷ ts) us h i = true≢false (sym h)

no_parts : (ts : List Term) (u : Term) → list_all (λ t. is_some (as_object t)) ts ≡ true → IsIn u (flat_map applications_in ts) → ⊥
no_parts [] u h i = i
no_parts (Object d ∷ ts) u h i = no_parts ts u h i
no_parts (Parameter d ∷ ts) u h i = true≢false (sym h)
no_parts (Apply f xs ∷ ts) u h i = true≢false (sym h)

objects_normal : (kf : List Literal) (ts : List Term) → list_all (λ t. is_some (as_object t)) ts ≡ true → map (normal kf) ts ≡ ts
unfolding normal
objects_normal kf [] h = refl
objects_normal kf (Object d ∷ ts) h = ap (λ us. Object d ∷ us) (objects_normal kf ts h)
objects_normal kf (Parameter d ∷ ts) h = absurd (true≢false (sym h))
objects_normal kf (Apply f xs ∷ ts) h = absurd (true≢false (sym h))

-- ---- of two databases in which literals give the same values

module _ (kf small : List Literal) (same : (f : ℕ) (ds : List ℕ) → values_at kf f ds ≡ values_at small f ds) where
  inner_normal_same : (t : Inner) → inner_normal kf t ≡ inner_normal small t
  inner_normal_same (Object d) = refl
  inner_normal_same (Parameter d) = refl
  inner_normal_same (Apply f ds) = λ i. option_map_or Object (option_and_then (λ es. least (same f es i)) (all_some (map Some (map (λ d. d) ds)))) (Apply f (map (λ d. d) ds))

  normal_same : (t : Term) → normal kf t ≡ normal small t
  unfolding normal
  normal_same (Object d) = refl
  normal_same (Parameter d) = refl
  normal_same (Apply f ts) =
      ap (λ us. applied as_object kf f us) (map_alike (inner_normal kf) (inner_normal small) inner_normal_same ts)
      ∙ (λ i. option_map_or Object (option_and_then (λ es. least (same f es i)) (all_some (map as_object (map (inner_normal small) ts)))) (Apply f (map (inner_normal small) ts)))

  normals_same : (ts : List Term) → map (normal kf) ts ≡ map (normal small) ts
  normals_same ts = map_alike (normal kf) (normal small) normal_same ts

  literal_same : (l : Literal) → normal_literal kf l ≡ normal_literal small l
  unfolding normal_literal
  literal_same l = ap (λ ts. literal l.relation ts l.positive) (normals_same l.arguments)

  inner_steps_same : (t : Inner) → inner_steps kf t ≡ inner_steps small t
  inner_steps_same (Object d) = refl
  inner_steps_same (Parameter d) = refl
  inner_steps_same (Apply f ds) = ap (map Object) (same f ds)

  one_replaced_same : {X : Type 0} (p q : X → List X) → ((x : X) → p x ≡ q x) → (xs : List X) → one_replaced p xs ≡ one_replaced q xs
  one_replaced_same p q h [] = refl
  one_replaced_same p q h (x ∷ xs) = λ i. map (λ y. y ∷ xs) (h x i) ++ map (λ ys. x ∷ ys) (one_replaced_same p q h xs i)

  term_steps_same : (t : Term) → term_steps kf t ≡ term_steps small t
  unfolding term_steps
  term_steps_same (Object d) = refl
  term_steps_same (Parameter d) = refl
  term_steps_same (Apply f ts) = λ i.
      map Object (option_map_or (λ es. same f es i) (all_some (map as_object ts)) [])
      ++ map (Apply f) (one_replaced_same (inner_steps kf) (inner_steps small) inner_steps_same ts i)

  by_value_same : (l : Literal) → by_value kf l ≡ by_value small l
  unfolding by_value
  by_value_same l = ap (map (λ ts. literal l.relation ts l.positive)) (one_replaced_same (term_steps kf) (term_steps small) term_steps_same l.arguments)

within_cond : {X : Type 0} (c e : Bool) (xs : List X) → (c ≡ true → e ≡ true) → Within (cond c xs []) (cond e xs [])
within_cond true e xs f x i = subst (λ u. IsIn x (cond u xs [])) (sym (f refl)) i
within_cond false e xs f x i = absurd i

-- ---- literals put in, each known or loose

module _ (kx : List (List Literal)) (f : ℕ) (ds : List ℕ) where
  put_one : (l : Literal) (xs : List Literal) → IsOrdered literal_cmp xs → IsIn l xs ⊎ (is_loose kx l ≡ true) → values_at (insert_in literal_cmp l xs) f ds ≡ values_at xs f ds
  put_one l xs o h =
      ⊎_elim
      (λ i. ap (λ ys. values_at ys f ds) (added-nothing_new literal_cmp_total literal_cmp_tells xs (l ∷ []) o (λ z j. ⊎_elim (λ e. subst (λ u. IsIn u xs) e i) (λ n. absurd n) j)))
      (λ q. put_nothing f ds l xs (loose_gives_nothing kx l q f ds))
      h

  put_all : (ls xs : List Literal) → IsOrdered literal_cmp xs → ((l : Literal) → IsIn l ls → IsIn l xs ⊎ (is_loose kx l ≡ true)) → values_at (added literal_cmp xs ls) f ds ≡ values_at xs f ds
  put_all [] xs o h = refl
  put_all (l ∷ ls) xs o h =
      put_all ls (insert_in literal_cmp l xs) (ordered_insert literal_cmp_total literal_cmp_tells l xs o)
      (λ m i. ⊎_elim (λ j. inl (inserted_in literal_cmp_total literal_cmp_tells l xs m (inr j))) (λ q. inr q) (h m (inr i)))
      ∙ put_one l xs o (h l (inl refl))

module _ (s : Signature) (k e : Five) (ls : List Literal) (inhabited : HasValues s) (saturated : IsSaturated s k) (fine : first_clash s k ≡ None) (ordered : IsOrdered literal_cmp k.kf)
    (known : e.kf ≡ added literal_cmp k.kf ls) (groups : e.kx ≡ k.kx) (regions : e.lcw ≡ k.lcw) (put : (l : Literal) → IsIn l ls → IsIn l k.kf ⊎ (is_loose k.kx l ≡ true)) where
  origin : (l : Literal) → IsIn l e.kf → IsIn l k.kf ⊎ (IsIn l ls × (is_loose k.kx l ≡ true))
  origin l i = ⊎_elim (λ j. inl j) (λ j. ⊎_elim (λ q. inl q) (λ q. inr (j, q)) (put l j)) (in_added literal_cmp_total literal_cmp_tells k.kf ls l (subst (IsIn l) known i))

  stays : Within k.kf e.kf
  stays l i = subst (IsIn l) (sym known) (added_in literal_cmp_total literal_cmp_tells k.kf ls l (inl i))

  pub same_values : (f : ℕ) (ds : List ℕ) → values_at e.kf f ds ≡ values_at k.kf f ds
  same_values f ds = ap (λ ys. values_at ys f ds) known ∙ put_all k.kx f ds ls k.kf ordered put

  -- ---- what holds then held before, unless it has the normal form of a loose literal

  -- a loose literal that was put in has the same normal form
  abbrev IsNew : Literal → Type 0
  IsNew x = (j : Literal) × IsIn j ls × (is_loose k.kx j ≡ true) × (normal_literal e.kf j ≡ normal_literal e.kf x)

  known_before : (x : Literal) → is_known e.kf x ≡ true → (is_known k.kf x ≡ true) ⊎ IsNew x
  unfolding is_known
  known_before x h =
      let f = found_in (λ j. literal_eq (normal_literal e.kf j) (normal_literal e.kf x)) e.kf h in
      let q = same_literal (normal_literal e.kf f.0) (normal_literal e.kf x) f.2 in
      ⊎_elim
      (λ i. inl (any_in (λ j. literal_eq (normal_literal k.kf j) (normal_literal k.kf x)) k.kf f.0 i
      (literal_eq_itself (normal_literal k.kf f.0) (normal_literal k.kf x) (sym (literal_same e.kf k.kf same_values f.0) ∙ q ∙ literal_same e.kf k.kf same_values x))))
      (λ r. inr (f.0, r.0, r.1, q))
      (origin f.0 f.1)

  plain_before : (x : Literal) → is_plain s e.kf x ≡ true → (is_plain s k.kf x ≡ true) ⊎ IsNew x
  unfolding is_plain
  plain_before x h =
      ⊎_elim
      (λ q. ⊎_elim (λ u. inl (or_left _ _ u)) (λ u. inr u) (known_before x q))
      (λ q. inl (or_right _ _ (subst (λ ts. is_evident s x.relation ts x.positive ≡ true) (normals_same e.kf k.kf same_values x.arguments) q)))
      (or_cases (is_known e.kf x) _ h)

  ungrouped : (j : Literal) → is_loose k.kx j ≡ true → is_ungrouped k.kx j.relation ≡ true
  ungrouped j h = (and_parts (is_ungrouped k.kx j.relation) _ h).0

  new_relation : (x : Literal) → IsNew x → is_ungrouped k.kx x.relation ≡ true
  unfolding normal_literal literal
  new_relation x n = subst (λ r. is_ungrouped k.kx r ≡ true) (ap (λ (m : Literal). m.relation) n.3) (ungrouped n.0 n.2)

  no_equality : (x : Literal) → x.relation ≡ Equality → IsNew x → ⊥
  no_equality x e n = true≢false (sym (subst (λ r. is_ungrouped k.kx r ≡ true) e (new_relation x n)))

  differ_before : (t u : Term) → differ s e.kf t u ≡ true → differ s k.kf t u ≡ true
  unfolding differ literal
  differ_before t u h = ⊎_elim (λ q. q) (λ n. absurd (no_equality (inequation t u) refl n)) (plain_before (inequation t u) h)

  some_differ_before : (ts us : List Term) → some_differ s e.kf ts us ≡ true → some_differ s k.kf ts us ≡ true
  some_differ_before [] us h = h
  some_differ_before (t ∷ ts) [] h = h
  some_differ_before (t ∷ ts) (u ∷ us) h =
      ⊎_elim (λ q. or_left _ _ (differ_before t u q)) (λ q. or_right _ _ (some_differ_before ts us q)) (or_cases (differ s e.kf t u) _ h)

  fits_same : (ss : List (Option Term)) (ts : List Term) → fits e.kf ss ts ≡ fits k.kf ss ts
  fits_same [] [] = refl
  fits_same [] (t ∷ ts) = refl
  fits_same (None ∷ ss) [] = refl
  fits_same (Some u ∷ ss) [] = refl
  fits_same (None ∷ ss) (t ∷ ts) = fits_same ss ts
  fits_same (Some u ∷ ss) (t ∷ ts) = λ i. term_eq (normal_same e.kf k.kf same_values u i) (normal_same e.kf k.kf same_values t i) && fits_same ss ts i

  shut_out_before : (p : ℕ) (ts : List Term) (r : Entry) → is_shut_out s e.kf p ts r ≡ true → is_shut_out s k.kf p ts r ≡ true
  shut_out_before p ts r h =
      let a = and_parts (r.pattern.predicate == p) _ h in
      let b = and_parts (fits e.kf r.pattern.slots ts) _ a.1 in
      and_from _ _ a.0
      (and_from _ _ (sym (fits_same r.pattern.slots ts) ∙ b.0)
      (all_of (λ a. some_differ s k.kf a.arguments ts) r.listed (λ x i. some_differ_before x.arguments ts (all_each (λ a. some_differ s e.kf a.arguments ts) r.listed b.1 x i))))

  off_before : (r : Relation) (ts : List Term) (b : Bool) → is_closed_off s e r ts b ≡ true → is_closed_off s k r ts b ≡ true
  off_before (Named p) ts false h =
      let f = found_in (is_shut_out s e.kf p ts) e.lcw h in any_in (is_shut_out s k.kf p ts) k.lcw f.0 (subst (IsIn f.0) regions f.1) (shut_out_before p ts f.0 f.2)
  off_before (Named p) ts true h = h
  off_before Equality ts b h = h

  holds_before : (x : Literal) → holds s e x ≡ true → (holds s k x ≡ true) ⊎ IsNew x
  unfolding holds
  holds_before x h =
      ⊎_elim
      (λ q. ⊎_elim (λ u. inl (or_left _ _ u)) (λ u. inr u) (plain_before x q))
      (λ q. inl (or_right _ _ (off_before x.relation x.arguments x.positive q)))
      (or_cases (is_plain s e.kf x) _ h)

  -- ---- the rules add what they added before

  -- no loose literal has its relation
  abbrev IsGrouped : Relation → Type 0
  IsGrouped r = is_ungrouped k.kx r ≡ true → ⊥

  grouped_before : (x : Literal) → IsGrouped x.relation → holds s e x ≡ true → holds s k x ≡ true
  grouped_before x g h = ⊎_elim (λ q. q) (λ n. absurd (g (new_relation x n))) (holds_before x h)

  inequation_before : (t u : Term) → holds s e (inequation t u) ≡ true → holds s k (inequation t u) ≡ true
  unfolding literal
  inequation_before t u h = grouped_before (inequation t u) (λ q. true≢false (sym q)) h

  member_grouped : (g : List Literal) → IsIn g k.kx → (m : Literal) → IsIn m g → IsGrouped m.relation
  member_grouped g i m n h = of_relation m.relation refl h
    where
      of_relation : (r : Relation) → m.relation ≡ r → is_ungrouped k.kx r ≡ true → ⊥
      of_relation (Named p) e u =
          let other : not (is_predicate p m.relation) ≡ true = all_each (λ m. not (is_predicate p m.relation)) g (all_each (λ g. list_all (λ m. not (is_predicate p m.relation)) g) k.kx u g i) m n in
          let own : is_predicate p m.relation ≡ true = ap (is_predicate p) e ∙ eq-eqb p p refl in
          true≢false (sym own ∙ not-true (is_predicate p m.relation) other)
      of_relation Equality e u = true≢false (sym u)

  value_lasts : (l m : Literal) → IsIn l e.kf → IsIn m (by_value e.kf l) → IsIn m k.kf
  value_lasts l m i j =
      ⊎_elim
      (λ a. addition_in s k inhabited saturated fine l m a (subst (IsIn m) (by_value_same e.kf k.kf same_values l) j))
      (λ a. absurd (none l (loose_objects k.kx l a.1) j))
      (origin l i)
    where
      none : (x : Literal) → list_all (λ t. is_some (as_object t)) x.arguments ≡ true → IsIn m (by_value e.kf x) → ⊥
      none x h u = unfold by_value in let r = in_mapped (λ ts. literal x.relation ts x.positive) (one_replaced (term_steps e.kf) x.arguments) m u in no_steps e.kf x.arguments r.0 h r.1

  all_before : (ms : List Literal) → ((m : Literal) → IsIn m ms → IsGrouped m.relation) → list_all (λ m. holds s e (negated m)) ms ≡ true → list_all (λ m. holds s k (negated m)) ms ≡ true
  all_before [] f h = refl
  all_before (m ∷ ms) f h = let p = and_parts (holds s e (negated m)) _ h in and_from _ _ (grouped_before (negated m) (f m (inl refl)) p.0) (all_before ms (λ x i. f x (inr i)) p.1)

  by_member_before : (q : Literal × List Literal) → IsGrouped q.0.relation → ((m : Literal) → IsIn m q.1 → IsGrouped m.relation) → Within (by_member s e q) (by_member s k q)
  by_member_before q own others = within_append _ _ _ _ (within_cond _ _ (q.0 ∷ []) (all_before q.1 others)) (within_cond _ _ (map negated q.1) (grouped_before q.0 own))

  group_lasts : (g : List Literal) → IsIn g e.kx → (l : Literal) → IsIn l (by_group s e g) → IsIn l k.kf
  unfolding by_group additions
  group_lasts g i l j =
      let there = subst (IsIn g) groups i in
      let q = in_flat_mapped (by_member s e) (with_others g) l j in
      let o = in_with_others g q.0 q.1 in
      saturated l (in_right (flat_map (by_value k.kf) k.kf) _ l (in_left (flat_map (λ g. flat_map (by_member s k) (with_others g)) k.kx) _ l
      (in_flat (λ g. flat_map (by_member s k) (with_others g)) k.kx g l there (in_flat (by_member s k) (with_others g) q.0 l q.1
      (by_member_before q.0 (member_grouped g there q.0.0 o.0) (λ m n. member_grouped g there m (o.1 m n)) l q.2)))))

  left_before : (t : Term) (os : List ℕ) (d : ℕ) → is_last_left s e t os d ≡ true → is_last_left s k t os d ≡ true
  left_before t [] d h = refl
  left_before t (o ∷ os) d h =
      let p = and_parts ((o == d) || holds s e (inequation t (object o))) _ h in
      and_from _ _ (⊎_elim (λ q. or_left _ _ q) (λ q. or_right _ _ (inequation_before t (object o) q)) (or_cases (o == d) _ p.0)) (left_before t os d p.1)

  by_range_before : (t : Term) → Within (by_range s e t) (by_range s k t)
  unfolding by_range
  by_range_before t =
      within_map (λ d. equation t (object d)) (filter (is_last_left s e t (range_of s t)) (range_of s t)) (filter (is_last_left s k t (range_of s t)) (range_of s t))
      (λ d i. let r = in_filtered (is_last_left s e t (range_of s t)) (range_of s t) d i in in_filter (is_last_left s k t (range_of s t)) (range_of s t) d r.0 (left_before t (range_of s t) d r.1))

  range_lasts : (l : Literal) → IsIn l (flat_map (λ l. flat_map (by_range s e) (flat_map applications_in l.arguments)) e.kf) → IsIn l k.kf
  unfolding additions
  range_lasts l i =
      let a = in_flat_mapped (λ l. flat_map (by_range s e) (flat_map applications_in l.arguments)) e.kf l i in
      let b = in_flat_mapped (by_range s e) (flat_map applications_in a.0.arguments) l a.2 in
      ⊎_elim
      (λ there. saturated l (in_right (flat_map (by_value k.kf) k.kf) _ l (in_right (flat_map (by_group s k) k.kx) _ l
      (in_flat (λ l. flat_map (by_range s k) (flat_map applications_in l.arguments)) k.kf a.0 l there
      (in_flat (by_range s k) (flat_map applications_in a.0.arguments) b.0 l b.1 (by_range_before b.0 l b.2))))))
      (λ q. absurd (no_parts a.0.arguments b.0 (loose_objects k.kx a.0 q.1) b.1))
      (origin a.0 a.1)

  pub put_saturated : IsSaturated s e
  unfolding additions
  put_saturated l i =
      stays l (⊎_elim
      (λ j. let r = in_flat_mapped (by_value e.kf) e.kf l j in value_lasts r.0 l r.1 r.2)
      (λ j. ⊎_elim
      (λ u. let r = in_flat_mapped (by_group s e) e.kx l u in group_lasts r.0 r.1 l r.2)
      (range_lasts l)
      (in_appended (flat_map (by_group s e) e.kx) _ l j))
      (in_appended (flat_map (by_value e.kf) e.kf) _ l i))

  -- ---- where none of them is denied, nothing clashes

  module _ (undenied : (l : Literal) → IsIn l ls → holds s e (negated l) ≡ true → ⊥) where
    not_twice : (b : Bool) → not (not b) ≡ b
    not_twice true = refl
    not_twice false = refl

    turned : (j m : Literal) → normal_literal e.kf j ≡ normal_literal e.kf (negated m) → normal_literal e.kf m ≡ normal_literal e.kf (negated j)
    unfolding normal_literal literal
    turned j m q = λ i. record {
      relation = (sym q i).relation;
      arguments = (sym q i).arguments;
      positive = (sym (not_twice m.positive) ∙ ap (λ (n : Literal). not n.positive) (sym q)) i;
    }

    denied_then : (j m : Literal) → IsIn m e.kf → normal_literal e.kf j ≡ normal_literal e.kf (negated m) → holds s e (negated j) ≡ true
    unfolding holds is_plain is_known
    denied_then j m i q =
        or_left _ _ (or_left _ _ (any_in (λ x. literal_eq (normal_literal e.kf x) (normal_literal e.kf (negated j))) e.kf m i (literal_eq_itself (normal_literal e.kf m) (normal_literal e.kf (negated j)) (turned j m q))))

    none_before : (m : Literal) → IsIn m k.kf → holds s k (negated m) ≡ true → ⊥
    unfolding first_clash
    none_before m i h = none_found (λ l. holds s k (negated l)) k.kf fine m i h

    no_denial : (m : Literal) → IsIn m e.kf → holds s e (negated m) ≡ true → ⊥
    no_denial m i h =
        ⊎_elim
        (λ there. ⊎_elim (none_before m there)
        (λ n. undenied n.0 n.1 (denied_then n.0 m i n.3))
        (holds_before (negated m) h))
        (λ q. undenied m q.0 h)
        (origin m i)

    pub put_fine : first_clash s e ≡ None
    unfolding first_clash
    put_fine = none_from (λ l. holds s e (negated l)) e.kf no_denial

  -- ---- what is known is found by its normal form

  module _ (sides : Each IsInOrder k.kf) where
    one : (f : ℕ) (ds : List ℕ) (a b : ℕ) → IsIn a (values_at e.kf f ds) → IsIn b (values_at e.kf f ds) → a ≡ b
    one f ds a b i j = one_value s k inhabited saturated fine f ds a b (subst (IsIn a) (same_values f ds) i) (subst (IsIn b) (same_values f ds) j)

    sides_of : (l : Literal) → IsIn l e.kf → IsInOrder l
    sides_of l i = ⊎_elim (λ j. each_in IsInOrder k.kf l sides j) (λ q. loose_in_order k.kx l q.1) (origin l i)

    pub put_found : (l : Literal) → is_among literal_cmp (normal_literal e.kf l) e.kf ≡ is_known e.kf l
    unfolding is_known literal_eq
    put_found l =
        both_ways (is_among literal_cmp (normal_literal e.kf l) e.kf) (list_any (λ k. literal_eq (normal_literal e.kf k) (normal_literal e.kf l)) e.kf)
        (λ h. let f = found_in (λ k. literal_eq (normal_literal e.kf l) k) e.kf h in
        let q = same_literal (normal_literal e.kf l) f.0 f.2 in
        any_in (λ k. literal_eq (normal_literal e.kf k) (normal_literal e.kf l)) e.kf f.0 f.1 (literal_eq_itself (normal_literal e.kf f.0) (normal_literal e.kf l) (ap (normal_literal e.kf) (sym q) ∙ literal_again s e.kf one l)))
        (λ h. let f = found_in (λ k. literal_eq (normal_literal e.kf k) (normal_literal e.kf l)) e.kf h in
        any_in (λ k. literal_eq (normal_literal e.kf l) k) e.kf (normal_literal e.kf f.0) (normal_in e.kf (λ l m i j. stays m (value_lasts l m i j)) f.0 (sides_of f.0 f.1) f.1)
        (literal_eq_itself (normal_literal e.kf l) (normal_literal e.kf f.0) (sym (same_literal (normal_literal e.kf f.0) (normal_literal e.kf l) f.2))))

-- ---- as the program asks

put_of : (kf : List Literal) (kx : List (List Literal)) (ls : List Literal) → bring_nothing kf kx ls ≡ true → (l : Literal) → IsIn l ls → IsIn l kf ⊎ (is_loose kx l ≡ true)
unfolding literal_eq
put_of kf kx ls h l i =
    ⊎_elim
    (λ a. let f = found_in (λ y. literal_eq l y) kf a in inl (subst (λ x. IsIn x kf) (sym (same_literal l f.0 f.2)) f.1))
    (λ q. inr q)
    (or_cases (is_among literal_cmp l kf) _ (all_each (λ l. is_among literal_cmp l kf || is_loose kx l) ls h l i))

undenied_of : (s : Signature) (e : Five) (ls : List Literal) → list_any (λ l. holds s e (negated l)) ls ≡ false → (l : Literal) → IsIn l ls → holds s e (negated l) ≡ true → ⊥
undenied_of s e ls h l i q = true≢false (sym q ∙ none_in (λ l. holds s e (negated l)) ls l h i)

pub loose_closed : (s : Signature) (k e : Five) (ls : List Literal) → HasValues s → IsSaturated s k → first_clash s k ≡ None → IsOrdered literal_cmp k.kf
    → e.kf ≡ added literal_cmp k.kf ls → e.kx ≡ k.kx → e.lcw ≡ k.lcw → bring_nothing k.kf k.kx ls ≡ true → list_any (λ l. holds s e (negated l)) ls ≡ false
    → IsSaturated s e × (first_clash s e ≡ None)
loose_closed s k e ls inhabited saturated fine ordered known groups regions nothing undenied =
    let put = put_of k.kf k.kx ls nothing in
    (put_saturated s k e ls inhabited saturated fine ordered known groups regions put, put_fine s k e ls inhabited saturated fine ordered known groups regions put (undenied_of s e ls undenied))

pub loose_values : (kf new : List Literal) (kx : List (List Literal)) (ls : List Literal) → IsOrdered literal_cmp kf → new ≡ added literal_cmp kf ls → bring_nothing kf kx ls ≡ true → (f : ℕ) (ds : List ℕ) → values_at new f ds ≡ values_at kf f ds
loose_values kf new kx ls ordered known nothing f ds = ap (λ ys. values_at ys f ds) known ∙ put_all kx f ds ls kf ordered (put_of kf kx ls nothing)

pub loose_found : (s : Signature) (k e : Five) (ls : List Literal) → HasValues s → IsSaturated s k → first_clash s k ≡ None → IsOrdered literal_cmp k.kf → Each IsInOrder k.kf
    → e.kf ≡ added literal_cmp k.kf ls → e.kx ≡ k.kx → e.lcw ≡ k.lcw → bring_nothing k.kf k.kx ls ≡ true → (l : Literal) → is_among literal_cmp (normal_literal e.kf l) e.kf ≡ is_known e.kf l
loose_found s k e ls inhabited saturated fine ordered sides known groups regions nothing =
    put_found s k e ls inhabited saturated fine ordered known groups regions (put_of k.kf k.kx ls nothing) sides
