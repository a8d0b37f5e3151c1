-- Terms replaced by equations that may be relied on keep their values, and facts their truth.
use Rattle.std.proofs.Common.{◌≡◌, ◌&&◌, ◌||◌, ◌==◌, ℕ, Bool, true, false, cond, not, nat_eq, List, [], ◌∷◌, map, Option, Some, None, refl, sym, ap, ◌∙◌, subst, ⊎_elim, true≢false}
use Rattle.std.specs.List.{list_any}
use Rattle.std.specs.Cmp.{Equal-is}
use Rattle.std.specs.Cmp.Lexicographic.{pointwise, slice_cmp}
use Rattle.std.specs.FinMap.{slice_cmp-IsAntisymmetric}
use Rattle.std.specs.Ordering.{is_eq}
use Rattle.std.proofs.lemmas.Bool.{or_cases, and_parts, eqb-true}
use Rattle.pks_terms.specs.Sets.{Each, IsIn, exactly_one, with_others}
use Rattle.pks_terms.specs.Syntax.{Object, Parameter, Apply, Inner, Term, object, term_of, Relation, Named, Equality, Literal, Atom, Pattern}
use Rattle.pks_terms.specs.Orders.{term_eq, literal_eq, conj_cmp, atom_cmp, pattern_cmp, literal}
use Rattle.pks_terms.specs.Worlds.{World, inner_value, value_of, relates, signed, true_in}
use Rattle.pks_terms.specs.Databases.{Entry, same_objects}
use Rattle.pks_terms.specs.Meaning.{is_instance, is_value_of, Meets}
use Rattle.pks_terms.proofs.ListLaws.{found, found_in, any_in}
use Rattle.pks_terms.proofs.OrderLaws.{same_term, same_literal, conj_cmp_tells, atom_cmp_tells, pattern_cmp_tells}
use Rattle.pks_laws.proofs.Holding.{eqb_comm, true_in-literal}
use Rattle.pks_laws.proofs.Changing.{value_of-term_of}
use Rattle.pks_terms.specs.Proofs.{Fact, FactLit, FactKx, FactLcw, IsFactOf}
use Rattle.pks_terms.specs.Judging.{Judge}
use Rattle.pks_terms.specs.Rewriting.{is_equation, are_equal, are_equal_arguments, has_arguments, sides_read, readings, is_form, are_forms, is_slot_form, one_swapped, inner_eq, swaps_object, swaps_inner, swaps_argument, swaps_term, swaps_terms, turned, swaps_literal, swaps_group, are_in_order, same_slot, swaps_slot, swaps_pattern, swaps_atom, same_atoms, swaps_listed, swaps_region, swaps}
use Rattle.pks_terms.specs.Reasons.{is_swapped}
use Rattle.pks_proof_lines.proofs.Judged.{pointwise_values, literal_found, equation_true}
use Rattle.pks_proof_lines.proofs.Groups.{one_apart, this_or_other, this_in, other_in}

-- lists that are the same but for one element replaced have the same values
swapped_values : {X Z : Type 0} (same swapped : X → X → Bool) (v : X → Z) → ((x y : X) → same x y ≡ true → v x ≡ v y) → ((x y : X) → swapped x y ≡ true → v x ≡ v y) → (xs ys : List X) → one_swapped same swapped xs ys ≡ true → map v xs ≡ map v ys
swapped_values same swapped v f g [] ys h = absurd (true≢false (sym h))
swapped_values same swapped v f g (x ∷ xs) [] h = absurd (true≢false (sym h))
swapped_values same swapped v f g (x ∷ xs) (y ∷ ys) h =
    ⊎_elim
    (λ k. let q = and_parts (swapped x y) _ k in λ i. g x y q.0 i ∷ pointwise_values same v f xs ys q.1 i)
    (λ k. let q = and_parts (same x y) _ k in λ i. f x y q.0 i ∷ swapped_values same swapped v f g xs ys q.1 i)
    (or_cases (swapped x y && pointwise same xs ys) _ h)

module _ (j : Judge) (m : ℕ) (w : World) (right : Each (IsFactOf w) (j m)) where
  same_value : (t u : Term) → term_eq t u ≡ true → value_of w t ≡ value_of w u
  same_value t u h = ap (value_of w) (same_term t u h)

  equal_values : (t u : Term) → are_equal j m t u ≡ true → value_of w t ≡ value_of w u
  equal_values t u h = ⊎_elim (same_value t u) (equation_true j m w right t u) (or_cases _ _ h)

  inner_values : (a b : Inner) → value_of w (term_of a) ≡ value_of w (term_of b) → inner_value w a ≡ inner_value w b
  inner_values a b e = sym (value_of-term_of w a) ∙ e ∙ value_of-term_of w b

  applied_values : (f g : ℕ) (ts us : List Inner) → f ≡ g → map (inner_value w) ts ≡ map (inner_value w) us → value_of w (Apply f ts) ≡ value_of w (Apply g us)
  unfolding value_of
  applied_values f g ts us e k = λ i. w.value (e i) (k i)

  arguments_values : (t u : Term) → has_arguments j m t u ≡ true → value_of w t ≡ value_of w u
  arguments_values (Apply f ts) (Apply g us) h =
      let q = and_parts (f == g) _ h in
      applied_values f g ts us (eqb-true f g q.0) (pointwise_values (are_equal_arguments j m) (inner_value w) (λ a b k. inner_values a b (equal_values (term_of a) (term_of b) k)) ts us q.1)
  arguments_values (Apply f ts) (Object d) h = same_value (Apply f ts) (Object d) h
  arguments_values (Apply f ts) (Parameter d) h = same_value (Apply f ts) (Parameter d) h
  arguments_values (Object d) u h = same_value (Object d) u h
  arguments_values (Parameter d) u h = same_value (Parameter d) u h

  sides_alike : (r : Relation) (ts : List Term) (b : Bool) → signed b (relates w r (map (value_of w) ts)) ≡ true → Each (λ (q : Term × Term). value_of w q.0 ≡ value_of w q.1) (sides_read r ts b)
  sides_alike Equality (t ∷ u ∷ []) true h = let e = eqb-true (value_of w t) (value_of w u) h in (e, (sym e, tt))
  sides_alike Equality (t ∷ u ∷ []) false h = tt
  sides_alike Equality [] b h = tt
  sides_alike Equality (t ∷ []) b h = tt
  sides_alike Equality (t ∷ u ∷ v ∷ ts) b h = tt
  sides_alike (Named p) ts b h = tt

  readings_alike : (l : Literal) → true_in w l ≡ true → Each (λ (q : Term × Term). value_of w q.0 ≡ value_of w q.1) (readings l)
  unfolding true_in
  readings_alike l h = sides_alike l.relation l.arguments l.positive h

  -- a form of a term has its value
  pub form_value : (t r : Term) → is_form j m t r ≡ true → value_of w t ≡ value_of w r
  form_value t r h =
      ⊎_elim (arguments_values t r)
      (λ k.
      let l = literal_found j m w right (λ l. list_any (λ q. has_arguments j m t q.0 && has_arguments j m q.1 r) (readings l)) k in
      let q = found (λ (q : Term × Term). value_of w q.0 ≡ value_of w q.1) (λ q. has_arguments j m t q.0 && has_arguments j m q.1 r) (readings l.0) (readings_alike l.0 l.1) l.2 in
      let b = and_parts (has_arguments j m t q.0.0) _ q.2 in
      arguments_values t q.0.0 b.0 ∙ q.1 ∙ arguments_values q.0.1 r b.1)
      (or_cases (has_arguments j m t r) _ h)

  pub form_values : (ts rs : List Term) → are_forms j m ts rs ≡ true → map (value_of w) ts ≡ map (value_of w) rs
  form_values ts rs h = pointwise_values (is_form j m) (value_of w) form_value ts rs h

  -- so of the instances of slots
  pub slot_forms : (ss rs : List (Option Term)) → pointwise (is_slot_form j m) ss rs ≡ true → (ds : List ℕ) → is_instance w ss ds ≡ is_instance w rs ds
  slot_forms [] [] h ds = refl
  slot_forms [] (r ∷ rs) h ds = absurd (true≢false (sym h))
  slot_forms (s ∷ ss) [] h ds = absurd (true≢false (sym h))
  slot_forms (None ∷ ss) (None ∷ rs) h [] = refl
  slot_forms (None ∷ ss) (None ∷ rs) h (d ∷ ds) = slot_forms ss rs h ds
  slot_forms (Some t ∷ ss) (Some r ∷ rs) h [] = refl
  slot_forms (Some t ∷ ss) (Some r ∷ rs) h (d ∷ ds) =
      let q = and_parts (is_form j m t r) _ h in λ i. (form_value t r q.0 i == d) && slot_forms ss rs q.1 ds i
  slot_forms (Some t ∷ ss) (None ∷ rs) h ds = absurd (true≢false (sym h))
  slot_forms (None ∷ ss) (Some r ∷ rs) h ds = absurd (true≢false (sym h))

  -- ---- one term replaced in one place

  map_object : (ds : List ℕ) → map (value_of w) (map object ds) ≡ map (λ d. d) ds
  unfolding value_of
  map_object [] = refl
  map_object (d ∷ ds) = λ i. d ∷ map_object ds i

  object_value : (d : ℕ) → value_of w (object d) ≡ d
  unfolding value_of
  object_value d = refl

  object_swapped : (a b : Inner) → swaps_object j m a b ≡ true → inner_value w a ≡ inner_value w b
  object_swapped (Apply f ds) (Apply g es) h =
      let q = and_parts (f == g) _ h in
      let same = swapped_values nat_eq (λ d e. is_equation j m (object d) (object e)) (λ d. d) (λ d e k. eqb-true d e k) (λ d e k. sym (object_value d) ∙ equation_true j m w right (object d) (object e) k ∙ object_value e) ds es q.1 in
      λ i. w.value (eqb-true f g q.0 i) (same i)
  object_swapped (Apply f ds) (Object e) h = absurd (true≢false (sym h))
  object_swapped (Apply f ds) (Parameter e) h = absurd (true≢false (sym h))
  object_swapped (Object d) b h = absurd (true≢false (sym h))
  object_swapped (Parameter d) b h = absurd (true≢false (sym h))

  inner_swapped : (a b : Inner) → swaps_inner j m a b ≡ true → inner_value w a ≡ inner_value w b
  inner_swapped a b h =
      ⊎_elim (λ k. inner_values a b (equation_true j m w right (term_of a) (term_of b) k)) (object_swapped a b) (or_cases _ _ h)

  argument_swapped : (t u : Term) → swaps_argument j m t u ≡ true → value_of w t ≡ value_of w u
  argument_swapped (Apply f ts) (Apply g us) h =
      let q = and_parts (f == g) _ h in
      applied_values f g ts us (eqb-true f g q.0) (swapped_values inner_eq (swaps_inner j m) (inner_value w) (λ a b k. inner_values a b (same_value (term_of a) (term_of b) k)) inner_swapped ts us q.1)
  argument_swapped (Apply f ts) (Object d) h = absurd (true≢false (sym h))
  argument_swapped (Apply f ts) (Parameter d) h = absurd (true≢false (sym h))
  argument_swapped (Object d) u h = absurd (true≢false (sym h))
  argument_swapped (Parameter d) u h = absurd (true≢false (sym h))

  term_swapped : (t u : Term) → swaps_term j m t u ≡ true → value_of w t ≡ value_of w u
  term_swapped t u h = ⊎_elim (equation_true j m w right t u) (argument_swapped t u) (or_cases _ _ h)

  terms_swapped : (ts us : List Term) → swaps_terms j m ts us ≡ true → map (value_of w) ts ≡ map (value_of w) us
  terms_swapped ts us h = swapped_values term_eq (swaps_term j m) (value_of w) same_value term_swapped ts us h

  relates_turned : (r : Relation) (ts : List Term) → relates w r (map (value_of w) (turned r ts)) ≡ relates w r (map (value_of w) ts)
  relates_turned Equality (t ∷ u ∷ []) = eqb_comm (value_of w u) (value_of w t)
  relates_turned Equality [] = refl
  relates_turned Equality (t ∷ []) = refl
  relates_turned Equality (t ∷ u ∷ v ∷ ts) = refl
  relates_turned (Named p) ts = refl

  literal_swapped : (k l : Literal) → swaps_literal j m k l ≡ true → true_in w l ≡ true_in w k
  unfolding true_in literal
  literal_swapped k l h =
      let q = and_parts (literal_eq l (literal k.relation l.arguments k.positive)) _ h in
      let e : l ≡ literal k.relation l.arguments k.positive = same_literal l _ q.0 in
      let r : l.relation ≡ k.relation = ap (λ (x : Literal). x.relation) e in
      ap (true_in w) e ∙ true_in-literal w k.relation l.arguments k.positive
      ∙ ap (signed k.positive) (⊎_elim
      (λ s. ap (relates w k.relation) (sym (terms_swapped k.arguments l.arguments s)))
      (λ s. sym (relates_turned k.relation l.arguments) ∙ ap (λ x. relates w k.relation (map (value_of w) (turned x l.arguments))) (sym r) ∙ ap (relates w k.relation) (sym (terms_swapped k.arguments (turned l.relation l.arguments) s)))
      (or_cases (swaps_terms j m k.arguments l.arguments) _ q.1))

  group_swapped : (g h : List Literal) → swaps_group j m g h ≡ true → exactly_one (true_in w) h ≡ exactly_one (true_in w) g
  group_swapped g h k =
      let a = and_parts (are_in_order h) _ k in
      let q = found_in (λ q. list_any (λ r. swaps_literal j m q.0 r.0 && is_eq (conj_cmp q.1 r.1)) (with_others h)) (with_others g) a.1 in
      let r = found_in (λ r. swaps_literal j m q.0.0 r.0 && is_eq (conj_cmp q.0.1 r.1)) (with_others h) q.2 in
      let b = and_parts (swaps_literal j m q.0.0 r.0.0) _ r.2 in
      let same : q.0.1 ≡ r.0.1 = conj_cmp_tells q.0.1 r.0.1 ((Equal-is (conj_cmp q.0.1 r.0.1)).0 b.1) in
      sym (one_apart (true_in w) h r.0 r.1)
      ∙ (λ i. cond (literal_swapped q.0.0 r.0.0 b.0 i) (not (list_any (true_in w) (sym same i))) (exactly_one (true_in w) (sym same i)))
      ∙ one_apart (true_in w) g q.0 q.1

  slot_swapped_same : (ss rs : List (Option Term)) → pointwise same_slot ss rs ≡ true → (ds : List ℕ) → is_instance w ss ds ≡ is_instance w rs ds
  slot_swapped_same [] [] h ds = refl
  slot_swapped_same [] (r ∷ rs) h ds = absurd (true≢false (sym h))
  slot_swapped_same (s ∷ ss) [] h ds = absurd (true≢false (sym h))
  slot_swapped_same (None ∷ ss) (None ∷ rs) h [] = refl
  slot_swapped_same (None ∷ ss) (None ∷ rs) h (d ∷ ds) = slot_swapped_same ss rs h ds
  slot_swapped_same (Some t ∷ ss) (Some r ∷ rs) h [] = refl
  slot_swapped_same (Some t ∷ ss) (Some r ∷ rs) h (d ∷ ds) =
      let q = and_parts (term_eq t r) _ h in λ i. (same_value t r q.0 i == d) && slot_swapped_same ss rs q.1 ds i
  slot_swapped_same (Some t ∷ ss) (None ∷ rs) h ds = absurd (true≢false (sym h))
  slot_swapped_same (None ∷ ss) (Some r ∷ rs) h ds = absurd (true≢false (sym h))

  slots_swapped : (ss rs : List (Option Term)) → one_swapped same_slot (swaps_slot j m) ss rs ≡ true → (ds : List ℕ) → is_instance w ss ds ≡ is_instance w rs ds
  slots_swapped [] rs h ds = absurd (true≢false (sym h))
  slots_swapped (s ∷ ss) [] h ds = absurd (true≢false (sym h))
  slots_swapped (None ∷ ss) (None ∷ rs) h [] = refl
  slots_swapped (None ∷ ss) (None ∷ rs) h (d ∷ ds) = slots_swapped ss rs h ds
  slots_swapped (Some t ∷ ss) (Some r ∷ rs) h [] = refl
  slots_swapped (Some t ∷ ss) (Some r ∷ rs) h (d ∷ ds) =
      ⊎_elim
      (λ k. let q = and_parts (swaps_term j m t r) _ k in λ i. (term_swapped t r q.0 i == d) && slot_swapped_same ss rs q.1 ds i)
      (λ k. let q = and_parts (term_eq t r) _ k in λ i. (same_value t r q.0 i == d) && slots_swapped ss rs q.1 ds i)
      (or_cases (swaps_term j m t r && pointwise same_slot ss rs) _ h)
  slots_swapped (Some t ∷ ss) (None ∷ rs) h ds = absurd (true≢false (sym h))
  slots_swapped (None ∷ ss) (Some r ∷ rs) h ds = absurd (true≢false (sym h))

  atom_swapped : (a b : Atom) → swaps_atom j m a b ≡ true → (p : ℕ) (ds : List ℕ) → is_value_of w p ds a ≡ is_value_of w p ds b
  atom_swapped a b h p ds =
      let q = and_parts (a.predicate == b.predicate) _ h in
      λ i. (eqb-true a.predicate b.predicate q.0 i == p) && same_objects (terms_swapped a.arguments b.arguments q.1 i) ds

  same_listed : (bs cs : List Atom) → same_atoms bs cs ≡ true → bs ≡ cs
  same_listed bs cs h = slice_cmp-IsAntisymmetric atom_cmp_tells bs cs ((Equal-is (slice_cmp atom_cmp bs cs)).0 h)

  -- an instance that a listed atom has as its value, one in the new list has too
  listed_swapped : (bs cs : List Atom) → swaps_listed j m bs cs ≡ true → (p : ℕ) (ds : List ℕ) → list_any (is_value_of w p ds) bs ≡ true → list_any (is_value_of w p ds) cs ≡ true
  listed_swapped bs cs h p ds k =
      let q = found_in (λ q. list_any (λ r. swaps_atom j m q.0 r.0 && (same_atoms q.1 r.1 || same_atoms q.1 cs)) (with_others cs)) (with_others bs) h in
      let r = found_in (λ r. swaps_atom j m q.0.0 r.0 && (same_atoms q.0.1 r.1 || same_atoms q.0.1 cs)) (with_others cs) q.2 in
      let b = and_parts (swaps_atom j m q.0.0 r.0.0) _ r.2 in
      let f = found_in (is_value_of w p ds) bs k in
      ⊎_elim
      (λ s. any_in (is_value_of w p ds) cs r.0.0 (this_in cs r.0 r.1) (sym (atom_swapped q.0.0 r.0.0 b.0 p ds) ∙ ap (is_value_of w p ds) s ∙ f.2))
      (λ i. ⊎_elim
      (λ s. any_in (is_value_of w p ds) cs f.0 (other_in cs r.0 r.1 f.0 (subst (IsIn f.0) (same_listed q.0.1 r.0.1 s) i)) f.2)
      (λ s. any_in (is_value_of w p ds) cs f.0 (subst (IsIn f.0) (same_listed q.0.1 cs s) i) f.2)
      (or_cases (same_atoms q.0.1 r.0.1) _ b.1))
      (this_or_other bs q.0 q.1 f.0 f.1)

  region_swapped : (e r : Entry) → swaps_region j m e r ≡ true → Meets w e → Meets w r
  region_swapped e r h meets =
      ⊎_elim
      (λ k.
      let q = and_parts (swaps_pattern j m e.pattern r.pattern) _ k in
      let x = and_parts (e.pattern.predicate == r.pattern.predicate) _ q.0 in
      let same : e.pattern.predicate ≡ r.pattern.predicate = eqb-true _ _ x.0 in
      let listed : e.listed ≡ r.listed = same_listed e.listed r.listed q.1 in
      record {
        closed = λ ds i t.
            (λ k. list_any (is_value_of w (sym same k) ds) (sym listed k))
            ∙ meets.closed ds (slots_swapped e.pattern.slots r.pattern.slots x.1 ds ∙ i) (ap (λ n. w.truth n ds) same ∙ t);
      })
      (λ k.
      let q = and_parts (is_eq (pattern_cmp e.pattern r.pattern)) _ k in
      let same : e.pattern ≡ r.pattern = pattern_cmp_tells e.pattern r.pattern ((Equal-is (pattern_cmp e.pattern r.pattern)).0 q.0) in
      record {
        closed = λ ds i t.
            listed_swapped e.listed r.listed q.1 r.pattern.predicate ds
            (ap (λ (x : Pattern). list_any (is_value_of w x.predicate ds) e.listed) (sym same) ∙ meets.closed ds (ap (λ (x : Pattern). is_instance w x.slots ds) same ∙ i) (ap (λ (x : Pattern). w.truth x.predicate ds) same ∙ t));
      })
      (or_cases (swaps_pattern j m e.pattern r.pattern && same_atoms e.listed r.listed) _ h)

  fact_swapped : (c f : Fact) → swaps j m c f ≡ true → IsFactOf w c → IsFactOf w f
  fact_swapped (FactLit k) (FactLit l) h t = literal_swapped k l h ∙ t
  fact_swapped (FactKx g) (FactKx k) h t = group_swapped g k h ∙ t
  fact_swapped (FactLcw e) (FactLcw r) h t = region_swapped e r h t
  fact_swapped (FactLit k) (FactKx l) h t = absurd (true≢false (sym h))
  fact_swapped (FactLit k) (FactLcw l) h t = absurd (true≢false (sym h))
  fact_swapped (FactKx k) (FactLit l) h t = absurd (true≢false (sym h))
  fact_swapped (FactKx k) (FactLcw l) h t = absurd (true≢false (sym h))
  fact_swapped (FactLcw k) (FactLit l) h t = absurd (true≢false (sym h))
  fact_swapped (FactLcw k) (FactKx l) h t = absurd (true≢false (sym h))

  -- swap
  pub swapped_true : (f : Fact) → is_swapped j m f ≡ true → IsFactOf w f
  swapped_true f h = let c = found (IsFactOf w) (λ c. swaps j m c f) (j m) right h in fact_swapped c.0 f c.2 c.1
