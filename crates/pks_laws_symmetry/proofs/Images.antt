-- Images of terms, literals and what is made of them; images of types; and what an action's text becomes.
use Rattle.std.proofs.Common.{◌≡◌, ◌<◌, ◌==◌, ℕ, zero, suc, Bool, true, false, cond, not, List, [], ◌∷◌, map, length, option_map, slice_get, Option, Some, None, Ordering, is_lt, refl, sym, ap, ◌∙◌, subst, inl, ⊎_elim, arith}
use Rattle.std.specs.List.{list_any, list_all}
use Rattle.std.specs.Option.{option_map_or}
use Rattle.std.specs.Cmp.{IsTotalOrder}
use Rattle.std.specs.FinMap.{IsAntisymmetric}
use Rattle.std.proofs.lemmas.Bool.{eqb-true, eq-eqb}
use Rattle.pks_terms.specs.Sets.{Each, IsIn, IsOrdered, set_of}
use Rattle.pks_terms.specs.Syntax.{Object, Parameter, Apply, Inner, Term, term_of, Relation, Named, Equality, Literal, Atom, Pattern, negated}
use Rattle.pks_terms.specs.Orders.{term_cmp, literal_cmp, atom_cmp, in_order, literal, equation, inequation}
use Rattle.pks_terms.specs.Signatures.{Signature, fits_type, object_is_of, is_foreign, objects_of, range_of, has_type}
use Rattle.pks_terms.specs.Databases.{Entry}
use Rattle.pks_terms.specs.Closure.{in_sequence}
use Rattle.pks_terms.specs.Queries.{Plain, Know, KnowWhether, KnowValue, Query}
use Rattle.pks_terms.specs.Actions.{Target, Set, Unset, Clear, Assign, Effect, Item, ItemKf, ItemKw, ItemKv, ItemLcw, Instance, argument, inner_at, term_at, literal_at, conj_at, atom_at, pattern_at, target_at, plain_at, query_at, effect_at}
use Rattle.pks_terms.specs.Moments.{IsInOrder}
use Rattle.pks_terms.specs.Totality.{literal_cmp_total, atom_cmp_total}
use Rattle.pks_terms.proofs.ListLaws.{each_in, each_weaker, map-map, all_set_of, any_set_of, all_alike, any_alike, in_map, in_mapped}
use Rattle.pks_terms.proofs.OrderLaws.{literal_cmp_tells, atom_cmp_tells}
use Rattle.pks_terms.proofs.SetLaws.{ordered_set_of, in_set_of, set_of_in, same_members}
use Rattle.pks_terms.proofs.Types.{both_ways, objects_are_of, are_objects_of}
use Rattle.pks_laws.proofs.Holding.{eqb_comm}
use Rattle.pks_laws.proofs.Least.{in_order-map}
use Rattle.pks_laws.proofs.SidesInOrder.{literal_ordered}
use Rattle.pks_laws_symmetry.specs.Trivial.{is_so, is_trivial}
use Rattle.pks_laws_symmetry.specs.Renamed.{IsRenaming, renamed_inner, renamed_term, renamed_literal, renamed_conj, renamed_group, renamed_atom, renamed_pattern, renamed_entry, renamed_instance, renamed_plain, renamed_query}
use Rattle.pks_laws_symmetry.specs.Fixed.{IsFixedInner, IsFixedTerm, IsFixedLiteral, IsFixedConj, IsFixedSlot, IsFixedPattern, IsFixedPlain, AreFixedQueries, IsFixedTarget, IsFixedEffect, IsFixedItem, IsFixedSchema}
use Rattle.pks_laws_symmetry.proofs.Mirrors.{renamed_target, renamed_effect}
use Rattle.pks_laws_symmetry.proofs.Permuted.{Permuted, permuted_map, sequence_permuted, permuted_sequence, set_permuted}

-- ---- maps and sets

maps_back : {X Y : Type 0} (p : X → Y) (q : Y → X) (P : X → Type 0) → ((x : X) → P x → q (p x) ≡ x) → (xs : List X) → Each P xs → map q (map p xs) ≡ xs
maps_back p q P h [] a = refl
maps_back p q P h (x ∷ xs) a = λ i. h x a.0 i ∷ maps_back p q P h xs a.1 i

pub all_back : {X Y : Type 0} (p : X → Y) (q : Y → X) → ((x : X) → q (p x) ≡ x) → (xs : List X) → map q (map p xs) ≡ xs
all_back p q h [] = refl
all_back p q h (x ∷ xs) = λ i. h x i ∷ all_back p q h xs i

pub maps_through : {X Y Z : Type 0} (P : X → Type 0) (u : X → Y) (p : Y → Z) (v : X → Z) → ((x : X) → P x → p (u x) ≡ v x) → (xs : List X) → Each P xs → map p (map u xs) ≡ map v xs
maps_through P u p v h [] a = refl
maps_through P u p v h (x ∷ xs) a = λ i. h x a.0 i ∷ maps_through P u p v h xs a.1 i

module _ {X : Type 0} {cmp : X → X → Ordering} (o : IsTotalOrder cmp) (tells : IsAntisymmetric cmp) where
  -- the set of what a map makes of a set is that of what it makes of the list
  pub set_mapped : (p : X → X) (xs : List X) → set_of cmp (map p (set_of cmp xs)) ≡ set_of cmp (map p xs)
  set_mapped p xs =
      same_members o tells (set_of cmp (map p (set_of cmp xs))) (set_of cmp (map p xs)) (ordered_set_of o tells (map p (set_of cmp xs))) (ordered_set_of o tells (map p xs))
      (λ z i. let r = in_mapped p (set_of cmp xs) z (in_set_of o tells (map p (set_of cmp xs)) z i) in
      subst (λ y. IsIn y (set_of cmp (map p xs))) r.2 (set_of_in o tells (map p xs) (p r.0) (in_map p xs r.0 (in_set_of o tells xs r.0 r.1))))
      (λ z i. let r = in_mapped p xs z (in_set_of o tells (map p xs) z i) in
      subst (λ y. IsIn y (set_of cmp (map p (set_of cmp xs)))) r.2 (set_of_in o tells (map p (set_of cmp xs)) (p r.0) (in_map p (set_of cmp xs) r.0 (set_of_in o tells xs r.0 r.1))))

  pub set_itself : (xs : List X) → IsOrdered cmp xs → set_of cmp xs ≡ xs
  set_itself xs h = same_members o tells (set_of cmp xs) xs (ordered_set_of o tells xs) h (in_set_of o tells xs) (set_of_in o tells xs)

-- ---- literals and conjunctions

module _ (f : ℕ → ℕ) where
  pub image_negated : (l : Literal) → renamed_literal f (negated l) ≡ negated (renamed_literal f l)
  unfolding renamed_literal literal
  image_negated l = refl

  pub image_literal : (r : Relation) (ts : List Term) (b : Bool) → renamed_literal f (literal r ts b) ≡ literal r (map (renamed_term f) ts) b
  unfolding renamed_literal literal
  image_literal r ts b = λ i. record { relation = r; arguments = in_order-map (renamed_term f) r ts i; positive = b }

  pub image_equation : (t u : Term) → renamed_literal f (equation t u) ≡ equation (renamed_term f t) (renamed_term f u)
  image_equation t u = image_literal Equality (t ∷ u ∷ []) true

  pub image_inequation : (t u : Term) → renamed_literal f (inequation t u) ≡ inequation (renamed_term f t) (renamed_term f u)
  image_inequation t u = image_literal Equality (t ∷ u ∷ []) false

  pub image_ordered : (l : Literal) → IsInOrder (renamed_literal f l)
  unfolding renamed_literal
  image_ordered l = literal_ordered l.relation (map (renamed_term f) l.arguments) l.positive

  pub image_term_of : (t : Inner) → renamed_term f (term_of t) ≡ term_of (renamed_inner f t)
  image_term_of (Object d) = refl
  image_term_of (Parameter i) = refl
  image_term_of (Apply h ds) = ap (λ ts. let t : Term = Apply h ts in t) (map-map (λ d. let t : Inner = Object d in t) (renamed_inner f) ds ∙ sym (map-map f (λ d. let t : Inner = Object d in t) ds))

  pub image_in : (c : List Literal) (l : Literal) → IsIn l c → IsIn (renamed_literal f l) (renamed_conj f c)
  image_in c l i = set_of_in literal_cmp_total literal_cmp_tells (map (renamed_literal f) c) (renamed_literal f l) (in_map (renamed_literal f) c l i)

  pub in_image : (c : List Literal) (m : Literal) → IsIn m (renamed_conj f c) → (l : Literal) × IsIn l c × (renamed_literal f l ≡ m)
  in_image c m i = in_mapped (renamed_literal f) c m (in_set_of literal_cmp_total literal_cmp_tells (map (renamed_literal f) c) m i)

  pub image_all : (q : Literal → Bool) (c : List Literal) → list_all q (renamed_conj f c) ≡ list_all (λ l. q (renamed_literal f l)) c
  image_all q c = all_set_of literal_cmp literal_cmp_tells q (map (renamed_literal f) c) ∙ all_alike q (λ l. q (renamed_literal f l)) (renamed_literal f) (λ l. refl) c

  pub image_any : (q : Literal → Bool) (c : List Literal) → list_any q (renamed_conj f c) ≡ list_any (λ l. q (renamed_literal f l)) c
  image_any q c = any_set_of literal_cmp literal_cmp_tells q (map (renamed_literal f) c) ∙ any_alike q (λ l. q (renamed_literal f l)) (renamed_literal f) (λ l. refl) c

  pub image_set : (c : List Literal) → IsOrdered literal_cmp (renamed_conj f c)
  image_set c = ordered_set_of literal_cmp_total literal_cmp_tells (map (renamed_literal f) c)

-- ---- images of images

-- what says that an object is itself, or isn't another one, says so whichever side stands first
so_swapped : (t u : Term) (b : Bool) → is_so Equality (t ∷ u ∷ []) b ≡ is_so Equality (u ∷ t ∷ []) b
so_swapped (Object d) (Object e) true = eqb_comm d e
so_swapped (Object d) (Object e) false = ap not (eqb_comm d e)
so_swapped (Object d) (Parameter j) b = refl
so_swapped (Object d) (Apply h us) b = refl
so_swapped (Parameter i) (Object e) b = refl
so_swapped (Parameter i) (Parameter j) b = refl
so_swapped (Parameter i) (Apply h us) b = refl
so_swapped (Apply h ts) (Object e) b = refl
so_swapped (Apply h ts) (Parameter j) b = refl
so_swapped (Apply h ts) (Apply k us) b = refl

pub so_ordered : (r : Relation) (ts : List Term) (b : Bool) → is_so r (in_order r ts) b ≡ is_so r ts b
so_ordered Equality (t ∷ u ∷ []) b =
    elim (is_lt (term_cmp t u)) as (λ c. is_so Equality (cond c (u ∷ t ∷ []) (t ∷ u ∷ [])) b ≡ is_so Equality (t ∷ u ∷ []) b) [ true ↦ so_swapped u t b | false ↦ refl ]
so_ordered Equality [] b = refl
so_ordered Equality (t ∷ []) b = refl
so_ordered Equality (t ∷ u ∷ v ∷ ts) b = refl
so_ordered (Named p) ts b = refl

module _ (f g : ℕ → ℕ) (back : (d : ℕ) → g (f d) ≡ d) where
  pub inner_back : (t : Inner) → renamed_inner g (renamed_inner f t) ≡ t
  inner_back (Object d) = ap (λ e. let t : Inner = Object e in t) (back d)
  inner_back (Parameter i) = refl
  inner_back (Apply h ds) = ap (λ es. let t : Inner = Apply h es in t) (all_back f g back ds)

  pub inners_back : (ts : List Inner) → map (renamed_inner g) (map (renamed_inner f) ts) ≡ ts
  inners_back ts = all_back (renamed_inner f) (renamed_inner g) inner_back ts

  pub term_back : (t : Term) → renamed_term g (renamed_term f t) ≡ t
  term_back (Object d) = ap (λ e. let t : Term = Object e in t) (back d)
  term_back (Parameter i) = refl
  term_back (Apply h ts) = ap (λ us. let t : Term = Apply h us in t) (inners_back ts)

  pub terms_back : (ts : List Term) → map (renamed_term g) (map (renamed_term f) ts) ≡ ts
  terms_back ts = all_back (renamed_term f) (renamed_term g) term_back ts

  pub literal_back : (l : Literal) → IsInOrder l → renamed_literal g (renamed_literal f l) ≡ l
  unfolding renamed_literal literal
  literal_back l o = λ i. record {
    relation = l.relation;
    arguments = (in_order-map (renamed_term g) l.relation (map (renamed_term f) l.arguments) ∙ ap (in_order l.relation) (terms_back l.arguments) ∙ o) i;
    positive = l.positive;
  }

  pub literals_back : (ls : List Literal) → Each IsInOrder ls → map (renamed_literal g) (map (renamed_literal f) ls) ≡ ls
  literals_back ls o = maps_back (renamed_literal f) (renamed_literal g) IsInOrder literal_back ls o

  pub atom_back : (a : Atom) → renamed_atom g (renamed_atom f a) ≡ a
  atom_back a = λ i. record { predicate = a.predicate; arguments = terms_back a.arguments i }

  slot_back : (x : Option Term) → option_map (renamed_term g) (option_map (renamed_term f) x) ≡ x
  slot_back None = refl
  slot_back (Some t) = ap Some (term_back t)

  pub pattern_back : (x : Pattern) → renamed_pattern g (renamed_pattern f x) ≡ x
  pattern_back x = λ i. record { predicate = x.predicate; slots = all_back (option_map (renamed_term f)) (option_map (renamed_term g)) slot_back x.slots i }

  pub target_back : (x : Target) → renamed_target g (renamed_target f x) ≡ x
  target_back (Set a) = ap (λ b. Set b) (atom_back a)
  target_back (Unset a) = ap (λ b. Unset b) (atom_back a)
  target_back (Clear x) = ap (λ y. Clear y) (pattern_back x)
  target_back (Assign h ts value) = λ i. Assign h (inners_back ts i) (term_back value i)

  pub conj_back : (c : List Literal) → Each IsInOrder c → IsOrdered literal_cmp c → renamed_conj g (renamed_conj f c) ≡ c
  conj_back c o s =
      set_mapped literal_cmp_total literal_cmp_tells (renamed_literal g) (map (renamed_literal f) c) ∙ ap (set_of literal_cmp) (literals_back c o) ∙ set_itself literal_cmp_total literal_cmp_tells c s

  pub group_back : (x : List Literal) → Each IsInOrder x → in_sequence x ≡ x → renamed_group g (renamed_group f x) ≡ x
  group_back x o s =
      let once = map (renamed_literal f) x in
      sym (permuted_sequence (map (renamed_literal g) once) (map (renamed_literal g) (in_sequence once)) (permuted_map (renamed_literal g) once (in_sequence once) (sequence_permuted once)))
      ∙ ap in_sequence (literals_back x o) ∙ s

  pub entry_back : (r : Entry) → IsOrdered atom_cmp r.listed → renamed_entry g (renamed_entry f r) ≡ r
  entry_back r o = λ i. record {
    pattern = pattern_back r.pattern i;
    listed = (set_mapped atom_cmp_total atom_cmp_tells (renamed_atom g) (map (renamed_atom f) r.listed) ∙ ap (set_of atom_cmp) (all_back (renamed_atom f) (renamed_atom g) atom_back r.listed) ∙ set_itself atom_cmp_total atom_cmp_tells r.listed o) i;
  }

  pub instance_back : (i : Instance) → renamed_instance g (renamed_instance f i) ≡ i
  instance_back x = λ i. record { action = x.action; arguments = inners_back x.arguments i }

  pub effect_back : (e : Effect) → Each IsInOrder e.condition → IsOrdered literal_cmp e.condition → renamed_effect g (renamed_effect f e) ≡ e
  effect_back e o s = λ i. record { condition = conj_back e.condition o s i; target = target_back e.target i }

  -- the images of a set's members, in order or not
  pub conj_permuted : (c : List Literal) → Each IsInOrder c → IsOrdered literal_cmp c → Permuted (map (renamed_literal f) c) (renamed_conj f c)
  conj_permuted c o s =
      set_permuted (renamed_literal f) c s
      (λ k l i j e. sym (literal_back k (each_in IsInOrder c k o i)) ∙ ap (renamed_literal g) e ∙ literal_back l (each_in IsInOrder c l o j))

  same_objects : (d e : ℕ) → (f d == f e) ≡ (d == e)
  same_objects d e = both_ways (f d == f e) (d == e) (λ h. eq-eqb d e (sym (back d) ∙ ap g (eqb-true (f d) (f e) h) ∙ back e)) (λ h. eq-eqb (f d) (f e) (ap f (eqb-true d e h)))

  so_renamed : (r : Relation) (ts : List Term) (b : Bool) → is_so r (map (renamed_term f) ts) b ≡ is_so r ts b
  so_renamed Equality (Object d ∷ Object e ∷ []) true = same_objects d e
  so_renamed Equality (Object d ∷ Object e ∷ []) false = ap not (same_objects d e)
  so_renamed (Named p) ts b = refl
  so_renamed Equality [] b = refl
  so_renamed Equality (Parameter i ∷ ts) b = refl
  so_renamed Equality (Apply h us ∷ ts) b = refl
  so_renamed Equality (Object d ∷ []) b = refl
  so_renamed Equality (Object d ∷ Parameter i ∷ ts) b = refl
  so_renamed Equality (Object d ∷ Apply h us ∷ ts) b = refl
  so_renamed Equality (Object d ∷ Object e ∷ t ∷ ts) b = refl

  pub trivial_image : (l : Literal) → is_trivial (renamed_literal f l) ≡ is_trivial l
  unfolding renamed_literal literal
  trivial_image l = so_ordered l.relation (map (renamed_term f) l.arguments) l.positive ∙ so_renamed l.relation l.arguments l.positive

-- ---- types

module _ (s : Signature) (f g : ℕ → ℕ) (renaming : IsRenaming s f g) where
  pub renaming_turned : IsRenaming s g f
  renaming_turned = record { back = renaming.there; there = renaming.back; types = λ d. sym (renaming.types (g d)) ∙ ap (slice_get s.objects) (renaming.there d) }

  pub of_type_image : (a d : ℕ) → object_is_of s a (f d) ≡ object_is_of s a d
  unfolding object_is_of
  of_type_image a d = ap (λ o. option_map_or (λ own. fits_type s own a) o false) (renaming.types d)

  pub foreign_image : (h d : ℕ) → is_foreign s h (f d) ≡ is_foreign s h d
  unfolding is_foreign
  foreign_image h d =
      elim (slice_get s.functions h) as (λ o. option_map_or (λ x. not (object_is_of s x.result (f d))) o false ≡ option_map_or (λ x. not (object_is_of s x.result d)) o false) [ None ↦ refl | Some x ↦ ap not (of_type_image x.result d) ]

  pub objects_image : (a d : ℕ) → IsIn d (objects_of s a) → IsIn (f d) (objects_of s a)
  objects_image a d i = are_objects_of s a (f d) (of_type_image a d ∙ objects_are_of s a d i)

  pub range_image : (t : Term) (d : ℕ) → IsIn d (range_of s t) → IsIn (f d) (range_of s (renamed_term f t))
  range_image (Object e) d i = ⊎_elim (λ q. inl (ap f q)) (λ j. absurd j) i
  range_image (Parameter j) d i = absurd i
  range_image (Apply h ts) d i =
      elim (slice_get s.functions h) as (λ o. IsIn d (option_map_or (λ x. objects_of s x.result) o []) → IsIn (f d) (option_map_or (λ x. objects_of s x.result) o [])) [
        | None ↦ λ j. absurd j
        | Some x ↦ λ j. objects_image x.result d j
      ] i

  pub has_type_image : (t : Term) (a : ℕ) → has_type s (renamed_term f t) a ≡ has_type s t a
  has_type_image (Object d) a = ap (λ o. option_map_or (λ own. fits_type s own a) o false) (renaming.types d)
  has_type_image (Parameter i) a = refl
  has_type_image (Apply h ts) a = refl

-- ---- arguments put into a text that is fixed

argument_in : (f : ℕ → ℕ) (given : List Inner) (i : ℕ) → i < length given → renamed_inner f (argument given i) ≡ argument (map (renamed_inner f) given) i
argument_in f [] i b = absurd (omega arith)
argument_in f (t ∷ given) zero b = refl
argument_in f (t ∷ given) (suc i) b = argument_in f given i (omega arith)

module _ (f : ℕ → ℕ) (n : ℕ) (given : List Inner) (enough : length given ≡ n) where
  pub argument_image : (i : ℕ) → i < n → renamed_inner f (argument given i) ≡ argument (map (renamed_inner f) given) i
  argument_image i b = argument_in f given i (subst (λ m. i < m) (sym enough) b)

  pub inner_at_image : (t : Inner) → IsFixedInner f n t → renamed_inner f (inner_at given t) ≡ inner_at (map (renamed_inner f) given) t
  inner_at_image (Object d) x = ap (λ e. let t : Inner = Object e in t) x
  inner_at_image (Parameter i) x = argument_image i x
  inner_at_image (Apply h ds) x = ap (λ es. let t : Inner = Apply h es in t) (all_fixed ds x)
    where
      all_fixed : (ds : List ℕ) → Each (λ d. f d ≡ d) ds → map f ds ≡ ds
      all_fixed [] x = refl
      all_fixed (d ∷ ds) x = λ i. x.0 i ∷ all_fixed ds x.1 i

  pub inners_at_image : (ts : List Inner) → Each (IsFixedInner f n) ts → map (renamed_inner f) (map (inner_at given) ts) ≡ map (inner_at (map (renamed_inner f) given)) ts
  inners_at_image ts x = maps_through (IsFixedInner f n) (inner_at given) (renamed_inner f) (inner_at (map (renamed_inner f) given)) inner_at_image ts x

  pub term_at_image : (t : Term) → IsFixedTerm f n t → renamed_term f (term_at given t) ≡ term_at (map (renamed_inner f) given) t
  term_at_image (Object d) x = ap (λ e. let t : Term = Object e in t) x
  term_at_image (Parameter i) x = image_term_of f (argument given i) ∙ ap term_of (argument_image i x)
  term_at_image (Apply h ts) x = ap (λ us. let t : Term = Apply h us in t) (inners_at_image ts x)

  pub terms_at_image : (ts : List Term) → Each (IsFixedTerm f n) ts → map (renamed_term f) (map (term_at given) ts) ≡ map (term_at (map (renamed_inner f) given)) ts
  terms_at_image ts x = maps_through (IsFixedTerm f n) (term_at given) (renamed_term f) (term_at (map (renamed_inner f) given)) term_at_image ts x

  pub literal_at_image : (l : Literal) → IsFixedLiteral f n l → renamed_literal f (literal_at given l) ≡ literal_at (map (renamed_inner f) given) l
  unfolding literal_at
  literal_at_image l x = image_literal f l.relation (map (term_at given) l.arguments) l.positive ∙ ap (λ ts. literal l.relation ts l.positive) (terms_at_image l.arguments x)

  pub conj_at_image : (c : List Literal) → IsFixedConj f n c → renamed_conj f (conj_at given c) ≡ conj_at (map (renamed_inner f) given) c
  conj_at_image c x =
      set_mapped literal_cmp_total literal_cmp_tells (renamed_literal f) (map (literal_at given) c)
      ∙ ap (set_of literal_cmp) (maps_through (IsFixedLiteral f n) (literal_at given) (renamed_literal f) (literal_at (map (renamed_inner f) given)) literal_at_image c x)

  pub atom_at_image : (a : Atom) → Each (IsFixedTerm f n) a.arguments → renamed_atom f (atom_at given a) ≡ atom_at (map (renamed_inner f) given) a
  atom_at_image a x = λ i. record { predicate = a.predicate; arguments = terms_at_image a.arguments x i }

  slot_at_image : (y : Option Term) → IsFixedSlot f n y → option_map (renamed_term f) (option_map (term_at given) y) ≡ option_map (term_at (map (renamed_inner f) given)) y
  slot_at_image None x = refl
  slot_at_image (Some t) x = ap Some (term_at_image t x)

  pub pattern_at_image : (y : Pattern) → IsFixedPattern f n y → renamed_pattern f (pattern_at given y) ≡ pattern_at (map (renamed_inner f) given) y
  pattern_at_image y x = λ i. record {
    predicate = y.predicate;
    slots = maps_through (IsFixedSlot f n) (option_map (term_at given)) (option_map (renamed_term f)) (option_map (term_at (map (renamed_inner f) given))) slot_at_image y.slots x i;
  }

  pub plain_at_image : (y : Plain) → IsFixedPlain f n y → renamed_plain f (plain_at given y) ≡ plain_at (map (renamed_inner f) given) y
  plain_at_image (Know l) x = ap (λ m. Know m) (literal_at_image l x)
  plain_at_image (KnowWhether c) x = ap (λ k. KnowWhether k) (conj_at_image c x)
  plain_at_image (KnowValue t) x = ap (λ u. KnowValue u) (term_at_image t x)

  pub query_at_image : (q : Query) → IsFixedPlain f n q.asks → renamed_query f (query_at given q) ≡ query_at (map (renamed_inner f) given) q
  query_at_image q x = λ i. record { asks = plain_at_image q.asks x i; denied = q.denied }

  pub target_at_image : (y : Target) → IsFixedTarget f n y → renamed_target f (target_at given y) ≡ target_at (map (renamed_inner f) given) y
  target_at_image (Set a) x = ap (λ b. Set b) (atom_at_image a x)
  target_at_image (Unset a) x = ap (λ b. Unset b) (atom_at_image a x)
  target_at_image (Clear y) x = ap (λ z. Clear z) (pattern_at_image y x)
  target_at_image (Assign h ts value) x = λ i. Assign h (inners_at_image ts x.0 i) (term_at_image value x.1 i)

  pub effect_at_image : (e : Effect) → IsFixedEffect f n e → renamed_effect f (effect_at given e) ≡ effect_at (map (renamed_inner f) given) e
  effect_at_image e x = λ i. record { condition = conj_at_image e.condition x.0 i; target = target_at_image e.target x.1 i }

  pub effects_at_image : (es : List Effect) → Each (IsFixedEffect f n) es → map (renamed_effect f) (map (effect_at given) es) ≡ map (effect_at (map (renamed_inner f) given)) es
  effects_at_image es x = maps_through (IsFixedEffect f n) (effect_at given) (renamed_effect f) (effect_at (map (renamed_inner f) given)) effect_at_image es x

-- ---- fixed there and back

module _ (f g : ℕ → ℕ) (back : (d : ℕ) → g (f d) ≡ d) (n : ℕ) where
  object_turned : (d : ℕ) → f d ≡ d → g d ≡ d
  object_turned d e = ap g (sym e) ∙ back d

  inner_turned : (t : Inner) → IsFixedInner f n t → IsFixedInner g n t
  inner_turned (Object d) x = object_turned d x
  inner_turned (Parameter i) x = x
  inner_turned (Apply h ds) x = each_weaker (λ d. f d ≡ d) (λ d. g d ≡ d) object_turned ds x

  term_turned : (t : Term) → IsFixedTerm f n t → IsFixedTerm g n t
  term_turned (Object d) x = object_turned d x
  term_turned (Parameter i) x = x
  term_turned (Apply h ts) x = each_weaker (IsFixedInner f n) (IsFixedInner g n) inner_turned ts x

  terms_turned : (ts : List Term) → Each (IsFixedTerm f n) ts → Each (IsFixedTerm g n) ts
  terms_turned ts x = each_weaker (IsFixedTerm f n) (IsFixedTerm g n) term_turned ts x

  conj_turned : (c : List Literal) → IsFixedConj f n c → IsFixedConj g n c
  conj_turned c x = each_weaker (IsFixedLiteral f n) (IsFixedLiteral g n) (λ l y. terms_turned l.arguments y) c x

  pattern_turned : (y : Pattern) → IsFixedPattern f n y → IsFixedPattern g n y
  pattern_turned y x = each_weaker (IsFixedSlot f n) (IsFixedSlot g n) slot_turned y.slots x
    where
      slot_turned : (y : Option Term) → IsFixedSlot f n y → IsFixedSlot g n y
      slot_turned None x = x
      slot_turned (Some t) x = term_turned t x

  queries_turned : (qs : List Query) → AreFixedQueries f n qs → AreFixedQueries g n qs
  queries_turned qs x = each_weaker (λ q. IsFixedPlain f n q.asks) (λ q. IsFixedPlain g n q.asks) (λ q y. plain_turned q.asks y) qs x
    where
      plain_turned : (y : Plain) → IsFixedPlain f n y → IsFixedPlain g n y
      plain_turned (Know l) x = terms_turned l.arguments x
      plain_turned (KnowWhether c) x = conj_turned c x
      plain_turned (KnowValue t) x = term_turned t x

  target_turned : (y : Target) → IsFixedTarget f n y → IsFixedTarget g n y
  target_turned (Set a) x = terms_turned a.arguments x
  target_turned (Unset a) x = terms_turned a.arguments x
  target_turned (Clear y) x = pattern_turned y x
  target_turned (Assign h ts value) x = (each_weaker (IsFixedInner f n) (IsFixedInner g n) inner_turned ts x.0, term_turned value x.1)

  item_turned : (y : Item) → IsFixedItem f n y → IsFixedItem g n y
  item_turned (ItemKf l) x = terms_turned l.arguments x
  item_turned (ItemKw c) x = conj_turned c x
  item_turned (ItemKv t) x = term_turned t x
  item_turned (ItemLcw y) x = pattern_turned y x

-- what is fixed by a renaming is fixed by the one that takes it back
pub fixed_turned : (s : Signature) (f g : ℕ → ℕ) → IsRenaming s f g → (sc : Rattle.pks_terms.specs.Actions.Schema) → IsFixedSchema f sc → IsFixedSchema g sc
fixed_turned s f g renaming sc x =
    let n = length sc.parameters in
    record {
      pre = queries_turned f g renaming.back n sc.pre x.pre;
      effects =
          each_weaker (IsFixedEffect f n) (IsFixedEffect g n) (λ e y. (conj_turned f g renaming.back n e.condition y.0, target_turned f g renaming.back n e.target y.1)) sc.effects x.effects;
      adds =
          each_weaker (λ a. AreFixedQueries f n a.given × IsFixedItem f n a.item) (λ a. AreFixedQueries g n a.given × IsFixedItem g n a.item)
          (λ a y. (queries_turned f g renaming.back n a.given y.0, item_turned f g renaming.back n a.item y.1)) sc.adds x.adds;
    }
