-- Literals at objects, and what effects on them deny.
use Rattle.std.proofs.Common.{◌≡◌, ◌||◌, ◌==◌, ℕ, Bool, true, false, not, cond, is_some, List, [], ◌∷◌, map, filter, flat_map, Option, Some, None, refl, sym, ap, ◌∙◌, subst, ⊎_elim, true≢false, is_lt}
use Rattle.std.specs.List.{list_all}
use Rattle.std.proofs.lemmas.Bool.{or_cases, or_left, or_right, and_parts, and_from, cases_Bool, eq-eqb, eqb-true, not_from_false, false_from_ne_true, not-true}
use Rattle.pks_terms.specs.Sets.{IsIn, all_some, one_replaced}
use Rattle.pks_terms.specs.Syntax.{Object, Parameter, Apply, Inner, Term, object, term_of, place, as_object, are_two_objects, Relation, Named, Equality, Literal, Atom, negated}
use Rattle.pks_terms.specs.Orders.{term_cmp, term_eq, in_order, literal, equation, inequation}
use Rattle.pks_terms.specs.Signatures.{Signature}
use Rattle.pks_terms.specs.Databases.{Entry, normal, normal_literal, is_evident, is_plain, differ, some_differ, fits, is_shut_out}
use Rattle.pks_terms.specs.Closure.{term_steps, is_application, applications_in}
use Rattle.pks_terms.specs.Actions.{Target, Set, Unset, Clear, Assign}
use Rattle.pks_terms.specs.Spoiling.{may_make_true, may_make_false}
use Rattle.pks_terms.specs.Progress.{fixed_terms, entry_terms}
use Rattle.pks_terms.proofs.ListLaws.{each_front, each_back, in_mapped}
use Rattle.pks_terms.specs.Objects.{are_objects, is_named, is_of_objects, is_place}
use Rattle.pks_laws.proofs.Holding.{eqb_comm}
use Rattle.pks_laws_forget.specs.Transparent.{AreObjects, IsOfObjects, gives_value, IsOfPlace, left_of, Makes, is_about, at_other_objects, arguments_made, leaves}
use Rattle.pks_laws_forget.proofs.Lists.{not_twice}

pub objects_each : (ts : List Term) → are_objects ts ≡ true → AreObjects ts
objects_each [] h = tt
objects_each (t ∷ ts) h = let p = and_parts (is_some (as_object t)) _ h in (p.0, objects_each ts p.1)

pub objects_all : (ts : List Term) → AreObjects ts → are_objects ts ≡ true
objects_all [] a = refl
objects_all (t ∷ ts) a = and_from _ _ a.0 (objects_all ts a.1)

pub of_objects : (l : Literal) → is_of_objects l ≡ true → IsOfObjects l
of_objects l h = let p = and_parts (is_named l.relation) _ h in (p.0, objects_each l.arguments p.1)

pub of_objects_test : (l : Literal) → IsOfObjects l → is_of_objects l ≡ true
of_objects_test l o = and_from _ _ o.0 (objects_all l.arguments o.1)

-- ---- objects are in normal form

module _ (kf : List Literal) where
  pub objects_normal : (ts : List Term) → AreObjects ts → map (normal kf) ts ≡ ts
  unfolding normal
  objects_normal [] a = refl
  objects_normal (Object d ∷ ts) a = ap (λ us. Object d ∷ us) (objects_normal ts a.1)
  objects_normal (Parameter d ∷ ts) a = absurd (true≢false (sym a.0))
  objects_normal (Apply f us ∷ ts) a = absurd (true≢false (sym a.0))

  pub literal_normal : (l : Literal) → IsOfObjects l → normal_literal kf l ≡ l
  unfolding normal_literal literal
  literal_normal l o = go l.relation l.arguments l.positive o.0 o.1
    where
      go : (r : Relation) (ts : List Term) (b : Bool) → is_named r ≡ true → AreObjects ts → ◌≡◌ {A = Literal} (record { relation = r; arguments = in_order r (map (normal kf) ts); positive = b }) (record { relation = r; arguments = ts; positive = b })
      go (Named p) ts b h a = λ i. record { relation = Named p; arguments = objects_normal ts a i; positive = b }
      go Equality ts b h a = absurd (true≢false (sym h))

  -- nothing in them is replaced
  pub no_steps : (ts us : List Term) → AreObjects ts → IsIn us (one_replaced (term_steps kf) ts) → ⊥
  unfolding term_steps
  no_steps [] us a i = i
  no_steps (Object d ∷ ts) us a i = let r = in_mapped (λ ys. Object d ∷ ys) (one_replaced (term_steps kf) ts) us i in no_steps ts r.0 a.1 r.1
  no_steps (Parameter d ∷ ts) us a i = absurd (true≢false (sym a.0))
  no_steps (Apply f vs ∷ ts) us a i = absurd (true≢false (sym a.0))

pub no_applications : (ts : List Term) → AreObjects ts → flat_map applications_in ts ≡ []
no_applications [] a = refl
no_applications (Object d ∷ ts) a = no_applications ts a.1
no_applications (Parameter d ∷ ts) a = absurd (true≢false (sym a.0))
no_applications (Apply f us ∷ ts) a = absurd (true≢false (sym a.0))

-- ---- objects differ and fit by themselves

-- different objects differ
pub other_objects : (s : Signature) (kg : List Literal) (d e : ℕ) → (d == e) ≡ false → differ s kg (Object d) (Object e) ≡ true
unfolding differ is_plain literal normal
other_objects s kg d e h = or_right _ _ (go (is_lt (term_cmp (Object d) (Object e))))
  where
    go : (c : Bool) → is_evident s Equality (map (normal kg) (cond c (Object e ∷ Object d ∷ []) (Object d ∷ Object e ∷ []))) false ≡ true
    go true = not_from_false _ (eqb_comm e d ∙ h)
    go false = not_from_false _ h

-- lists with two different objects at some position differ
pub others_differ : (s : Signature) (kg : List Literal) (ts us : List Term) → at_other_objects ts us ≡ true → some_differ s kg ts us ≡ true
others_differ s kg (t ∷ ts) (u ∷ us) h = ⊎_elim (λ k. or_left _ _ (two t u k)) (λ k. or_right _ _ (others_differ s kg ts us k)) (or_cases (are_two_objects t u) _ h)
  where
    two : (t u : Term) → are_two_objects t u ≡ true → differ s kg t u ≡ true
    two (Object d) (Object e) k = other_objects s kg d e (not-true _ k)
    two (Object d) (Parameter e) k = absurd (true≢false (sym k))
    two (Object d) (Apply f vs) k = absurd (true≢false (sym k))
    two (Parameter d) u k = absurd (true≢false (sym k))
    two (Apply f vs) u k = absurd (true≢false (sym k))
others_differ s kg [] us h = absurd (true≢false (sym h))
others_differ s kg (t ∷ ts) [] h = absurd (true≢false (sym h))

module _ (s : Signature) (kf kg : List Literal) (unlike : (d : ℕ) → differ s kf (Object d) (Object d) ≡ true → ⊥) where
  objects_differ : (d e : ℕ) → differ s kf (Object d) (Object e) ≡ true → differ s kg (Object d) (Object e) ≡ true
  objects_differ d e h =
      ⊎_elim
      (λ q. absurd (unlike e (ap (λ x. differ s kf (Object x) (Object e)) (sym (eqb-true d e q)) ∙ h)))
      (other_objects s kg d e) (cases_Bool (d == e))

  some_objects_differ : (ts us : List Term) → AreObjects ts → AreObjects us → some_differ s kf ts us ≡ true → some_differ s kg ts us ≡ true
  some_objects_differ (Object d ∷ ts) (Object e ∷ us) a b h =
      ⊎_elim (λ k. or_left _ _ (objects_differ d e k)) (λ k. or_right _ _ (some_objects_differ ts us a.1 b.1 k)) (or_cases (differ s kf (Object d) (Object e)) _ h)
  some_objects_differ [] us a b h = absurd (true≢false (sym h))
  some_objects_differ (t ∷ ts) [] a b h = absurd (true≢false (sym h))
  some_objects_differ (Parameter d ∷ ts) (u ∷ us) a b h = absurd (true≢false (sym a.0))
  some_objects_differ (Apply f vs ∷ ts) (u ∷ us) a b h = absurd (true≢false (sym a.0))
  some_objects_differ (Object d ∷ ts) (Parameter e ∷ us) a b h = absurd (true≢false (sym b.0))
  some_objects_differ (Object d ∷ ts) (Apply f vs ∷ us) a b h = absurd (true≢false (sym b.0))

  objects_fit : (ss : List (Option Term)) (ts : List Term) → AreObjects (fixed_terms ss) → AreObjects ts → fits kf ss ts ≡ true → fits kg ss ts ≡ true
  unfolding normal
  objects_fit [] [] a b h = h
  objects_fit [] (t ∷ ts) a b h = h
  objects_fit (None ∷ ss) [] a b h = h
  objects_fit (None ∷ ss) (t ∷ ts) a b h = objects_fit ss ts a b.1 h
  objects_fit (Some u ∷ ss) [] a b h = h
  objects_fit (Some (Object d) ∷ ss) (Object e ∷ ts) a b h = let p = and_parts (term_eq (Object d) (Object e)) _ h in and_from _ _ p.0 (objects_fit ss ts a.1 b.1 p.1)
  objects_fit (Some (Parameter d) ∷ ss) (t ∷ ts) a b h = absurd (true≢false (sym a.0))
  objects_fit (Some (Apply f vs) ∷ ss) (t ∷ ts) a b h = absurd (true≢false (sym a.0))
  objects_fit (Some (Object d) ∷ ss) (Parameter e ∷ ts) a b h = absurd (true≢false (sym b.0))
  objects_fit (Some (Object d) ∷ ss) (Apply f vs ∷ ts) a b h = absurd (true≢false (sym b.0))

  -- so does a region at objects shut out
  pub objects_shut_out : (p : ℕ) (ts : List Term) (e : Entry) → AreObjects (entry_terms e) → AreObjects ts → is_shut_out s kf p ts e ≡ true → is_shut_out s kg p ts e ≡ true
  objects_shut_out p ts e a b h =
      let q = and_parts (e.pattern.predicate == p) _ h in
      let r = and_parts (fits kf e.pattern.slots ts) _ q.1 in
      and_from _ _ q.0 (and_from _ _ (objects_fit e.pattern.slots ts (each_front (λ t. is_some (as_object t) ≡ true) (fixed_terms e.pattern.slots) _ a) b r.0)
      (listed e.listed (each_back (λ t. is_some (as_object t) ≡ true) (fixed_terms e.pattern.slots) _ a) r.1))
    where
      listed : (xs : List Atom) → AreObjects (flat_map (λ (a : Atom). a.arguments) xs) → list_all (λ a. some_differ s kf a.arguments ts) xs ≡ true → list_all (λ a. some_differ s kg a.arguments ts) xs ≡ true
      listed [] c k = refl
      listed (x ∷ xs) c k =
          let q = and_parts (some_differ s kf x.arguments ts) _ k in
          and_from _ _ (some_objects_differ x.arguments ts (each_front (λ t. is_some (as_object t) ≡ true) x.arguments _ c) b q.0) (listed xs (each_back (λ t. is_some (as_object t) ≡ true) x.arguments _ c) q.1)

-- ---- what a target denies

-- the target may make the predicate at these arguments false, or true
abbrev pub denied_by : Signature → List Literal → Relation → List Term → Bool → Target → Bool
denied_by s kf (Named p) ts true x = may_make_false s kf p ts x
denied_by s kf (Named p) ts false x = may_make_true s kf p ts x
denied_by s kf Equality ts b x = false

-- the target makes only one literal
pub makes_one : (x : Target) (l m : Literal) → Makes x l → Makes x m → l ≡ m
makes_one (Set a) l m h k = sym h ∙ k
makes_one (Unset a) l m h k = sym h ∙ k
makes_one (Clear y) l m h k = absurd h
makes_one (Assign f ts v) l m h k = sym h ∙ k

pub makes_about : (x : Target) (l : Literal) → is_named l.relation ≡ true → Makes x l → is_about l.relation x ≡ true
unfolding literal
makes_about (Set a) l n h = subst (λ (m : Literal). is_about m.relation (Set a) ≡ true) h (eq-eqb a.predicate a.predicate refl)
makes_about (Unset a) l n h = subst (λ (m : Literal). is_about m.relation (Unset a) ≡ true) h (eq-eqb a.predicate a.predicate refl)
makes_about (Clear y) l n h = absurd h
makes_about (Assign f ts v) l n h = absurd (true≢false (sym n ∙ ap (λ (m : Literal). is_named m.relation) (sym h)))

module _ (s : Signature) (kf : List Literal) where
  -- terms of one normal form aren't apart
  pub none_apart : ((t u : Term) → normal kf t ≡ normal kf u → differ s kf t u ≡ true → ⊥) → (ts us : List Term) → map (normal kf) ts ≡ map (normal kf) us → some_differ s kf ts us ≡ false
  none_apart f [] us e = refl
  none_apart f (t ∷ ts) [] e = refl
  none_apart f (t ∷ ts) (u ∷ us) e =
      let head : normal kf t ≡ normal kf u = cc in
      let tail : map (normal kf) ts ≡ map (normal kf) us = cc in
      ap (λ b. b || some_differ s kf ts us) (false_from_ne_true _ (f t u head)) ∙ none_apart f ts us tail

  -- what makes the opposite so denies
  pub denies : ((t u : Term) → normal kf t ≡ normal kf u → differ s kf t u ≡ true → ⊥) → (x : Target) (l m : Literal) → is_named l.relation ≡ true → Makes x m → m.relation ≡ l.relation → map (normal kf) m.arguments ≡ map (normal kf) l.arguments → m.positive ≡ not l.positive
      → denied_by s kf l.relation l.arguments l.positive x ≡ true
  unfolding literal
  denies f (Set a) l m n h r e b =
      let rel : Named a.predicate ≡ l.relation = ap (λ (k : Literal). k.relation) h ∙ r in
      let same : map (normal kf) a.arguments ≡ map (normal kf) l.arguments = ap (λ (k : Literal). map (normal kf) k.arguments) h ∙ e in
      let sign : l.positive ≡ false = sym (not_twice l.positive) ∙ ap not (sym b ∙ sym (ap (λ (k : Literal). k.positive) h)) in
      (λ i. denied_by s kf (sym rel i) l.arguments (sign i) (Set a)) ∙ and_from _ _ (eq-eqb a.predicate a.predicate refl) (not_from_false _ (none_apart f a.arguments l.arguments same))
  denies f (Unset a) l m n h r e b =
      let rel : Named a.predicate ≡ l.relation = ap (λ (k : Literal). k.relation) h ∙ r in
      let same : map (normal kf) a.arguments ≡ map (normal kf) l.arguments = ap (λ (k : Literal). map (normal kf) k.arguments) h ∙ e in
      let sign : l.positive ≡ true = sym (not_twice l.positive) ∙ ap not (sym b ∙ sym (ap (λ (k : Literal). k.positive) h)) in
      (λ i. denied_by s kf (sym rel i) l.arguments (sign i) (Unset a)) ∙ and_from _ _ (eq-eqb a.predicate a.predicate refl) (not_from_false _ (none_apart f a.arguments l.arguments same))
  denies f (Clear y) l m n h r e b = absurd h
  denies f (Assign g ts v) l m n h r e b = absurd (true≢false (sym n ∙ ap is_named (sym r) ∙ ap (λ (m : Literal). is_named m.relation) (sym h)))

  -- what isn't about the predicate doesn't deny
  pub denies_about : (r : Relation) (ts : List Term) (b : Bool) (x : Target) → denied_by s kf r ts b x ≡ true → is_about r x ≡ true
  denies_about (Named p) ts true (Unset a) h = (and_parts (a.predicate == p) _ h).0
  denies_about (Named p) ts true (Clear y) h = (and_parts (y.predicate == p) _ h).0
  denies_about (Named p) ts true (Set a) h = absurd (true≢false (sym h))
  denies_about (Named p) ts true (Assign g us v) h = absurd (true≢false (sym h))
  denies_about (Named p) ts false (Set a) h = (and_parts (a.predicate == p) _ h).0
  denies_about (Named p) ts false (Unset a) h = absurd (true≢false (sym h))
  denies_about (Named p) ts false (Clear y) h = absurd (true≢false (sym h))
  denies_about (Named p) ts false (Assign g us v) h = absurd (true≢false (sym h))
  denies_about Equality ts b x h = absurd (true≢false (sym h))

-- what is at other objects is elsewhere
pub itself_not_elsewhere : (ts : List Term) → at_other_objects ts ts ≡ true → ⊥
itself_not_elsewhere (t ∷ ts) h = ⊎_elim (λ k. one t k) (λ k. itself_not_elsewhere ts k) (or_cases (are_two_objects t t) _ h)
  where
    one : (t : Term) → are_two_objects t t ≡ true → ⊥
    one (Object d) k = true≢false (sym k ∙ ap not (eq-eqb d d refl))
    one (Parameter d) k = true≢false (sym k)
    one (Apply f us) k = true≢false (sym k)
itself_not_elsewhere [] h = true≢false (sym h)

pub makes_arguments : (x : Target) (l : Literal) → is_named l.relation ≡ true → Makes x l → arguments_made x ≡ l.arguments
unfolding literal
makes_arguments (Set a) l n h = ap (λ (m : Literal). m.arguments) h
makes_arguments (Unset a) l n h = ap (λ (m : Literal). m.arguments) h
makes_arguments (Clear y) l n h = absurd h
makes_arguments (Assign f ts v) l n h = absurd (true≢false (sym n ∙ ap (λ (m : Literal). is_named m.relation) (sym h)))

-- what makes the literal so doesn't leave it
pub makes_no_leaving : (x : Target) (l : Literal) → is_named l.relation ≡ true → Makes x l → leaves l.relation l.arguments x ≡ true → ⊥
makes_no_leaving x l n h k =
    ⊎_elim (λ o. true≢false (sym (makes_about x l n h) ∙ not-true _ o)) (λ o. itself_not_elsewhere l.arguments (ap (λ ts. at_other_objects ts l.arguments) (sym (makes_arguments x l n h)) ∙ o)) (or_cases (not (is_about l.relation x)) _ k)

-- what leaves a literal doesn't deny it
pub leaving_no_denying : (s : Signature) (kf : List Literal) (r : Relation) (ts : List Term) (b : Bool) (x : Target) → leaves r ts x ≡ true → denied_by s kf r ts b x ≡ true → ⊥
leaving_no_denying s kf r ts b x h k =
    ⊎_elim (λ o. true≢false (sym (denies_about s kf r ts b x k) ∙ not-true _ o)) (λ o. apart r ts b x o k) (or_cases (not (is_about r x)) _ h)
  where
    differs : (us ts : List Term) → at_other_objects us ts ≡ true → not (some_differ s kf us ts) ≡ true → ⊥
    differs us ts o k = true≢false (sym (others_differ s kf us ts o) ∙ not-true _ k)

    apart : (r : Relation) (ts : List Term) (b : Bool) (x : Target) → at_other_objects (arguments_made x) ts ≡ true → denied_by s kf r ts b x ≡ true → ⊥
    apart (Named p) ts true (Unset a) o k = differs a.arguments ts o (and_parts (a.predicate == p) _ k).1
    apart (Named p) ts false (Set a) o k = differs a.arguments ts o (and_parts (a.predicate == p) _ k).1
    apart (Named p) ts true (Set a) o k = true≢false (sym k)
    apart (Named p) ts false (Unset a) o k = true≢false (sym k)
    apart (Named p) ts b (Clear y) o k = true≢false (sym o)
    apart (Named p) ts b (Assign f us v) o k = true≢false (sym o)
    apart Equality ts b x o k = true≢false (sym k)

-- ---- places

pub named_gives_none : (r : Relation) (ts : List Term) → is_named r ≡ true → gives_value r ts ≡ true → ⊥
named_gives_none (Named p) ts h k = true≢false (sym k)
named_gives_none Equality ts h k = true≢false (sym h)

pub named_order : (r : Relation) (ts : List Term) → is_named r ≡ true → in_order r ts ≡ ts
named_order (Named p) ts h = refl
named_order Equality ts h = absurd (true≢false (sym h))

-- of a place: the function, the objects and the object on the right
pub record OfPlace (l : Literal) : Type 0 where
  pub fun : ℕ
  pub arguments : List Inner
  pub value : ℕ
  pub at_objects : list_all (λ t. is_some (as_object t)) arguments ≡ true
  pub is : l ≡ record { relation = Equality; arguments = Apply fun arguments ∷ Object value ∷ []; positive = l.positive }

pub of_place : (l : Literal) → IsOfPlace l → OfPlace l
of_place l h = go l.relation l.arguments l.positive h
  where
    go : (r : Relation) (ts : List Term) (b : Bool) → gives_value r ts ≡ true → OfPlace (record { relation = r; arguments = ts; positive = b })
    go (Named p) ts b k = absurd (true≢false (sym k))
    go Equality (Apply f us ∷ Object e ∷ []) b k = record { fun = f; arguments = us; value = e; at_objects = (and_parts (list_all (λ t. is_some (as_object t)) us) _ k).0; is = refl }
    go Equality (Apply f us ∷ Parameter e ∷ []) b k = absurd (true≢false (sym (and_parts (list_all (λ t. is_some (as_object t)) us) _ k).1))
    go Equality (Apply f us ∷ Apply g vs ∷ []) b k = absurd (true≢false (sym (and_parts (list_all (λ t. is_some (as_object t)) us) _ k).1))
    go Equality (Object d ∷ u ∷ []) b k = absurd (true≢false (sym k))
    go Equality (Parameter d ∷ u ∷ []) b k = absurd (true≢false (sym k))
    go Equality [] b k = absurd (true≢false (sym k))
    go Equality (t ∷ []) b k = absurd (true≢false (sym k))
    go Equality (t ∷ u ∷ v ∷ ts) b k = absurd (true≢false (sym k))

-- the objects of a place
pub objects_of_place : (us : List Inner) → list_all (λ t. is_some (as_object t)) us ≡ true → (ds : List ℕ) × (all_some (map as_object us) ≡ Some ds)
objects_of_place [] h = ([], refl)
objects_of_place (Object d ∷ us) h = let r = objects_of_place us h in (d ∷ r.0, ap (λ o. elim o [ None ↦ None | Some ys ↦ Some (d ∷ ys) ]) r.1)
objects_of_place (Parameter d ∷ us) h = absurd (true≢false (sym h))
objects_of_place (Apply g vs ∷ us) h = absurd (true≢false (sym h))

-- no application stands among them
pub none_inside : (us : List Inner) → list_all (λ t. is_some (as_object t)) us ≡ true → filter is_application (map term_of us) ≡ []
none_inside [] h = refl
none_inside (Object d ∷ us) h = none_inside us h
none_inside (Parameter d ∷ us) h = absurd (true≢false (sym h))
none_inside (Apply g vs ∷ us) h = absurd (true≢false (sym h))

pub place_is : (f : ℕ) (ds : List ℕ) → is_place (place f ds) ≡ true
place_is f [] = refl
place_is f (d ∷ ds) = place_is f ds

-- a literal of a place that no literal gives a value is in normal form
module _ (kf : List Literal) (l : Literal) (q : OfPlace l) (bare : normal kf (Apply q.fun q.arguments) ≡ Apply q.fun q.arguments) where
  pub terms_of_place : map (normal kf) l.arguments ≡ l.arguments
  unfolding normal
  terms_of_place = ap (λ (x : Literal). map (normal kf) x.arguments) q.is ∙ (λ i. bare i ∷ Object q.value ∷ []) ∙ ap (λ (x : Literal). x.arguments) (sym q.is)

  pub literal_of_place : normal_literal kf l ≡ l
  unfolding normal_literal literal term_cmp
  literal_of_place = (λ i. literal l.relation (terms_of_place i) l.positive) ∙ (λ i. literal (q.is i).relation (q.is i).arguments l.positive) ∙ sym q.is

-- the negation is of the same place, and so is what says that the place isn't an object
abbrev pub negated_place : (l : Literal) → OfPlace l → OfPlace (negated l)
negated_place l q = record { fun = q.fun; arguments = q.arguments; value = q.value; at_objects = q.at_objects; is = ap negated q.is }

pub inequation_place : (f : ℕ) (us : List Inner) (e : ℕ) → list_all (λ t. is_some (as_object t)) us ≡ true → OfPlace (inequation (Apply f us) (object e))
unfolding literal term_cmp
inequation_place f us e o = record { fun = f; arguments = us; value = e; at_objects = o; is = refl }

pub inequation_left : (f : ℕ) (us : List Inner) (e : ℕ) → left_of (inequation (Apply f us) (object e)) ≡ Apply f us
unfolding literal term_cmp
inequation_left f us e = refl

-- an equation between an application and an object stands in order
pub equation_is : (f : ℕ) (us : List Inner) (e : ℕ) → equation (Apply f us) (object e) ≡ record { relation = Equality; arguments = Apply f us ∷ Object e ∷ []; positive = true }
unfolding literal term_cmp
equation_is f us e = refl
