-- What the moment before a transparent step may come to, where all that the moment after comes to is given.
use Rattle.std.proofs.Common.{◌≡◌, ◌&&◌, ◌||◌, ◌==◌, ◌++◌, ℕ, Bool, true, false, not, cond, is_lt, List, [], ◌∷◌, map, filter, option_and_then, Some, None, refl, sym, ap, ◌∙◌, ⊎_elim, true≢false}
use Rattle.std.specs.List.{list_any, list_all}
use Rattle.std.specs.Option.{option_map}
use Rattle.std.proofs.lemmas.Bool.{or_left, or_right, and_parts, and_from, not_from_false, false_from_ne_true, cond-true, eq-eqb}
use Rattle.std.proofs.lemmas.Option.{none-some}
use Rattle.pks_terms.specs.Sets.{Each, IsIn}
use Rattle.pks_terms.specs.Syntax.{Term, object, place, Relation, Named, Equality, Literal, negated}
use Rattle.pks_terms.specs.Orders.{term_cmp, term_eq, in_order, literal, number_of, arguments_of}
use Rattle.pks_terms.specs.Signatures.{Signature, HasValues}
use Rattle.pks_terms.specs.Databases.{Five, Told, value_if_at, told, values_at, least, normal, normal_literal, is_evident, is_plain, holds}
use Rattle.pks_terms.specs.Closure.{first_clash, applications_in}
use Rattle.pks_terms.specs.Actions.{Target, Set, Unset, Clear, Assign, Effect}
use Rattle.pks_terms.specs.Spoiling.{may_fire, may_change}
use Rattle.pks_terms.specs.Progress.{entry_terms}
use Rattle.pks_terms.specs.Saturated.{Within, IsSaturated}
use Rattle.pks_terms.proofs.ListLaws.{each_in, each_of, each_weaker, all_from_each, found_in, any_in, in_filter}
use Rattle.pks_terms.proofs.OrderLaws.{term_cmp_tells, same_term}
use Rattle.pks_terms.specs.Totality.{term_cmp_total}
use Rattle.pks_terms.specs.Objects.{is_named, is_of_objects}
use Rattle.pks_laws.proofs.Least.{in_left, in_right, in_filter_map, term_eq_itself}
use Rattle.pks_laws.proofs.Holding.{eqb_comm, same_objects_itself}
use Rattle.pks_laws.proofs.NormalMembers.{eq_turned}
use Rattle.pks_laws_forget.specs.Transparent.{AreObjects, gives_value, is_about, assigns_in, IsDecided, AreUnassigned, IsUntouched, IsKept, LastsAsGroup}
use Rattle.pks_laws_forget.proofs.Agreeing.{objects_all}
use Rattle.pks_laws_forget.proofs.Objects.{of_objects_test, literal_normal, denied_by, denies_about}

pub same_predicate : (p q : ℕ) → Named p ≡ Named q → p ≡ q
same_predicate p q e = cc

-- a step, all that is known after it in the end, and a moment before it
pub record IsGiven (s : Signature) (before after later moment : Five) (es : List Effect) : Type 0 where
  pub inhabited : HasValues s
  pub first_saturated : IsSaturated s before
  pub first_fine : first_clash s before ≡ None
  pub saturated : IsSaturated s later
  pub fine : first_clash s later ≡ None
  pub grown : Within after.kf later.kf
  pub decided : Each (IsDecided before after) es
  pub kept : Each (IsKept before after es) before.kf
  pub lasting : Each (LastsAsGroup before after es) before.kx
  pub objects : Each (λ r. AreObjects (entry_terms r)) before.lcw
  pub own_groups : Within moment.kx before.kx
  pub own_regions : Within moment.lcw before.lcw
  pub groups : (g : List Literal) → IsIn g before.kx → IsIn g after.kx → IsIn g later.kx
  pub regions : Within before.lcw later.lcw

-- ---- what is known before, where so much is known later: what was known of objects, and what comes back

-- an effect may change the application
abbrev pub changed_in : Signature → Five → Five → List Effect → Term → Bool
changed_in s before later es u = list_any (λ e. may_fire s before e && may_change s later.kf (number_of u) (arguments_of u) e.target) es

-- no application in the term may be changed
abbrev pub stays_in : Signature → Five → Five → List Effect → Term → Bool
stays_in s before later es t = list_all (λ u. not (changed_in s before later es u)) (applications_in t)

-- an effect may make the predicate false at these arguments, or true
abbrev pub touched_in : Signature → Five → Five → List Effect → Relation → List Term → Bool → Bool
touched_in s before later es r ts b = list_any (λ e. may_fire s before e && denied_by s later.kf r ts b e.target) es

-- the negation isn't spoiled
abbrev pub returns_in : Signature → Five → Five → List Effect → Literal → Bool
returns_in s before later es l = list_all (stays_in s before later es) l.arguments && not (touched_in s before later es l.relation l.arguments (not l.positive))

-- in normal form of a predicate at objects, or of the value of a place
abbrev pub is_own : List Literal → Literal → Bool
is_own kf l = is_of_objects (normal_literal kf l) || gives_value l.relation l.arguments

abbrev pub known_then : Signature → Five → Five → List Effect → List Literal
known_then s before later es = filter (is_own before.kf) before.kf ++ filter (returns_in s before later es) later.kf

-- in terms in which no function is assigned nothing is changed
pub unassigned_stay : (s : Signature) (before later : Five) (es : List Effect) (ts : List Term) → AreUnassigned es ts → list_all (stays_in s before later es) ts ≡ true
unassigned_stay s before later es ts u =
    all_from_each (stays_in s before later es) ts (each_of (λ t. stays_in s before later es t ≡ true) ts
    (λ t i. all_from_each (λ w. not (changed_in s before later es w)) (applications_in t) (each_of (λ w. not (changed_in s before later es w) ≡ true) (applications_in t)
    (λ w j. not_from_false _ (false_from_ne_true _ (λ c.
    let f = found_in (λ e. may_fire s before e && may_change s later.kf (number_of w) (arguments_of w) e.target) es c in
    let h = assigned f.0.target t w j (and_parts (may_fire s before f.0) _ f.2).1 in
    true≢false (sym (any_in (λ t. assigns_in t f.0.target) ts t i h) ∙ each_in (λ e. list_any (λ t. assigns_in t e.target) ts ≡ false) es f.0 u f.1)))))))
  where
    assigned : (x : Target) (t w : Term) → IsIn w (applications_in t) → may_change s later.kf (number_of w) (arguments_of w) x ≡ true → assigns_in t x ≡ true
    assigned (Assign f us v) t w j h = any_in (λ u. f == number_of u) (applications_in t) w j (and_parts (f == number_of w) _ h).0
    assigned (Set a) t w j h = absurd (true≢false (sym h))
    assigned (Unset a) t w j h = absurd (true≢false (sym h))
    assigned (Clear x) t w j h = absurd (true≢false (sym h))

-- what is untouched comes back
pub untouched_returns : (s : Signature) (before later : Five) (es : List Effect) (l : Literal) → IsUntouched es l → returns_in s before later es l ≡ true
untouched_returns s before later es l u =
    and_from _ _
    (unassigned_stay s before later es l.arguments (each_weaker (λ e. (is_about l.relation e.target ≡ false) × (list_any (λ t. assigns_in t e.target) l.arguments ≡ false)) (λ e. list_any (λ t. assigns_in t e.target) l.arguments ≡ false) (λ e k. k.1) es u))
    (not_from_false _ (false_from_ne_true _ (λ t.
    let f = found_in (λ e. may_fire s before e && denied_by s later.kf l.relation l.arguments (not l.positive) e.target) es t in
    true≢false (sym (denies_about s later.kf l.relation l.arguments (not l.positive) f.0.target (and_parts (may_fire s before f.0) _ f.2).1) ∙ (each_in (λ e. (is_about l.relation e.target ≡ false) × (list_any (λ t. assigns_in t e.target) l.arguments ≡ false)) es f.0 u f.1).0))))

-- all that was known before is known then
pub first_known : (s : Signature) (before after later : Five) (es : List Effect) → Each (IsKept before after es) before.kf → Within after.kf later.kf → Within before.kf (known_then s before later es)
first_known s before after later es kept grown l i =
    ⊎_elim
    (λ o. in_left (filter (is_own before.kf) before.kf) (filter (returns_in s before later es) later.kf) l (in_filter (is_own before.kf) before.kf l i (or_left _ _ (ap is_of_objects (literal_normal before.kf l o.0) ∙ of_objects_test l o.0))))
    (λ r. ⊎_elim
    (λ o. in_left (filter (is_own before.kf) before.kf) (filter (returns_in s before later es) later.kf) l (in_filter (is_own before.kf) before.kf l i (or_right _ _ o.0)))
    (λ q. ⊎_elim
    (λ u. in_right (filter (is_own before.kf) before.kf) (filter (returns_in s before later es) later.kf) l (in_filter (returns_in s before later es) later.kf l (grown l u.1) (untouched_returns s before later es l u.0)))
    (λ c. in_left (filter (is_own before.kf) before.kf) (filter (returns_in s before later es) later.kf) l (in_filter (is_own before.kf) before.kf l i (or_left _ _ (of_objects_test (normal_literal before.kf l) c.0)))) q) r)
    (each_in (IsKept before after es) before.kf l kept i)

-- a literal that gives a value
pub value_from : (kf : List Literal) (f : ℕ) (ds : List ℕ) (e : ℕ) → IsIn (record { relation = Equality; arguments = place f ds ∷ object e ∷ []; positive = true }) kf → IsIn e (values_at kf f ds)
unfolding values_at told
value_from kf f ds e i =
    in_filter_map (λ (l : Literal). option_and_then (value_if_at f ds) (told l.relation l.arguments l.positive)) kf (record { relation = Equality; arguments = place f ds ∷ object e ∷ []; positive = true }) e i
    (ap (λ o. option_and_then (value_if_at f ds) (option_map (λ es. let r : Told = (f, es, e) in r) o)) (objects_all ds) ∙ cond-true _ (Some e) None (and_from _ _ (eq-eqb f f refl) (same_objects_itself ds ds refl)))

pub none_least : (es : List ℕ) (e : ℕ) → IsIn e es → least es ≡ None → ⊥
none_least [] e i q = i
none_least (x ∷ xs) e i q = none-some _ (sym q)

pub literal_kind : (r : Relation) (ts : List Term) (b : Bool) → is_named (literal r ts b).relation ≡ is_named r
unfolding literal
literal_kind r ts b = refl

pub literal_arguments : (r : Relation) (ts : List Term) (b : Bool) → (literal r ts b).arguments ≡ in_order r ts
unfolding literal
literal_arguments r ts b = refl

pub literal_named : (p : ℕ) (ts : List Term) (b : Bool) → literal (Named p) ts b ≡ record { relation = Named p; arguments = ts; positive = b }
unfolding literal
literal_named p ts b = refl

pub literal_sign : (r : Relation) (ts : List Term) (b : Bool) → (literal r ts b).positive ≡ b
unfolding literal
literal_sign r ts b = refl

pub literal_negated : (r : Relation) (ts : List Term) (b : Bool) → negated (literal r ts b) ≡ literal r ts (not b)
unfolding literal
literal_negated r ts b = refl

-- ---- equality of two objects

-- the sides are the same
abbrev pub are_same : List Term → Bool
are_same [] = true
are_same (t ∷ ts) = elim ts [ [] ↦ true | u ∷ us ↦ term_eq t u ]

pub same_in_order : (t u : Term) → are_same (in_order Equality (t ∷ u ∷ [])) ≡ term_eq t u
unfolding term_eq
same_in_order t u =
    elim (is_lt (term_cmp t u)) as (λ c. are_same (cond c (u ∷ t ∷ []) (t ∷ u ∷ [])) ≡ term_eq t u) [ true ↦ eq_turned term_cmp term_cmp_total term_cmp_tells u t | false ↦ refl ]

pub object_eq : (d e : ℕ) → term_eq (object d) (object e) ≡ true → d ≡ e
object_eq d e h = let q : object d ≡ object e = same_term (object d) (object e) h in cc

-- of two objects, that they are one, or that they aren't, is said rightly
abbrev pub IsRight : ℕ → ℕ → Bool → Type 0
IsRight d e true = d ≡ e
IsRight d e false = (d == e) ≡ false

module _ (s : Signature) (d : Five) where
  objects_evident : (c : Bool) (a e : ℕ) (b : Bool) → IsRight a e b → is_evident s Equality (map (normal d.kf) (cond c (object e ∷ object a ∷ []) (object a ∷ object e ∷ []))) b ≡ true
  unfolding normal
  objects_evident true a e true h = term_eq_itself (object e) (object a) (ap object (sym h))
  objects_evident false a e true h = term_eq_itself (object a) (object e) (ap object h)
  objects_evident true a e false h = not_from_false _ (eqb_comm e a ∙ h)
  objects_evident false a e false h = not_from_false _ h

  pub right_holds : (a e : ℕ) (b : Bool) → IsRight a e b → holds s d (literal Equality (object a ∷ object e ∷ []) b) ≡ true
  unfolding holds is_plain literal
  right_holds a e b h = or_left _ _ (or_right _ _ (objects_evident (is_lt (term_cmp (object a) (object e))) a e b h))

-- it isn't evident that it is otherwise
pub wrong_not_evident : (s : Signature) (a e : ℕ) (b : Bool) → IsRight a e b → is_evident s Equality (object a ∷ object e ∷ []) (not b) ≡ true → ⊥
wrong_not_evident s a e true h k = true≢false (sym k ∙ ap not (eq-eqb a e h))
wrong_not_evident s a e false h k = true≢false (sym (eq-eqb a e (object_eq a e k)) ∙ h)

pub right_wrong : (a e c g : ℕ) (b : Bool) → IsRight a e b → IsRight c g (not b) → literal Equality (object a ∷ object e ∷ []) b ≡ literal Equality (object c ∷ object g ∷ []) b → ⊥
unfolding literal
right_wrong a e c g true h k q =
    let same : term_eq (object a) (object e) ≡ term_eq (object c) (object g) = sym (same_in_order (object a) (object e)) ∙ ap (λ (l : Literal). are_same l.arguments) q ∙ same_in_order (object c) (object g) in
    true≢false (sym (eq-eqb c g (object_eq c g (sym same ∙ term_eq_itself (object a) (object e) (ap object h)))) ∙ k)
right_wrong a e c g false h k q =
    let same : term_eq (object a) (object e) ≡ term_eq (object c) (object g) = sym (same_in_order (object a) (object e)) ∙ ap (λ (l : Literal). are_same l.arguments) q ∙ same_in_order (object c) (object g) in
    true≢false (sym (eq-eqb a e (object_eq a e (same ∙ term_eq_itself (object c) (object g) (ap object k)))) ∙ h)
