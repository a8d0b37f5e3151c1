-- Steps of a history that hide nothing: what is learnt after such a step comes back through it only as a copy.
use Rattle.std.specs.Prelude.{true, false, ◌≡◌, ◌⊎◌, ◌==◌, ◌&&◌, ◌||◌, not, Bool, is_some, List, [], ◌∷◌, map}
use Rattle.std.specs.List.{list_any, flat_map}
use Rattle.pks_terms.specs.Sets.{Each, IsIn}
use Rattle.pks_terms.specs.Syntax.{Apply, Term, object, term_of, as_object, are_two_objects, Relation, Named, Equality, Literal, negated, affirmed, denied}
use Rattle.pks_terms.specs.Objects.{is_named, is_place}
use Rattle.pks_terms.specs.Orders.{equation, number_of}
use Rattle.pks_terms.specs.Databases.{Five, AreSets, inner_normal, normal, normal_literal}
use Rattle.pks_terms.specs.Closure.{applications_in, normal_atom}
use Rattle.pks_terms.specs.Actions.{Target, Set, Unset, Clear, Assign, Effect, Instance}
use Rattle.pks_terms.specs.Progress.{entry_terms}
use Rattle.pks_terms.specs.Problems.{Problem}
use Rattle.pks_terms.specs.Settling.{History, effects_of}

-- ---- literals that speak of objects alone

-- each of the terms is an object
abbrev pub AreObjects : List Term → Type 0
AreObjects ts = Each (λ t. is_some (as_object t) ≡ true) ts

-- a predicate at objects
abbrev pub IsOfObjects : Literal → Type 0
IsOfObjects l = (is_named l.relation ≡ true) × AreObjects l.arguments

-- equality between a place and an object
abbrev pub gives_value : Relation → List Term → Bool
gives_value Equality (t ∷ u ∷ []) = is_place t && is_some (as_object u)
gives_value r ts = false

-- of a place: that an object is its value, or that it isn't
abbrev pub IsOfPlace : Literal → Type 0
IsOfPlace l = gives_value l.relation l.arguments ≡ true

-- the left side
abbrev pub left_of : Literal → Term
left_of l = elim l.arguments [ [] ↦ object 0 | t ∷ ts ↦ t ]

-- ---- effects with their targets in normal form

-- the target, its arguments and what it assigns in normal form
abbrev pub normal_target : List Literal → Target → Target
normal_target kf (Set a) = Set (normal_atom kf a)
normal_target kf (Unset a) = Unset (normal_atom kf a)
normal_target kf (Clear x) = Clear x
normal_target kf (Assign f ts value) = Assign f (map (inner_normal kf) ts) (normal kf value)

-- the effect with its target so
abbrev pub with_normal : List Literal → Effect → Effect
with_normal kf e = record e { target = normal_target kf e.target }

-- the effects of an instance, their targets in normal form by the databases before
abbrev pub effects_by : Problem → Five → Instance → List Effect
effects_by p before i = map (with_normal before.kf) (effects_of p i)

-- ---- what effects do

-- the target makes the literal so
abbrev pub Makes : Target → Literal → Type 0
Makes (Set a) l = affirmed a ≡ l
Makes (Unset a) l = denied a ≡ l
Makes (Assign f ts value) l = equation (Apply f ts) value ≡ l
Makes (Clear x) l = ⊥

-- the target is of this predicate
abbrev pub is_about : Relation → Target → Bool
is_about (Named p) (Set a) = a.predicate == p
is_about (Named p) (Unset a) = a.predicate == p
is_about (Named p) (Clear x) = x.predicate == p
is_about (Named p) (Assign f ts value) = false
is_about Equality x = false

-- the target assigns a function that occurs in the term
abbrev pub assigns_in : Term → Target → Bool
assigns_in t (Assign f ts value) = list_any (λ u. f == number_of u) (applications_in t)
assigns_in t (Set a) = false
assigns_in t (Unset a) = false
assigns_in t (Clear x) = false

-- at some position the lists have two different objects
abbrev pub at_other_objects : List Term → List Term → Bool
at_other_objects (t ∷ ts) (u ∷ us) = are_two_objects t u || at_other_objects ts us
at_other_objects ts us = false

-- the target assigns another place
abbrev pub is_elsewhere : Term → Target → Bool
is_elsewhere (Apply g us) (Assign f ts value) = not (f == g) || at_other_objects (map term_of ts) (map term_of us)
is_elsewhere t x = true

-- the arguments of the atom that the target makes true or false
abbrev pub arguments_made : Target → List Term
arguments_made (Set a) = a.arguments
arguments_made (Unset a) = a.arguments
arguments_made (Clear x) = []
arguments_made (Assign f ts value) = []

-- the target is of another predicate, or makes an atom at other objects true or false
abbrev pub leaves : Relation → List Term → Target → Bool
leaves r ts x = not (is_about r x) || at_other_objects (arguments_made x) ts

-- the target assigns the place
abbrev pub Assigns : Target → Term → Type 0
Assigns (Assign f ts value) t = Apply f ts ≡ t
Assigns (Set a) t = ⊥
Assigns (Unset a) t = ⊥
Assigns (Clear x) t = ⊥

-- each condition of the effect is a known literal
abbrev pub SurelyFires : Five → Effect → Type 0
SurelyFires d e = Each (λ c. IsIn c d.kf) e.condition

-- the negation of a condition is a known literal
abbrev pub NeverFires : Five → Effect → Type 0
NeverFires d e = (c : Literal) × IsIn c e.condition × IsIn (negated c) d.kf

-- the effect makes a predicate at objects true or false, or gives a place an object. It surely fires, and what it makes so is known after; or it is of a predicate and surely doesn't fire
pub record IsDecided (before after : Five) (e : Effect) : Type 0 where
  pub made : Literal
  pub makes : Makes e.target made
  pub objects : IsOfObjects made ⊎ IsOfPlace made
  pub known : (SurelyFires before e × IsIn made after.kf) ⊎ (NeverFires before e × IsOfObjects made)

-- no effect assigns a function that occurs in the terms
abbrev pub AreUnassigned : List Effect → List Term → Type 0
AreUnassigned es ts = Each (λ e. list_any (λ t. assigns_in t e.target) ts ≡ false) es

-- an effect as it is written: it surely doesn't fire; or what it makes so is known after as it is written, and gives a place an object or is of a predicate, and no function that occurs in it is assigned
abbrev pub IsReadAlike : Five → Five → List Effect → Effect → Type 0
IsReadAlike before after es e =
    NeverFires before e ⊎ ((l : Literal) × Makes e.target l × IsIn l after.kf × (IsOfPlace l ⊎ ((is_named l.relation ≡ true) × AreUnassigned es l.arguments)))

-- an effect that surely fires makes the literal true or false
pub record IsWritten (before : Five) (es : List Effect) (l : Literal) : Type 0 where
  pub effect : Effect
  pub among : IsIn effect es
  pub fires : SurelyFires before effect
  pub makes : Makes effect.target l ⊎ Makes effect.target (negated l)

-- an effect that surely fires assigns the place
pub record IsAssigned (before : Five) (es : List Effect) (t : Term) : Type 0 where
  pub effect : Effect
  pub among : IsIn effect es
  pub fires : SurelyFires before effect
  pub assigns : Assigns effect.target t

-- ---- what was known before

-- no effect is of its predicate or assigns a function that occurs in it
abbrev pub IsUntouched : List Effect → Literal → Type 0
IsUntouched es l = Each (λ e. (is_about l.relation e.target ≡ false) × (list_any (λ t. assigns_in t e.target) l.arguments ≡ false)) es

-- a predicate at objects: written, or known after
abbrev pub IsKeptAtom : Five → Five → List Effect → Literal → Type 0
IsKeptAtom before after es l = IsOfObjects l × (IsIn l after.kf ⊎ IsWritten before es l)

-- of a place: assigned, or known after and other places alone are assigned
abbrev pub IsKeptValue : Five → Five → List Effect → Literal → Type 0
IsKeptValue before after es l = IsOfPlace l × (IsAssigned before es (left_of l) ⊎ (IsIn l after.kf × Each (λ e. is_elsewhere (left_of l) e.target ≡ true) es))

-- a place in the literal is assigned
abbrev pub IsMoved : Five → List Effect → Literal → Type 0
IsMoved before es l = (t : Term) × IsIn t (flat_map applications_in l.arguments) × IsAssigned before es t

-- in normal form a predicate at objects: known after as it is written, or a place in it is assigned
abbrev pub IsKeptCopy : Five → Five → List Effect → Literal → Type 0
IsKeptCopy before after es l = IsOfObjects (normal_literal before.kf l) × (IsIn l after.kf ⊎ IsMoved before es l)

-- one of these, or untouched and known after
abbrev pub IsKept : Five → Five → List Effect → Literal → Type 0
IsKept before after es l = IsKeptAtom before after es l ⊎ (IsKeptValue before after es l ⊎ ((IsUntouched es l × IsIn l after.kf) ⊎ IsKeptCopy before after es l))

-- each effect leaves the literal as it is: it is of another predicate, or at other objects
abbrev pub IsLeft : List Effect → Literal → Type 0
IsLeft es l = Each (λ e. leaves l.relation l.arguments e.target ≡ true) es

-- the group speaks of objects. It stands after and each of its members is left as it is; or of each of them it is known whether it is true
abbrev pub LastsAsGroup : Five → Five → List Effect → List Literal → Type 0
LastsAsGroup before after es g =
    Each IsOfObjects g × ((IsIn g after.kx × Each (IsLeft es) g) ⊎ Each (λ m. IsIn m before.kf ⊎ IsIn (negated m) before.kf) g)

-- the step hides nothing: each effect is decided, its target in normal form by the databases before, and read alike as it is written; and each literal, group and region before lasts or is surely changed
pub record IsTransparent (p : Problem) (before : Five) (i : Instance) (after : Five) : Type 0 where
  pub effects : Each (IsDecided before after) (effects_by p before i)
  pub written : Each (IsReadAlike before after (effects_by p before i)) (effects_of p i)
  pub literals : Each (IsKept before after (effects_by p before i)) before.kf
  pub groups : Each (LastsAsGroup before after (effects_by p before i)) before.kx
  pub regions : Each (λ r. AreObjects (entry_terms r) × IsIn r after.lcw) before.lcw

-- ---- histories

-- each set of each moment is in order
pub record AreSetsAlong (h : History) : Type 0 where
  pub start : AreSets h.start
  pub steps : Each (λ step. AreSets step.1) h.steps

-- the history with one more moment before its first
abbrev pub with_first : Five → Instance → History → History
with_first before i h = record { start = before; steps = (i, h.start) ∷ h.steps }
