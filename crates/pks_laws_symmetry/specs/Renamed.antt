-- Renamings of objects, and databases and histories that are each other's images by them.
use Rattle.std.specs.Prelude.{ℕ, true, ◌≡◌, ◌⊎◌, List, [], ◌∷◌, map, slice_get, option_map}
use Rattle.pks_terms.specs.Sets.{IsIn, set_of}
use Rattle.pks_terms.specs.Syntax.{Form, Object, Parameter, Apply, Inner, Term, Literal, Atom, Pattern}
use Rattle.pks_terms.specs.Orders.{literal_cmp, atom_cmp, literal}
use Rattle.pks_terms.specs.Signatures.{Signature}
use Rattle.pks_terms.specs.Databases.{Entry, Five}
use Rattle.pks_terms.specs.Closure.{in_sequence}
use Rattle.pks_terms.specs.Queries.{Plain, Know, KnowWhether, KnowValue, Query}
use Rattle.pks_terms.specs.Actions.{Instance}
use Rattle.pks_terms.specs.Branching.{Choice, Act, BranchOn, CasesOn, Side, AsTrue, AsFalse, Is}
use Rattle.pks_terms.specs.Problems.{Aim, Now, AtStart, Always, Once}
use Rattle.pks_terms.specs.Settling.{History}
use Rattle.pks_laws_symmetry.specs.Trivial.{is_trivial}

-- each object has another one of its own type in its place; g takes back what f does
pub record IsRenaming (s : Signature) (f g : ℕ → ℕ) : Type 0 where
  pub back : (d : ℕ) → g (f d) ≡ d
  pub there : (d : ℕ) → f (g d) ≡ d
  pub types : (d : ℕ) → slice_get s.objects (f d) ≡ slice_get s.objects d

-- ---- images

-- a term whose arguments have images
abbrev pub renamed_form : {A : Type 0} → (ℕ → ℕ) → (A → A) → Form A → Form A
renamed_form f inner (Object d) = Object (f d)
renamed_form f inner (Parameter i) = Parameter i
renamed_form f inner (Apply h ts) = Apply h (map inner ts)

-- an argument with the objects' images in their place
abbrev pub renamed_inner : (ℕ → ℕ) → Inner → Inner
renamed_inner f = renamed_form f f

-- a term with the objects' images in their place
abbrev pub renamed_term : (ℕ → ℕ) → Term → Term
renamed_term f = renamed_form f (renamed_inner f)

-- a literal, the sides of an equation in order again
unfoldable pub renamed_literal : (ℕ → ℕ) → Literal → Literal
renamed_literal f l = literal l.relation (map (renamed_term f) l.arguments) l.positive

-- a conjunction: the set of the images
abbrev pub renamed_conj : (ℕ → ℕ) → List Literal → List Literal
renamed_conj f c = set_of literal_cmp (map (renamed_literal f) c)

-- a group: the images in order
abbrev pub renamed_group : (ℕ → ℕ) → List Literal → List Literal
renamed_group f g = in_sequence (map (renamed_literal f) g)

-- an atom
abbrev pub renamed_atom : (ℕ → ℕ) → Atom → Atom
renamed_atom f a = record { predicate = a.predicate; arguments = map (renamed_term f) a.arguments }

-- a pattern
abbrev pub renamed_pattern : (ℕ → ℕ) → Pattern → Pattern
renamed_pattern f x = record { predicate = x.predicate; slots = map (option_map (renamed_term f)) x.slots }

-- a region
abbrev pub renamed_entry : (ℕ → ℕ) → Entry → Entry
renamed_entry f e = record { pattern = renamed_pattern f e.pattern; listed = set_of atom_cmp (map (renamed_atom f) e.listed) }

-- an action with its arguments
abbrev pub renamed_instance : (ℕ → ℕ) → Instance → Instance
renamed_instance f i = record { action = i.action; arguments = map (renamed_inner f) i.arguments }

-- a choice
abbrev pub renamed_choice : (ℕ → ℕ) → Choice → Choice
renamed_choice f (Act i) = Act (renamed_instance f i)
renamed_choice f (BranchOn c) = BranchOn (renamed_conj f c)
renamed_choice f (CasesOn t) = CasesOn (renamed_term f t)

-- a side
abbrev pub renamed_side : (ℕ → ℕ) → Side → Side
renamed_side f AsTrue = AsTrue
renamed_side f AsFalse = AsFalse
renamed_side f (Is e) = Is (f e)

-- a plain query
abbrev pub renamed_plain : (ℕ → ℕ) → Plain → Plain
renamed_plain f (Know l) = Know (renamed_literal f l)
renamed_plain f (KnowWhether c) = KnowWhether (renamed_conj f c)
renamed_plain f (KnowValue t) = KnowValue (renamed_term f t)

-- a query
abbrev pub renamed_query : (ℕ → ℕ) → Query → Query
renamed_query f q = record { asks = renamed_plain f q.asks; denied = q.denied }

-- an aim
abbrev pub renamed_aim : (ℕ → ℕ) → Aim → Aim
renamed_aim f (Now q) = Now (renamed_query f q)
renamed_aim f (AtStart q) = AtStart (renamed_query f q)
renamed_aim f (Always q) = Always (renamed_query f q)
renamed_aim f (Once q) = Once (renamed_query f q)

-- ---- databases and histories

-- each member of the first five has its image in the second, but for literals that hold anyway
pub record GoesTo (f : ℕ → ℕ) (d e : Five) : Type 0 where
  pub known : (l : Literal) → IsIn l d.kf → (is_trivial l ≡ true) ⊎ IsIn (renamed_literal f l) e.kf
  pub whether : (c : List Literal) → IsIn c d.kw → IsIn (renamed_conj f c) e.kw
  pub values : (t : Term) → IsIn t d.kv → IsIn (renamed_term f t) e.kv
  pub groups : (g : List Literal) → IsIn g d.kx → IsIn (renamed_group f g) e.kx
  pub regions : (r : Entry) → IsIn r d.lcw → IsIn (renamed_entry f r) e.lcw

-- the databases are each other's images
pub record AreImages (f g : ℕ → ℕ) (d e : Five) : Type 0 where
  pub there : GoesTo f d e
  pub back : GoesTo g e d

-- so one by one, behind instances that are images
abbrev pub AreImageSteps : (ℕ → ℕ) → (ℕ → ℕ) → List (Instance × Five) → List (Instance × Five) → Type 0
AreImageSteps f g [] [] = Unit {0}
AreImageSteps f g (x ∷ xs) (y ∷ ys) = (renamed_instance f x.0 ≡ y.0) × AreImages f g x.1 y.1 × AreImageSteps f g xs ys
AreImageSteps f g [] (y ∷ ys) = ⊥
AreImageSteps f g (x ∷ xs) [] = ⊥

-- the histories are each other's images
pub record AreImagesAlong (f g : ℕ → ℕ) (h k : History) : Type 0 where
  pub start : AreImages f g h.start k.start
  pub steps : AreImageSteps f g h.steps k.steps
