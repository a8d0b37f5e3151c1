-- The grammar of the first version: a type is a name alone, an action has no cost, and an aim is a plain query.
use Rattle.std.specs.Prelude.{◌≡◌, ℕ, true, List, [], ◌∷◌, codes}
use Rattle.pks_text.specs.Forms.{Form, Word, Listing, Forms, no_forms, form}
use Rattle.pks_reader_shape.specs.declared.grammar.Sort.{Sort}
use Rattle.pks_reader_shape.specs.declared.grammar.Sort.TheVariants.{Domain, Types, Kind, Objects, Predicates, Functions, Entry, Function, Action, Cost, Params, Param, Pre, Effects, Effect, Condition, Target, Senses, Sense, Knows, Add, Given, Item, Query, Plain, Problem, Init, Start, Goal, Aim, Literal, Positive, Atom, Pattern, Slot, Place, Term, World, True, Values, Value, Fact, Nothing, Head, Name, Variable, Number}
use Rattle.pks_reader_shape.specs.declared.grammar.Part.{Part}
use Rattle.pks_reader_shape.specs.declared.grammar.Part.TheVariants.{One, Maybe, Many}
use Rattle.pks_reader_shape.specs.Grammar.{Lists, is_allowed, headed, only, plain, applied, atom_or, equation, targets, items, queries}
use Rattle.pks_reader_shape.specs.Walk.{head_of}
use Rattle.pks_reader_shape.specs.Files.{is_list_of}
use Rattle.pks_reader_shape.specs.Language.{MayHave, MayBeWorld}

-- the table; no part asks for a cost
unfoldable pub lists : Sort → Lists
lists Domain = only (headed (codes "domain") (Maybe Types ∷ Maybe Objects ∷ Maybe Predicates ∷ Maybe Functions ∷ Many Action ∷ []) ∷ [])
lists Types = only (headed (codes "types") (Many Kind ∷ []) ∷ [])
lists Kind = only []
lists Objects = only (headed (codes "objects") (Many Entry ∷ []) ∷ [])
lists Predicates = only (headed (codes "predicates") (Many Entry ∷ []) ∷ [])
lists Functions = only (headed (codes "functions") (Many Function ∷ []) ∷ [])
lists Entry = plain (One Name ∷ Many Name ∷ [])
lists Function = plain (One Name ∷ One Name ∷ Many Name ∷ [])
lists Action = only (headed (codes "action") (One Name ∷ Maybe Params ∷ Maybe Pre ∷ Maybe Effects ∷ Maybe Senses ∷ Maybe Knows ∷ []) ∷ [])
lists Cost = only (headed (codes "cost") (One Number ∷ []) ∷ [])
lists Params = only (headed (codes "params") (Many Param ∷ []) ∷ [])
lists Param = plain (One Variable ∷ One Name ∷ [])
lists Pre = only (headed (codes "pre") (Many Query ∷ []) ∷ [])
lists Effects = only (headed (codes "effects") (Many Effect ∷ []) ∷ [])
lists Effect = only (headed (codes "when") (One Condition ∷ One Target ∷ []) ∷ targets)
lists Condition = plain (One Literal ∷ Many Literal ∷ [])
lists Target = only targets
lists Senses = only (headed (codes "senses") (Many Sense ∷ []) ∷ [])
lists Sense = only (headed (codes "sense") (One Literal ∷ Many Literal ∷ []) ∷ headed (codes "sense-value") (One Place ∷ []) ∷ headed (codes "sense-all") (One Pattern ∷ []) ∷ [])
lists Knows = only (headed (codes "knows") (Many Add ∷ []) ∷ [])
lists Add = only (headed (codes "if") (One Given ∷ One Item ∷ []) ∷ items)
lists Given = plain (One Query ∷ Many Query ∷ [])
lists Item = only items
lists Query = only (headed (codes "not-derived") (One Plain ∷ []) ∷ queries)
lists Plain = only queries
lists Problem = only (headed (codes "problem") (Maybe Init ∷ One Goal ∷ []) ∷ [])
lists Init = only (headed (codes "init") (Many Start ∷ []) ∷ [])
lists Start = only (headed (codes "kx") (One Literal ∷ One Literal ∷ Many Literal ∷ []) ∷ items)
lists Goal = only (headed (codes "goal") (One Aim ∷ Many Aim ∷ []) ∷ [])
lists Aim = only queries
lists Literal = atom_or (headed (codes "not") (One Positive ∷ []) ∷ equation ∷ [])
lists Positive = atom_or (equation ∷ [])
lists Atom = atom_or []
lists Pattern = plain (applied Slot)
lists Slot = plain (applied Term)
lists Place = plain (applied Term)
lists Term = plain (applied Term)
lists World = only (headed (codes "world") (Maybe True ∷ Maybe Values ∷ []) ∷ [])
lists True = only (headed (codes "true") (Many Fact ∷ []) ∷ [])
lists Values = only (headed (codes "values") (Many Value ∷ []) ∷ [])
lists Value = plain (One Fact ∷ One Name ∷ [])
lists Fact = plain (One Name ∷ Many Name ∷ [])
lists Nothing = only []
lists Head = only []
lists Name = only []
lists Variable = only []
lists Number = only []

mutual
  -- the form is of the sort
  pub data IsOf : Sort → Form → Type 0 where
    word : (s : Sort) (text : List ℕ) (at : ℕ) → is_allowed s text ≡ true → IsOf s (Word text at)
    listing : (s : Sort) (parts : Forms) (at end : ℕ) (ps : List Part) → MayHave (lists s) (head_of parts) ps → Matches ps parts → IsOf s (Listing parts at end)

  -- the forms are these parts in order
  pub data Matches : List Part → Forms → Type 0 where
    nothing : Matches [] no_forms
    one : (s : Sort) (ps : List Part) (f : Form) (fs : Forms) → IsOf s f → Matches ps fs → Matches (One s ∷ ps) (form f fs)
    left_out : (s : Sort) (ps : List Part) (fs : Forms) → Matches ps fs → Matches (Maybe s ∷ ps) fs
    there : (s : Sort) (ps : List Part) (f : Form) (fs : Forms) → IsOf s f → Matches ps fs → Matches (Maybe s ∷ ps) (form f fs)
    no_more : (s : Sort) (ps : List Part) (fs : Forms) → Matches ps fs → Matches (Many s ∷ ps) fs
    again : (s : Sort) (ps : List Part) (f : Form) (fs : Forms) → IsOf s f → Matches (Many s ∷ ps) fs → Matches (Many s ∷ ps) (form f fs)

-- `(pks 1)`, a domain and a problem, and then maybe a world
abbrev pub IsFile : List Form → Type 0
IsFile [] = ⊥
IsFile (f ∷ []) = ⊥
IsFile (f ∷ d ∷ []) = ⊥
IsFile (f ∷ d ∷ p ∷ rest) = (is_list_of (codes "pks" ∷ codes "1" ∷ []) f ≡ true) × IsOf Domain d × IsOf Problem p × MayBeWorld rest
