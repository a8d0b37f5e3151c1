-- The grammar of files: which words may stand where a sort is wanted, and what the parts of a list are.
use Rattle.std.specs.Prelude.{ℕ, Bool, true, false, ◌||◌, List, [], ◌∷◌, ◌++◌, Option, Some, None, codes, bytes_eq, if◌then◌else◌}
use Rattle.pks_terms.specs.ValidProblems.{is_name}
use Rattle.pks_reader_shape.specs.Words.{is_variable, is_wild, is_number}
use Rattle.pks_reader_shape.specs.declared.grammar.Version.{Version}
use Rattle.pks_reader_shape.specs.declared.grammar.Version.TheVariants.{First, Second}
use Rattle.pks_reader_shape.specs.declared.grammar.Sort.{Sort}
use Rattle.pks_reader_shape.specs.declared.grammar.Sort.TheVariants.{Nothing, Head, Name, Variable, Number, Domain, Types, Kind, Objects, Predicates, Functions, Entry, Function, Action, Cost, Params, Param, Pre, Effects, Effect, Condition, Target, Senses, Sense, Knows, Add, Given, Item, Query, Plain, Problem, Init, Start, Goal, Aim, Literal, Positive, Atom, Pattern, Slot, Place, Term, World, True, Values, Value, Fact}
use Rattle.pks_reader_shape.specs.declared.grammar.Part.{Part}
use Rattle.pks_reader_shape.specs.declared.grammar.Part.TheVariants.{One, Maybe, Many}

-- the words that may stand there
unfoldable pub is_allowed : Sort → List ℕ → Bool
is_allowed Head text = true
is_allowed Name text = is_name text
is_allowed Variable text = is_variable text
is_allowed Number text = is_number text
is_allowed Kind text = is_name text
is_allowed Term text = is_name text || is_variable text
is_allowed Slot text = (is_name text || is_variable text) || is_wild text
is_allowed _ text = false

-- ---- lists

-- a list with a head, which is its first part
abbrev pub headed : List ℕ → List Part → List ℕ × List Part
headed head parts = (head, One Head ∷ parts)

-- what the lists of a sort are: those with fixed heads, those that have none, and the heads that such a list may not have
pub record Lists : Type 0 where
  pub fixed : List (List ℕ × List Part)
  pub other : Option (List Part)
  pub barred : List (List ℕ)

-- lists with these heads, and no others
abbrev pub only : List (List ℕ × List Part) → Lists
only fixed = record { fixed = fixed; other = None; barred = [] }

-- a list of these parts, without a fixed head
abbrev pub plain : List Part → Lists
plain parts = record { fixed = []; other = Some parts; barred = [] }

-- a name with arguments
abbrev pub applied : Sort → List Part
applied argument = One Name ∷ Many argument ∷ []

-- an atom, whose head is never `not`, beside lists with fixed heads
abbrev pub atom_or : List (List ℕ × List Part) → Lists
atom_or fixed = record { fixed = fixed; other = Some (applied Term); barred = codes "not" ∷ [] }

-- two terms that are equal
abbrev pub equation : List ℕ × List Part
equation = headed (codes "=") (One Term ∷ One Term ∷ [])

-- what an effect does to the world
abbrev pub targets : List (List ℕ × List Part)
targets =
    headed (codes "set") (One Atom ∷ []) ∷
    headed (codes "unset") (One Atom ∷ []) ∷
    headed (codes "clear") (One Pattern ∷ []) ∷
    headed (codes "assign") (One Place ∷ One Term ∷ []) ∷ []

-- what may be known
abbrev pub items : List (List ℕ × List Part)
items =
    headed (codes "kf") (One Literal ∷ []) ∷
    headed (codes "kw") (One Literal ∷ Many Literal ∷ []) ∷
    headed (codes "kv") (One Place ∷ []) ∷
    headed (codes "lcw") (One Pattern ∷ []) ∷ []

-- what may be asked of what is known
abbrev pub queries : List (List ℕ × List Part)
queries =
    headed (codes "k") (One Literal ∷ []) ∷
    headed (codes "kw") (One Literal ∷ Many Literal ∷ []) ∷
    headed (codes "kv") (One Term ∷ []) ∷ []

-- ---- what the second version adds

-- a type with its parent
abbrev pub with_parent : Version → Lists
with_parent First = only []
with_parent Second = plain (One Name ∷ One Name ∷ [])

-- the cost of an action
abbrev pub cost_part : Version → List Part
cost_part First = []
cost_part Second = Maybe Cost ∷ []

-- goals over earlier states
abbrev pub earlier : Version → List (List ℕ × List Part)
earlier First = []
earlier Second =
    headed (codes "at-start") (One Plain ∷ []) ∷
    headed (codes "always") (One Plain ∷ []) ∷
    headed (codes "once") (One Plain ∷ []) ∷ []

-- ---- the table

-- the lists of each sort; a sort of words has none
unfoldable pub lists : Version → Sort → Lists
lists v Domain = only (headed (codes "domain") (Maybe Types ∷ Maybe Objects ∷ Maybe Predicates ∷ Maybe Functions ∷ Many Action ∷ []) ∷ [])
lists v Types = only (headed (codes "types") (Many Kind ∷ []) ∷ [])
lists v Kind = with_parent v
lists v Objects = only (headed (codes "objects") (Many Entry ∷ []) ∷ [])
lists v Predicates = only (headed (codes "predicates") (Many Entry ∷ []) ∷ [])
lists v Functions = only (headed (codes "functions") (Many Function ∷ []) ∷ [])
lists v Entry = plain (One Name ∷ Many Name ∷ [])
lists v Function = plain (One Name ∷ One Name ∷ Many Name ∷ [])
lists v Action = only (headed (codes "action") (One Name ∷ (cost_part v ++ Maybe Params ∷ Maybe Pre ∷ Maybe Effects ∷ Maybe Senses ∷ Maybe Knows ∷ [])) ∷ [])
lists v Cost = only (headed (codes "cost") (One Number ∷ []) ∷ [])
lists v Params = only (headed (codes "params") (Many Param ∷ []) ∷ [])
lists v Param = plain (One Variable ∷ One Name ∷ [])
lists v Pre = only (headed (codes "pre") (Many Query ∷ []) ∷ [])
lists v Effects = only (headed (codes "effects") (Many Effect ∷ []) ∷ [])
lists v Effect = only (headed (codes "when") (One Condition ∷ One Target ∷ []) ∷ targets)
lists v Condition = plain (One Literal ∷ Many Literal ∷ [])
lists v Target = only targets
lists v Senses = only (headed (codes "senses") (Many Sense ∷ []) ∷ [])
lists v Sense = only (headed (codes "sense") (One Literal ∷ Many Literal ∷ []) ∷ headed (codes "sense-value") (One Place ∷ []) ∷ headed (codes "sense-all") (One Pattern ∷ []) ∷ [])
lists v Knows = only (headed (codes "knows") (Many Add ∷ []) ∷ [])
lists v Add = only (headed (codes "if") (One Given ∷ One Item ∷ []) ∷ items)
lists v Given = plain (One Query ∷ Many Query ∷ [])
lists v Item = only items
lists v Query = only (headed (codes "not-derived") (One Plain ∷ []) ∷ queries)
lists v Plain = only queries
lists v Problem = only (headed (codes "problem") (Maybe Init ∷ One Goal ∷ []) ∷ [])
lists v Init = only (headed (codes "init") (Many Start ∷ []) ∷ [])
lists v Start = only (headed (codes "kx") (One Literal ∷ One Literal ∷ Many Literal ∷ []) ∷ items)
lists v Goal = only (headed (codes "goal") (One Aim ∷ Many Aim ∷ []) ∷ [])
lists v Aim = only (earlier v ++ queries)
lists v Literal = atom_or (headed (codes "not") (One Positive ∷ []) ∷ equation ∷ [])
lists v Positive = atom_or (equation ∷ [])
lists v Atom = atom_or []
lists v Pattern = plain (applied Slot)
lists v Slot = plain (applied Term)
lists v Place = plain (applied Term)
lists v Term = plain (applied Term)
lists v World = only (headed (codes "world") (Maybe True ∷ Maybe Values ∷ []) ∷ [])
lists v True = only (headed (codes "true") (Many Fact ∷ []) ∷ [])
lists v Values = only (headed (codes "values") (Many Value ∷ []) ∷ [])
lists v Value = plain (One Fact ∷ One Name ∷ [])
lists v Fact = plain (One Name ∷ Many Name ∷ [])
lists v Nothing = only []
lists v Head = only []
lists v Name = only []
lists v Variable = only []
lists v Number = only []

-- ---- one list

-- the head is one of these
abbrev pub is_among : List ℕ → List (List ℕ) → Bool
is_among head [] = false
is_among head (h ∷ hs) = bytes_eq head h || is_among head hs

-- the parts of the list with this head
abbrev pub with_head : List ℕ → List (List ℕ × List Part) → Option (List Part) → Option (List Part)
with_head head [] otherwise = otherwise
with_head head (p ∷ ps) otherwise = if bytes_eq head p.0 then Some p.1 else with_head head ps otherwise

-- the parts of a list of a sort, by its head; none where it may not have this head
unfoldable pub production : Version → Sort → List ℕ → Option (List Part)
production v s head = let ls = lists v s in with_head head ls.fixed (if is_among head ls.barred then None else ls.other)

-- a section that may be missing has one head
unfoldable pub head_of_section : Version → Sort → List ℕ
head_of_section v s = elim (lists v s).fixed [ [] ↦ [] | p ∷ ps ↦ p.0 ]
