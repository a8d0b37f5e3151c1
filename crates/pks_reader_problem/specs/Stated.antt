-- The problem that a file without a fault states. Parts past a limit and names that aren't declared are faults, so what stands for them here is of no account.
use Rattle.std.specs.Prelude.{ℕ, zero, suc, Bool, true, false, ◌+◌, ◌-◌, ◌*◌, List, [], ◌∷◌, length, take, Option, Some, None, codes, if◌then◌else◌, unwrap_or}
use Rattle.std.specs.Map.{keys_of}
use Rattle.pks_terms.specs.Sets.{set_of}
use Rattle.pks_terms.specs.Closure.{in_sequence}
use Rattle.pks_terms.specs.Syntax.{Object, Parameter, Apply, Inner, Term, Equality, Named as NamedBy, Literal, Atom, Pattern}
use Rattle.pks_terms.specs.Syntax as syntax
use Rattle.pks_terms.specs.Orders.{literal_cmp, literal}
use Rattle.pks_terms.specs.Queries.{Plain, Know, KnowWhether, KnowValue, Query}
use Rattle.pks_terms.specs.Actions.{Target, Set, Unset, Clear, Assign, Effect, Sense, SenseWhether, SenseValue, SenseAll, Item, ItemKf, ItemKw, ItemKv, ItemLcw, Add, Schema}
use Rattle.pks_terms.specs.Problems.{Start, StartKf, StartKw, StartKv, StartKx, StartLcw, Aim, Now, AtStart, Always, Once, Problem}
use Rattle.pks_text.specs.Forms.{Form, Word, Listing, Forms, no_forms, form, place_of}
use Rattle.pks_reader_shape.specs.Words.{is_variable, is_wild}
use Rattle.pks_reader_shape.specs.Walk.{head_of, is_headed}
use Rattle.pks_reader_names.specs.Tables.{Table, number_of, entries_of}
use Rattle.pks_reader_names.specs.Scopes.{Scope, name_in, signature_in}
use Rattle.pks_reader_names.specs.Parts.{text_of, parts_of, behind, behind_head, section, first_forms}
use Rattle.pks_reader_names.specs.Declarations.{actions_among, within, second_in}
use Rattle.pks_reader_names.specs.Meaning.{scope_of}

-- what each of the first n forms means
abbrev pub first : {X : Type 0} → ℕ → (Form → X) → Forms → List X
first zero meant fs = []
first (suc n) meant no_forms = []
first (suc n) meant (form f fs) = meant f ∷ first n meant fs

-- what each form means
abbrev pub all : {X : Type 0} → (Form → X) → Forms → List X
all meant no_forms = []
all meant (form f fs) = meant f ∷ all meant fs

-- what the only form, or the first, means
abbrev pub one : {X : Type 0} → X → (Form → X) → Forms → X
one x meant no_forms = x
one x meant (form f fs) = meant f

-- ---- terms

-- a number that is there, where there is no fault
abbrev pub or_zero : Option ℕ → ℕ
or_zero o = unwrap_or o 0

-- an argument of an argument
abbrev pub object_in : Scope → Form → ℕ
object_in s (Word text at) = or_zero (number_of s.objects text)
object_in s (Listing parts at end) = 0

-- a word as a term
abbrev pub word_in : {A : Type 0} → Scope → List ℕ → syntax.Form A
word_in s text = if is_variable text then Parameter (or_zero (number_of s.parameters (name_in text))) else Object (or_zero (number_of s.objects text))

-- a function with its arguments, by the parts of its list
abbrev pub place_in : {A : Type 0} → Scope → (Form → A) → Forms → syntax.Form A
place_in s argument parts = Apply (or_zero (number_of s.functions (head_of parts))) (first 2 argument (behind parts))

-- an argument
unfoldable pub inner_in : Scope → Form → Inner
inner_in s (Word text at) = word_in s text
inner_in s (Listing parts at end) = place_in s (object_in s) parts

-- a term
unfoldable pub term_in : Scope → Form → Term
term_in s (Word text at) = word_in s text
term_in s (Listing parts at end) = place_in s (inner_in s) parts

-- ---- literals and patterns

-- a predicate with its arguments, by the parts of its list
abbrev pub atom_by : Scope → Forms → Atom
atom_by s parts = record { predicate = or_zero (number_of s.predicates (head_of parts)); arguments = first 3 (term_in s) (behind parts) }

-- an atom
abbrev pub atom_in : Scope → Form → Atom
atom_in s (Word text at) = record { predicate = 0; arguments = [] }
atom_in s (Listing parts at end) = atom_by s parts

-- stands where there is none
abbrev pub no_literal : Literal
no_literal = record { relation = Equality; arguments = Object 0 ∷ Object 0 ∷ []; positive = true }

-- an equation by its sides, affirmed or denied. The greater side comes to stand first
abbrev pub equation_in : Scope → Bool → Forms → Literal
equation_in s sign (form left (form right fs)) = literal Equality (term_in s left ∷ term_in s right ∷ []) sign
equation_in s sign fs = no_literal

-- an atom or an equation, affirmed or denied
abbrev pub signed_in : Scope → Bool → Form → Literal
signed_in s sign f =
    if is_headed (codes "=") f then equation_in s sign (behind_head f)
    else record { relation = NamedBy (atom_in s f).predicate; arguments = (atom_in s f).arguments; positive = sign }

-- a literal
unfoldable pub literal_in : Scope → Form → Literal
literal_in s f = if is_headed (codes "not") f then one no_literal (signed_in s false) (behind_head f) else signed_in s true f

-- a conjunction is a set
unfoldable pub conj_in : Scope → Forms → List Literal
conj_in s fs = set_of literal_cmp (first 4 (literal_in s) fs)

-- a wildcard or a term
abbrev pub slot_in : Scope → Form → Option Term
slot_in s (Word text at) = if is_wild text then None else Some (term_in s (Word text at))
slot_in s (Listing parts at end) = Some (term_in s (Listing parts at end))

-- stands where there is none
abbrev pub no_pattern : Pattern
no_pattern = record { predicate = 0; slots = [] }

-- a pattern
unfoldable pub pattern_in : Scope → Form → Pattern
pattern_in s (Word text at) = no_pattern
pattern_in s (Listing parts at end) = record { predicate = or_zero (number_of s.predicates (head_of parts)); slots = first 3 (slot_in s) (behind parts) }

-- ---- queries, effects, senses, adds

-- the only literal
abbrev pub only_literal : Scope → Forms → Literal
only_literal s fs = one no_literal (literal_in s) fs

-- the only term
abbrev pub only_term : Scope → Forms → Term
only_term s fs = one (Object 0) (term_in s) fs

-- the only pattern
abbrev pub only_pattern : Scope → Forms → Pattern
only_pattern s fs = one no_pattern (pattern_in s) fs

-- a query that isn't denied
unfoldable pub plain_in : Scope → Form → Plain
plain_in s f =
    if is_headed (codes "k") f then Know (only_literal s (behind_head f))
    else (if is_headed (codes "kv") f then KnowValue (only_term s (behind_head f)) else KnowWhether (conj_in s (behind_head f)))

-- a query
unfoldable pub query_in : Scope → Form → Query
query_in s f =
    if is_headed (codes "not-derived") f then record { asks = one (KnowWhether []) (plain_in s) (behind_head f); denied = true }
    else record { asks = plain_in s f; denied = false }

-- an item
unfoldable pub item_in : Scope → Form → Item
item_in s f =
    if is_headed (codes "kf") f then ItemKf (only_literal s (behind_head f))
    else (if is_headed (codes "kv") f then ItemKv (only_term s (behind_head f))
    else (if is_headed (codes "lcw") f then ItemLcw (only_pattern s (behind_head f)) else ItemKw (conj_in s (behind_head f))))

-- stands where there is none
abbrev pub no_atom : Atom
no_atom = record { predicate = 0; arguments = [] }

-- a place, which is a function at its arguments, and the value that it gets
abbrev pub assigned_in : Scope → Forms → Target
assigned_in s (form place (form value fs)) = Assign (or_zero (number_of s.functions (head_of (parts_of place)))) (first 2 (inner_in s) (behind_head place)) (term_in s value)
assigned_in s fs = Assign 0 [] (Object 0)

-- a target
unfoldable pub target_in : Scope → Form → Target
target_in s f =
    if is_headed (codes "assign") f then assigned_in s (behind_head f)
    else (if is_headed (codes "clear") f then Clear (only_pattern s (behind_head f))
    else (if is_headed (codes "set") f then Set (one no_atom (atom_in s) (behind_head f)) else Unset (one no_atom (atom_in s) (behind_head f))))

-- a condition and a target
abbrev pub conditional_in : Scope → Forms → Effect
conditional_in s (form condition (form target fs)) = record { condition = conj_in s (parts_of condition); target = target_in s target }
conditional_in s fs = record { condition = []; target = Unset no_atom }

-- an effect
unfoldable pub effect_in : Scope → Form → Effect
effect_in s f = if is_headed (codes "when") f then conditional_in s (behind_head f) else record { condition = []; target = target_in s f }

-- a sense
unfoldable pub sense_in : Scope → Form → Sense
sense_in s f =
    if is_headed (codes "sense-value") f then SenseValue (only_term s (behind_head f))
    else (if is_headed (codes "sense-all") f then SenseAll (only_pattern s (behind_head f)) else SenseWhether (conj_in s (behind_head f)))

-- queries and an item
abbrev pub given_in : Scope → Forms → Add
given_in s (form given (form item fs)) = record { given = first 4 (query_in s) (parts_of given); item = item_in s item }
given_in s fs = record { given = []; item = ItemKw [] }

-- an add
unfoldable pub add_in : Scope → Form → Add
add_in s f = if is_headed (codes "if") f then given_in s (behind_head f) else record { given = []; item = item_in s f }

-- ---- actions, and the problem

-- the number with these digits, behind the digits of n
abbrev pub numeral : ℕ → List ℕ → ℕ
numeral n [] = n
numeral n (b ∷ bytes) = numeral (n * 10 + (b - 48)) bytes

-- the cost that is written, of at most four digits, or 1
abbrev pub cost_in : Forms → ℕ
cost_in no_forms = 1
cost_in (form f fs) = numeral 0 (take 4 (text_of f))

-- an action, by its parts, where its parameters are declared
unfoldable pub stated_in : Scope → Forms → Schema
stated_in s fs = record {
  cost = cost_in (section (codes "cost") fs);
  parameters = entries_of s.parameters;
  pre = all (query_in s) (section (codes "pre") fs);
  effects = all (effect_in s) (section (codes "effects") fs);
  senses = all (sense_in s) (section (codes "senses") fs);
  adds = all (add_in s) (section (codes "knows") fs);
}

-- an action, by its parts
abbrev pub schema_in : Scope → Forms → Schema
schema_in s fs = stated_in (within s fs) fs

-- an initial item; the literals of a group stand in order
unfoldable pub start_in : Scope → Form → Start
start_in s f =
    if is_headed (codes "kf") f then StartKf (only_literal s (behind_head f))
    else (if is_headed (codes "kv") f then StartKv (only_term s (behind_head f))
    else (if is_headed (codes "lcw") f then StartLcw (only_pattern s (behind_head f))
    else (if is_headed (codes "kx") f then StartKx (in_sequence (all (literal_in s) (behind_head f))) else StartKw (conj_in s (behind_head f)))))

-- the only query
abbrev pub only_query : Scope → Forms → Query
only_query s fs = record { asks = one (KnowWhether []) (plain_in s) fs; denied = false }

-- an aim
unfoldable pub aim_in : Scope → Form → Aim
aim_in s f =
    if is_headed (codes "at-start") f then AtStart (only_query s (behind_head f))
    else (if is_headed (codes "always") f then Always (only_query s (behind_head f))
    else (if is_headed (codes "once") f then Once (only_query s (behind_head f)) else Now (record { asks = plain_in s f; denied = false })))

-- a problem of this version, by what is declared and the parts of its domain and its problem
unfoldable pub problem_by : ℕ → Scope → Forms → Forms → Problem
problem_by version s domain problem = record {
  version = version;
  signature = signature_in s;
  schemas = all (λ f. schema_in s (behind_head f)) (actions_among domain);
  init = all (start_in s) (section (codes "init") problem);
  goal = all (aim_in s) (section (codes "goal") problem);
}

-- the problem of a file of this version, by the parts of its domain and its problem
abbrev pub problem_in : ℕ → Forms → Forms → Problem
problem_in version domain problem = problem_by version (scope_of version domain) domain problem

-- ---- names and places, which the problem doesn't have

-- the bytes from one place up to another
abbrev pub Bytes : Type 0
Bytes = ℕ × ℕ

-- those of a list; none of a word, which isn't refused later
abbrev pub bytes_of : Form → Bytes
bytes_of (Word text at) = (at, at)
bytes_of (Listing parts at end) = (at, end)

-- those of the section with this head; a section that is missing is empty
abbrev pub section_bytes : List ℕ → Forms → Bytes
section_bytes head no_forms = (0, 0)
section_bytes head (form f fs) = if is_headed head f then bytes_of f else section_bytes head fs

-- the names in the order of declaration, and the places of what may be refused later
pub record Named : Type 0 where
  pub types : List (List ℕ)
  pub objects : List (List ℕ)
  pub predicates : List (List ℕ)
  pub functions : List (List ℕ)
  pub actions : List (List ℕ)
  pub parameters : List (List (List ℕ))
  pub adds : List (List Bytes)
  pub items : List Bytes
  pub init : Bytes
  pub problem : Bytes

-- the name of an action
abbrev pub action_name : Form → List ℕ
action_name f = text_of (second_in f)

-- the names of its parameters
abbrev pub parameter_names : Scope → Form → List (List ℕ)
parameter_names s f = keys_of (within s (behind_head f)).parameters

-- the places of its adds
abbrev pub add_places : Form → List Bytes
add_places f = all bytes_of (section (codes "knows") (behind_head f))

-- those of a domain and of a problem, by what is declared
unfoldable pub named_by : Scope → Forms → Form → Named
named_by s domain problem = record {
  types = keys_of s.types;
  objects = keys_of s.objects;
  predicates = keys_of s.predicates;
  functions = keys_of s.functions;
  actions = all action_name (actions_among domain);
  parameters = all (parameter_names s) (actions_among domain);
  adds = all add_places (actions_among domain);
  items = all bytes_of (section (codes "init") (behind_head problem));
  init = section_bytes (codes "init") (behind_head problem);
  problem = bytes_of problem;
}

-- those of a file of this version
abbrev pub named_in : ℕ → Forms → Form → Named
named_in version domain problem = named_by (scope_of version domain) domain problem
