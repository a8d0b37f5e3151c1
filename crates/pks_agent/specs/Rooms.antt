-- What a dialogue needs: its questions as they are asked, and room for its other lines.
use Rattle.std.specs.Prelude.{ℕ, ◌≡◌, ◌≤◌, ◌+◌, List, [], ◌∷◌, ◌++◌, map, length, codes, Vec, vec_capacity}
use Rattle.std.specs.declared.alloc.Global.{Global}
use Rattle.pks_terms.specs.Sets.{Each}
use Rattle.pks_terms.specs.Syntax.{Object, Parameter, Apply, Inner, Term, term_of, Literal}
use Rattle.pks_terms.specs.Trees.{Tree, Goal, Impossible, Do, Branch, Cases, Chain, End, More, depth}
use Rattle.pks_terms.specs.Printed.{Text, Names, term_text, conj_text}
use Rattle.pks_terms.specs.Talk.{do_text}
use Rattle.pks_agent.specs.declared.rooms.Room.{Room}
use Rattle.pks_agent.specs.declared.desks.Desk.{Desk}

-- ---- questions

-- the truth of a conjunction
abbrev pub test_question : Names → List Literal → Text
test_question names c = codes "test " ++ conj_text names c

-- the value of a term
abbrev pub value_question : Names → Term → Text
value_question names t = codes "value " ++ term_text names t

-- the values of the arguments that are applications
abbrev pub argument_questions : Names → List Inner → List Text
argument_questions names [] = []
argument_questions names (Object d ∷ ts) = argument_questions names ts
argument_questions names (Parameter i ∷ ts) = argument_questions names ts
argument_questions names (Apply f ds ∷ ts) = value_question names (term_of (Apply f ds)) ∷ argument_questions names ts

-- all that the dialogues of a tree may ask, each node before its children and these from left to right
abbrev mutual
  pub questions_of : Names → Tree → List Text
  questions_of names Goal = []
  questions_of names Impossible = []
  questions_of names (Do i t) = argument_questions names i.arguments ++ questions_of names t
  questions_of names (Branch c t u) = test_question names c ∷ (questions_of names t ++ questions_of names u)
  questions_of names (Cases x k) = value_question names x ∷ case_questions names k

  -- all that those of the cases may ask
  pub case_questions : Names → Chain → List Text
  case_questions names End = []
  case_questions names (More o t k) = questions_of names t ++ case_questions names k

-- how many arguments are applications
abbrev pub argument_count : List Inner → ℕ
argument_count [] = 0
argument_count (Object d ∷ ts) = argument_count ts
argument_count (Parameter i ∷ ts) = argument_count ts
argument_count (Apply f ds ∷ ts) = 1 + argument_count ts

-- how many questions a tree has
abbrev mutual
  pub question_count : Tree → ℕ
  question_count Goal = 0
  question_count Impossible = 0
  question_count (Do i t) = argument_count i.arguments + question_count t
  question_count (Branch c t u) = 1 + (question_count t + question_count u)
  question_count (Cases x k) = 1 + case_question_count k

  -- how many its cases have
  pub case_question_count : Chain → ℕ
  case_question_count End = 0
  case_question_count (More o t k) = question_count t + case_question_count k

-- the bytes of texts
abbrev pub texts_in : List (Vec ℕ Global) → List Text
texts_in texts = map (λ text. text.items) texts

-- these stand first
abbrev pub Opens : List Text → List Text → Type 0
Opens texts front = (rest : List Text) × (texts ≡ front ++ rest)

-- ---- lines

-- an argument whose value was asked where it is an application
abbrev pub IsSpoken : Inner → Type 0
IsSpoken (Object d) = Unit {0}
IsSpoken (Parameter i) = Unit {0}
IsSpoken (Apply f ds) = ⊥

-- each line of an action has at most n bytes
abbrev pub FitsActions : Names → ℕ → Type 0
FitsActions names n = (action : ℕ) (arguments : List Inner) → length arguments ≤ 4 → Each IsSpoken arguments → length (do_text names action arguments) ≤ n

-- none of the names is longer
abbrev pub IsLongest : List Text → Text → Type 0
IsLongest names name = Each (λ other. length other ≤ length name) names

-- there is room for the arguments of an action, and for its line
pub record IsDesk (names : Names) (desk : Desk) : Type 0 where
  pub arguments : 4 ≤ vec_capacity desk.arguments
  pub line : FitsActions names (vec_capacity desk.line)

-- the room was made of the tree
pub record IsRoomOf (names : Names) (t : Tree) (room : Room) : Type 0 where
  pub shallow : depth t ≤ 16
  pub questions : texts_in room.questions.items ≡ questions_of names t
  pub desk : IsDesk names room.desk
